use Rattle.std.proofs.Common.{◌≤◌, map}
use Rattle.std.specs.Prelude.{vec_capacity}
use Rattle.byte_fields.proofs.Pieces.{AreWritten}
use Rattle.journal_bytes.specs.Spelling.{shard_bytes}
use Rattle.journal_bytes.specs.Spelled.{shard_spelled}
use Rattle.journal_bytes.proofs.journals_writing.push_shards.Given as goal

abbrev pub invariant-loop-shard : goal.invariant-loop-shard
invariant-loop-shard l = record {
  written : AreWritten shard_bytes (map shard_spelled l.shards) l.shard-index l.fn.out.items l.out.items;
  capacity : vec_capacity l.fn.out ≤ vec_capacity l.out;
}
