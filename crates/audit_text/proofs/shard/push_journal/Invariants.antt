use Rattle.std.proofs.Common.{◌≡◌, ◌++◌, map, take}
use Rattle.std.specs.Prelude.{string_bytes}
use Rattle.agent_core.specs.Views.{entry_of}
use Rattle.audit_text.specs.ShardLines.{shard_text}
use Rattle.audit_text.proofs.shard.push_journal.Given as goal

-- the lines of the entries before this one are told
abbrev pub invariant-loop-place : goal.invariant-loop-place
invariant-loop-place l = string_bytes l.out ≡ string_bytes l.initial.out ++ shard_text l.shard (map entry_of (take l.place l.journal))
