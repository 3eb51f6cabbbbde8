use Rattle.std.proofs.Common.{◌≡◌, ◌≤◌, ◌<◌, ◌-◌, [], false, length}
use Rattle.std.specs.Prelude.{slice_index}
use Rattle.prin_text.specs.Reading as reading
use Rattle.prin_text.specs.Tokens.{is_blank, tokens_from}
use Rattle.prin_text.specs.View.{opened, place}
use Rattle.prin_text.proofs.reading.part_at.Given as goal

abbrev pub invariant-loop-start : goal.invariant-loop-start
invariant-loop-start l = record {
  within : l.start ≤ length l.bytes;
  begins : l.start < length l.bytes → is_blank (slice_index l.bytes l.start) ≡ false;
  same : reading.piece_at l.names (length l.bytes) (tokens_from l.bytes l.start) (opened l.stack.items) (place l.now) ≡ reading.piece_at l.names (length l.bytes) (tokens_from l.bytes l.at) [] (reading.Operand reading.First);
}

abbrev pub decreases-loop-start : goal.decreases-loop-start
decreases-loop-start l = length l.bytes - l.start
