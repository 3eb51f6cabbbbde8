use Rattle.std.proofs.Common.{◌≡◌, ◌+◌, ◌-◌, ◌≤◌, Option, None, length}
use Rattle.std.specs.Prelude.{codes}
use Rattle.prin_text.specs.FileLines.{is_first_line}
use Rattle.prin_text.specs.Lines.{lines_from}
use Rattle.prin_text.specs.LineView.{SoFar}
use Rattle.node_file.specs.NodeFile.{Draft, no_draft, node_step}
use Rattle.node_file.specs.NodeView.{IsDraftOf}
use Rattle.prin_text.specs.FileLines.{first_or, lines_make}
use Rattle.node_file.proofs.node_text.reading.draft_of.Given as goal

-- the lines before the offset are taken, and those behind it make the rest
abbrev pub invariant-loop-at : goal.invariant-loop-at
invariant-loop-at l = record {
  so_far : Option Draft;
  stands : SoFar IsDraftOf no_draft l.begun l.draft so_far;
  same : lines_make (first_or (is_first_line (codes "taos")) no_draft node_step) (l.number + 1) so_far (lines_from l.bytes l.at)
      ≡ lines_make (first_or (is_first_line (codes "taos")) no_draft node_step) 1 None (lines_from l.bytes 0);
  count : l.number + length (lines_from l.bytes l.at) ≡ length (lines_from l.bytes 0);
  within : l.at ≤ length l.bytes;
  small : l.number ≤ l.at;
}

abbrev pub decreases-loop-at : goal.decreases-loop-at
decreases-loop-at l = length l.bytes - l.at
