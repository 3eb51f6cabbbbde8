use Rattle.turn_cell.specs.Known.{IsPassOf}
use Rattle.std.proofs.Common.{List}
use Rattle.agent_shards.specs.Cells.{IsJoined}
use Rattle.agent_shards.proofs.Rows.{Leaving, Turning}
use Rattle.agent_shards.proofs.cells.join_all.Given as goal

abbrev pub invariant-loop-cell : goal.invariant-loop-cell
invariant-loop-cell g l = record {
  gone : List _;
  turning : Turning IsPassOf (IsJoined g.V.Journaled.allows) l.cells l.cell-index l.initial.passes.items l.passes.items gone;
  leaving : Leaving IsPassOf l.cells l.cell-index l.fn.back.items l.back.items gone;
}
