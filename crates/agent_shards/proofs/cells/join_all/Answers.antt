-- the passes of one cell more were joined
use Rattle.std.proofs.Common.{[], ◌∷◌, ◌++◌, refl, subst, arith}
use Rattle.turn_cell.specs.Known.{IsPassOf}
use Rattle.agent_shards.specs.Cells.{AreJoined, IsJoined}
use Rattle.agent_shards.proofs.Rows.{leaving_end, leaving_next, turning_end, turning_next, turning_start}
use Rattle.agent_shards.proofs.cells.join_all.Goals as goal

pub loop-cell-init : goal.loop-cell-init
loop-cell-init g c = record {
  gone = [];
  turning = turning_start IsPassOf (IsJoined g.V.Journaled.allows) c.args.cells.now c.args.passes.now.items c.requires.passes;
  leaving = record { began = refl; left = c.requires.back };
}

pub loop-cell-preserved : goal.loop-cell-preserved
loop-cell-preserved g c = let i = c.loop-cell.invariant in let e = c.join-joined.ensures in record {
  gone = i.gone ++ c.remove-in-loop-cell.result ∷ [];
  turning = turning_next IsPassOf (IsJoined g.V.Journaled.allows) c.args.cells.now c.loop-cell.cell-index c.args.passes.now.items c.loop-cell.passes.items i.gone i.turning
      c.cell-item.result (omega arith) c.cell-item.is c.remove.result c.remove.ensures.value c.join-joined.result c.remove-in-loop-cell.result c.remove.new.self.items c.push_reserved.new.self.items (i.gone ++ c.remove-in-loop-cell.result ∷ [])
      c.remove.ensures.items c.push_reserved.ensures.items refl
      (record { of_cell = e.cell; shares = e.shares; own = e.own; apart = e.apart; seen = e.seen; first_goes_on = e.first; second_goes_on = e.second });
  leaving = leaving_next IsPassOf c.args.cells.now c.loop-cell.cell-index c.args.back.items c.loop-cell.back.items i.gone i.leaving
      c.cell-item.result (omega arith) c.cell-item.is c.remove-in-loop-cell.result c.remove-in-loop-cell.ensures.value c.remove-in-loop-cell.new.self.items c.remove-in-loop-cell.ensures.items;
}

pub returns : goal.returns
returns g c = let i = c.loop-cell.invariant in
    subst (AreJoined g.V.Journaled.allows c.args.cells.now c.args.passes.now.items c.loop-cell.passes.items)
    (leaving_end IsPassOf c.args.cells.now c.loop-cell.cell-index c.args.back.items c.loop-cell.back.items i.gone (omega arith) i.leaving)
    (turning_end IsPassOf (IsJoined g.V.Journaled.allows) c.args.cells.now c.loop-cell.cell-index c.args.passes.now.items c.loop-cell.passes.items i.gone (omega arith) i.turning)
