-- the pass of one cell more was split
use Rattle.std.proofs.Common.{rules, ◌<◌, sym, subst, arith}
use Rattle.turn_cell.specs.Known.{IsPassOf}
use Rattle.agent_shards.specs.Cells.{IsSplit}
use Rattle.agent_shards.proofs.Rows.{Turning, turning_end, turning_next, turning_start, zip_all}
use Rattle.agent_shards.proofs.cells.split_all.Goals as goal

pub loop-cell-init : goal.loop-cell-init
loop-cell-init g c = record {
  turning = subst (Turning (λ cell pass. IsPassOf cell pass × (c.args.shares < pass.shares)) (IsSplit c.args.shares) c.args.cells.now 0 c.args.passes.now.items c.args.passes.now.items) (sym c.in_ok-given.ensures.items)
      (turning_start (λ cell pass. IsPassOf cell pass × (c.args.shares < pass.shares)) (IsSplit c.args.shares) c.args.cells.now c.args.passes.now.items
      (zip_all IsPassOf (λ pass. c.args.shares < pass.shares) c.args.cells.now c.args.passes.now.items c.requires.passes c.requires.more));
  room = search rules;
  count = search rules;
}

pub loop-cell-preserved : goal.loop-cell-preserved
loop-cell-preserved g c = let i = c.loop-cell.invariant in let e = c.split-kept.ensures in record {
  turning = turning_next (λ cell pass. IsPassOf cell pass × (c.args.shares < pass.shares)) (IsSplit c.args.shares) c.args.cells.now c.loop-cell.cell-index c.args.passes.now.items c.loop-cell.passes.items c.loop-cell.given.items i.turning
      c.cell-item.result (omega arith) c.cell-item.is c.remove.result c.remove.ensures.value c.split-kept.result.0 c.split-kept.result.1 c.remove.new.self.items c.push_reserved.new.self.items c.push_reserved-in-loop-cell.new.self.items
      c.remove.ensures.items c.push_reserved.ensures.items c.push_reserved-in-loop-cell.ensures.items
      (record { kept_of = e.cell.0; given_of = e.cell.1; shared = e.shares.0; gives = e.shares.1; seen = e.seen; own = e.own });
  room = search rules;
  count = search rules;
}

pub returns-clause-split : goal.returns-clause-split
returns-clause-split g c =
    turning_end (λ cell pass. IsPassOf cell pass × (c.args.shares < pass.shares)) (IsSplit c.args.shares) c.args.cells.now c.loop-cell.cell-index c.args.passes.now.items c.loop-cell.passes.items c.loop-cell.given.items (omega arith) c.loop-cell.invariant.turning
