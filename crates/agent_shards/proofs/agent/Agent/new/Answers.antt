-- the cells have the plans of the shards
use Rattle.std.proofs.Common.{◌≡◌, List, length, sym, subst, arith}
use Rattle.agent_core.specs.Plans.{AreShards}
use Rattle.agent_core.specs.State.{Plan}
use Rattle.agent_shards.proofs.Seats.{opened_count, opened_passes, opened_plans}
use Rattle.agent_shards.proofs.agent.Agent.new.Goals as goal

pub invariant_of-result : goal.invariant_of-result
invariant_of-result c = (
  subst (λ (ps : List Plan). AreShards ps c.args.anchors.value.items) (sym (opened_plans c.args.shards.items c.in_ok-cells.cells.items c.in_ok-cells.passes.items c.in_ok-cells.ensures)) c.requires,
  c.in_ok-room.ensures.items,
  (let n : length c.in_ok-cells.cells.items ≡ length c.args.shards.items = opened_count c.args.shards.items c.in_ok-cells.cells.items c.in_ok-cells.passes.items c.in_ok-cells.ensures in
      omega (arith, n, c.in_ok-cells.cells.ok.0, c.args.shards.ok.0, c.in_ok-room.ensures.capacity)),
)

pub returns-clause-passes : goal.returns-clause-passes
returns-clause-passes c = opened_passes c.args.shards.items c.in_ok-cells.cells.items c.in_ok-cells.passes.items c.in_ok-cells.ensures
