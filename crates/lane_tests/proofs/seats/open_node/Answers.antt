use Rattle.std.proofs.Common.{List, subst, sym}
use Rattle.agent_core.specs.State.{Plan}
use Rattle.agent_shards.proofs.Seats.{opened_plans}
use Rattle.lane_tests.specs.Seats.{HasChannel}
use Rattle.lane_tests.proofs.Whole.{objects_whole, shards_whole}
use Rattle.lane_tests.proofs.seats.open_node.Goals as goal

pub returns-clause-all : goal.returns-clause-all
returns-clause-all c = record {
  of_agent = shards_whole c.in_ok-shards.shards.items c.in_ok-agent.agent c.in_ok-agent.passes c.in_ok-agent.ensures.opened;
  of_rack = objects_whole c.in_ok-two_objects.field-0.items c.in_ok-rack.rack c.in_ok-rack.objects c.in_ok-rack.ensures.opened;
}

pub returns-clause-planned : goal.returns-clause-planned
returns-clause-planned c =
    subst (λ (plans : List Plan). HasChannel plans 2)
    (sym (opened_plans c.in_ok-shards.shards.items c.in_ok-agent.agent c.in_ok-agent.passes c.in_ok-agent.ensures.opened))
    c.in_ok-shards.ensures.planned
