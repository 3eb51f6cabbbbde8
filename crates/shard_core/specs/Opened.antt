-- Shards as they are opened.
use Rattle.std.specs.Prelude.{ℕ, []}
use Rattle.std.specs.Arc.{arc_value}
use Rattle.stmt_codec.specs.View.{certificates}
use Rattle.shard_core.specs.declared.opened.Whole.{Whole}
use Rattle.agent_core.specs.State.{Plan}
use Rattle.agent_core.specs.Journals.{ShardSeen}
use Rattle.agent_core.specs.Opened.{plan_for}

-- the plan of the shard of this number, by what all are opened with
abbrev pub plan_by : Whole → ℕ → Plan
plan_by whole number =
    plan_for whole.channels.now whole.shards (arc_value whole.anchors.now).items
    (certificates whole.commons.now) whole.keep whole.limit number

-- a shard with an empty journal
abbrev pub new_shard : Plan → ShardSeen
new_shard plan = record { plan = plan; journal = [] }
