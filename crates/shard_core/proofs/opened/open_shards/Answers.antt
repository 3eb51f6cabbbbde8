-- one more shard was opened, and at last all
use Rattle.std.proofs.Common.{◌≡◌, ap, ◌∙◌, map, arith}
use Rattle.std.specs.List.{range_with_len}
use Rattle.stmt_codec.specs.View.{certificates}
use Rattle.agent_core.specs.Opened.{plan_for}
use Rattle.shard_core.specs.Opened.{new_shard}
use Rattle.shard_core.proofs.AllOpened.{opened_more, whole_node}
use Rattle.shard_core.proofs.opened.open_shards.Goals as goal

pub loop-number-preserved : goal.loop-number-preserved
loop-number-preserved c =
    opened_more c.args.channels.now c.args.shards c.args.anchors.now.value.items (certificates c.args.commons.now) c.args.keep c.args.limit c.loop-number.number
    c.loop-number.opened.items c.push.new.self.items c.in_ok-open_shard.field-0 c.loop-number.invariant c.in_ok-open_shard.ensures c.in_ok-push.ensures.items

pub returns-clause-whole : goal.returns-clause-whole
returns-clause-whole c =
    let all : c.loop-number.number ≡ c.args.shards = omega arith in
    whole_node c.args.channels.now c.args.shards c.args.anchors.now.value.items (certificates c.args.commons.now) c.args.keep c.args.limit c.requires c.loop-number.opened.items
    (c.loop-number.invariant ∙ ap (λ n. map new_shard (map (plan_for c.args.channels.now c.args.shards c.args.anchors.now.value.items (certificates c.args.commons.now) c.args.keep c.args.limit) (range_with_len 0 n))) all)
