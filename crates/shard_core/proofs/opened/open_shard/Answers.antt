-- what is opened is within the limits, and so is a part of its channels
use Rattle.std.proofs.Common.{ap, refl}
use Rattle.stmt_codec.specs.View.{certificates}
use Rattle.agent_core.proofs.AllShards.{sound_plan}
use Rattle.shard_core.proofs.opened.open_shard.Goals as goal

pub new-requires : goal.new-requires
new-requires c =
    sound_plan c.args.whole.channels.now c.args.whole.shards c.args.whole.anchors.now.value.items (certificates c.args.whole.commons.now) c.args.whole.keep c.args.whole.limit c.requires _ c.args.number
    (ap (λ v. v.items) c.in_ok-try_clone.ensures) c.in_ok-channels_of.ensures c.in_ok-handles_to.ensures refl
