-- what was read is within the limits of shards
use Rattle.std.proofs.Common.{List, sym, subst, ◌∙◌}
use Rattle.std.specs.declared.alloc.Global.{Global}
use Rattle.std.specs.declared.sync.Arc.{Arc}
use Rattle.stmt_codec.specs.declared.cert.Cert.{Cert}
use Rattle.stmt_codec.specs.View.{certificates}
use Rattle.agent_core.specs.Opened.{MayOpen}
use Rattle.node_file.specs.Meaning.{opening}
use Rattle.shard_core.proofs.Opens.{may_open}
use Rattle.shard_core.proofs.of_opening.shards_of.Goals as goal

pub open_shards-requires : goal.open_shards-requires
open_shards-requires c =
    let node = c.args.node.now in
    subst (λ (l : List (Arc Cert Global)). MayOpen c.deref.result.now node.shards (opening node).anchors (certificates l) node.limit) (sym c.deref-2.ensures.value)
    (may_open node c.deref.result.now c.requires c.in_ok-channels.ensures.sound (c.deref.ensures.value ∙ c.in_ok-channels.ensures.numbers))
