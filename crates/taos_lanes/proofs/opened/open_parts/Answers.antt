-- the parts of the node are those of the opening
use Rattle.std.proofs.Common.{refl}
use Rattle.taos_lanes.proofs.Nodes.{all_new, is_node_of}
use Rattle.taos_lanes.proofs.opened.open_parts.Goals as goal

pub objects_of-requires : goal.objects_of-requires
objects_of-requires c = c.requires.objects

pub returns-clause-is_node : goal.returns-clause-is_node
returns-clause-is_node c = λ o r.
    let node = c.args.node in
    is_node_of node o (record { node = node.node; relay_key = c.of.result; channels = node.channels }) c.in_ok-shards.shards.items c.in_ok-objects.objects.items r c.in_ok-shards.ensures.sound refl c.of.ensures.key refl
    c.in_ok-objects.ensures.opened c.in_ok-shards.ensures.opened c.in_ok-objects.ensures.by_number

pub returns-clause-new : goal.returns-clause-new
returns-clause-new c =
    all_new _ c.args.node c.args.node.limit c.args.node.objects refl c.in_ok-shards.ensures.opened c.in_ok-objects.ensures.opened c.in_ok-shards.ensures.whole c.in_ok-objects.ensures.apart
