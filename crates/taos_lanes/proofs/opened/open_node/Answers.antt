-- the parts of the node are those of the opening
use Rattle.std.proofs.Common.{List, length, ap, sym, subst, ◌∙◌, arith}
use Rattle.std.proofs.lemmas.List.{length-map}
use Rattle.shard_core.specs.Alone.{plans_in}
use Rattle.agent_core.specs.Journals.{ShardSeen}
use Rattle.object_core.specs.Objects.{ObjectSeen}
use Rattle.object_core.specs.Shelving.{HaveOwnNumbers, fixed_of}
use Rattle.std.specs.Prelude.{All, map}
use Rattle.node_file.specs.Meaning.{opening}
use Rattle.taos_monitor.specs.Arriving.{node_of}
use Rattle.taos_monitor.specs.Planned.{ArePlanned}
use Rattle.agent_core.specs.State.{Plan}
use Rattle.shard_core.specs.Cells.{its_plans, new_object}
use Rattle.taos_lanes.specs.Opened.{IsNodeOf}
use Rattle.taos_lanes.specs.Opened.{HasFewCommons}
use Rattle.taos_lanes.proofs.Small.{few_planned, lists_fit}
use Rattle.taos_lanes.proofs.Nodes.{none_seen, plans_new}
use Rattle.taos_lanes.proofs.opened.open_node.Goals as goal

pub returns-clause-opened : goal.returns-clause-opened
returns-clause-opened c = λ o r.
    let node = c.args.node in
    let parts = c.in_ok-parts.parts in
    let are = c.new-2.ensures.shards ∙ c.in_ok-parts.ensures.shards in
    let these = c.in_ok-new.ensures.objects ∙ c.in_ok-parts.ensures.objects in
    record {
      is_node = subst (λ (x : List ShardSeen × List ObjectSeen). IsNodeOf o (node_of parts.keys (plans_in x.0) (map fixed_of x.1)))
          (λ i. (sym c.new-2.ensures.shards i, sym c.in_ok-new.ensures.objects i)) (c.in_ok-parts.ensures.is_node o r);
      unseen = none_seen c.new-2.result (its_plans (opening node) node.channels.entries) are c.new-2.ensures.own c.in_ok-new.field-0 node.limit node.objects these c.in_ok-new.ensures.own;
      none_taken = c.in_ok-new.ensures.taken;
    }

pub returns-clause-planned : goal.returns-clause-planned
returns-clause-planned c =
    subst (λ (l : List ShardSeen). ArePlanned c.in_ok-parts.parts.keys.channels.entries (plans_in l)) (sym c.new-2.ensures.shards) c.in_ok-parts.ensures.new.planned

pub new-requires : goal.new-requires
new-requires c = c.in_ok-parts.ensures.new.objects

pub new-requires-2 : goal.new-requires-2
new-requires-2 c = c.in_ok-parts.ensures.new.shards

pub returns-clause-few : goal.returns-clause-few
returns-clause-few c =
    omega (arith, ap (λ (l : List ShardSeen). length l) c.new-2.ensures.shards, length-map c.in_ok-parts.parts.shards.items (λ (s : ShardSeen). s.plan), c.in_ok-parts.ensures.new.shards.few)

pub returns-clause-small : goal.returns-clause-small
returns-clause-small c =
    let node = c.args.node in
    let plans = its_plans (opening node) node.channels.entries in
    let these = c.in_ok-new.ensures.objects ∙ c.in_ok-parts.ensures.objects in
    let are = ap plans_in (c.new-2.ensures.shards ∙ c.in_ok-parts.ensures.shards) ∙ plans_new plans in
    record {
      objects = omega (arith, ap (λ (l : List ObjectSeen). length l) these, length-map node.objects (new_object node.limit), c.requires.objects);
      lists =
          lists_fit node.limit node.objects (map fixed_of c.in_ok-new.field-0.objects) (ap (map fixed_of) these)
          (subst (λ (l : List ObjectSeen). HaveOwnNumbers (map fixed_of l)) (sym c.in_ok-new.ensures.objects) c.in_ok-parts.ensures.new.objects) c.requires.fits.objects;
      commons = subst (λ (l : List Plan). All HasFewCommons l) (sym are) (few_planned (opening node) node.channels.entries c.requires.fits.few_commons);
    }
