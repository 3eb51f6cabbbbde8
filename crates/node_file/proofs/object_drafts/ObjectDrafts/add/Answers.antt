use Rattle.std.proofs.Common.{◌≡◌, ◌+◌, List, Option, None, cond, map, sym, ap, subst, ◌∙◌}
use Rattle.std.specs.BTreeMap.{btree_map_len}
use Rattle.std.specs.Option.{is_some, option_map}
use Rattle.object_core.specs.Objects.{ObjectPlan, object_of}
use Rattle.node_file.specs.declared.object_drafts.ObjectDraft.{ObjectDraft}
use Rattle.node_file.specs.Plans.{AddsPlan, drafted}
use Rattle.node_file.proofs.GatheredObjects.{gathers_plan, none_at}
use Rattle.node_file.proofs.object_drafts.ObjectDrafts.add.Goals as goal

-- the map had no object at the number
pub returns : goal.returns
returns c =
    let old = c.self.inside.objects in
    let new = c.insert.new.self in
    let absent = ap (λ (l : List ObjectPlan). object_of l c.args.number) c.self.view_is ∙ c.requires in
    let none : c.in_ok-insert.field-0 ≡ None = c.in_ok-insert.ensures.old ∙ none_at old.entries c.args.number absent in
    let one_more : btree_map_len new ≡ btree_map_len old + 1 = c.in_ok-insert.ensures.len ∙ ap (λ (o : Option ObjectDraft). btree_map_len old + cond (is_some o) 0 1) none in
    subst (λ (l : List ObjectPlan). AddsPlan l (map drafted new.entries) (drafted (c.args.number, c.args.object))) c.self.view_is
    (gathers_plan old new c.args.number c.args.object c.in_ok-insert.ensures.updates one_more)
