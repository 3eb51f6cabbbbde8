-- The object that the map lends is there, and is written back.
use Rattle.std.proofs.Common.{◌≡◌, List, map, Some, refl, sym, ap, subst, ◌∙◌}
use Rattle.std.specs.BTreeMap.{get}
use Rattle.std.specs.Option.{IsSome, option_copied_mut}
use Rattle.std.specs.Ordering.{nat_cmp}
use Rattle.object_core.specs.Objects.{ObjectPlan, object_of}
use Rattle.prin_term.specs.View.{grant}
use Rattle.node_file.specs.declared.object_drafts.ObjectDraft.{ObjectDraft}
use Rattle.node_file.specs.NodeLines.{with_grant}
use Rattle.node_file.specs.Plans.{ChangesPlan, drafted}
use Rattle.node_file.proofs.GatheredObjects.{changes_gathered, entry_added, some_at, some_lent}
use Rattle.node_file.proofs.object_drafts.ObjectDrafts.add_entry.Goals as goal

pub unwrap-object-requires : goal.unwrap-object-requires
unwrap-object-requires c =
    let found = subst (λ (l : List ObjectPlan). IsSome (object_of l c.args.number)) (sym c.self.view_is) c.requires in
    some_lent c.get_mut.result _ c.get_mut.ensures.value (some_at c.self.inside.objects.entries c.args.number found)

pub returns : goal.returns
returns c =
    let old = c.self.inside.objects in
    let was = c.unwrap-object.result.now in
    let object : ObjectDraft = record { content = was.content; list = c.push.new.self } in
    let new = c.get_mut.follows.lender object in
    let found = subst (λ (l : List ObjectPlan). IsSome (object_of l c.args.number)) (sym c.self.view_is) c.requires in
    let writes = c.get_mut.follows.holds object in
    let there : get nat_cmp old c.args.number ≡ Some was = sym c.get_mut.ensures.value ∙ ap option_copied_mut c.unwrap-object.ensures in
    let changed = entry_added c.args.number was object c.args.entry refl c.in_ok-push.ensures.items in
    subst (λ (l : List ObjectPlan). ChangesPlan l (map drafted new.entries) c.args.number (with_grant (grant c.args.entry))) c.self.view_is
    (changes_gathered old new c.args.number object (writes.3 (some_at old.entries c.args.number found)) was (with_grant (grant c.args.entry)) there changed writes.2)
