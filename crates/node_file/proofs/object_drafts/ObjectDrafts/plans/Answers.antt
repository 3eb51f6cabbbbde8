use Rattle.std.proofs.Common.{◌≡◌, ◌++◌, List, map, sym, ap, subst, ◌∙◌}
use Rattle.std.proofs.lemmas.List.{append-nil}
use Rattle.node_file.specs.Plans.{AreByNumber, drafted, plan}
use Rattle.node_file.proofs.GatheredObjects.{Drafts, by_number}
use Rattle.node_file.proofs.object_drafts.ObjectDrafts.plans.Goals as goal

-- all are built, in the order of the map
pub of-requires : goal.of-requires
of-requires c =
    let built = map plan c.loop-number.plans.items in
    let all : built ≡ map drafted c.self.inside.objects.entries = sym (append-nil built) ∙ ap (λ (l : Drafts). built ++ map drafted l) (sym c.in-None.ensures.steps.0) ∙ c.loop-number.invariant ∙ sym c.self.view_is in
    subst AreByNumber (sym all) (by_number c.self.inside.objects.entries c.len.ensures.ordered)
