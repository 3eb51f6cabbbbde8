use Rattle.std.proofs.Common.{List, rules, subst}
use Rattle.std.proofs.lemmas.List.Sorted.{answers_always}
use Rattle.object_core.specs.Objects.{ObjectPlan}
use Rattle.node_file.specs.Plans.{AreByNumber}
use Rattle.node_file.proofs.ByNumber.{Finds, searched}
use Rattle.node_file.proofs.object_plans.ObjectPlans.place_of.Goals as goal

-- the closure gives an object's number, and the slice is the objects that are held
pub returns : goal.returns
returns c =
    let facts = c.binary_search_by_key.ensures in
    let by_number = facts.position (λ p. p.number) (answers_always _ _ _ (λ f a r g called. search rules)) in
    let found = searched c.self.inside.plans.items c.self.invariant c.args.number _ (rw c.deref.ensures.value at facts.bound) (rw c.deref.ensures.value at by_number) in
    let finds = subst (λ (l : List ObjectPlan). Finds l c.args.number c.binary_search_by_key.result) c.self.view_is found in
    record { found = finds.found; absent = finds.absent; sound = subst AreByNumber c.self.view_is c.self.invariant }
