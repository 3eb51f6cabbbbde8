use Rattle.std.proofs.Common.{◌<◌, List, length, get_or, sym, ap, subst, arith, ◌∙◌, Some}
use Rattle.std.proofs.lemmas.List.{get_or-map, length-map}
use Rattle.object_core.specs.Objects.{ObjectPlan}
use Rattle.node_file.specs.Plans.{AreByNumber, plan}
use Rattle.node_file.proofs.ByNumber.{nothing, object_of-at, object_of-in_gap}
use Rattle.node_file.proofs.object_plans.ObjectPlans.get.Goals as goal

-- the object at the place that was found
pub returns-in-Ok : goal.returns-in-Ok
returns-in-Ok c =
    let l = c.self.inside.plans.items in
    let p = c.index.result.now in
    let place = c.in-Ok.place in
    let within : place < length l = omega (arith, c.in-Ok.ensures.found.in_range, ap (λ (x : List ObjectPlan). length x) c.self.view_is, length-map l plan) in
    let here = get_or-map plan l place p nothing within in
    let found = object_of-at c.args.self.now (subst AreByNumber c.self.view_is c.self.invariant) c.args.number place c.in-Ok.ensures.found in
    ap (λ q. Some (plan q)) c.index.ensures ∙ ap (λ (x : ObjectPlan). Some x) (sym here)
    ∙ ap (λ (x : List ObjectPlan). Some (get_or x place nothing)) c.self.view_is ∙ sym found

pub returns-in-Err : goal.returns-in-Err
returns-in-Err c = sym (object_of-in_gap c.args.self.now c.args.number c.in-Err.field-0 c.in-Err.ensures.absent)
