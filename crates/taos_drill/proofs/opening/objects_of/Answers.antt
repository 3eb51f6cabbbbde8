use Rattle.std.proofs.Common.{◌≡◌, ◌++◌, ◌∷◌, [], List, map, sym, ap, subst, ◌∙◌}
use Rattle.std.specs.List.{range_with_len}
use Rattle.object_core.specs.Objects.{ObjectPlan}
use Rattle.node_file.specs.declared.object_plan.ObjectPlan as code
use Rattle.node_file.specs.Plans.{AreByNumber, plan}
use Rattle.taos_drill.specs.Opened.{drill_objects, empty_object, reader}
use Rattle.taos_drill.proofs.Fitting.{objects_by_number}
use Rattle.taos_drill.proofs.opening.objects_of.Goals as goal

-- both rows are there, the open ones first, and their numbers rise
pub of-requires : goal.of-requires
of-requires c =
    let lanes = c.args.lanes in
    let readable = map (empty_object (reader ∷ [])) (range_with_len 1 lanes) in
    let closed = map (empty_object []) (range_with_len 101 lanes) in
    let first = c.in_ok-add_objects.ensures ∙ ap (λ (l : List code.ObjectPlan). map plan l ++ readable) c.in_ok-plans.ensures.items in
    let all : map plan c.add_objects-2.new.plans.items ≡ drill_objects lanes =
    c.in_ok-add_objects-2.ensures ∙ ap (λ (l : List ObjectPlan). l ++ closed) first
    in
    subst AreByNumber (sym all) (objects_by_number lanes c.requires)
