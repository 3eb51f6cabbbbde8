-- each object is made of its plan
use Rattle.std.proofs.Common.{ℕ, ◌++◌, ◌∷◌, [], List, map, sym, ap, ap₂, subst, ◌∙◌, arith}
use Rattle.std.proofs.lemmas.List.{take_all}
use Rattle.std.specs.List.Sorted.{IsStrictlyIncreasing}
use Rattle.prin_term.specs.View.{Grant}
use Rattle.object_core.specs.Objects.{ObjectSeen}
use Rattle.object_core.specs.Operation.{IsAccessList, IsContent}
use Rattle.object_core.specs.Shelving.{HaveOwnNumbers, fixed_of, numbers_of}
use Rattle.node_file.specs.Plans.{plan}
use Rattle.shard_core.specs.Cells.{new_object}
use Rattle.shard_core.proofs.Opens.{are_apart, none_within, objects_ascend, one_object_more, plan_fits}
use Rattle.shard_core.proofs.of_opening.objects_of.Goals as goal
use Rattle.shard_core.proofs.of_opening.objects_of.Goals.{in-Some+in_ok-list+in_ok-new+in_ok-push, in_default}

pub new-requires-clause-content : goal.new-requires-clause-content
new-requires-clause-content c =
    subst IsContent (sym c.deref.ensures.value) (plan_fits c.args.plans.now c.in-Some.ensures.sound c.requires c.loop-place.place (plan c.in-Some.plan.now) (sym c.in-Some.ensures.value)).content

pub new-requires-clause-list : goal.new-requires-clause-list
new-requires-clause-list c =
    subst IsAccessList (sym c.in_ok-list.ensures) (plan_fits c.args.plans.now c.in-Some.ensures.sound c.requires c.loop-place.place (plan c.in-Some.plan.now) (sym c.in-Some.ensures.value)).list

pub loop-place-preserved : goal.loop-place-preserved
loop-place-preserved c =
    let plans = c.args.plans.now in
    elim c.match-at.branch [
      | in-Some+in_ok-list+in_ok-new+in_ok-push w ↦
          let made = w.in_ok-new.ensures ∙ ap₂ (λ (content : List ℕ) (l : List Grant). record { plan = record { number = w.in-Some.plan.now.number; content = content; list = l }; limit = c.args.limit; journal = [] }) w.deref.ensures.value
          w.in_ok-list.ensures in
          ap (λ v. v.items) w.objects-is ∙ w.in_ok-push.ensures.items ∙ ap₂ (λ (l : List ObjectSeen) (o : ObjectSeen). l ++ o ∷ []) c.loop-place.invariant made
          ∙ one_object_more c.args.limit plans c.loop-place.place (plan w.in-Some.plan.now) (sym w.in-Some.ensures.value)
      | in_default w ↦ absurd (none_within plans c.loop-place.place w.in_default.ensures.value (omega (arith, c.loop-place-test.true, c.count-count.ensures)))
    ]

pub returns-clause-apart : goal.returns-clause-apart
returns-clause-apart c =
    let plans = c.args.plans.now in
    let all = c.loop-place.invariant ∙ ap (map (new_object c.args.limit)) (take_all c.loop-place.place plans (omega (arith, c.loop-place-test.false, c.count-count.ensures))) in
    subst (λ (l : List ObjectSeen). HaveOwnNumbers (map fixed_of l)) (sym all) (are_apart c.args.limit plans c.at-first.ensures.sound)

pub returns-clause-by_number : goal.returns-clause-by_number
returns-clause-by_number c =
    let plans = c.args.plans.now in
    let all = c.loop-place.invariant ∙ ap (map (new_object c.args.limit)) (take_all c.loop-place.place plans (omega (arith, c.loop-place-test.false, c.count-count.ensures))) in
    subst (λ (l : List ObjectSeen). IsStrictlyIncreasing (numbers_of (map fixed_of l))) (sym all) (objects_ascend c.args.limit plans c.at-first.ensures.sound)
