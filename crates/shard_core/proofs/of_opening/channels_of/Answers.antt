-- each place has a channel, whose number was added
use Rattle.std.proofs.Common.{ℕ, List, [], ◌∷◌, ◌++◌, sym, ap, ◌∙◌, arith}
use Rattle.shard_core.proofs.Opens.{none_within, one_number_more}
use Rattle.shard_core.proofs.of_opening.channels_of.Goals as goal
use Rattle.shard_core.proofs.of_opening.channels_of.Goals.{in-Some+in_ok-push, in_default}

pub loop-place-preserved : goal.loop-place-preserved
loop-place-preserved c =
    let entries = c.args.table.now.entries in
    elim c.match-at.branch [
      | in-Some+in_ok-push w ↦
          ap (λ v. v.items) w.numbers-is ∙ w.in_ok-push.ensures.items ∙ ap (λ (l : List ℕ). l ++ w.in-Some.number ∷ []) c.loop-place.invariant
          ∙ one_number_more entries c.loop-place.place (w.in-Some.number, w.in-Some.field-0-1.now) (sym w.in-Some.ensures.value)
      | in_default w ↦ absurd (none_within entries c.loop-place.place w.in_default.ensures.value (omega (arith, c.loop-place-test.true, c.count-count.ensures.count)))
    ]
