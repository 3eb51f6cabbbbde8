use Rattle.std.proofs.Common.{◌∙◌, ◌+◌, ◌<◌, ◌++◌, ◌∷◌, [], List, ℕ, Some, length, take, get_or, ap, refl, sym, subst, arith}
use Rattle.std.specs.List.{AllZip}
use Rattle.std.proofs.lemmas.List.{take_more}
use Rattle.std.proofs.lemmas.Option.{slice_get-get_or}
use Rattle.lemma_memo.specs.Kept.{IsMarked}
use Rattle.lemma_memo.proofs.Lists.{zip_at, zip_push}
use Rattle.lemma_memo.proofs.here.places_of.Goals as goal

-- a number that stands nowhere has no place
pub returns-in_err-place_of-clause-none : goal.returns-in_err-place_of-clause-none
returns-in_err-place_of-clause-none c = λ none places z.
    let marks = c.args.here.now.items in
    let numbers = c.args.numbers.now.items in
    let at = c.loop-at.at in
    let is = c.as_slice-wanted.ensures.value in
    let within : at < length numbers = subst (λ (l : List ℕ). at < length l) is c.loop-at-test.true in
    let (place, _, here) = zip_at (IsMarked marks) places numbers at (get_or numbers at 0) z (slice_get-get_or numbers at 0 within) in
    c.in_err-place_of.ensures.none refl place (here ∙ ap (λ (l : List ℕ). Some (Some (get_or l at 0))) (sym is))

-- one more number has its place
pub loop-at-preserved : goal.loop-at-preserved
loop-at-preserved c =
    let marks = c.args.here.now.items in
    let wanted = c.as_slice-wanted.result.now in
    let at = c.loop-at.at in
    let more = take_more wanted at 0 c.loop-at-test.true in (
      subst (λ (l : List ℕ). AllZip (IsMarked marks) l (take (at + 1) wanted)) (sym c.push.ensures.items)
          (subst (AllZip (IsMarked marks) (c.loop-at.places.items ++ c.in_ok-place_of.field-0 ∷ [])) (sym more)
          (zip_push (IsMarked marks) c.loop-at.places.items (take at wanted) c.in_ok-place_of.field-0 (get_or wanted at 0) c.loop-at.invariant.0 c.in_ok-place_of.ensures.place)),
      omega (arith, c.push.ensures.len, c.loop-at.invariant.1),
    )
