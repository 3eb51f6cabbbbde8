use Rattle.std.proofs.Common.{◌++◌, ◌∷◌, [], List, ℕ, ◌+◌, take, get_or, sym, subst}
use Rattle.std.specs.List.{AllZip}
use Rattle.std.proofs.lemmas.List.{take_more}
use Rattle.lemma_memo.specs.Kept.{IsMarked}
use Rattle.lemma_memo.proofs.Lists.{zip_push}
use Rattle.lemma_memo.proofs.here.numbers_of.Goals as goal

-- one more place has its number
pub loop-at-preserved : goal.loop-at-preserved
loop-at-preserved c =
    let marks = c.args.here.now.items in
    let places = c.args.places.now in
    let at = c.loop-at.at in
    subst (AllZip (IsMarked marks) (take (at + 1) places)) (sym c.push.ensures.items)
    (subst (λ (l : List ℕ). AllZip (IsMarked marks) l (c.loop-at.numbers.items ++ c.in_ok-number.number ∷ [])) (sym (take_more places at 0 c.loop-at-test.true))
    (zip_push (IsMarked marks) (take at places) c.loop-at.numbers.items (get_or places at 0) c.in_ok-number.number c.loop-at.invariant c.in_ok-number.ensures))
