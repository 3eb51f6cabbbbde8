-- Numbers that ascend in a room of their count are all that there are: what stands at them is the
-- whole of what came.
use Rattle.std.proofs.Common.{◌≡◌, ℕ, suc, ◌+◌, ◌<◌, ◌≤◌, List, [], ◌∷◌, ◌++◌, length, slice_get, Option, All, AllPairs, refl, sym, ap, subst, ◌∙◌, inl, inr, arith, append_assoc, length-append}
use Rattle.std.specs.List.{cons_option, filter_map}
use Rattle.std.proofs.lemmas.List.Elements.{All-head, All-tail}
use Rattle.std.proofs.lemmas.List.Kept.{AllPairs-cons}
use Rattle.taos_calculus.proofs.Building.{slice_get-back}
use Rattle.request_course.specs.Cells.{Cell, Place, IsAfter, numbers_in}
use Rattle.request_course.proofs.Places.{seen_in, numbers_all}

module _ {X : Type 0} (R : X → X → Type 0) (x : X) (xs : List X) (pairs : AllPairs R (x ∷ xs)) where
  pairs_head : All (R x) xs
  pairs_head k d lt = pairs 0 (suc k) d (omega arith) (omega (arith, lt))

  pairs_tail : AllPairs R xs
  pairs_tail i j d lt within = pairs (suc i) (suc j) d (omega (arith, lt)) (omega (arith, within))

abbrev Ascend : List ℕ → Type 0
Ascend ns = AllPairs (λ p q. p < q) ns

-- they do not go past the room
room : (low high : ℕ) (ns : List ℕ) → low ≤ high → Ascend ns → All (λ p. low ≤ p) ns → All (λ p. p < high) ns → low + length ns ≤ high
room low high [] within up above below = omega (arith, within)
room low high (n ∷ ns) within up above below =
    let last : n < high = All-head (λ p. p < high) n ns below in
    let first : low ≤ n = All-head (λ p. low ≤ p) n ns above in
    let later : All (λ p. n < p) ns = pairs_head (λ p q. p < q) n ns up in
    let more : n + 1 + length ns ≤ high = room (n + 1) high ns (omega (arith, last)) (pairs_tail (λ p q. p < q) n ns up) (λ k d lt. omega (arith, later k d lt)) (All-tail (λ p. p < high) n ns below) in
    omega (arith, more, first)

-- entries at as many ascending places behind the others are the rest of the journal
pub all_rest : {E : Type 0} (front rest : List E) (ns : List ℕ) → Ascend ns → All (λ p. length front ≤ p) ns → All (λ p. p < length front + length rest) ns → length ns ≡ length rest → filter_map (slice_get (front ++ rest)) ns ≡ rest
all_rest front [] [] up above below same = refl
all_rest front (e ∷ rest) (n ∷ ns) up above below same =
    let high = length front + length (e ∷ rest) in
    let last : n < high = All-head (λ p. p < high) n ns below in
    let first : length front ≤ n = All-head (λ p. length front ≤ p) n ns above in
    let later : All (λ p. n < p) ns = pairs_head (λ p q. p < q) n ns up in
    let more : n + 1 + length ns ≤ high = room (n + 1) high ns (omega (arith, last)) (pairs_tail (λ p q. p < q) n ns up) (λ k d lt. omega (arith, later k d lt)) (All-tail (λ p. p < high) n ns below) in
    let here : n ≡ length front + 0 = omega (arith, more, first, same) in
    let grown : length (front ++ e ∷ []) ≡ n + 1 = omega (arith, length-append front (e ∷ []), here) in
    let behind = all_rest (front ++ e ∷ []) rest ns (pairs_tail (λ p q. p < q) n ns up) (λ k d lt. omega (arith, later k d lt, grown))
    (λ k d lt. omega (arith, All-tail (λ p. p < high) n ns below k d lt, grown, here)) (omega (arith, same)) in
    ap (λ (o : Option _). cons_option o (filter_map (slice_get (front ++ e ∷ rest)) ns)) (slice_get-back front (e ∷ rest) 0 n here)
    ∙ ap (λ (l : List _). e ∷ l) (ap (λ (l : List _). filter_map (slice_get l) ns) (sym (append_assoc front (e ∷ []) rest)) ∙ behind)
all_rest front _ _ up above below same = absurd (omega (arith, same))

-- own places of one cell ascend there
pub numbers_ascend : (cell : Cell) (places : List Place) → AllPairs IsAfter places → Ascend (numbers_in cell places)
numbers_ascend cell [] up = λ i j d lt within. absurd (omega (arith, within))
numbers_ascend cell (p ∷ places) up =
    let rest = numbers_ascend cell places (pairs_tail IsAfter p places up) in
    elim (seen_in cell p) [
      | inl here ↦ subst Ascend (sym (ap (λ (o : Option ℕ). cons_option o (numbers_in cell places)) here.0))
          (AllPairs-cons (λ m n. m < n) p.number (numbers_in cell places)
          (numbers_all (λ n. p.number < n) cell places (λ k d lt same. pairs_head IsAfter p places up k d lt (here.1 ∙ sym same))) rest)
      | inr none ↦ subst Ascend (sym (ap (λ (o : Option ℕ). cons_option o (numbers_in cell places)) none)) rest
    ]
