-- The slots of a table that was closed: the value's is taken first, and then those before it and behind it.
use Rattle.std.proofs.Common.{◌≡◌, ◌≢◌, ℕ, ◌<◌, ◌≤◌, Bool, true, false, List, length, get_or, set, sym, ap, ◌∙◌, subst, inl, inr, arith, get_or-set_other, get_or-set_same}
use mathlib.Core.Logic.{dite}
use native.Mathlib.Decide.{ℕ_discrete, dec_le}
use Rattle.std.specs.Mem.Slots.Ownership.{Filled, SameOutside}

pub still_full : (fs gs : List Bool) (n k : ℕ) → gs ≡ set fs 4 false → Filled fs 0 n → n ≡ 9 → k ≢ 4 → k < 9 → get_or gs k false ≡ true
still_full fs gs n k is full count other lt =
    subst (λ (z : List Bool). get_or z k false ≡ true) (sym is) (get_or-set_other fs 4 k false false other ∙ full k (omega arith) (omega (arith, lt, count)))

pub all_empty : (fs gs hs ends : List Bool) (k : ℕ) → gs ≡ set fs 4 false → 4 < length fs → ((j : ℕ) → 0 ≤ j → j < 4 → get_or hs j false ≡ false) → SameOutside false gs hs 0 4
    → ((j : ℕ) → 5 ≤ j → j < 9 → get_or ends j false ≡ false) → SameOutside false hs ends 5 9 → k < 9 → get_or ends k false ≡ false
all_empty fs gs hs ends k is long before others behind still lt = dite (dec_le 5 k)
    (λ high. behind k high lt)
    (λ low. still k (inl (omega arith)) ∙ dite (ℕ_discrete k 4)
    (λ at. others k (inr (omega arith)) ∙ subst (λ (z : ℕ). get_or gs z false ≡ false) (sym at) (ap (λ (z : List Bool). get_or z 4 false) is ∙ get_or-set_same fs 4 false false long))
    (λ off. before k (omega arith) (omega arith)))
