-- A loop that reads item after item. Of `total`, all that the items give, `before` is read already.
use Rattle.std.proofs.Common.{◌≡◌, ◌⊎◌, ℕ, suc, ◌+◌, ◌-◌, ◌<◌, ◌≤◌, List, [], ◌∷◌, ◌++◌, Result, Ok, Err, refl, sym, ap, ◌∙◌, arith, inl, inr}
use Rattle.byte_fields.specs.Readers.{Reader, items_behind}

-- what is still read, behind what was read before
pub record IsSoFar {A E : Type 0} (item : List A → Reader A E) (count i : ℕ) (before : List A) (at : ℕ) (total : Result (List A × ℕ) E) : Type 0 where
  pub rest : items_behind item (count - i) before at ≡ total

pub begins : {A E : Type 0} (item : List A → Reader A E) (count at : ℕ) → IsSoFar item count 0 [] at (items_behind item count [] at)
begins item count at = let e : count - 0 ≡ count = omega arith in record { rest = ap (λ (n : ℕ). items_behind item n [] at) e }

pub goes_on : {A E : Type 0} (item : List A → Reader A E) (count i : ℕ) (before : List A) (at : ℕ) (total : Result (List A × ℕ) E) (x : A) (next : ℕ) → i < count → item before at ≡ Ok (x, next)
    → IsSoFar item count i before at total → IsSoFar item count (i + 1) (before ++ x ∷ []) next total
unfolding items_behind
goes_on item count i before at total x next lt is so_far =
    let k : count - i ≡ suc (count - (i + 1)) = omega arith in
    let one : items_behind item (count - i) before at ≡ items_behind item (count - (i + 1)) (before ++ x ∷ []) next = rw (k, is) refl in
    record { rest = sym one ∙ so_far.rest }

pub stops : {A E : Type 0} (item : List A → Reader A E) (count i : ℕ) (before : List A) (at : ℕ) (total : Result (List A × ℕ) E) (lack f : E) → i < count → (f ≡ lack) ⊎ (item before at ≡ Err f)
    → IsSoFar item count i before at total → (f ≡ lack) ⊎ (total ≡ Err f)
unfolding items_behind
stops item count i before at total lack f lt (inl want) so_far = inl want
stops item count i before at total lack f lt (inr is) so_far =
    let k : count - i ≡ suc (count - (i + 1)) = omega arith in
    let one : items_behind item (count - i) before at ≡ Err f = rw (k, is) refl in
    inr (sym so_far.rest ∙ one)

pub is_done : {A E : Type 0} (item : List A → Reader A E) (count i : ℕ) (before : List A) (at : ℕ) (total : Result (List A × ℕ) E) → count ≤ i → IsSoFar item count i before at total → total ≡ Ok (before, at)
unfolding items_behind
is_done item count i before at total le so_far =
    let k : count - i ≡ 0 = omega arith in
    let one : items_behind item (count - i) before at ≡ Ok (before, at) = rw k refl in
    sym so_far.rest ∙ one
