-- The rows of numbers: how they are made, and which is found.
use Rattle.std.proofs.Common.{◌≡◌, ◌≢◌, ℕ, zero, suc, ◌+◌, ◌<◌, true, false, not, cond, Option, None, List, [], ◌∷◌, ◌++◌, length, map, take, get_or, Some, Result, Ok, Err, slice_get, refl, sym, ap, ap₂, subst, ◌∙◌, arith, inl, inr, ◌⊎◌}
use Rattle.std.specs.Prelude.{AllPairs, Contains, MatchOption, MatchResult, ltb, ◌==◌}
use Rattle.std.specs.List.{position, position_or_len}
use Rattle.std.specs.List.Sorted.{IsSearchInRange, IsBinarySearchResult, IsPermutation}
use Rattle.std.specs.Ordering.{nat_cmp}
use Rattle.std.proofs.lemmas.Bool.{cases_lt, eq-eqb}
use Rattle.std.proofs.lemmas.Bool.Decides.{eqb_tells, nat_tests}
use Rattle.std.proofs.lemmas.List.{get_or_default, length-map, length-take-le, map-append, map_more}
use Rattle.std.proofs.lemmas.List.Elements.{All-append, All-cons, All-nil, All-contains, Contains-append_left, Contains-append_right}
use Rattle.std.proofs.lemmas.List.Folds.{find_at}
use Rattle.std.proofs.lemmas.List.Sorted.{All-permutation, Contains-permutation}
use Rattle.std.proofs.lemmas.List.Sums.{position_or_len_is}
use Rattle.std.proofs.lemmas.Option.{slice_get_within, slice_get-get_or, get_or_from_slice_get}
use Rattle.byte_fields.proofs.RowPlaces.{search_ends}
use Rattle.object_core.specs.declared.rows.Row.{Row}
use Rattle.object_core.specs.Numbered.{row, AreRowsOf, AreAscending, HasNumberAt, LacksNumber}
use Rattle.object_core.specs.Objects.{ObjectSeen}
use Rattle.object_core.specs.Shelving.{ObjectFixed, fixed_of, numbers_of, fixed_at}
use Rattle.object_core.proofs.Latest.{get_front, get_end}

-- ---- one more row

get_more : {X : Type 0} (xs : List X) (x : X) (i : ℕ) (y : X) → slice_get (xs ++ x ∷ []) i ≡ Some y → (slice_get xs i ≡ Some y) ⊎ ((i ≡ length xs) × (y ≡ x))
get_more [] x zero y is = let same : y ≡ x = cc in inr (refl, same)
get_more [] x (suc i) y is = absurd cc
get_more (z ∷ xs) x zero y is = inl is
get_more (z ∷ xs) x (suc i) y is = elim (get_more xs x i y is) [ inl e ↦ inl e | inr w ↦ inr (ap suc w.0, w.1) ]

pub no_rows : AreRowsOf [] []
no_rows = record { sound = All-nil _; complete = λ place number is. absurd cc }

pub rows_more : (ns : List ℕ) (rows : List Row) (n place : ℕ) → length ns ≡ place → AreRowsOf ns rows → AreRowsOf (ns ++ n ∷ []) (rows ++ row n place ∷ [])
rows_more ns rows n place at are =
    let P : Row → Type 0 = λ r. slice_get (ns ++ n ∷ []) r.place ≡ Some r.number in
    let here : slice_get (ns ++ n ∷ []) place ≡ Some n = subst (λ p. slice_get (ns ++ n ∷ []) p ≡ Some n) at (get_end ns n) in
    record {
      sound = All-append P rows (row n place ∷ [])
          (λ k d lt. get_front ns (n ∷ []) (get_or rows k d).place (get_or rows k d).number (are.sound k d lt))
          (All-cons P (row n place) [] here (All-nil P));
      complete = λ p m is. elim (get_more ns n p m is) [
        | inl e ↦ Contains-append_left rows (row n place ∷ []) (row m p) (are.complete p m e)
        | inr w ↦ Contains-append_right rows (row n place ∷ []) (row m p) (0, omega arith, ap₂ row (sym w.1) (sym at ∙ sym w.0))
      ];
    }

numbers_more : (objects : List ObjectSeen) (i : ℕ) (o : ObjectSeen) → i < length objects → o ≡ get_or objects i o → numbers_of (map fixed_of (take (i + 1) objects)) ≡ numbers_of (map fixed_of (take i objects)) ++ o.plan.number ∷ []
numbers_more objects i o lt here =
    ap numbers_of (map_more fixed_of objects i o lt)
    ∙ map-append (λ (f : ObjectFixed). f.plan.number) (map fixed_of (take i objects)) (fixed_of (get_or objects i o) ∷ [])
    ∙ ap (λ (x : ObjectSeen). numbers_of (map fixed_of (take i objects)) ++ x.plan.number ∷ []) (sym here)

-- one more object has its row
pub listed_more : (objects : List ObjectSeen) (i : ℕ) (o : ObjectSeen) (rows later : List Row) (n : ℕ) → i < length objects → o ≡ get_or objects i o → n ≡ o.plan.number →
    later ≡ rows ++ row n i ∷ [] → AreRowsOf (numbers_of (map fixed_of (take i objects))) rows → AreRowsOf (numbers_of (map fixed_of (take (i + 1) objects))) later
listed_more objects i o rows later n lt here number more are =
    let long : length (numbers_of (map fixed_of (take i objects))) ≡ i =
    length-map (map fixed_of (take i objects)) (λ (f : ObjectFixed). f.plan.number) ∙ length-map (take i objects) fixed_of ∙ length-take-le i objects (omega arith) in
    subst (λ rs. AreRowsOf (numbers_of (map fixed_of (take (i + 1) objects))) rs) (sym more)
    (subst (λ ns. AreRowsOf ns (rows ++ row n i ∷ [])) (sym (numbers_more objects i o lt here))
    (subst (λ m. AreRowsOf (numbers_of (map fixed_of (take i objects)) ++ m ∷ []) (rows ++ row n i ∷ [])) number
    (rows_more (numbers_of (map fixed_of (take i objects))) rows n i long are)))

-- rows in another order
pub rows_moved : (ns : List ℕ) (rows later : List Row) → IsPermutation rows later → AreRowsOf ns rows → AreRowsOf ns later
rows_moved ns rows later moved are = record {
  sound = All-permutation (λ (r : Row). slice_get ns r.place ≡ Some r.number) rows later moved are.sound;
  complete = λ place number is. Contains-permutation rows later (row number place) moved (are.complete place number is);
}

-- ---- which row is found

-- a row that stands nowhere
nowhere : Row
nowhere = row 0 0

-- a binary search by number ends at the number, or where no row has it
pub searched : (rows : List Row) → AreAscending rows → (n : ℕ) (r : Result ℕ ℕ) → IsSearchInRange r (length rows) → IsBinarySearchResult (λ (x : Row). nat_cmp x.number n) rows r →
    MatchResult r (HasNumberAt rows n) (λ _. LacksNumber rows n)
searched rows ascending n (Ok at) in_range equal =
    let ends = search_ends (λ (x : Row). x.number) nowhere rows ascending n (Ok at) in_range equal in
    (in_range, λ d. ap (λ (x : Row). x.number) (get_or_default rows at d nowhere in_range) ∙ ends.0.has_number)
searched rows ascending n (Err at) in_range parted = λ place there.
    let gap = (search_ends (λ (x : Row). x.number) nowhere rows ascending n (Err at) in_range parted).1 in
    let k : ℕ = there.0 in
    let lt : k < length rows = there.1 in
    let number : (get_or rows k nowhere).number ≡ n = ap (λ (x : Row). x.number) (get_or_default rows k nowhere (row n place) lt ∙ there.2) in
    elim (cases_lt k at) [
      | inl before ↦ (let lower = gap.smaller_before k before in omega (arith, number, lower))
      | inr after ↦ (let higher = gap.greater_after k after lt in omega (arith, number, higher))
    ]

-- the row at the place that was found
pub found_row : (rows : List Row) (n at : ℕ) (x : Row) → HasNumberAt rows n at → x ≡ get_or rows at x → Contains rows (row n x.place)
found_row rows n at x is here =
    let same : row n x.place ≡ x = ap (λ m. row m x.place) (sym (is.1 x) ∙ ap (λ (r : Row). r.number) (sym here)) in
    let there : slice_get rows at ≡ Some x = slice_get-get_or rows at x is.0 ∙ ap Some (sym here) in
    (at, is.0, get_or_from_slice_get rows at x (row n x.place) there ∙ sym same)

-- ---- the place of a number

-- a test of two numbers that differ
differs : (a b : ℕ) → a ≢ b → (a == b) ≡ false
differs a b ne = elim (eqb_tells a b) [ inl w ↦ absurd (ne w.1) | inr w ↦ w.0 ]

pub place_found : (ns : List ℕ) (n place : ℕ) → AllPairs (λ (a : ℕ) (b : ℕ). a ≢ b) ns → slice_get ns place ≡ Some n → position_or_len (λ m. m == n) ns ≡ place
place_found ns n place apart is =
    let within : place < length ns = slice_get_within ns place n is in
    let here : get_or ns place 0 ≡ n = get_or_from_slice_get ns place n 0 is in
    position_or_len_is (λ m. m == n) ns place 0 (omega (arith, within))
    (λ k lt. differs (get_or ns k 0) n (λ same. apart k place 0 lt within (same ∙ sym here)))
    (λ lt. eq-eqb (get_or ns place 0) n here)

pub place_missing : (ns : List ℕ) (n : ℕ) → ((place : ℕ) → slice_get ns place ≡ Some n → ⊥) → position_or_len (λ m. m == n) ns ≡ length ns
place_missing ns n missing =
    position_or_len_is (λ m. m == n) ns (length ns) 0 (omega arith)
    (λ k lt. differs (get_or ns k 0) n (λ same. missing k (slice_get-get_or ns k 0 lt ∙ ap Some same)))
    (λ lt. absurd (omega (arith, lt)))

module _ (ns : List ℕ) (rows : List Row) (are : AreRowsOf ns rows) (n : ℕ) where
  pub number_there : (place : ℕ) → Contains rows (row n place) → slice_get ns place ≡ Some n
  number_there place there = All-contains (λ (r : Row). slice_get ns r.place ≡ Some r.number) rows (row n place) are.sound there

  pub number_missing : LacksNumber rows n → (place : ℕ) → slice_get ns place ≡ Some n → ⊥
  number_missing lacks place is = lacks place (are.complete place n is)

  -- what the rows tell of a number is its first place among all
  pub place_told : AllPairs (λ (a : ℕ) (b : ℕ). a ≢ b) ns → (r : Option ℕ) → MatchOption r (LacksNumber rows n) (λ place. Contains rows (row n place)) → r ≡ position (λ m. m == n) ns
  place_told apart None lacks =
      let past = place_missing ns n (number_missing lacks) in
      let test : ltb (length ns) (length ns) ≡ false = grind (arith, nat_tests) in
      sym (ap (λ k. cond (ltb k (length ns)) (Some k) None) past ∙ ap (λ b. cond b (Some (length ns)) None) test)
  place_told apart (Some place) there =
      let at = number_there place there in
      let within : place < length ns = slice_get_within ns place n at in
      let test : ltb place (length ns) ≡ true = grind (arith, nat_tests, within) in
      sym (ap (λ k. cond (ltb k (length ns)) (Some k) None) (place_found ns n place apart at) ∙ ap (λ b. cond b (Some place) None) test)

-- the first object of a number stands at the first place of the number
position_in : (n : ℕ) (fs : List ObjectFixed) → position_or_len (λ (f : ObjectFixed). f.plan.number == n) fs ≡ position_or_len (λ m. m == n) (numbers_of fs)
position_in n [] = refl
position_in n (f ∷ fs) = ap (λ k. cond (not (f.plan.number == n)) (1 + k) 0) (position_in n fs)

pub fixed_at-place : (fs : List ObjectFixed) (n : ℕ) → fixed_at fs n ≡ slice_get fs (position_or_len (λ m. m == n) (numbers_of fs))
fixed_at-place fs n = find_at (λ (f : ObjectFixed). f.plan.number == n) fs ∙ ap (slice_get fs) (position_in n fs)
