-- What a search finds among objects by ascending number.
use Rattle.std.proofs.Common.{◌≡◌, ℕ, ◌<◌, ◌≤◌, Bool, cond, eqb, List, [], ◌∷◌, length, map, get_or, Option, Some, None, Result, Ok, Err, IfOk, IfErr, refl, sym, ap, subst, arith, ◌∙◌}
use Rattle.std.specs.List.Sorted.{IsSearchInRange, IsBinarySearchResult, IsNonDecreasingBy}
use Rattle.std.specs.Ordering.{nat_cmp}
use Rattle.std.proofs.lemmas.List.{get_or-map, length-map}
use Rattle.std.proofs.lemmas.List.Elements.{All-nil}
use Rattle.node_file.specs.declared.object_plan.ObjectPlan as code
use Rattle.byte_fields.specs.Rows as rows
use Rattle.byte_fields.proofs.RowPlaces.{search_ends, never_fall, value_of-at, value_of-in_gap}
use Rattle.object_core.specs.Objects.{ObjectPlan, object_of}
use Rattle.node_file.specs.Opening.{no_texts}
use Rattle.node_file.specs.Plans as plans
use Rattle.node_file.specs.Plans.{AreByNumber, IsAt, IsGapFor, number_at, plan}
use Rattle.prin_text.specs.Labels.{AreLabels, IsTable, IsRow}

-- tables without texts are within the limits
none_fit : (room : ℕ) → IsTable room []
none_fit room = record { ascending = λ i j lt in_range. absurd (omega (arith, in_range)); differ = tt; within = omega arith; whole = All-nil IsRow }

pub no_texts_fit : AreLabels no_texts
no_texts_fit = record { names = none_fit _; roles = none_fit _ }

-- ---- what `object_of` finds

abbrev pub nothing : ObjectPlan
nothing = plans.nothing

past : (b : Bool) (x : ObjectPlan) (r s : Option ObjectPlan) → r ≡ s → cond b (Some x) r ≡ cond b (Some x) s
past b x r s e = ap (cond b (Some x)) e

-- an object is found as the row of its number
pub object_of-value_of : (l : List ObjectPlan) (n : ℕ) → object_of l n ≡ rows.value_of (λ p. p.number) (λ p. p) l n
object_of-value_of [] n = refl
object_of-value_of (x ∷ l) n = past (eqb x.number n) x _ _ (object_of-value_of l n)

pub object_of-at : (l : List ObjectPlan) → AreByNumber l → (n i : ℕ) → IsAt l n i → object_of l n ≡ Some (get_or l i nothing)
object_of-at l ascending n i is_at = object_of-value_of l n ∙ value_of-at (λ p. p.number) (λ p. p) nothing l ascending n i is_at

pub object_of-in_gap : (l : List ObjectPlan) (n at : ℕ) → IsGapFor l n at → object_of l n ≡ None
object_of-in_gap l n at gap = object_of-value_of l n ∙ value_of-in_gap (λ p. p.number) (λ p. p) nothing l n at gap

-- ---- the program's objects

-- what a search for a number answers
pub record Finds (l : List ObjectPlan) (n : ℕ) (r : Result ℕ ℕ) : Type 0 where
  pub found : IfOk r (IsAt l n)
  pub absent : IfErr r (IsGapFor l n)

module _ (d : code.ObjectPlan) (l : List code.ObjectPlan) (ascending : AreByNumber (map plan l)) (n : ℕ) where
  abbrev number : code.ObjectPlan → ℕ
  number p = p.number

  len : length (map plan l) ≡ length l
  len = length-map l plan

  -- their numbers are those of what they stand for
  same : (i : ℕ) → i < length l → number_at (map plan l) i ≡ rows.number_at number d l i
  same i lt = ap (λ (p : ObjectPlan). p.number) (get_or-map plan l i d nothing lt)

  rising : rows.IsAscending number d l
  rising i j lt within = omega (arith, ascending i j lt (omega (arith, within, len)), same i (omega (arith, lt, within)), same j within)

  found_at : (at : ℕ) → rows.IsAt number d l n at → IsAt (map plan l) n at
  found_at at is = record { in_range = omega (arith, is.in_range, len); has_number = same at is.in_range ∙ is.has_number }

  gap_at : (at : ℕ) → rows.IsGapFor number d l n at → IsGapFor (map plan l) n at
  gap_at at is = record {
    in_range = omega (arith, is.in_range, len);
    smaller_before = λ j lt. omega (arith, is.smaller_before j lt, same j (omega (arith, lt, is.in_range)));
    greater_after = λ j le lt. omega (arith, is.greater_after j le (omega (arith, lt, len)), same j (omega (arith, lt, len)));
  }

  tells : (r : Result ℕ ℕ) → IfOk r (rows.IsAt number d l n) × IfErr r (rows.IsGapFor number d l n) → Finds (map plan l) n r
  tells (Ok at) ends = record { found = found_at at ends.0; absent = tt }
  tells (Err at) ends = record { found = tt; absent = gap_at at ends.1 }

  searched_by : (r : Result ℕ ℕ) → IsSearchInRange r (length l) → IsBinarySearchResult (λ p. nat_cmp p.number n) l r → Finds (map plan l) n r
  searched_by r in_range result = tells r (search_ends number d l (never_fall number d l rising) n r in_range result)

-- a binary search by number ends at the number, or at the gap for it
pub searched : (l : List code.ObjectPlan) → AreByNumber (map plan l) → (n : ℕ) (r : Result ℕ ℕ) → IsSearchInRange r (length l) → IsBinarySearchResult (λ p. nat_cmp p.number n) l r → Finds (map plan l) n r
searched [] ascending n (Ok at) in_range result = absurd (omega (arith, in_range))
searched [] ascending n (Err at) in_range result =
    record { found = tt; absent = record { in_range = in_range; smaller_before = λ j lt. absurd (omega (arith, lt, in_range)); greater_after = λ j le lt. absurd (omega (arith, lt)) } }
searched (d ∷ l) ascending n r in_range result = searched_by d (d ∷ l) ascending n r in_range result
