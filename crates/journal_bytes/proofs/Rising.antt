-- The least number that the next object may have.
use Rattle.std.proofs.Common.{◌≡◌, ℕ, ◌+◌, ◌<◌, ◌≤◌, Bool, true, false, not, ◌||◌, ◌⊎◌, leb, List, Err, [], ◌∷◌, ◌++◌, refl, sym, ap, ◌∙◌, arith, inl, inr}
use Rattle.std.specs.List.{list_any}
use Rattle.std.proofs.lemmas.Bool.{le-leb, lt-leb, leb-true, leb-false}
use Rattle.std.proofs.lemmas.List.Folds.{list_any-append}
use Rattle.byte_fields.specs.declared.fault.FormatFault.{FormatFault}
use Rattle.journal_bytes.specs.JournalsReading.{object_at, object_by, IsLeastAbove}
use Rattle.journal_bytes.specs.Spelled.{ObjectJournal}

-- before the first object stands none
pub least_first : IsLeastAbove 0 []
least_first n = sym (le-leb 0 n (omega arith))

none_above : (x : Bool) → not (x || (true || false)) ≡ false
none_above true = refl
none_above false = refl

as_before : (x : Bool) → not (x || (false || false)) ≡ not x
as_before true = refl
as_before false = refl

module _ (least : ℕ) (before : List ObjectJournal) (o : ObjectJournal) (is : IsLeastAbove least before) (from : least ≤ o.number) where
  next_by : (n : ℕ) (here : Bool) → leb n o.number ≡ here → not (list_any (λ (b : ObjectJournal). leb n b.number) before || (here || false)) ≡ leb (o.number + 1) n
  next_by n true e =
      let not_yet : leb (o.number + 1) n ≡ false = lt-leb (o.number + 1) n (omega (arith, leb-true n o.number e)) in
      none_above (list_any (λ (b : ObjectJournal). leb n b.number) before) ∙ sym not_yet
  next_by n false e =
      let past : o.number < n = leb-false n o.number e in
      let above : leb least n ≡ true = le-leb least n (omega (arith, from, past)) in
      let there : leb (o.number + 1) n ≡ true = le-leb (o.number + 1) n (omega (arith, past)) in
      as_before (list_any (λ (b : ObjectJournal). leb n b.number) before) ∙ is n ∙ above ∙ sym there

  -- behind an object that has a number from the least on the next one is above it
  pub least_next : IsLeastAbove (o.number + 1) (before ++ o ∷ [])
  least_next n =
      ap not (list_any-append (λ (b : ObjectJournal). leb n b.number) before (o ∷ [])) ∙ next_by n (leb n o.number) refl

-- an object is read in view of those before by the least number that it may have
module _ (least : ℕ) (before : List ObjectJournal) (is : IsLeastAbove least before) (bytes : List ℕ) (at : ℕ) where
  pub by_least : object_at bytes before at ≡ object_by (λ n. leb least n) bytes at
  by_least = ap (λ (test : ℕ → Bool). object_by test bytes at) (λ i n. is n i)

  pub refused_by_least : (lack f : FormatFault) → (f ≡ lack) ⊎ (object_by (λ n. leb least n) bytes at ≡ Err f) → (f ≡ lack) ⊎ (object_at bytes before at ≡ Err f)
  refused_by_least lack f (inl want) = inl want
  refused_by_least lack f (inr refused) = inr (by_least ∙ refused)
