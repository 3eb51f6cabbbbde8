-- Rows that a map keeps by number: what a number finds, and where one more row goes.
use Rattle.std.proofs.Common.{◌≡◌, ℕ, zero, suc, ◌<◌, ◌≤◌, cond, eqb, List, [], ◌∷◌, length, Some, None, refl, sym, ap, ◌∙◌, inl, inr, arith}
use Rattle.std.specs.BTreeMap.{insert_entry, is_at}
use Rattle.std.specs.List.{insert}
use Rattle.std.specs.Map.{lookup}
use Rattle.std.specs.Ordering.{is_eq, match_ordering, nat_cmp}
use Rattle.std.specs.declared.cmp.Ordering.{Ordering}
use Rattle.std.specs.declared.cmp.Ordering.TheVariants.{Less, Equal, Greater}
use Rattle.std.proofs.lemmas.Bool.Decides.{nat_tests, eqb_tells}
use Rattle.std.proofs.lemmas.Cmp.{ranked}
use Rattle.prin_text.specs.Labels.{IsAscending, IsGapFor, Rows, number_at, text_of}

-- two numbers compare alike where they are one
is_one : (n m : ℕ) → is_eq (nat_cmp n m) ≡ eqb m n
is_one n m = grind (arith, nat_tests)

-- the text of a number is what the map has at it
pub text_of-get : (l : Rows) (n : ℕ) → text_of l n ≡ lookup (is_at (nat_cmp n)) l
text_of-get [] n = refl
text_of-get (x ∷ l) n = elim (eqb_tells x.0 n) [
  | inl same ↦ ap (λ b. cond b (Some x.1) (text_of l n)) same.0 ∙ sym (ap (λ b. cond b (Some x.1) (lookup (is_at (nat_cmp n)) l)) (is_one n x.0 ∙ same.0))
  | inr other ↦ ap (λ b. cond b (Some x.1) (text_of l n)) other.0 ∙ text_of-get l n ∙ sym (ap (λ b. cond b (Some x.1) (lookup (is_at (nat_cmp n)) l)) (is_one n x.0 ∙ other.0))
]

-- a row that a map takes in stands in the gap for its number
pub record Put (l : Rows) (n : ℕ) (text : List ℕ) : Type 0 where
  pub at : ℕ
  pub gap : IsGapFor l n at
  pub put : insert_entry nat_cmp l n text ≡ insert l at (n, text)

module _ (x : ℕ × List ℕ) (l : Rows) (n : ℕ) (text : List ℕ) (ascending : IsAscending (x ∷ l)) where
  abbrev put_as : Ordering → Rows
  put_as o = match_ordering o ((n, text) ∷ x ∷ l) ((x.0, text) ∷ l) (x ∷ insert_entry nat_cmp l n text)

  tail : IsAscending l
  tail i j lt in_range = omega (arith, ascending (suc i) (suc j) (omega arith) (omega arith))

  first_least : (j : ℕ) → j < length (x ∷ l) → x.0 ≤ number_at (x ∷ l) j
  first_least zero lt = omega arith
  first_least (suc j) lt = omega (arith, ascending 0 (suc j) (omega arith) lt)

  here : n < x.0 → Less ≡ nat_cmp n x.0 → Put (x ∷ l) n text
  here below is = record {
    at = 0;
    gap = record { in_range = omega arith; smaller_before = λ j lt. absurd (omega (arith, lt)); greater_after = λ j le lt. omega (arith, below, first_least j lt) };
    put = ap put_as (sym is);
  }

  later : x.0 < n → Greater ≡ nat_cmp n x.0 → Put l n text → Put (x ∷ l) n text
  later above is rest = record {
    at = suc rest.at;
    gap = record { in_range = omega (arith, rest.gap.in_range); smaller_before = smaller; greater_after = greater };
    put = ap put_as (sym is) ∙ ap (λ (r : Rows). x ∷ r) rest.put;
  }
    where
      smaller : (j : ℕ) → j < suc rest.at → number_at (x ∷ l) j < n
      smaller zero lt = above
      smaller (suc j) lt = rest.gap.smaller_before j (omega (arith, lt))

      greater : (j : ℕ) → suc rest.at ≤ j → j < length (x ∷ l) → n < number_at (x ∷ l) j
      greater zero le lt = absurd (omega (arith, le))
      greater (suc j) le lt = rest.gap.greater_after j (omega (arith, le)) (omega (arith, lt))

pub put_in : (l : Rows) (n : ℕ) (text : List ℕ) → IsAscending l → text_of l n ≡ None → Put l n text
put_in [] n text ascending none = record {
  at = 0;
  gap = record { in_range = omega arith; smaller_before = λ j lt. absurd (omega (arith, lt)); greater_after = λ j le lt. absurd (omega (arith, lt)) };
  put = refl;
}
put_in (x ∷ l) n text ascending none = by (nat_cmp n x.0) refl (λ t none_of. put_in l n text t none_of)
  where
    by : (o : Ordering) → o ≡ nat_cmp n x.0 → (IsAscending l → text_of l n ≡ None → Put l n text) → Put (x ∷ l) n text
    by Less is rest = here x l n text ascending (ranked n x.0 Less is) is
    by Equal is rest = let same = ranked n x.0 Equal is in absurd (grind (arith, nat_tests, none, same))
    by Greater is rest =
        let above : x.0 < n = ranked n x.0 Greater is in
        later x l n text ascending above is (rest (tail x l n text ascending) (grind (arith, nat_tests, none, above)))
