-- Lists whose elements are printed one after another, and what is known of those before each.
use Rattle.std.proofs.Common.{◌≡◌, ◌≢◌, ℕ, ◌<◌, ◌≤◌, false, eqb, List, [], ◌∷◌, ◌++◌, length, map, None, refl, sym, ap, subst, append_assoc, append-nil, arith, inl, inr, length-append}
use Rattle.std.specs.Prelude.{All, bytes_eq}
use Rattle.std.specs.List.{flat_map}
use Rattle.std.proofs.Math.Seq.{get_or-append_seam}
use Rattle.std.proofs.lemmas.Bool.Decides.{nat_tests}
use Rattle.std.proofs.lemmas.List.{get_or_append_left}
use Rattle.std.proofs.lemmas.List.Elements.{All-head, All-tail}
use Rattle.keyed_seal.specs.Keys.{Entries, key_of}
use Rattle.prin_text.specs.Labels.{IsAscending, Rows, TextsDiffer, number_at, number_of, text_of}
use Rattle.byte_fields.proofs.FindingRows.{value_of-absent}
use Rattle.prin_text.proofs.Texts.{absent_below, same_text, texts_tell}
use Rattle.node_file.specs.NodeFile.{Draft}
use Rattle.node_file.proofs.PrintedSteps.{Goes, Takes, goes_append}

-- ---- one element after another

module _ {A : Type 0} (into : List A → Draft) (Fine : List A → Type 0) where
  pub each_goes : (lines : A → List (List ℕ)) → ((above : List A) (x : A) (rest : List A) → Fine (above ++ x ∷ rest) → Goes (into above) (lines x) (into (above ++ x ∷ [])))
      → (above rest : List A) → Fine (above ++ rest) → Goes (into above) (flat_map lines rest) (into (above ++ rest))
  each_goes lines step above [] fine = ap into (sym (append-nil above))
  each_goes lines step above (x ∷ rest) fine =
      let joined : (above ++ x ∷ []) ++ rest ≡ above ++ x ∷ rest = append_assoc above (x ∷ []) rest in
      let later = each_goes lines step (above ++ x ∷ []) rest (subst Fine (sym joined) fine) in
      goes_append (lines x) (flat_map lines rest) (into above) (into (above ++ x ∷ [])) (into (above ++ x ∷ rest)) (step above x rest fine)
      (subst (λ (l : List A). Goes (into (above ++ x ∷ [])) (flat_map lines rest) (into l)) joined later)

  pub each_taken : (line : A → List ℕ) → ((above : List A) (x : A) (rest : List A) → Fine (above ++ x ∷ rest) → Takes (into above) (line x) (into (above ++ x ∷ [])))
      → (above rest : List A) → Fine (above ++ rest) → Goes (into above) (map line rest) (into (above ++ rest))
  each_taken line step above [] fine = ap into (sym (append-nil above))
  each_taken line step above (x ∷ rest) fine =
      let joined : (above ++ x ∷ []) ++ rest ≡ above ++ x ∷ rest = append_assoc above (x ∷ []) rest in
      let later = each_taken line step (above ++ x ∷ []) rest (subst Fine (sym joined) fine) in (
        into (above ++ x ∷ []),
        step above x rest fine,
        subst (λ (l : List A). Goes (into (above ++ x ∷ [])) (map line rest) (into l)) joined later,
      )

-- what holds of all holds of the one in the middle
pub this_one : {A : Type 0} (P : A → Type 0) (above : List A) (x : A) (rest : List A) → All P (above ++ x ∷ rest) → P x
this_one {A} P above x rest all =
    subst P (get_or-append_seam above x rest x) (all (length above) x (omega (arith, length-append above (x ∷ rest))))

pub fewer : {A : Type 0} (above : List A) (x : A) (rest : List A) (most : ℕ) → length (above ++ x ∷ rest) ≤ most → length above < most
fewer above x rest most few = omega (arith, few, length-append above (x ∷ rest))

-- ---- tables of texts

module _ (above rest : Rows) (row : ℕ × List ℕ) where
  pub number_is_new : IsAscending (above ++ row ∷ rest) → text_of above row.0 ≡ None
  number_is_new ascending = value_of-absent (λ r. r.0) (λ r. r.1) (0, []) above row.0 (λ j lt same.
      let whole : Rows = above ++ row ∷ rest in
      let before : number_at whole j ≡ number_at above j = ap (λ (r : ℕ × List ℕ). r.0) (get_or_append_left above (row ∷ rest) (0, []) j lt) in
      let here : number_at whole (length above) ≡ row.0 = ap (λ (r : ℕ × List ℕ). r.0) (get_or-append_seam above row rest (0, [])) in
      omega (arith, ascending j (length above) lt (omega (arith, length-append above (row ∷ rest))), before, here, same))

other_text : (above rest : Rows) (row : ℕ × List ℕ) (t : List ℕ) → number_of (above ++ row ∷ rest) t ≡ None → bytes_eq row.1 t ≡ false
other_text [] rest row t e = (absent_below row.0 row.1 rest t e).0
other_text (r ∷ above) rest row t e = other_text above rest row t (absent_below r.0 r.1 (above ++ row ∷ rest) t e).1

turned : (s t : List ℕ) → bytes_eq s t ≡ false → bytes_eq t s ≡ false
turned s t e = elim (texts_tell t s) [
  | inl same ↦ absurd (cc (e, ap (λ (x : List ℕ). bytes_eq s x) same.1, same_text s))
  | inr other ↦ other.0
]

pub text_is_new : (above rest : Rows) (row : ℕ × List ℕ) → TextsDiffer (above ++ row ∷ rest) → number_of above row.1 ≡ None
text_is_new [] rest row differ = refl
text_is_new (r ∷ above) rest row differ =
    rw (turned row.1 r.1 (other_text above rest row r.1 differ.0)) (text_is_new above rest row differ.1)

-- ---- keys

pub key_is_new : (above : Entries) (n : ℕ) → All (λ b. b.0 ≢ n) above → key_of above n ≡ None
key_is_new [] n all = refl
key_is_new (b ∷ above) n all =
    let other : eqb b.0 n ≡ false = grind (arith, nat_tests, All-head (λ (b : ℕ × List ℕ). b.0 ≢ n) b above all) in
    rw other (key_is_new above n (All-tail (λ (b : ℕ × List ℕ). b.0 ≢ n) b above all))
