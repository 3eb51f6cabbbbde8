-- Items that are read one behind another, where what may stand depends on how many stand before it.
use Rattle.std.proofs.Common.{◌≡◌, ℕ, zero, suc, ◌+◌, ◌<◌, ◌≤◌, List, [], ◌∷◌, ◌++◌, length, drop, Ok, leb, refl, sym, ap, subst, ◌∙◌, append_assoc, append-nil, arith, length-append}
use Rattle.std.specs.List.{flat_map}
use Rattle.std.proofs.lemmas.Bool.{le-leb, leb-true}
use Rattle.byte_fields.specs.Readers.{Reader, items_behind, counted}
use Rattle.byte_fields.proofs.FieldLaws.{IsBytes, TakesAt, TakesAt-then, TakesAt-none, TakesAt-within, behind}
use Rattle.byte_fields.proofs.ReaderLaws.{Reads, reads_followed, reads_passing, reads_made}
use Rattle.byte_fields.proofs.Results.{bind_ok, ok_is}

-- each fits at its place, the first of them at the place n
abbrev pub FitFrom : {A : Type 0} → (ℕ → A → Type 0) → ℕ → List A → Type 0
FitFrom Fits n [] = Unit {0}
FitFrom Fits n (x ∷ xs) = Fits n x × FitFrom Fits (suc n) xs

pub record TakesPlaced {A : Type 0} (bytes : List ℕ) (spell : A → List ℕ) (Fits : ℕ → A → Type 0) (n : ℕ) (before : List A) (at : ℕ) (x : List A × ℕ) : Type 0 where
  pub more : List A
  pub whole : x.0 ≡ before ++ more
  pub count : length more ≡ n
  pub taken : TakesAt bytes at (flat_map spell more) x.1
  pub fit : FitFrom Fits (length before) more

abbrev pub PlaceReads : {A E : Type 0} → List ℕ → (List A → Reader A E) → (A → List ℕ) → (ℕ → A → Type 0) → Type 0
PlaceReads {A} {E} bytes item spell Fits = (before : List A) → Reads bytes (item before) spell (Fits (length before))

one_longer : {A : Type 0} (before : List A) (x : A) → length (before ++ x ∷ []) ≡ suc (length before)
one_longer before x = omega (arith, length-append before (x ∷ []))

placed_take : {A E : Type 0} (bytes : List ℕ) (item : List A → Reader A E) (spell : A → List ℕ) (Fits : ℕ → A → Type 0) → PlaceReads bytes item spell Fits
    → (n : ℕ) (before : List A) (at : ℕ) (x : List A × ℕ) → IsBytes bytes → at ≤ length bytes → items_behind item n before at ≡ Ok x → TakesPlaced bytes spell Fits n before at x
unfolding items_behind
placed_take {A} {E} bytes item spell Fits step zero before at x ok le e =
    let none : List A × ℕ = (before, at) in
    subst (λ (y : List A × ℕ). TakesPlaced bytes spell Fits 0 before at y) (ok_is E none x e)
    (record { more = []; whole = sym (append-nil before); count = refl; taken = TakesAt-none bytes at; fit = tt })
placed_take {A} {E} bytes item spell Fits step (suc n) before at x ok le e =
    let a = bind_ok (item before at) (λ next. items_behind item n (before ++ next.0 ∷ []) next.1) x e in
    let t = (step before).takes ok at a.0 le a.1 in
    let others = placed_take bytes item spell Fits step n (before ++ a.0.0 ∷ []) a.0.1 x ok (TakesAt-within bytes at (spell a.0.0) a.0.1 le t.0) a.2 in
    record {
      more = a.0.0 ∷ others.more;
      whole = others.whole ∙ append_assoc before (a.0.0 ∷ []) others.more;
      count = ap suc others.count;
      taken = TakesAt-then bytes at (spell a.0.0) a.0.1 (flat_map spell others.more) x.1 t.0 others.taken;
      fit = (t.1, subst (λ (k : ℕ). FitFrom Fits k others.more) (one_longer before a.0.0) others.fit);
    }

placed_again : {A E : Type 0} (bytes : List ℕ) (item : List A → Reader A E) (spell : A → List ℕ) (Fits : ℕ → A → Type 0) → PlaceReads bytes item spell Fits
    → (xs before : List A) (at : ℕ) (rest : List ℕ) → FitFrom Fits (length before) xs → drop at bytes ≡ flat_map spell xs ++ rest → items_behind item (length xs) before at ≡ Ok (before ++ xs, at + length (flat_map spell xs))
unfolding items_behind
placed_again bytes item spell Fits step [] before at rest fit e =
    let place : at + 0 ≡ at = omega arith in
    rw (append-nil before, place) refl
placed_again bytes item spell Fits step (x ∷ xs) before at rest fit e =
    let grouped : drop at bytes ≡ spell x ++ (flat_map spell xs ++ rest) = e ∙ append_assoc (spell x) (flat_map spell xs) rest in
    let first = (step before).again at x (flat_map spell xs ++ rest) fit.0 grouped in
    let joined : (before ++ x ∷ []) ++ xs ≡ before ++ x ∷ xs = append_assoc before (x ∷ []) xs in
    let others = placed_again bytes item spell Fits step xs (before ++ x ∷ []) (at + length (spell x)) rest (subst (λ (k : ℕ). FitFrom Fits k xs) (sym (one_longer before x)) fit.1) (behind bytes (spell x) (flat_map spell xs ++ rest) at grouped) in
    let place : at + length (spell x) + length (flat_map spell xs) ≡ at + length (spell x ++ flat_map spell xs) = omega (arith, length-append (spell x) (flat_map spell xs)) in
    rw (first, others, joined, place) refl

reads_placed : {A E : Type 0} (bytes : List ℕ) (item : List A → Reader A E) (spell : A → List ℕ) (Fits : ℕ → A → Type 0) → PlaceReads bytes item spell Fits
    → (n : ℕ) → Reads bytes (items_behind item n []) (flat_map spell) (λ xs. (length xs ≡ n) × FitFrom Fits 0 xs)
reads_placed {A} {E} bytes item spell Fits step n = record {
  takes = λ ok at x le e.
      let t = placed_take bytes item spell Fits step n [] at x ok le e in (
        subst (λ (l : List A). TakesAt bytes at (flat_map spell l) x.1) (sym t.whole) t.taken,
        (ap length t.whole ∙ t.count, subst (FitFrom Fits 0) (sym t.whole) t.fit),
      );
  again = λ at xs rest fits e.
      ap (λ (k : ℕ). items_behind item k [] at) (sym fits.0) ∙ placed_again bytes item spell Fits step xs [] at rest fits.1 e;
}

-- a count and that many items
pub reads_counted_placed : {A E : Type 0} {bytes : List ℕ} {count : Reader ℕ E} {item : List A → Reader A E} {number : ℕ → List ℕ} (most limit : ℕ) (fault : ℕ → E) (spell : A → List ℕ) (Fits : ℕ → A → Type 0) → most < limit
    → Reads bytes count number (λ n. n < limit) → PlaceReads bytes item spell Fits
    → Reads bytes (counted most fault count item) (λ xs. number (length xs) ++ flat_map spell xs) (λ xs. (length xs ≤ most) × FitFrom Fits 0 xs)
reads_counted_placed {A} {E} {bytes} {count} {item} {number} most limit fault spell Fits few one step =
    reads_made (λ (p : ℕ × List A). p.1) (λ (xs : List A). (length xs, xs)) (λ xs. number (length xs) ++ flat_map spell xs) (λ xs. (length xs ≤ most) × FitFrom Fits 0 xs)
    (reads_followed (reads_passing (λ n. leb n most) fault one) (λ n _. reads_placed bytes item spell Fits step n))
    (λ p fits.
    let many : length p.1 ≤ most = subst (λ (k : ℕ). k ≤ most) (sym fits.1.0) (leb-true p.0 most fits.0.1) in
    ((many, fits.1.1), ap (λ (k : ℕ). number k ++ flat_map spell p.1) (sym fits.1.0)))
    (λ xs fits.
    let below : length xs < limit = omega (arith, fits.0) in
    (((below, le-leb (length xs) most fits.0), (refl, fits.1)), refl, refl))
