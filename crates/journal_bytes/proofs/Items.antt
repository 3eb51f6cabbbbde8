-- So many items behind a count of any value: what is read is spelled so, the other way, and where reading is refused.
use Rattle.std.proofs.Common.{◌≡◌, ℕ, ◌<◌, true, leb, List, [], ◌++◌, length, Result, Ok, Err, refl, sym, ap, subst, arith}
use Rattle.std.specs.Prelude.{All, AllPairs}
use Rattle.std.specs.List.{flat_map}
use Rattle.std.proofs.lemmas.Bool.{le-leb}
use Rattle.byte_fields.specs.declared.fault.FormatFault.{FormatFault}
use Rattle.byte_fields.specs.declared.fault.FormatFault.TheVariants.{Malformed}
use Rattle.byte_fields.specs.Formats.{FormatReader}
use Rattle.byte_fields.specs.Readers.{counted, given, items_behind}
use Rattle.byte_fields.specs.Steps.{◌>>=◌}
use Rattle.byte_fields.proofs.Forms.{Form, form_counted, form_followed, form_given, form_made}
use Rattle.byte_fields.proofs.ReaderLaws.{Reads, StepReads, reads_as, reads_followed, reads_items, reads_made}
use Rattle.journal_bytes.specs.JournalsReading.{items_at}

module _ {A : Type 0} {bytes : List ℕ} {count : FormatReader ℕ} {number : ℕ → List ℕ} (limit : ℕ) (spell : A → List ℕ) (Fits : A → Type 0) (one : Reads bytes count number (λ n. n < limit)) where
  pub reads_counted_items : {item : List A → FormatReader A} (Apart : A → A → Type 0) → StepReads bytes item spell Fits Apart
      → Reads bytes (items_at count item) (λ xs. number (length xs) ++ flat_map spell xs) (λ xs. (length xs < limit) × All Fits xs × AllPairs Apart xs)
  reads_counted_items {item} Apart step =
      reads_made (λ (p : ℕ × List A). p.1) (λ (xs : List A). (length xs, xs)) (λ xs. number (length xs) ++ flat_map spell xs) (λ xs. (length xs < limit) × All Fits xs × AllPairs Apart xs)
      (reads_followed one (λ n _. reads_items bytes item spell Fits Apart step n))
      (λ p fits. ((subst (λ (k : ℕ). k < limit) (sym fits.1.0) fits.0, fits.1.1, fits.1.2), ap (λ (k : ℕ). number k ++ flat_map spell p.1) (sym fits.1.0)))
      (λ xs fits. ((fits.0, (refl, fits.1, fits.2)), refl, refl))

  -- no item is compared with another
  abbrev Anyhow : A → A → Type 0
  Anyhow a b = Unit {0}

  pub reads_each_item : {item : FormatReader A} → Reads bytes item spell Fits → Reads bytes (items_at count (λ _. item)) (λ xs. number (length xs) ++ flat_map spell xs) (λ xs. (length xs < limit) × All Fits xs)
  reads_each_item {item} step =
      reads_as (λ xs. number (length xs) ++ flat_map spell xs) (λ xs. (length xs < limit) × All Fits xs)
      (reads_counted_items {item = λ _. item} Anyhow (λ before. reads_as spell (λ x. Fits x × All (λ b. Anyhow b x) before) step (λ x is. ((is, λ k d below. tt), refl)) (λ x is. is.0)))
      (λ xs is. ((is.0, is.1), refl))
      (λ xs is. (is.0, is.1, λ i j d below within. tt))

-- ---- where reading is refused

-- so many items are those behind a count that is this many
abbrev behind : {A : Type 0} → ℕ → List A × ℕ → (ℕ × List A) × ℕ
behind n b = ((n, b.0), b.1)

abbrev alone : {A : Type 0} → (ℕ × List A) × ℕ → List A × ℕ
alone a = (a.0.1, a.1)

as_read : {A : Type 0} (n : ℕ) (r : Result (List A × ℕ) FormatFault) → ((r >>= λ b. Ok (behind n b)) >>= λ a. Ok (alone a)) ≡ r
as_read n (Ok x) = refl
as_read n (Err f) = refl

items_are : {A : Type 0} (item : List A → FormatReader A) (n at : ℕ) → counted n Malformed (given n) item at ≡ items_behind item n [] at
items_are item n at =
    let test : leb n n ≡ true = le-leb n n (omega arith) in
    rw test (as_read n (items_behind item n [] at))

module _ {Right : List ℕ → Type 0} where
  form_as : {A : Type 0} {r s : List ℕ → FormatReader A} → ((bytes : List ℕ) (at : ℕ) → r bytes at ≡ s bytes at) → Form Right r → Form Right s
  form_as same form = subst (Form Right) (λ i. λ bytes at. same bytes at i) form

  form_items : {A : Type 0} {item : List ℕ → List A → FormatReader A} (n : ℕ) → ((before : List A) → Form Right (λ bytes. item bytes before)) → Form Right (λ bytes. items_behind (item bytes) n [])
  form_items {A} {item} n step = form_as (λ bytes at. items_are (item bytes) n at) (form_counted n (form_given n) step)

  pub form_items_at : {A : Type 0} {count : List ℕ → FormatReader ℕ} {item : List ℕ → List A → FormatReader A} → Form Right count → ((before : List A) → Form Right (λ bytes. item bytes before)) → Form Right (λ bytes. items_at (count bytes) (item bytes))
  form_items_at one step = form_made _ (form_followed one (λ n. form_items n step))
