-- What is read as journals is spelled so, and what is spelled so is read.
use Rattle.std.proofs.Common.{◌≡◌, ℕ, ◌+◌, ◌<◌, ◌≤◌, true, false, cond, ltb, List, [], ◌∷◌, ◌++◌, length, drop, Result, Ok, Err, refl, sym, ap, subst, ◌∙◌, append-nil, arith, length-append}
use Rattle.std.specs.Prelude.{IfOk, MatchResult}
use Rattle.std.proofs.lemmas.Bool.{ltb-false, le-ltb, lt-ltb}
use Rattle.std.proofs.lemmas.List.{drop_all}
use Rattle.byte_fields.specs.declared.fault.FormatFault.{FormatFault}
use Rattle.byte_fields.specs.declared.fault.FormatFault.TheVariants.{Malformed, NoMemory}
use Rattle.byte_fields.specs.Steps.{Gives}
use Rattle.byte_fields.proofs.FieldLaws.{IsBytes}
use Rattle.byte_fields.proofs.Results.{bind_ok, ok_is, refused_ok, gives_found, gives_only}
use Rattle.journal_bytes.specs.JournalsReading.{journals_at, journals_in}
use Rattle.journal_bytes.specs.Limits.{FitsJournals, Spells}
use Rattle.journal_bytes.specs.Spelled.{Journals}
use Rattle.journal_bytes.specs.Spelling.{journals_bytes}
use Rattle.journal_bytes.proofs.JournalReaders.{reads_journals}

-- what is read is spelled
pub journals_take : (bytes : List ℕ) → IsBytes bytes → (j : Journals) → journals_in bytes ≡ Ok j → Spells j bytes
unfolding journals_in
journals_take bytes ok j e =
    let x = bind_ok (journals_at bytes 0) (λ x. cond (ltb x.1 (length bytes)) (Err (Malformed x.1)) (Ok x.0)) j e in
    let t = (reads_journals bytes).takes ok 0 x.0 (omega arith) x.1 in
    let g = refused_ok (ltb x.0.1 (length bytes)) (Malformed x.0.1) x.0.0 j x.2 in
    let past : length bytes ≤ x.0.1 = ltb-false _ _ g.0 in
    let nothing : drop x.0.1 bytes ≡ [] = drop_all x.0.1 bytes past in
    let whole : bytes ≡ journals_bytes x.0.0 = t.0.parts ∙ ap (λ (l : List ℕ). journals_bytes x.0.0 ++ l) nothing ∙ append-nil (journals_bytes x.0.0) in
    subst (λ (k : Journals). Spells k bytes) g.1 (record { limits = t.1; text = whole })

-- a spelling is read up to its end, whatever follows
pub journals_front : (bytes rest front : List ℕ) (j : Journals) → Spells j front → bytes ≡ front ++ rest → journals_at bytes 0 ≡ Ok (j, 0 + length front)
journals_front bytes rest front j is e =
    (reads_journals bytes).again 0 j rest is.limits (e ∙ ap (λ (l : List ℕ). l ++ rest) is.text) ∙ ap (λ (l : List ℕ). Ok (j, 0 + length l)) (sym is.text)

-- what is spelled is read
pub journals_again : (bytes : List ℕ) (j : Journals) → Spells j bytes → journals_in bytes ≡ Ok j
unfolding journals_in
journals_again bytes j is =
    let read = journals_front bytes [] bytes j is (sym (append-nil bytes)) in
    let end : ltb (0 + length bytes) (length bytes) ≡ false = le-ltb _ _ (omega arith) in
    rw (read, end) refl

-- bytes spell journals in one way
pub spelled_once : (i j : Journals) (bytes : List ℕ) → Spells i bytes → Spells j bytes → i ≡ j
spelled_once i j bytes is_i is_j = ok_is FormatFault i j (sym (journals_again bytes i is_i) ∙ journals_again bytes j is_j)

-- a spelling does not begin another
pub none_longer : (i j : Journals) (front more : List ℕ) → Spells i front → Spells j (front ++ more) → more ≡ []
none_longer i j front more is_i is_j =
    let short = journals_front (front ++ more) more front i is_i refl in
    let long = journals_front (front ++ more) [] (front ++ more) j is_j (sym (append-nil (front ++ more))) in
    let one : Journals × ℕ = (i, 0 + length front) in
    let other : Journals × ℕ = (j, 0 + length (front ++ more)) in
    let ends : 0 + length front ≡ 0 + length (front ++ more) = ap (λ (x : Journals × ℕ). x.1) (ok_is FormatFault one other (sym short ∙ long)) in
    none_of more (omega (arith, ends, length-append front more))
  where
    none_of : (more : List ℕ) → length more ≤ 0 → more ≡ []
    none_of [] le = refl
    none_of (b ∷ more) le = absurd (omega (arith, le))

-- bytes behind a spelling are refused at the first of them
pub longer_refused : (j : Journals) (bytes more : List ℕ) → Spells j bytes → 0 < length more → journals_in (bytes ++ more) ≡ Err (Malformed (length bytes))
unfolding journals_in
longer_refused j bytes more is some =
    let read = journals_front (bytes ++ more) more bytes j is refl in
    let end : ltb (0 + length bytes) (length (bytes ++ more)) ≡ true = lt-ltb _ _ (omega (arith, some, length-append bytes more)) in
    let place : 0 + length bytes ≡ length bytes = omega arith in
    rw (read, end, place) refl

pub written_spells : (j : Journals) → FitsJournals j → Spells j (journals_bytes j)
written_spells j fits = record { limits = fits; text = refl }

-- ---- what the whole reader answers

module _ {X : Type 0} (see : X → Journals) (bytes : List ℕ) (r : Result X FormatFault) (given : Gives NoMemory see r (journals_in bytes)) where
  pub are_found : IsBytes bytes → IfOk r (λ x. Spells (see x) bytes)
  are_found ok = gives_found (λ (j : Journals). Spells j bytes) NoMemory see r (journals_in bytes) given (λ j e. journals_take bytes ok j e)

  pub are_only : (j : Journals) → Spells j bytes → MatchResult r (λ x. see x ≡ j) (λ f. f ≡ NoMemory)
  are_only j is = gives_only NoMemory see r (journals_in bytes) j given (journals_again bytes j is)
