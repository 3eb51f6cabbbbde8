-- One text more, in a table and in a list; and why one is refused.
use Rattle.std.proofs.Common.{◌≡◌, ◌⊎◌, ℕ, zero, suc, ◌<◌, Bool, true, false, cond, eqb, not, ◌&&◌, ◌||◌, List, [], ◌∷◌, ◌++◌, length, Option, Some, None, Ok, Err, refl, sym, ap, subst, ◌∙◌, arith, inl, inr, length-append}
use Rattle.std.specs.Prelude.{bytes_eq}
use Rattle.std.specs.Option.{is_some}
use Rattle.std.specs.List.{list_all}
use Rattle.std.specs.Str.{IsAscii, IsUtf8}
use Rattle.std.specs.Prelude.{nat_le}
use Rattle.std.proofs.lemmas.Str.{IsUtf8-from_ascii}
use Rattle.prin_text.specs.declared.limits.TheConstants.{MAX_TEXT}
use Rattle.prin_text.specs.Labels.{begins_with_letter, is_reserved}
use Rattle.std.proofs.lemmas.Bool.{cases_eq, false≢true}
use Rattle.std.proofs.lemmas.Bool.Decides.{nat_tests}
use Rattle.std.proofs.lemmas.Option.{none-some}
use Rattle.prin_text.specs.Labels.{AddsRow, Rows, is_label, is_label_byte, number_of, refusal, text_of}
use Rattle.prin_text.specs.declared.fault.NamesFault.{NamesFault}
use Rattle.prin_text.specs.declared.fault.NamesFault.TheVariants as texts
use Rattle.prin_text.proofs.Texts.{texts_tell, same_text}
use Rattle.prin_text.specs.declared.lines.fault.FileCause.{FileCause}
use Rattle.prin_text.specs.declared.lines.fault.FileCause.TheVariants.{Text, Twice, Limit}
use Rattle.prin_text.specs.FileLines.{first_of, text_cause, unless}
use Rattle.prin_text.specs.Held.{HoldsRows}
use Rattle.prin_text.specs.LineView.{TakesLine, fault_of}

-- ---- look-ups in one row more

past : {A : Type 0} (b : Bool) (x : A) (r s : Option A) → r ≡ s → cond b (Some x) r ≡ cond b (Some x) s
past true x r s e = refl
past false x r s e = e

here_by : {A : Type 0} (b : Bool) (x : A) (r s want : Option A) → cond b (Some x) r ≡ None → (r ≡ None → s ≡ want) → cond b (Some x) s ≡ want
here_by true x r s want none later = absurd (none-some x (sym none))
here_by false x r s want none later = later none

text_of-push_other : (rows : Rows) (n : ℕ) (t : List ℕ) (q : ℕ) → eqb n q ≡ false → text_of (rows ++ (n, t) ∷ []) q ≡ text_of rows q
text_of-push_other [] n t q other = rw other refl
text_of-push_other (r ∷ rows) n t q other = past (eqb r.0 q) r.1 _ _ (text_of-push_other rows n t q other)

text_of-push_here : (rows : Rows) (n : ℕ) (t : List ℕ) → text_of rows n ≡ None → text_of (rows ++ (n, t) ∷ []) n ≡ Some t
text_of-push_here [] n t none = let same : eqb n n ≡ true = grind (arith, nat_tests) in rw same refl
text_of-push_here (r ∷ rows) n t none = here_by (eqb r.0 n) r.1 (text_of rows n) _ (Some t) none (λ later. text_of-push_here rows n t later)

number_of-push_other : (rows : Rows) (n : ℕ) (t q : List ℕ) → bytes_eq t q ≡ false → number_of (rows ++ (n, t) ∷ []) q ≡ number_of rows q
number_of-push_other [] n t q other = rw other refl
number_of-push_other (r ∷ rows) n t q other = past (bytes_eq r.1 q) r.0 _ _ (number_of-push_other rows n t q other)

number_of-push_here : (rows : Rows) (n : ℕ) (t : List ℕ) → number_of rows t ≡ None → number_of (rows ++ (n, t) ∷ []) t ≡ Some n
number_of-push_here [] n t none = rw (same_text t) refl
number_of-push_here (r ∷ rows) n t none = here_by (bytes_eq r.1 t) r.0 (number_of rows t) _ (Some n) none (λ later. number_of-push_here rows n t later)

pub adds_row : (old new rows : Rows) (n : ℕ) (t : List ℕ) → HoldsRows old rows → text_of old n ≡ None → number_of old t ≡ None → AddsRow old new n t → HoldsRows new (rows ++ (n, t) ∷ [])
adds_row old new rows n t held no_text no_number adds = record {
  texts = λ q. elim (cases_eq q n) [
    | inl same ↦ ap (text_of new) same ∙ adds.this_text ∙ sym (ap (text_of (rows ++ (n, t) ∷ [])) same ∙ text_of-push_here rows n t (sym (held.texts n) ∙ no_text))
    | inr other ↦ adds.other_texts q other ∙ held.texts q ∙ sym (text_of-push_other rows n t q (grind (arith, nat_tests, other)))
  ];
  numbers = λ q. elim (texts_tell t q) [
    | inl same ↦
        subst (λ (p : List ℕ). number_of new p ≡ number_of (rows ++ (n, t) ∷ []) p) same.1
        (adds.this_number ∙ sym (number_of-push_here rows n t (sym (held.numbers t) ∙ no_number)))
    | inr other ↦ adds.other_numbers q (λ e. other.1 (sym e)) ∙ held.numbers q ∙ sym (number_of-push_other rows n t q other.0)
  ];
  count = omega (arith, adds.count, held.count, length-append rows ((n, t) ∷ []));
}

-- ---- why a text is refused

-- the cause of a line for that of its text; want of memory has none
abbrev pub cause_in : NamesFault → Option FileCause
cause_in texts.BadText = Some Text
cause_in texts.Twice = Some Twice
cause_in (texts.Full held) = Some Limit
cause_in texts.NoMemory = None

-- a refusal, by its three tests
abbrev refused_by : ℕ → Bool → Bool → Bool → Option NamesFault
refused_by most a b c = cond a (Some texts.BadText) (cond b (Some texts.Twice) (cond c (Some (texts.Full most)) None))

abbrev cause_by : Option NamesFault → Option FileCause
cause_by None = None
cause_by (Some f) = cause_in f

by_tests : (most : ℕ) (a b c : Bool) → first_of ((a, Text) ∷ (b, Twice) ∷ (c, Limit) ∷ []) ≡ cause_by (refused_by most a b c)
by_tests most true b c = refl
by_tests most false true c = refl
by_tests most false false true = refl
by_tests most false false false = refl

pub text_cause-is : (most : ℕ) (table rows : Rows) (n : ℕ) (t : List ℕ) → HoldsRows table rows → text_cause most rows n t ≡ cause_by (refusal most table n t)
unfolding text_cause refusal
text_cause-is most table rows n t held =
    by_tests most (not (is_label t)) (is_some (text_of rows n) || is_some (number_of rows t)) (eqb (length rows) most)
    ∙ ap (λ (o : Option (List ℕ)). cause_by (refused_by most (not (is_label t)) (is_some o || is_some (number_of rows t)) (eqb (length rows) most))) (sym (held.texts n))
    ∙ ap (λ (o : Option ℕ). cause_by (refused_by most (not (is_label t)) (is_some (text_of table n) || is_some o) (eqb (length rows) most))) (sym (held.numbers t))
    ∙ ap (λ (k : ℕ). cause_by (refused_by most (not (is_label t)) (is_some (text_of table n) || is_some (number_of table t)) (eqb k most))) (sym held.count)

module _ (most : ℕ) (table rows : Rows) (n : ℕ) (t : List ℕ) (held : HoldsRows table rows) where
  abbrev more : Rows
  more = rows ++ (n, t) ∷ []

  pub text_refused : (f : NamesFault) (new : Rows) → (f ≡ texts.NoMemory) ⊎ (refusal most table n t ≡ Some f) → TakesLine HoldsRows (Err (fault_of f)) new (unless (text_cause most rows n t) more)
  text_refused texts.NoMemory new why = tt
  text_refused texts.BadText new (inl none) = absurd (cc none)
  text_refused texts.BadText new (inr is) = ap (λ o. unless o more) (text_cause-is most table rows n t held ∙ ap cause_by is)
  text_refused texts.Twice new (inl none) = absurd (cc none)
  text_refused texts.Twice new (inr is) = ap (λ o. unless o more) (text_cause-is most table rows n t held ∙ ap cause_by is)
  text_refused (texts.Full k) new (inl none) = absurd (cc none)
  text_refused (texts.Full k) new (inr is) = ap (λ o. unless o more) (text_cause-is most table rows n t held ∙ ap cause_by is)

  -- nothing speaks against it: the number and the text are new
  fresh : (a b c : Bool) → refused_by most a b c ≡ None → b ≡ false
  fresh true b c e = absurd (none-some _ (sym e))
  fresh false true c e = absurd (none-some _ (sym e))
  fresh false false c e = refl

  neither : {A B : Type 0} (o : Option A) (p : Option B) → (is_some o || is_some p) ≡ false → (o ≡ None) × (p ≡ None)
  neither None None e = (refl, refl)
  neither None (Some y) e = absurd (false≢true (sym e))
  neither (Some x) p e = absurd (false≢true (sym e))

  pub text_taken : (new : Rows) → refusal most table n t ≡ None → AddsRow table new n t → TakesLine HoldsRows (Ok tt) new (unless (text_cause most rows n t) more)
  unfolding refusal
  text_taken new none adds =
      let both = neither (text_of table n) (number_of table t) (fresh (not (is_label t)) (is_some (text_of table n) || is_some (number_of table t)) (eqb (length table) most) none) in
      (more, ap (λ o. unless o more) (text_cause-is most table rows n t held ∙ ap cause_by none), adds_row table new rows n t held both.0 both.1 adds)

-- ---- a text that is none of UTF-8

ascii_byte : (b : ℕ) → is_label_byte b ≡ true → b < 128
ascii_byte b e = grind (arith, nat_tests, e)

both : (a b : Bool) → (a && b) ≡ true → (a ≡ true) × (b ≡ true)
both true b e = (refl, e)
both false b e = absurd (false≢true e)

label_ascii : (t : List ℕ) → list_all is_label_byte t ≡ true → IsAscii t
label_ascii [] all i = omega arith
label_ascii (b ∷ t) all zero = ascii_byte b (both (is_label_byte b) (list_all is_label_byte t) all).0
label_ascii (b ∷ t) all (suc i) = label_ascii t (both (is_label_byte b) (list_all is_label_byte t) all).1 i

third : (a b c d : Bool) → (a && b && c && d) ≡ true → c ≡ true
third true true true d e = refl
third true true false d e = absurd (false≢true e)
third true false c d e = absurd (false≢true e)
third false b c d e = absurd (false≢true e)

label_by : (t : List ℕ) (b : Bool) → is_label t ≡ b → (IsUtf8 t → ⊥) → b ≡ false
unfolding is_label
label_by t false is no_text = refl
label_by t true is no_text = absurd (no_text (IsUtf8-from_ascii t (label_ascii t (third (begins_with_letter t) (nat_le (length t) MAX_TEXT) (list_all is_label_byte t) (not (is_reserved t)) is))))

-- bytes that are no text of UTF-8 are none of a name
pub no_label : (most : ℕ) (rows : Rows) (n : ℕ) (t : List ℕ) → (IsUtf8 t → ⊥) → unless (text_cause most rows n t) (rows ++ (n, t) ∷ []) ≡ Err Text
unfolding text_cause
no_label most rows n t no_text =
    ap (λ b. unless (first_of ((not b, Text) ∷ (is_some (text_of rows n) || is_some (number_of rows t), Twice) ∷ (eqb (length rows) most, Limit) ∷ [])) (rows ++ (n, t) ∷ [])) (label_by t (is_label t) refl no_text)

-- a table without rows holds none
pub no_rows : (table : Rows) → table ≡ [] → HoldsRows table []
no_rows table none = record { texts = λ n. ap (λ (l : Rows). text_of l n) none; numbers = λ t. ap (λ (l : Rows). number_of l t) none; count = ap (λ (l : Rows). length l) none }
