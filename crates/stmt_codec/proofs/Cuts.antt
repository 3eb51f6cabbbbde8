-- Input that ends inside a spelling is refused at its end, reader by reader.
use Rattle.std.proofs.Common.{◌≡◌, ◌⊎◌, inl, inr, ℕ, ◌+◌, ◌-◌, ◌<◌, ◌≤◌, true, false, ltb, Bool, List, [], ◌∷◌, ◌++◌, length, drop, Option, Some, None, Err, refl, sym, ap, ◌∙◌, arith, length-append, length-drop}
use Rattle.std.specs.Prelude.{IfSome}
use Rattle.std.specs.Int.{Width, byte_len, to_be_bytes}
use Rattle.std.proofs.lemmas.Bool.{lt-ltb, le-ltb}
use Rattle.prin_term.specs.declared.fault.TermFault.{TermFault}
use Rattle.prin_term.specs.declared.fault.TermFault.TheVariants.{Short}
use Rattle.prin_term.specs.Principal.{spelling}
use Rattle.prin_term.specs.Refusal.{FitsLimits}
use Rattle.prin_term.specs.Reading.{term_at}
use Rattle.prin_term.proofs.Whole.{prefix_refused, refused_again_at}
use Rattle.byte_fields.specs.Readers.{Reader, followed, made, passing}
use Rattle.byte_fields.specs.Steps.{with_fault, byte_at, number_at, optional, optional_at}
use Rattle.byte_fields.proofs.FieldLaws.{IsWide, TakesAt-within, behind, took, byte_again}
use Rattle.byte_fields.proofs.ReaderLaws.{Reads}

-- where bytes and more are a text and a rest, the text stands in the bytes, or ends behind them
pub data Split (front more text rest : List ℕ) : Type 0 where
  whole : (r : List ℕ) → front ≡ text ++ r → r ++ more ≡ rest → Split front more text rest
  cut : (m : List ℕ) → text ≡ front ++ m → 0 < length m → Split front more text rest

split_cons : (b c : ℕ) (front more text rest : List ℕ) → b ≡ c → Split front more text rest → Split (b ∷ front) more (c ∷ text) rest
split_cons b c front more text rest e (whole r f m) = whole r (ap (λ (l : List ℕ). b ∷ l) f ∙ ap (λ (k : ℕ). k ∷ (text ++ r)) e) m
split_cons b c front more text rest e (cut m t some) = cut m (ap (λ (l : List ℕ). c ∷ l) t ∙ ap (λ (k : ℕ). k ∷ (front ++ m)) (sym e)) some

pub splits : (front more text rest : List ℕ) → front ++ more ≡ text ++ rest → Split front more text rest
splits front more [] rest e = whole front refl e
splits [] more (c ∷ text) rest e = cut (c ∷ text) refl (omega arith)
splits (b ∷ front) more (c ∷ text) rest e =
    let head : b ≡ c = cc in
    let tail : front ++ more ≡ text ++ rest = cc in
    split_cons b c front more text rest head (splits front more text rest tail)

-- a reader finds bytes lacking where the input ends inside what it reads
pub record Lacks {A E : Type 0} (bytes : List ℕ) (short : E) (r : Reader A E) (spell : A → List ℕ) (Fits : A → Type 0) : Type 0 where
  pub at_end : (at : ℕ) (x : A) (m : List ℕ) → at ≤ length bytes → Fits x → spell x ≡ drop at bytes ++ m → 0 < length m → r at ≡ Err short

-- ---- one behind another, a test, another value

pub lacks_followed : {A B E : Type 0} {bytes : List ℕ} {short : E} {first : Reader A E} {second : A → Reader B E} {sa : A → List ℕ} {sb : B → List ℕ} {Fa : A → Type 0} {Fb : A → B → Type 0}
    → Reads bytes first sa Fa → Lacks bytes short first sa Fa → ((a : A) → Fa a → Lacks bytes short (second a) sb (Fb a)) → Lacks bytes short (followed first second) (λ p. sa p.0 ++ sb p.1) (λ p. Fa p.0 × Fb p.0 p.1)
lacks_followed {A} {B} {E} {bytes} {short} {first} {second} {sa} {sb} {Fa} {Fb} reads one two = record {
  at_end = λ at p m le fits e some. by at p m le fits some (splits (drop at bytes) m (sa p.0) (sb p.1) (sym e));
}
  where
    by : (at : ℕ) (p : A × B) (m : List ℕ) → at ≤ length bytes → Fa p.0 × Fb p.0 p.1 → 0 < length m → Split (drop at bytes) m (sa p.0) (sb p.1) → followed first second at ≡ Err short
    by at p m le fits some (whole r front tail) =
        let end = at + length (sa p.0) in
        let read = reads.again at p.0 r fits.0 front in
        let left : sb p.1 ≡ drop end bytes ++ m = sym tail ∙ ap (λ (l : List ℕ). l ++ m) (sym (behind bytes (sa p.0) r at front)) in
        let lacking = (two p.0 fits.0).at_end end p.1 m (TakesAt-within bytes at (sa p.0) end le (took bytes (sa p.0) r at end front refl)) fits.1 left some in
        rw (read, lacking) refl
    by at p m le fits some (cut n text more) = rw (one.at_end at p.0 n le fits.0 text more) refl

pub lacks_passing : {A E : Type 0} {bytes : List ℕ} {short : E} {r : Reader A E} {spell : A → List ℕ} {Fits Fewer : A → Type 0} (test : A → Bool) (fault : ℕ → E)
    → Lacks bytes short r spell Fits → ((a : A) → Fewer a → Fits a) → Lacks bytes short (passing test fault r) spell Fewer
lacks_passing test fault one fewer = record { at_end = λ at x m le fits e some. rw (one.at_end at x m le (fewer x fits) e some) refl }

pub lacks_made : {A B E : Type 0} {bytes : List ℕ} {short : E} {r : Reader A E} {sa : A → List ℕ} {Fa : A → Type 0} (f : A → B) (g : B → A) (sb : B → List ℕ) (Fb : B → Type 0)
    → Lacks bytes short r sa Fa → ((b : B) → Fb b → Fa (g b)) → ((b : B) → sb b ≡ sa (g b)) → Lacks bytes short (made f r) sb Fb
lacks_made f g sb Fb one fits same = record { at_end = λ at b m le is e some. rw (one.at_end at (g b) m le (fits b is) (sym (same b) ∙ e) some) refl }

-- ---- the fields

ends_before : (bytes text m : List ℕ) (at : ℕ) → text ≡ drop at bytes ++ m → 0 < length m → length bytes - at < length text
ends_before bytes text m at e some = omega (arith, ap length e, length-append (drop at bytes) m, length-drop at bytes, some)

byte_cut : {E : Type 0} (short : E) (bytes : List ℕ) (at : ℕ) → length bytes - at ≡ 0 → byte_at short bytes at ≡ Err short
unfolding byte_at
byte_cut short bytes at none = let test : ltb at (length bytes) ≡ false = le-ltb at (length bytes) (omega (arith, none)) in rw test refl

pub lacks_byte : {E : Type 0} (short : E) (bytes : List ℕ) → Lacks bytes short (byte_at short bytes) (λ b. b ∷ []) (λ b. b < 256)
lacks_byte short bytes = record { at_end = λ at b m le fits e some. byte_cut short bytes at (omega (arith, ends_before bytes (b ∷ []) m at e some)) }

pub lacks_number : {E : Type 0} (short : E) (w : Width) (limit : ℕ) (wide : IsWide w limit) (bytes : List ℕ) → Lacks bytes short (number_at short w bytes) (to_be_bytes w) (λ n. n < limit)
unfolding number_at
lacks_number short w limit wide bytes = record {
  at_end = λ at n m le fits e some.
      let test : ltb (length bytes - at) (byte_len w) ≡ true = lt-ltb _ _ (omega (arith, ends_before bytes (to_be_bytes w n) m at e some, wide.len n)) in
      rw test refl;
}

pub lacks_term : {E : Type 0} (seen_as : TermFault → E) (nodes : ℕ) (bytes : List ℕ) → Lacks bytes (seen_as (Short (length bytes))) (λ at. with_fault seen_as (term_at nodes bytes at)) spelling (FitsLimits nodes)
lacks_term seen_as nodes bytes = record {
  at_end = λ at t m le fits e some.
      let refused = refused_again_at nodes at bytes (Short (at + length (drop at bytes))) le (prefix_refused nodes at t (drop at bytes) m fits e some) in
      let place : at + length (drop at bytes) ≡ length bytes = omega (arith, length-drop at bytes, le) in
      ap (with_fault seen_as) refused ∙ ap (λ (k : ℕ). Err (seen_as (Short k))) place;
}

one_left : (flag : ℕ) (bytes text m : List ℕ) (at : ℕ) → flag ∷ text ≡ drop at bytes ++ m → 0 < length m → (length bytes - at ≡ 0) ⊎ ((r : List ℕ) × (drop at bytes ≡ flag ∷ r) × (text ≡ r ++ m))
one_left flag bytes text m at e some = by (drop at bytes) refl
  where
    by : (front : List ℕ) → drop at bytes ≡ front → (length bytes - at ≡ 0) ⊎ ((r : List ℕ) × (drop at bytes ≡ flag ∷ r) × (text ≡ r ++ m))
    by [] is = inl (omega (arith, ap length is, length-drop at bytes))
    by (b ∷ r) is =
        let all : flag ∷ text ≡ b ∷ (r ++ m) = e ∙ ap (λ (l : List ℕ). l ++ m) is in
        let head : flag ≡ b = cc in
        let tail : text ≡ r ++ m = cc in
        inr (r, is ∙ ap (λ (k : ℕ). k ∷ r) (sym head), tail)

pub lacks_optional : {A E : Type 0} {bytes : List ℕ} {item : Reader A E} {spell : A → List ℕ} {Fits : A → Type 0} (short : E) (bad : ℕ → E) → Lacks bytes short item spell Fits
    → Lacks bytes short (λ at. optional_at short (bad at) item bytes at) (optional spell) (λ o. IfSome o Fits)
unfolding optional_at
lacks_optional {A} {E} {bytes} {item} {spell} {Fits} short bad one = record { at_end = by }
  where
    by : (at : ℕ) (o : Option A) (m : List ℕ) → at ≤ length bytes → IfSome o Fits → optional spell o ≡ drop at bytes ++ m → 0 < length m → optional_at short (bad at) item bytes at ≡ Err short
    by at None m le fits e some = elim (one_left 0 bytes [] m at e some) [
      | inl none ↦ rw (byte_cut short bytes at none) refl
      | inr left ↦ absurd (omega (arith, some, ap length left.2, length-append left.0 m))
    ]
    by at (Some x) m le fits e some = elim (one_left 1 bytes (spell x) m at e some) [
      | inl none ↦ rw (byte_cut short bytes at none) refl
      | inr left ↦
          let first = byte_again short bytes left.0 at 1 left.1 in
          let next : drop (at + 1) bytes ≡ left.0 = behind bytes (1 ∷ []) left.0 at left.1 in
          let within = TakesAt-within bytes at (1 ∷ []) (at + 1) le (took bytes (1 ∷ []) left.0 at (at + 1) left.1 refl) in
          let second = one.at_end (at + 1) x m within fits (left.2 ∙ ap (λ (l : List ℕ). l ++ m) (sym next)) some in
          rw (first, second) refl
    ]
