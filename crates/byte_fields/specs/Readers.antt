-- Readers: what stands at an offset of some bytes and the offset after it, or a fault.
use Rattle.std.specs.Prelude.{ℕ, zero, suc, Bool, not, List, [], ◌∷◌, ◌++◌, Result, Ok, Err, nat_le}
use Rattle.std.specs.Prelude.{if◌then◌else◌}
use Rattle.std.specs.List.{list_any}
use Rattle.byte_fields.specs.Steps.{◌>>=◌}

-- from an offset, what stands there and the offset after it, or the fault
abbrev pub Reader : Type 0 → Type 0 → Type 0
Reader A E = ℕ → Result (A × ℕ) E

-- one after another; the second may depend on what the first gave
abbrev pub followed : {A B E : Type 0} → Reader A E → (A → Reader B E) → Reader (A × B) E
followed first second at = do
  a ← first at
  b ← second a.0 a.1
  Ok ((a.0, b.0), b.1)

-- what r gives, where it passes a test; else the fault of its first byte
abbrev pub passing : {A E : Type 0} → (A → Bool) → (ℕ → E) → Reader A E → Reader A E
passing test fault r at = do
  a ← r at
  if test a.0 then Ok a else Err (fault at)

-- what r gives, as another value
abbrev pub made : {A B E : Type 0} → (A → B) → Reader A E → Reader B E
made f r at = do
  a ← r at
  Ok (f a.0, a.1)

-- x, of no bytes
abbrev pub given : {A E : Type 0} → A → Reader A E
given x at = Ok (x, at)

-- n items after those of `before`; each is read in view of all before it
unfoldable pub items_behind : {A E : Type 0}
    → (List A → Reader A E) → ℕ → List A → Reader (List A) E
items_behind item zero before at = Ok (before, at)
items_behind item (suc n) before at = do
  next ← item before at
  items_behind item n (before ++ next.0 ∷ []) next.1

-- a count of at most so many, and that many items
abbrev pub counted : {A E : Type 0}
    → ℕ → (ℕ → E) → Reader ℕ E → (List A → Reader A E) → Reader (List A) E
counted most fault count item =
    made (λ p. p.1)
    (followed (passing (λ n. nat_le n most) fault count) (λ n. items_behind item n []))

-- none of those before passes the test
abbrev pub is_new : {A : Type 0} → (A → Bool) → List A → Bool
is_new test before = not (list_any test before)
