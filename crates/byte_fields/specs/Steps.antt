-- What every format has: steps that may fail, and fields that are read at an offset.
use Rattle.std.specs.Prelude.{◌≡◌, ◌⊎◌, ℕ, ◌+◌, ◌-◌, ◌<◌, Bool, List, [], ◌∷◌, ◌++◌, length, take}
use Rattle.std.specs.Prelude.{Option, None, Some, Result, Ok, Err, nat_lt, ◌==◌, if◌then◌else◌}
use Rattle.std.specs.Prelude.{drop, slice_index, All}
use Rattle.std.specs.Int.{Width, byte_len, from_be_bytes, to_be_bytes}

infixl 10 ◌>>=◌
-- f of what x gives, or the fault of x
abbrev pub ◌>>=◌ : {A B E : Type 0} → Result A E → (A → Result B E) → Result B E
(Ok x) >>= f = f x
(Err e) >>= f = Err e

-- result, seen by view, is what reading gives, unless memory ran out; lack is the fault of that
abbrev pub Gives : {X Y E : Type 0} → E → (X → Y) → Result X E → Result Y E → Type 0
Gives lack view (Ok x) read = read ≡ Ok (view x)
Gives lack view (Err e) read = (e ≡ lack) ⊎ (read ≡ Err e)

-- a step whose value is seen by a view
abbrev pub with_value : {A B E : Type 0} → (A → B) → Result A E → Result B E
with_value f (Ok x) = Ok (f x)
with_value f (Err e) = Err e

-- a step whose fault is seen as another's
abbrev pub with_fault : {A E F : Type 0} → (E → F) → Result A E → Result A F
with_fault f (Ok x) = Ok x
with_fault f (Err e) = Err (f e)

-- a value that has to pass a test
abbrev pub tested : {A E : Type 0} → (A → Bool) → E → A → Result A E
tested test fault x = if test x then Ok x else Err fault

-- the number fits one byte
abbrev pub IsByte : ℕ → Type 0
IsByte b = b < 256

-- so many bytes: a key, a digest or a tag
abbrev pub AreBytes : ℕ → List ℕ → Type 0
AreBytes n text = (length text ≡ n) × All IsByte text

-- a number of the width at the front of the bytes, and the bytes after it
unfoldable pub front_number : {E : Type 0} → E → Width → List ℕ → Result (ℕ × List ℕ) E
front_number short w bytes =
    if nat_lt (length bytes) (byte_len w) then Err short
    else Ok (from_be_bytes w (take (byte_len w) bytes), drop (byte_len w) bytes)

-- one byte; where bytes are lacking the fault is short, as in each reader that follows
unfoldable pub byte_at : {E : Type 0} → E → List ℕ → ℕ → Result (ℕ × ℕ) E
byte_at short bytes at =
    if nat_lt at (length bytes) then Ok (slice_index bytes at, at + 1) else Err short

-- this very byte, and the offset after it; another is bad
unfoldable pub mark_at : {E : Type 0} → E → E → ℕ → List ℕ → ℕ → Result ℕ E
mark_at short bad b bytes at = do
  x ← byte_at short bytes at
  if x.0 == b then Ok x.1 else Err bad

-- so many bytes, and the offset after them
unfoldable pub bytes_at : {E : Type 0} → E → ℕ → List ℕ → ℕ → Result (List ℕ × ℕ) E
bytes_at short n bytes at =
    if nat_lt (length bytes - at) n then Err short else Ok (take n (drop at bytes), at + n)

-- a number of the width, and the offset after it
unfoldable pub number_at : {E : Type 0} → E → Width → List ℕ → ℕ → Result (ℕ × ℕ) E
number_at short w bytes at =
    if nat_lt (length bytes - at) (byte_len w) then Err short
    else Ok (from_be_bytes w (take (byte_len w) (drop at bytes)), at + byte_len w)

-- the bytes after their length, which is a number of the width
abbrev pub counted : Width → List ℕ → List ℕ
counted w text = to_be_bytes w (length text) ++ text

-- the bytes after a length of the width, and the offset after them
unfoldable pub counted_at : {E : Type 0} → E → Width → List ℕ → ℕ → Result (List ℕ × ℕ) E
counted_at short w bytes at = do
  n ← number_at short w bytes at
  bytes_at short n.0 bytes n.1

-- 0 for nothing, or 1 and an item
abbrev pub optional : {A : Type 0} → (A → List ℕ) → Option A → List ℕ
optional spell None = 0 ∷ []
optional spell (Some x) = 1 ∷ spell x

-- nothing at 0, an item at 1; another byte is bad
unfoldable pub optional_at : {A E : Type 0}
    → E → E → (ℕ → Result (A × ℕ) E) → List ℕ → ℕ → Result (Option A × ℕ) E
optional_at short bad item bytes at = do
  flag ← byte_at short bytes at
  if flag.0 == 0 then Ok (None, flag.1)
      else (if flag.0 == 1 then (item flag.1 >>= λ x. Ok (Some x.0, x.1)) else Err bad)
