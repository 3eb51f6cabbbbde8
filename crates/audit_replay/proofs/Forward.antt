-- The offset behind a number is not before it.
use Rattle.std.proofs.Common.{◌≡◌, ℕ, ◌+◌, ◌-◌, ◌≤◌, Bool, cond, ltb, List, length, take, drop, Ok, Err, subst, arith}
use Rattle.std.specs.Int.{Width, byte_len, from_be_bytes, w32}
use Rattle.byte_fields.specs.declared.fault.FormatFault.{FormatFault}
use Rattle.byte_fields.specs.declared.fault.FormatFault.TheVariants.{Malformed}
use Rattle.byte_fields.specs.Formats.{ended, u32_in}
use Rattle.byte_fields.specs.Readers.{passing}
use Rattle.byte_fields.specs.Steps.{number_at}
use Rattle.byte_fields.proofs.Results.{bind_ok, chosen_ok, refused_ok}

pub number_ends : (short : FormatFault) (w : Width) (bytes : List ℕ) (at : ℕ) (x : ℕ × ℕ) → number_at short w bytes at ≡ Ok x → at ≤ x.1
unfolding number_at
number_ends short w bytes at x e =
    let (test, is) = refused_ok (ltb (length bytes - at) (byte_len w)) short (from_be_bytes w (take (byte_len w) (drop at bytes)), at + byte_len w) x e in
    subst (λ (y : ℕ × ℕ). at ≤ y.1) is (omega arith)

-- the same of a number that has to pass a test
pub passing_ends : (test : ℕ → Bool) (bytes : List ℕ) (at : ℕ) (x : ℕ × ℕ) → passing test Malformed (u32_in bytes) at ≡ Ok x → at ≤ x.1
passing_ends test bytes at x e =
    let (y, is, passed) = bind_ok (u32_in bytes at) (λ (a : ℕ × ℕ). cond (test a.0) (Ok a) (Err (Malformed at))) x e in
    subst (λ (z : ℕ × ℕ). at ≤ z.1) (chosen_ok (test y.0) (Malformed at) y x passed).1 (number_ends (ended bytes) w32 bytes at y is)
