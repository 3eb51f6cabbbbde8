-- Fields that every format has, read at an offset with the faults of formats.
use Rattle.std.specs.Prelude.{ℕ, ◌≤◌, Bool, ◌&&◌, List, length, nat_le}
use Rattle.std.specs.Int.{w16, w32, w64}
use Rattle.byte_fields.specs.declared.fault.FormatFault.{FormatFault}
use Rattle.byte_fields.specs.declared.fault.FormatFault.TheVariants.{Malformed, NoMemory}
use Rattle.byte_fields.specs.Readers.{Reader, passing}
use Rattle.byte_fields.specs.Steps.{byte_at, number_at}

-- a reader of some bytes, with the faults of formats
abbrev pub FormatReader : Type 0 → Type 0
FormatReader A = Reader A FormatFault

-- the fault of bytes that are lacking, whose place is the end of the bytes
abbrev pub ended : List ℕ → FormatFault
ended bytes = Malformed (length bytes)

-- the fault's place is one of the bytes, or right after the last; out of memory has no place
abbrev pub IsPlaceIn : List ℕ → FormatFault → Type 0
IsPlaceIn bytes (Malformed o) = o ≤ length bytes
IsPlaceIn bytes NoMemory = Unit {0}

-- the fault's place is one of the bytes, or right after the last, and it is not out of memory
abbrev pub IsFaultIn : List ℕ → FormatFault → Type 0
IsFaultIn bytes (Malformed o) = o ≤ length bytes
IsFaultIn bytes NoMemory = ⊥

-- a number of one byte, and the offset after it
abbrev pub u8_in : List ℕ → FormatReader ℕ
u8_in bytes = byte_at (ended bytes) bytes

-- a number of two bytes, and the offset after it
abbrev pub u16_in : List ℕ → FormatReader ℕ
u16_in bytes = number_at (ended bytes) w16 bytes

-- a number of four bytes, and the offset after it
abbrev pub u32_in : List ℕ → FormatReader ℕ
u32_in bytes = number_at (ended bytes) w32 bytes

-- a number of eight bytes, and the offset after it
abbrev pub u64_in : List ℕ → FormatReader ℕ
u64_in bytes = number_at (ended bytes) w64 bytes

-- the number lies between the two, or is one of them
abbrev pub is_within : ℕ → ℕ → ℕ → Bool
is_within low high n = nat_le low n && nat_le n high

-- a number that lies between the two; another is refused at its first byte
abbrev pub within : ℕ → ℕ → FormatReader ℕ → FormatReader ℕ
within low high r = passing (is_within low high) Malformed r

-- a number that is not above; another is refused at its first byte
abbrev pub at_most : ℕ → FormatReader ℕ → FormatReader ℕ
at_most most r = passing (λ n. nat_le n most) Malformed r
