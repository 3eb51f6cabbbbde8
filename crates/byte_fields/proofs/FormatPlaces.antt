-- Fields with the faults of formats stay within the bytes, and are refused at a place of theirs.
use Rattle.std.proofs.Common.{◌≡◌, ℕ, ◌≤◌, List, length, Result, Ok, Err, sym, subst, arith, inl, inr}
use Rattle.std.specs.Prelude.{IfErr}
use Rattle.std.specs.Int.{w16, w32, w64}
use Rattle.byte_fields.specs.declared.fault.FormatFault.{FormatFault}
use Rattle.byte_fields.specs.declared.fault.FormatFault.TheVariants.{Malformed, NoMemory}
use Rattle.byte_fields.specs.Formats.{ended, IsPlaceIn, IsFaultIn, u8_in, u16_in, u32_in, u64_in, within}
use Rattle.byte_fields.specs.Steps.{Gives, bytes_at, counted_at}
use Rattle.byte_fields.proofs.Staying.{Stays, stays_passing, byte_stays, bytes_stay, number_stays, counted_stays}

module _ (bytes : List ℕ) where
  pub here : (o : ℕ) → o ≤ length bytes → IsFaultIn bytes (Malformed o)
  here o le = le

  pub lacking : IsFaultIn bytes (ended bytes)
  lacking = omega arith

  pub u8_stays : Stays bytes (IsFaultIn bytes) (u8_in bytes)
  u8_stays = byte_stays (IsFaultIn bytes) (ended bytes) lacking bytes

  pub u16_stays : Stays bytes (IsFaultIn bytes) (u16_in bytes)
  u16_stays = number_stays (IsFaultIn bytes) (ended bytes) lacking bytes w16

  pub u32_stays : Stays bytes (IsFaultIn bytes) (u32_in bytes)
  u32_stays = number_stays (IsFaultIn bytes) (ended bytes) lacking bytes w32

  pub u64_stays : Stays bytes (IsFaultIn bytes) (u64_in bytes)
  u64_stays = number_stays (IsFaultIn bytes) (ended bytes) lacking bytes w64

  pub within_stays : (low high : ℕ) → Stays bytes (IsFaultIn bytes) (within low high (u8_in bytes))
  within_stays low high = stays_passing _ Malformed u8_stays here

  pub text_stays : (n : ℕ) → Stays bytes (IsFaultIn bytes) (bytes_at (ended bytes) n bytes)
  text_stays n = bytes_stay (IsFaultIn bytes) (ended bytes) lacking bytes n

  pub counted16_stays : Stays bytes (IsFaultIn bytes) (counted_at (ended bytes) w16 bytes)
  counted16_stays = counted_stays (IsFaultIn bytes) (ended bytes) lacking bytes w16

-- ---- what a reader answers

has_place : (bytes : List ℕ) (f : FormatFault) → IsFaultIn bytes f → IsPlaceIn bytes f
has_place bytes (Malformed o) is = is
has_place bytes NoMemory is = tt

-- where reading is refused at places of the bytes, so is what was returned, unless memory ran out
pub fault_within : {X Y : Type 0} (view : X → Y) (bytes : List ℕ) (r : Result X FormatFault) (read : Result Y FormatFault) → Gives NoMemory view r read → ((f : FormatFault) → read ≡ Err f → IsFaultIn bytes f) → IfErr r (IsPlaceIn bytes)
fault_within view bytes (Ok x) read given within = tt
fault_within view bytes (Err f) read (inl want) within = subst (IsPlaceIn bytes) (sym want) tt
fault_within view bytes (Err f) read (inr refused) within = has_place bytes f (within f refused)
