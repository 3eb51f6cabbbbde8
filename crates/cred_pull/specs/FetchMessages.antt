-- What goes between a node and a wallet, as payloads of frames.
use Rattle.std.specs.Prelude.{◌≡◌, ◌≢◌, ℕ, ◌<◌, ◌^◌, List, ◌∷◌, ◌++◌, length, Result, Ok, Err, nat_lt}
use Rattle.std.specs.Prelude.{if◌then◌else◌}
use Rattle.std.specs.Int.{w32, w64, to_be_bytes}
use Rattle.byte_fields.specs.declared.fault.FormatFault.{FormatFault}
use Rattle.byte_fields.specs.declared.fault.FormatFault.TheVariants.{Malformed}
use Rattle.byte_fields.specs.Formats.{ended, u32_in, u64_in}
use Rattle.byte_fields.specs.Steps.{◌>>=◌, mark_at}
use Rattle.taos_wire.specs.Request.{certs_bytes}
use Rattle.taos_wire.specs.RequestReading.{certs_at}
use Rattle.cred_pull.specs.declared.limits.TheConstants.{FETCH, GIVES}
use Rattle.cred_pull.specs.Fetching.{Texts, AreWithin, Pull, Gave, Lacked, Failed}

-- what a node writes to fetch the certificates of a channel's request
abbrev pub fetching : (channel seq : ℕ) → List ℕ
fetching channel seq = FETCH ∷ (to_be_bytes w32 channel ++ to_be_bytes w64 seq)

-- what a wallet writes that gives these certificates
abbrev pub giving : Texts → List ℕ
giving certs = GIVES ∷ certs_bytes certs

-- the payload gives these certificates, which are within the bounds
pub record IsGiving (payload : List ℕ) (certs : Texts) : Type 0 where
  pub text : payload ≡ giving certs
  pub within : AreWithin certs

-- the payload is none that gives certificates, however many
abbrev pub IsNoGiving : List ℕ → Type 0
IsNoGiving payload = (certs : Texts) → ¬ IsGiving payload certs

-- what was heard of the payload: the certificates that it gives, unless memory was refused for them
abbrev pub IsHeard : List ℕ → Pull → Type 0
IsHeard payload (Gave certs) = IsGiving payload certs
IsHeard payload Lacked = (certs : Texts) × IsGiving payload certs
IsHeard payload Failed = ⊥

-- the payload asks for no channel's certificates
abbrev pub IsNoFetching : List ℕ → Type 0
IsNoFetching payload =
    (channel seq : ℕ) → channel < 2 ^ 32 → seq < 2 ^ 64 → payload ≢ fetching channel seq

-- ---- the same read from left to right

-- the certificates that a payload gives, and nothing behind them
unfoldable pub given_at : List ℕ → Result Texts FormatFault
given_at payload = do
  at ← mark_at (ended payload) (Malformed 0) GIVES payload 0
  x ← certs_at payload at
  if nat_lt x.1 (length payload) then Err (Malformed x.1) else Ok x.0

-- the channel and the request's number that a payload asks for, and nothing behind them
unfoldable pub asked_at : List ℕ → Result (ℕ × ℕ) FormatFault
asked_at payload = do
  at ← mark_at (ended payload) (Malformed 0) FETCH payload 0
  channel ← u32_in payload at
  seq ← u64_in payload channel.1
  if nat_lt seq.1 (length payload) then Err (Malformed seq.1) else Ok (channel.0, seq.0)
