-- What a payload asks for, read from left to right.
use Rattle.std.specs.Prelude.{◌≡◌, ℕ, List, [], drop, Result, Ok, Err}
use Rattle.std.specs.Int.{w32}
use Rattle.keyed_seal.specs.Keys.{Entries}
use Rattle.byte_fields.specs.Steps.{◌>>=◌, mark_at, number_at}
use Rattle.frame_link.specs.declared.outside.RelayAnswer.{RelayAnswer}
use Rattle.frame_link.specs.declared.outside.RelayAnswer.TheVariants.{Resealed, Refused, NoMemory}
use Rattle.frame_link.specs.Relay.{IsSaid}
use Rattle.relay_core.specs.declared.code.TheConstants.{MALFORMED}
use Rattle.relay_core.specs.declared.message.TheConstants.{ASK, RESEALED, NO_MEMORY}
use Rattle.relay_core.specs.Resealing.{resealed}

-- the node, and where the certificate begins
unfoldable pub asked_at : List ℕ → Result (ℕ × ℕ) ℕ
asked_at payload = do
  at ← mark_at MALFORMED MALFORMED ASK payload 0
  number_at MALFORMED w32 payload at

-- the answer to what was read, and the new certificate: a payload that asks for none is refused
abbrev pub AnswersTo : Entries → Entries → List ℕ → Result (ℕ × ℕ) ℕ → RelayAnswer → List ℕ → Type 0
AnswersTo issuers nodes payload (Ok x) answer out =
    IsSaid (resealed issuers nodes x.0 (drop x.1 payload)) answer out
AnswersTo issuers nodes payload (Err code) answer out = (answer ≡ Refused code) × (out ≡ [])

-- the second byte of an answer
abbrev pub second_of : RelayAnswer → ℕ
second_of Resealed = RESEALED
second_of (Refused code) = code
second_of NoMemory = NO_MEMORY
