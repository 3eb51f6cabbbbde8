-- What was exchanged spells an answer, or none.
use Rattle.std.proofs.Common.{◌≡◌, ℕ, List, Ok, refl, sym, subst}
use Rattle.frame_link.specs.declared.outside.RelayAnswer.{RelayAnswer}
use Rattle.frame_link.specs.Streams.{Stream}
use Rattle.frame_link.specs.Exchange.{Streams, Stops, unread, ended, cut, too_long, no_answer, Breaks, unwritten, unanswered, IsPayload}
use Rattle.frame_link.specs.Exchange as exchange
use Rattle.relay_core.specs.Messages.{IsAnswer, IsNoAnswer}
use Rattle.relay_core.specs.Links.{Spelled}

stopped : (before after : Stream) → Stops 65536 IsPayload before after → Stops 65536 Spelled before after
stopped before after (unread read grew rose) = unread read grew rose
stopped before after (ended read steady) = ended read steady
stopped before after (cut have read steady) = cut have read steady
stopped before after (too_long n read steady) = too_long n read steady
stopped before after (no_answer payload read none steady) = absurd (none payload refl)

-- where no frame came, none that spells an answer did
pub broken : (request : List ℕ) (before after : Streams) → Breaks 65536 IsPayload request before after → Breaks 65536 Spelled request before after
broken request before after (unwritten put grew rose keeps steady) = unwritten put grew rose keeps steady
broken request before after (unanswered wrote steady stops) = unanswered wrote steady (stopped before.input after.input stops)

module _ (request payload : List ℕ) (before after : Streams) (asked : exchange.Asks 65536 IsPayload {E = Unit {0}} request before after (Ok payload)) where
  pub spelled : (answer : RelayAnswer) (out : List ℕ) → IsAnswer payload answer out → exchange.Asks 65536 Spelled {E = Unit {0}} request before after (Ok (answer, out))
  spelled answer out is = (
    asked.0,
    asked.1,
    record {
      payload = asked.2.payload;
      read = asked.2.read;
      spells = subst (λ (l : List ℕ). IsAnswer l answer out) asked.2.spells is;
      steady = asked.2.steady;
    },
  )

  pub unspelled : IsNoAnswer payload → Breaks 65536 Spelled request before after
  unspelled none = unanswered asked.0 asked.1 (no_answer asked.2.payload asked.2.read (λ x is. none x.0 x.1 (subst (λ (l : List ℕ). IsAnswer l x.0 x.1) (sym asked.2.spells) is)) asked.2.steady)
