-- What was exchanged gives certificates, or none.
use Rattle.std.proofs.Common.{ℕ, List, Ok, refl, sym, subst}
use Rattle.frame_link.specs.Streams.{Stream}
use Rattle.frame_link.specs.Exchange.{Streams, Stops, unread, ended, cut, too_long, no_answer, Breaks, unwritten, unanswered, IsPayload}
use Rattle.frame_link.specs.Exchange as exchange
use Rattle.cred_pull.specs.Fetching.{Texts, Pull, Gave, Lacked, Failed, IsWithin}
use Rattle.cred_pull.specs.FetchLinks.{IsAnswered, Asks}
use Rattle.cred_pull.specs.FetchMessages.{IsGiving, IsNoGiving, IsHeard}

stopped : (before after : Stream) → Stops 1048594 IsPayload before after → Stops 1048594 IsGiving before after
stopped before after (unread read grew rose) = unread read grew rose
stopped before after (ended read steady) = ended read steady
stopped before after (cut have read steady) = cut have read steady
stopped before after (too_long n read steady) = too_long n read steady
stopped before after (no_answer payload read none steady) = absurd (none payload refl)

-- where no frame came, none that gives certificates did
pub broken : (request : List ℕ) (before after : Streams) → Breaks 1048594 IsPayload request before after → Breaks 1048594 IsGiving request before after
broken request before after (unwritten put grew rose keeps steady) = unwritten put grew rose keeps steady
broken request before after (unanswered wrote steady stops) = unanswered wrote steady (stopped before.input after.input stops)

module _ (request payload : List ℕ) (before after : Streams) (asked : exchange.Asks 1048594 IsPayload {E = Unit {0}} request before after (Ok payload)) where
  answered : (certs : Texts) → IsGiving payload certs → IsAnswered request before after certs
  answered certs is = (
    asked.0,
    asked.1,
    record {
      payload = asked.2.payload;
      read = asked.2.read;
      spells = subst (λ (l : List ℕ). IsGiving l certs) asked.2.spells is;
      steady = asked.2.steady;
    },
  )

  pub heard : (pull : Pull) → IsHeard payload pull → Asks request before after pull
  heard (Gave certs) is = answered certs is
  heard Lacked is = (is.0, answered is.0 is.1)
  heard Failed is = absurd is

  pub unheard : IsNoGiving payload → Breaks 1048594 IsGiving request before after
  unheard none = unanswered asked.0 asked.1 (no_answer asked.2.payload asked.2.read (λ certs is. none certs (subst (λ (l : List ℕ). IsGiving l certs) (sym asked.2.spells) is)) asked.2.steady)

-- what is heard is within the bounds
pub within_heard : (payload : List ℕ) (pull : Pull) → IsHeard payload pull → IsWithin pull
within_heard payload (Gave certs) is = is.within
within_heard payload Lacked is = tt
within_heard payload Failed is = absurd is
