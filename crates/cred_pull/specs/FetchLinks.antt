-- A fetch that speaks frames with a wallet.
use Rattle.std.specs.Prelude.{ℕ, List, Ok, None}
use Rattle.frame_link.specs.Exchange as exchange
pub use Rattle.frame_link.specs.Exchange.{Streams, streams}
use Rattle.cred_pull.specs.declared.limits.TheConstants.{MAX_ANSWER}
use Rattle.cred_pull.specs.Fetching.{Texts, FetchSeen, fetch_of, Pull, Gave, Lacked, Failed}
use Rattle.cred_pull.specs.FetchMessages.{IsGiving}

-- what a contract sees of such a fetch
pub record FetchLink (I O : Type 0) : Type 0 where
  -- what it reads from
  pub input : I
  -- what it writes to
  pub output : O
  -- how often a call has failed
  pub faults : ℕ

-- what it shows: it does not tell what its wallet answers
abbrev pub shown_fetch : {I O : Type 0} → FetchLink I O → FetchSeen
shown_fetch l = fetch_of None l.faults

-- one frame was written that asks, and one was read that gives these certificates
abbrev pub IsAnswered : List ℕ → Streams → Streams → Texts → Type 0
IsAnswered request before after certs =
    exchange.Asks MAX_ANSWER IsGiving {E = Unit {0}} request before after (Ok certs)

-- a call was answered, or memory was refused for what was answered; or the exchange broke
abbrev pub Asks : List ℕ → Streams → Streams → Pull → Type 0
Asks request before after (Gave certs) = IsAnswered request before after certs
Asks request before after Lacked = (certs : Texts) × IsAnswered request before after certs
Asks request before after Failed = exchange.Breaks MAX_ANSWER IsGiving request before after
