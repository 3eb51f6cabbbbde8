-- A link that speaks frames with a relay.
use Rattle.std.specs.Prelude.{◌≡◌, ℕ, List, [], Result, Ok, Err, ◌≤◌, None}
use Rattle.frame_link.specs.declared.outside.RelayAnswer.{RelayAnswer}
use Rattle.frame_link.specs.Exchange as exchange
pub use Rattle.frame_link.specs.Exchange.{Streams, streams}
use Rattle.std.specs.Io.KnownBytes.{Keeps, Appends}
use Rattle.frame_link.specs.declared.frame.Next.TheVariants as next
use Rattle.frame_link.specs.declared.frame.Put.TheVariants as puts
use Rattle.frame_link.specs.Faults.{Rose}
use Rattle.frame_link.specs.Frames.{frame}
use Rattle.frame_link.specs.Next.{TakesFrame, Puts}
use Rattle.frame_link.specs.Relay as relays
use Rattle.frame_link.specs.Streams.{Stream}
use Rattle.relay_core.specs.declared.message.TheConstants.{MAX_FRAME}
use Rattle.relay_core.specs.Messages.{IsAnswer}

-- what a contract sees of a link
pub record Link (I O : Type 0) : Type 0 where
  -- what it reads from
  pub input : I
  -- what it writes to
  pub output : O
  -- how often it was called, and how often a call has failed
  pub calls : ℕ
  pub faults : ℕ

-- the payload spells an answer, with the certificate that it brings
abbrev pub Spelled : List ℕ → RelayAnswer × List ℕ → Type 0
Spelled payload x = IsAnswer payload x.0 x.1

-- what such a link shows: it does not tell what its relay says
abbrev pub shown_link : {I O : Type 0} → Link I O → relays.Link
shown_link l = relays.link None l.calls l.faults

-- a call wrote one frame that asks, and read one frame, which spells the answer; or it broke
abbrev pub Asks : {E : Type 0} → List ℕ → Streams → Streams → Result RelayAnswer E → List ℕ →
    Type 0
Asks request before after (Ok answer) out =
    exchange.Asks MAX_FRAME Spelled {E = Unit {0}} request before after (Ok (answer, out))
Asks request before after (Err e) out =
    (out ≡ []) × exchange.Breaks MAX_FRAME Spelled request before after
