-- One exchange of frames: one is written, and one is read, which spells an answer or does not.
use Rattle.std.specs.Prelude.{◌≡◌, ℕ, ◌≤◌, List, [], Result, Ok, Err}
use Rattle.std.specs.Io.KnownBytes.{Keeps, Appends}
use Rattle.frame_link.specs.declared.frame.Next.TheVariants as next
use Rattle.frame_link.specs.declared.frame.Put.TheVariants as puts
use Rattle.frame_link.specs.Faults.{Rose}
use Rattle.frame_link.specs.Frames.{frame}
use Rattle.frame_link.specs.Next.{TakesFrame, Puts}
use Rattle.frame_link.specs.Streams.{Stream}

-- what is told of the input and the output
pub record Streams : Type 0 where
  pub input : Stream
  pub output : Stream

-- an input and an output
abbrev pub streams : Stream → Stream → Streams
streams input output = record { input = input; output = output }

module _ {A : Type 0} (limit : ℕ) (IsAnswer : List ℕ → A → Type 0) where
  -- why no answer was read, of an input before and after
  pub data Stops (before after : Stream) : Type 0 where
    unread :
        TakesFrame limit before after [] next.ReadFault →
        before.faults ≤ after.faults → Rose before.faults after.faults →
        Stops before after
    ended :
        TakesFrame limit before after [] next.End → after.faults ≡ before.faults →
        Stops before after
    cut : (have : ℕ) →
        TakesFrame limit before after [] (next.Truncated have) →
        after.faults ≡ before.faults →
        Stops before after
    too_long : (n : ℕ) →
        TakesFrame limit before after [] (next.TooLong n) →
        after.faults ≡ before.faults →
        Stops before after
    no_answer : (payload : List ℕ) →
        TakesFrame limit before after payload next.Frame →
        ((answer : A) → ¬ IsAnswer payload answer) →
        after.faults ≡ before.faults →
        Stops before after

  -- a whole frame was read of the input, which spells the answer
  pub record IsRead (before after : Stream) (answer : A) : Type 0 where
    pub payload : List ℕ
    pub read : TakesFrame limit before after payload next.Frame
    pub spells : IsAnswer payload answer
    pub steady : after.faults ≡ before.faults

  -- what was read: a whole frame, which spells the answer; or what stopped it
  abbrev pub Hears : {E : Type 0} → Stream → Stream → Result A E → Type 0
  Hears before after (Ok answer) = IsRead before after answer
  Hears before after (Err e) = Stops before after

  -- why a call failed: the frame could not be written, and nothing was read; or it was, and no
  -- answer was read
  pub data Breaks (request : List ℕ) (before after : Streams) : Type 0 where
    unwritten :
        Puts before.output after.output request puts.WriteFault →
        before.output.faults ≤ after.output.faults →
        Rose before.output.faults after.output.faults →
        Keeps before.input.told after.input.told → after.input.faults ≡ before.input.faults →
        Breaks request before after
    unanswered :
        Appends before.output.told after.output.told (frame request) →
        after.output.faults ≡ before.output.faults → Stops before.input after.input →
        Breaks request before after

  -- a call wrote one frame that asks, and read one frame, which spells the answer; or it broke
  abbrev pub Asks : {E : Type 0} → List ℕ → Streams → Streams → Result A E → Type 0
  Asks request before after (Ok answer) =
      Appends before.output.told after.output.told (frame request)
      × (after.output.faults ≡ before.output.faults) × IsRead before.input after.input answer
  Asks request before after (Err e) = Breaks request before after

-- the payload is what is read
abbrev pub IsPayload : List ℕ → List ℕ → Type 0
IsPayload payload bytes = bytes ≡ payload

-- a frame was written, and a frame read, whatever its payload; or the exchange broke
abbrev pub Exchanges : {E : Type 0} → ℕ → List ℕ → Streams → Streams → Result (Unit {0}) E → List ℕ →
    Type 0
Exchanges limit request before after (Ok done) payload =
    Asks limit IsPayload {E = Unit {0}} request before after (Ok payload)
Exchanges limit request before after (Err e) payload = Breaks limit IsPayload request before after
