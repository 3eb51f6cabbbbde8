-- A connection that is served: the whole frames of an input, and one reply to each.
use Rattle.std.specs.Prelude.{◌≡◌, ◌⊎◌, ℕ, ◌-◌, ◌^◌, ◌<◌, ◌≤◌, List, [], ◌∷◌, ◌++◌, length, map, All, Some, ⊤}
use Rattle.std.specs.Int.{w32, to_be_bytes}
use Rattle.std.specs.Io.KnownBytes.{Appends, Consumes, IsAtEnd}
use Rattle.frame_link.specs.declared.outcome.Outcome.{Outcome}
use Rattle.frame_link.specs.declared.outcome.Outcome.TheVariants.{End, Truncated, TooLong, ReadFault, WriteFault, ClockFault, Spent, NoMemory}
use Rattle.frame_link.specs.declared.service.TheConstants.{MAX_PAYLOAD}
use Rattle.frame_link.specs.Faults.{Rose}
use Rattle.frame_link.specs.Frames.{frame, framed, IsPart, Splits}
use Rattle.frame_link.specs.Streams.{Stream}

-- an input, an output, and who answers
pub record Line (S : Type 0) : Type 0 where
  pub input : Stream
  pub output : Stream
  pub service : S

-- a line of these
abbrev pub line : {S : Type 0} → Stream → Stream → S → Line S
line input output service = record { input = input; output = output; service = service }

-- how often the input, the output and the clock have failed
pub record FaultCounts : Type 0 where
  pub input : ℕ
  pub output : ℕ
  pub clock : ℕ

-- those of a line, by how often who answers was failed by its clock
abbrev pub counts_of : {S : Type 0} → (S → ℕ) → Line S → FaultCounts
counts_of clock l =
    record { input = l.input.faults; output = l.output.faults; clock = clock l.service }

-- a frame's payload with its reply
pub record Turn : Type 0 where
  pub payload : List ℕ
  pub reply : List ℕ

-- the payloads of turns
abbrev pub payloads_of : List Turn → List (List ℕ)
payloads_of turns = map (λ (t : Turn). t.payload) turns

-- the replies of turns
abbrev pub replies_of : List Turn → List (List ℕ)
replies_of turns = map (λ (t : Turn). t.reply) turns

module _ {S : Type 0} (answers : S → List ℕ → List ℕ → S → Type 0) where
  -- each turn leads from the state that the one before left
  abbrev pub Chain : S → List Turn → S → Type 0
  Chain s [] t = t ≡ s
  Chain s (turn ∷ turns) t =
      (next : S) × answers s turn.payload turn.reply next × Chain next turns t

  module _ (gives_up : S → List ℕ → S → Type 0) where
    -- the last payload was given up, and those before it were answered by these turns, in order
    pub record IsGivenUp (s : S) (payloads : List (List ℕ)) (turns : List Turn) (t : S) :
        Type 0 where
      pub last : List ℕ
      pub middle : S
      pub all : payloads ≡ payloads_of turns ++ last ∷ []
      pub chain : Chain s turns middle
      pub given_up : gives_up middle last t

    -- each payload was answered by its turn, in order, but for the last where the clock failed
    abbrev pub AreAnswered : S → List (List ℕ) → List Turn → S → Outcome → Type 0
    AreAnswered s payloads turns t ClockFault = IsGivenUp s payloads turns t
    AreAnswered s payloads turns t _ = (payloads ≡ payloads_of turns) × Chain s turns t

-- what came after the whole frames, by the outcome; of whole frames there are at most so many
abbrev pub EndsAs : ℕ → List (List ℕ) → List ℕ → Stream → Outcome → Type 0
EndsAs limit payloads rest after (End n) =
    (rest ≡ []) × (n ≡ length payloads) × IsAtEnd after.told
EndsAs limit payloads rest after (Truncated have) =
    IsPart MAX_PAYLOAD rest × (length rest ≡ have) × (0 < have) × IsAtEnd after.told
EndsAs limit payloads rest after (TooLong n) =
    (rest ≡ to_be_bytes w32 n) × (MAX_PAYLOAD < n) × (n < 2 ^ 32)
EndsAs limit payloads rest after ReadFault = IsPart MAX_PAYLOAD rest
EndsAs limit payloads rest after WriteFault = (rest ≡ []) × (0 < length payloads)
EndsAs limit payloads rest after ClockFault = rest ≡ []
EndsAs limit payloads rest after (Spent n) =
    (length rest ≡ 1) × (n ≡ length payloads) × (n ≡ limit)
EndsAs limit payloads rest after NoMemory = (rest ≡ []) × (payloads ≡ [])

-- the replies, framed; after a write fault the last of them as a proper front
abbrev pub IsWritten : Outcome → List (List ℕ) → List ℕ → Type 0
IsWritten WriteFault replies bytes =
    (front : List (List ℕ)) × (last part more : List ℕ) × (replies ≡ front ++ last ∷ [])
    × (frame last ≡ part ++ more) × (0 < length more) × (bytes ≡ framed front ++ part)
IsWritten _ replies bytes = bytes ≡ framed replies

module _ {S : Type 0} (answers : S → List ℕ → List ℕ → S → Type 0) where
  module _ (gives_up : S → List ℕ → S → Type 0) where
    -- The bytes that were taken and written, and how the service came from the first state to the
    -- last. At most so many whole frames were taken, and each was answered, in order.
    pub record IsServed (limit : ℕ) (before after : Line S) (outcome : Outcome) : Type 0 where
      -- the bytes that were taken from the input
      pub taken : List ℕ
      -- the payloads of the whole frames among them
      pub payloads : List (List ℕ)
      -- what was taken after the whole frames
      pub rest : List ℕ
      pub turns : List Turn
      -- the bytes that were put on the output
      pub written : List ℕ
      pub took : Consumes before.input.told after.input.told taken
      pub splits : Splits MAX_PAYLOAD taken payloads rest
      pub few : length payloads ≤ limit
      pub ended : EndsAs limit payloads rest after.input outcome
      pub answered : AreAnswered answers gives_up before.service payloads turns after.service
          outcome
      pub went : IsWritten outcome (replies_of turns) written
      pub wrote : Appends before.output.told after.output.told written

-- when a fault may be answered: its count rose, and each other stayed as it was
abbrev pub CountsCause : FaultCounts → FaultCounts → Outcome → Type 0
CountsCause before after ReadFault =
    (before.input ≤ after.input) × Rose before.input after.input
    × (after.output ≡ before.output) × (after.clock ≡ before.clock)
CountsCause before after WriteFault =
    (before.output ≤ after.output) × Rose before.output after.output
    × (after.input ≡ before.input) × (after.clock ≡ before.clock)
CountsCause before after ClockFault =
    (before.clock ≤ after.clock) × Rose before.clock after.clock
    × (after.input ≡ before.input) × (after.output ≡ before.output)
CountsCause before after _ = after ≡ before

-- no count rose, and none stands at the largest u64
pub record StandStill (before after : FaultCounts) : Type 0 where
  pub same : after ≡ before
  pub input : before.input < 2 ^ 64 - 1
  pub output : before.output < 2 ^ 64 - 1
  pub clock : before.clock < 2 ^ 64 - 1

-- the outcome is one of the three faults
abbrev pub IsFault : Outcome → Type 0
IsFault ReadFault = ⊤
IsFault WriteFault = ⊤
IsFault ClockFault = ⊤
IsFault _ = ⊥

module _ {S : Type 0} (clock : S → ℕ) where
  -- the same of the two ends of a line: the counts are of the same input, output and clock as what
  -- was read and written
  abbrev pub HasCauses : (before after : Line S) → Outcome → Type 0
  HasCauses before after outcome =
      CountsCause (counts_of clock before) (counts_of clock after) outcome

  -- nothing fails from the one to the other
  abbrev pub StaysSound : (before after : Line S) → Type 0
  StaysSound before after = StandStill (counts_of clock before) (counts_of clock after)

  -- Nothing else ends a connection early: where the input is whole frames, not more than may be
  -- answered, and no count rises, each is answered, unless memory was refused before the first.
  abbrev pub IsComplete : ℕ → (before after : Line S) → Outcome → Type 0
  IsComplete limit before after outcome =
      (payloads : List (List ℕ)) → before.input.told ≡ Some (framed payloads)
      → All (λ p. length p ≤ MAX_PAYLOAD) payloads → length payloads ≤ limit
      → StaysSound before after
      → (outcome ≡ End (length payloads)) ⊎ (outcome ≡ NoMemory)
