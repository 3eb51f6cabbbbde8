-- A finding in words and as an exit status, and what reading two frames and writing a finding does.
use Rattle.std.specs.Prelude.{◌≡◌, ℕ, ◌<◌, ◌≤◌, List, [], ◌++◌, length, Option, Some, None, codes, decimal}
use Rattle.std.specs.Int.{w32, to_be_bytes}
use Rattle.std.specs.Io.KnownBytes.{Keeps, Appends, Consumes}
use Rattle.frame_link.specs.declared.frame.Next.{Next}
use Rattle.frame_link.specs.declared.frame.Next.TheVariants as next
use Rattle.frame_link.specs.Faults.{Rose}
use Rattle.frame_link.specs.Next.{TakesFrame}
use Rattle.frame_link.specs.Streams.{stream}
use Rattle.node_file.specs.Opening.{Opening}
use Rattle.frame_link.specs.declared.service.TheConstants.{MAX_PAYLOAD}
use Rattle.node_commands.specs.Checking.{Finds}
use Rattle.node_commands.specs.declared.check.CheckEnd.{CheckEnd}
use Rattle.node_commands.specs.declared.check.CheckEnd.TheVariants as ends
use Rattle.node_commands.specs.declared.check.Halt.{Halt}
use Rattle.node_commands.specs.declared.check.Halt.TheVariants as halt
use Rattle.node_commands.specs.declared.check.TheConstants.{MAX_REPLY}
use Rattle.node_commands.specs.declared.finding.CheckWord.{CheckWord}
use Rattle.node_commands.specs.declared.finding.CheckWord.TheVariants as word
use Rattle.node_commands.specs.declared.finding.Finding.{Finding}
use Rattle.node_commands.specs.declared.finding.Finding.TheVariants.{Granted, Refused}

-- the word that names what is wrong
abbrev pub word_text : CheckWord → List ℕ
word_text word.Request = codes "request"
word_text word.Channel = codes "channel"
word_text word.RequestSeal = codes "request-seal"
word_text word.Reply = codes "reply"
word_text word.Echo = codes "echo"
word_text word.ReplySeal = codes "reply-seal"
word_text word.Status = codes "status"
word_text word.Object = codes "object"
word_text word.Entry = codes "entry"
word_text word.Proof = codes "proof"
word_text word.Conclusion = codes "conclusion"

-- the line that is printed
abbrev pub finding_line : Finding → List ℕ
finding_line (Granted entry lines certs) = codes "granted entry " ++ decimal entry
    ++ codes " lines " ++ decimal lines ++ codes " certificates " ++ decimal certs ++ codes "\n"
finding_line (Refused w) = codes "refused: " ++ word_text w ++ codes "\n"

-- ---- what is taken of the input

-- the input ended, in a frame or before one, or the length word exceeds the limit
abbrev pub IsMissing : Next → Type 0
IsMissing next.End = Unit {0}
IsMissing (next.Truncated have) = Unit {0}
IsMissing (next.TooLong n) = Unit {0}
IsMissing next.Frame = ⊥
IsMissing next.ReadFault = ⊥

-- what came of the next frame, by what the input has left before and after
abbrev pub TakesNext : ℕ → (before after : Option (List ℕ)) → List ℕ → Next → Type 0
TakesNext limit before after payload came =
    TakesFrame limit (stream before 0) (stream after 0) payload came

-- the payload of the next frame, where that is there
abbrev pub TakesOne : ℕ → Option (List ℕ) → Option (List ℕ) → Option (List ℕ) → Type 0
TakesOne limit before after (Some payload) = TakesNext limit before after payload next.Frame
TakesOne limit before after None =
    (other : Next) × IsMissing other × TakesNext limit before after [] other

-- after a frame that is there, this holds of what the input has left
pub record TakesBehind (before : Option (List ℕ)) (payload : List ℕ) (Then : Option (List ℕ) →
    Type 0) : Type 0 where
  -- what the input has left after the first frame
  pub middle : Option (List ℕ)
  pub first : TakesOne MAX_PAYLOAD before middle (Some payload)
  pub behind : Then middle

-- the request's frame, and where that is there the reply's
abbrev pub TakesFrames : Option (List ℕ) → Option (List ℕ) → Option (List ℕ) →
    Option (List ℕ) → Type 0
TakesFrames before after None reply = TakesOne MAX_PAYLOAD before after None × (reply ≡ None)
TakesFrames before after (Some payload) reply =
    TakesBehind before payload (λ middle. TakesOne MAX_REPLY middle after reply)

-- a read failed in a frame, or memory was refused for one, once its length was read
abbrev pub HaltsAt : ℕ → Option (List ℕ) → Option (List ℕ) → Halt → Type 0
HaltsAt limit before after halt.ReadFault = TakesNext limit before after [] next.ReadFault
HaltsAt limit before after halt.NoMemory =
    (n : ℕ) × (n ≤ limit) × Consumes before after (to_be_bytes w32 n)

-- a read failed, or memory was refused, in the first frame or in the second
pub data Halts (before after : Option (List ℕ)) (why : Halt) : Type 0 where
  at_request : HaltsAt MAX_PAYLOAD before after why → Halts before after why
  at_reply : (payload : List ℕ) →
      TakesBehind before payload (λ middle. HaltsAt MAX_REPLY middle after why) →
      Halts before after why

-- ---- what is done

-- both frames were taken, and this is what they show
pub record Shows (o : Opening) (in0 in1 : Option (List ℕ)) (finding : Finding) : Type 0 where
  pub request : Option (List ℕ)
  pub reply : Option (List ℕ)
  pub taken : TakesFrames in0 in1 request reply
  pub finds : Finds o request reply finding

-- memory was refused for a frame, or once both were taken
pub data LacksMemory (in0 in1 : Option (List ℕ)) : Type 0 where
  for_frame : Halts in0 in1 halt.NoMemory → LacksMemory in0 in1
  behind_frames : (request reply : Option (List ℕ)) → TakesFrames in0 in1 request reply →
      LacksMemory in0 in1

-- what is done, by how it ends: the line of the finding was written, or a proper front of it
abbrev pub Checks : Opening → Option (List ℕ) → Option (List ℕ) → Option (List ℕ) →
    Option (List ℕ) → CheckEnd → Type 0
Checks o in0 in1 out0 out1 (ends.Done finding) =
    Shows o in0 in1 finding × Appends out0 out1 (finding_line finding)
Checks o in0 in1 out0 out1 ends.WriteFault =
    (finding : Finding) × Shows o in0 in1 finding ×
    ((part more : List ℕ) × (finding_line finding ≡ part ++ more) × (0 < length more)
    × Appends out0 out1 part)
Checks o in0 in1 out0 out1 ends.ReadFault = Halts in0 in1 halt.ReadFault × Keeps out0 out1
Checks o in0 in1 out0 out1 ends.NoMemory = LacksMemory in0 in1 × Keeps out0 out1

-- the count of the fault that is answered rose, and each other stayed as it was
abbrev pub CheckCauses : ℕ → ℕ → ℕ → ℕ → CheckEnd → Type 0
CheckCauses in0 in1 out0 out1 (ends.Done finding) = (in1 ≡ in0) × (out1 ≡ out0)
CheckCauses in0 in1 out0 out1 ends.WriteFault = (in1 ≡ in0) × (out0 ≤ out1) × Rose out0 out1
CheckCauses in0 in1 out0 out1 ends.ReadFault = (in0 ≤ in1) × Rose in0 in1 × (out1 ≡ out0)
CheckCauses in0 in1 out0 out1 ends.NoMemory = (in1 ≡ in0) × (out1 ≡ out0)

-- the same of the input alone
abbrev pub HaltCauses : ℕ → ℕ → Halt → Type 0
HaltCauses in0 in1 halt.ReadFault = (in0 ≤ in1) × Rose in0 in1
HaltCauses in0 in1 halt.NoMemory = in1 ≡ in0
