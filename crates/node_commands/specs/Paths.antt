-- What `path` does: the certificate of the first frame passes along a route of domains, or stops.
use Rattle.std.specs.Prelude.{◌≡◌, ℕ, ◌<◌, ◌≤◌, List, [], ◌++◌, length, flat_map, Option, Some, None}
use Rattle.std.specs.Io.KnownBytes.{Appends, Keeps}
use Rattle.frame_link.specs.declared.frame.Next.TheVariants as next
use Rattle.frame_link.specs.Faults.{Rose}
use Rattle.node_commands.specs.Findings.{TakesNext, TakesOne}
use Rattle.node_commands.specs.Words.{PathWords}
use Rattle.relay_core.specs.declared.message.TheConstants.{MAX_CERT}
use Rattle.relay_path.specs.Domains.{DomainKnows}
use Rattle.relay_path.specs.Paths.{IsPath, IsStopped, line_of}
use Rattle.node_commands.specs.declared.path.PathStop.{PathStop}
use Rattle.node_commands.specs.declared.path.PathStop.TheVariants as stop
use Rattle.node_commands.specs.declared.path.PathEnd.{PathEnd}
use Rattle.node_commands.specs.declared.path.PathEnd.TheVariants as ends

-- the bytes of a payload, and none where there is no payload
abbrev pub bytes_or_none : Option (List ℕ) → List ℕ
bytes_or_none None = []
bytes_or_none (Some payload) = payload

-- the input brings the bytes: its first frame has them, or they are none where no whole frame stands
-- first that is as long as a certificate may be
pub record Brings (in0 in1 : Option (List ℕ)) (bytes : List ℕ) : Type 0 where
  pub frame : Option (List ℕ)
  pub taken : TakesOne MAX_CERT in0 in1 frame
  pub are : bytes ≡ bytes_or_none frame

-- memory was refused before anything was read, or behind the frame
pub data LacksRoom (in0 in1 : Option (List ℕ)) : Type 0 where
  before_reading : Keeps in0 in1 → LacksRoom in0 in1
  behind_frame : (bytes : List ℕ) → Brings in0 in1 bytes → LacksRoom in0 in1

module _ (ds : List DomainKnows) (p : PathWords) where
  -- the lines are those of what the domains of the route seal of the bytes
  abbrev pub AreLines : List ℕ → List ℕ → Type 0
  AreLines bytes lines =
      (forms : List (List ℕ)) × IsPath ds p.route p.node bytes forms
      × (lines ≡ flat_map line_of forms)

  -- why there are none: the route stops, or memory
  abbrev pub HasNoLines : List ℕ → PathStop → Type 0
  HasNoLines bytes (stop.Refused hop code) = IsStopped ds p.route p.node bytes hop code
  HasNoLines bytes stop.NoMemory = Unit {0}

  -- What is done, by how it ends: the lines were written, or a proper front of them.
  abbrev pub Passes : Option (List ℕ) → Option (List ℕ) → Option (List ℕ) → Option (List ℕ) →
      PathEnd → Type 0
  Passes in0 in1 out0 out1 ends.Done =
      (bytes lines : List ℕ) × Brings in0 in1 bytes × AreLines bytes lines
      × Appends out0 out1 lines
  Passes in0 in1 out0 out1 (ends.Refused hop code) =
      (bytes : List ℕ) × Brings in0 in1 bytes
      × IsStopped ds p.route p.node bytes hop code × Keeps out0 out1
  Passes in0 in1 out0 out1 ends.ReadFault =
      TakesNext MAX_CERT in0 in1 [] next.ReadFault × Keeps out0 out1
  Passes in0 in1 out0 out1 ends.WriteFault =
      (bytes lines : List ℕ) × Brings in0 in1 bytes × AreLines bytes lines
      × ((part more : List ℕ) × (lines ≡ part ++ more) × (0 < length more)
      × Appends out0 out1 part)
  Passes in0 in1 out0 out1 ends.NoMemory = LacksRoom in0 in1 × Keeps out0 out1

-- the count of the fault that is answered rose, and each other stayed as it was
abbrev pub PathCauses : ℕ → ℕ → ℕ → ℕ → PathEnd → Type 0
PathCauses in0 in1 out0 out1 ends.Done = (in1 ≡ in0) × (out1 ≡ out0)
PathCauses in0 in1 out0 out1 (ends.Refused hop code) = (in1 ≡ in0) × (out1 ≡ out0)
PathCauses in0 in1 out0 out1 ends.ReadFault = (in0 ≤ in1) × Rose in0 in1 × (out1 ≡ out0)
PathCauses in0 in1 out0 out1 ends.WriteFault = (in1 ≡ in0) × (out0 ≤ out1) × Rose out0 out1
PathCauses in0 in1 out0 out1 ends.NoMemory = (in1 ≡ in0) × (out1 ≡ out0)
