-- Which bytes spell a proof.
use Rattle.std.specs.Prelude.{◌≡◌, ◌<◌, ◌^◌, ℕ, Bool, true, false, List, ◌++◌, drop, All}
use Rattle.taos_calculus.specs.declared.line.Node.{Node}
use Rattle.taos_calculus.specs.declared.line.Fact.{Fact}
use Rattle.taos_calculus.specs.declared.line.Step.{Step}
use Rattle.taos_calculus.specs.declared.line.Line.{Line}
use Rattle.taos_calculus.specs.Tables.{Parts, lines_of}
use Rattle.taos_calculus.specs.Limits.{IsProofParts}
use Rattle.taos_calculus.specs.Rules.{Line as Meaning}
use Rattle.taos_calculus.specs.Spelling.{proof_spelling, proof_bytes}

-- the number of a key, of a name or of a role fits its field
abbrev pub NodeFits : Node → Type 0
NodeFits (Node.Key k) = k < 2 ^ 32
NodeFits (Node.Name n) = n < 2 ^ 32
NodeFits (Node.And a b) = Unit {0}
NodeFits (Node.Quote a b) = Unit {0}
NodeFits (Node.AsRole a r) = r < 2 ^ 32
NodeFits (Node.For a b) = Unit {0}

-- the numbers of lines, of an anchor or of a certificate fit their fields
abbrev pub StepFits : Step → Type 0
StepFits Step.Same = Unit {0}
StepFits (Step.Chain i j) = (i < 2 ^ 32) × (j < 2 ^ 32)
StepFits Step.Left = Unit {0}
StepFits Step.Right = Unit {0}
StepFits (Step.Both i j) = (i < 2 ^ 32) × (j < 2 ^ 32)
StepFits (Step.Quote i j) = (i < 2 ^ 32) × (j < 2 ^ 32)
StepFits (Step.For i j) = (i < 2 ^ 32) × (j < 2 ^ 32)
StepFits Step.Role = Unit {0}
StepFits (Step.RoleUnder i) = i < 2 ^ 32
StepFits (Step.Anchor i) = i < 2 ^ 16
StepFits (Step.Said i) = i < 2 ^ 16
StepFits (Step.Lift i j) = (i < 2 ^ 32) × (j < 2 ^ 32)
StepFits (Step.Join i j) = (i < 2 ^ 32) × (j < 2 ^ 32)
StepFits (Step.HandOff i) = i < 2 ^ 32
StepFits (Step.Delegate i) = i < 2 ^ 32

-- whether the fact is a Says
abbrev pub is_says : Fact → Bool
is_says (Fact.Speaks left right) = false
is_says (Fact.Says who left right) = true

-- whether the rule gives a Says
abbrev pub is_saying : Step → Bool
is_saying Step.Same = false
is_saying (Step.Chain i j) = false
is_saying Step.Left = false
is_saying Step.Right = false
is_saying (Step.Both i j) = false
is_saying (Step.Quote i j) = false
is_saying (Step.For i j) = false
is_saying Step.Role = false
is_saying (Step.RoleUnder i) = false
is_saying (Step.Anchor i) = false
is_saying (Step.Said i) = true
is_saying (Step.Lift i j) = true
is_saying (Step.Join i j) = true
is_saying (Step.HandOff i) = false
is_saying (Step.Delegate i) = false

-- the fact is of the kind that the rule gives, and the premises' numbers fit their fields
abbrev pub LineFits : Line → Type 0
LineFits l = (is_says l.fact ≡ is_saying l.step) × StepFits l.step

-- parts of a proof, with numbers that fit their fields and facts of the kinds that their rules give
pub record FitsProof (parts : Parts) : Type 0 where
  pub proof : IsProofParts parts
  pub nodes : All NodeFits parts.nodes
  pub lines : All LineFits parts.lines

-- the bytes are the one spelling of the lines that the parts mean
pub record Spells (parts : Parts) (bytes : List ℕ) : Type 0 where
  pub limits : FitsProof parts
  pub text : bytes ≡ proof_spelling (lines_of parts)

-- these are the lines that some parts within the limits mean, so they have a spelling
pub record IsProof (lines : List Meaning) : Type 0 where
  pub parts : Parts
  pub limits : FitsProof parts
  pub meaning : lines_of parts ≡ lines

-- the bytes from an offset on begin with these lines after their length, which are within the
-- limits
pub record IsProofAt (bytes : List ℕ) (at : ℕ) (lines : List Meaning) : Type 0 where
  pub text : (rest : List ℕ) × (drop at bytes ≡ proof_bytes lines ++ rest)
  pub limits : IsProof lines
