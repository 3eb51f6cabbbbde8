-- Reading a proof from left to right, with the first fault that is met.
use Rattle.std.specs.Prelude.{ℕ, ◌+◌, Bool, true, false, ◌&&◌, ◌||◌, List, [], ◌∷◌, length}
use Rattle.std.specs.Prelude.{take, Result, Ok, Err, nat_lt, nat_le, ◌==◌, if◌then◌else◌}
use Rattle.prin_term.specs.Principal.{Principal}
use Rattle.byte_fields.specs.Formats.{FormatReader, ended, u8_in, u16_in, u32_in}
use Rattle.byte_fields.specs.Readers.{followed, passing, made, given, counted}
use Rattle.byte_fields.specs.Steps.{◌>>=◌, bytes_at}
use Rattle.stmt_codec.specs.Distinct.{same_principal}
use Rattle.byte_fields.specs.declared.fault.FormatFault.{FormatFault as ProofFault}
use Rattle.byte_fields.specs.declared.fault.FormatFault.TheVariants.{Malformed}
use Rattle.taos_calculus.specs.declared.line.Node.{Node}
use Rattle.taos_calculus.specs.declared.line.Fact.{Fact}
use Rattle.taos_calculus.specs.declared.line.Step.{Step}
use Rattle.taos_calculus.specs.declared.line.Line.{Line}
use Rattle.taos_calculus.specs.declared.reading_nodes.NodeShape.{NodeShape}
use Rattle.taos_calculus.specs.declared.reading_nodes.NodeShape.TheVariants.{Atom, Role, Pair}
use Rattle.taos_calculus.specs.declared.reading_lines.StepShape.{StepShape}
use Rattle.taos_calculus.specs.declared.reading_lines.StepShape.TheVariants.{Bare, Place}
use Rattle.taos_calculus.specs.declared.reading_lines.StepShape.TheVariants.{OneLine, TwoLines}
use Rattle.taos_calculus.specs.declared.proof.TheConstants.{MAX_NODES, MAX_LINES}
use Rattle.taos_calculus.specs.Tables.{Parts, parts_of, principals_of, lines_of}
use Rattle.taos_calculus.specs.Canonical.{canonical_table}
use Rattle.taos_calculus.specs.Rules.{Line as Meaning}

-- a reader of some bytes, with the faults of proofs, which are those of all formats
abbrev pub ProofReader : Type 0 → Type 0
ProofReader A = FormatReader A

-- a byte from 1 to the last; another is refused
abbrev pub byte_up_to : ℕ → List ℕ → ProofReader ℕ
byte_up_to last bytes = passing (λ b. nat_le 1 b && nat_le b last) Malformed (u8_in bytes)

-- the number of one of n nodes; another is refused at its first byte
abbrev pub number_in : ℕ → List ℕ → ProofReader ℕ
number_in n bytes = passing (λ k. nat_lt k n) Malformed (u16_in bytes)

-- the numbers of two of n nodes
unfoldable pub pair_in : ℕ → List ℕ → ProofReader (ℕ × ℕ)
pair_in n bytes = followed (number_in n bytes) (λ _. number_in n bytes)

-- ---- nodes

-- what stands after a tag: two operands or one, and a number; what a tag does not have is 0
abbrev pub NodeFields : Type 0
NodeFields = (ℕ × ℕ) × ℕ

-- which fields the node of a tag has
abbrev pub node_shape : ℕ → NodeShape
node_shape tag = if tag == 1 || tag == 2 then Atom else (if tag == 5 then Role else Pair)

-- the fields of a node of this shape, whose operands are among n others
unfoldable pub node_fields_at : List ℕ → ℕ → NodeShape → ProofReader NodeFields
node_fields_at bytes n Atom = made (λ k. ((0, 0), k)) (u32_in bytes)
node_fields_at bytes n Role =
    made (λ x. ((x.0, 0), x.1)) (followed (number_in n bytes) (λ _. u32_in bytes))
node_fields_at bytes n Pair = made (λ p. (p, 0)) (pair_in n bytes)

-- the node of a tag from 1 to 6
abbrev pub node_tagged : ℕ → NodeFields → Node
node_tagged tag x =
    if tag == 1 then Node.Key x.1
    else (if tag == 2 then Node.Name x.1
    else (if tag == 3 then Node.And x.0.0 x.0.1
    else (if tag == 4 then Node.Quote x.0.0 x.0.1
    else (if tag == 5 then Node.AsRole x.0.0 x.1
    else Node.For x.0.0 x.0.1))))

-- a node that stands after n others
unfoldable pub node_at : List ℕ → ℕ → ProofReader Node
node_at bytes n =
    made (λ x. x.1)
    (followed (byte_up_to 6 bytes)
    (λ tag. made (node_tagged tag) (node_fields_at bytes n (node_shape tag))))

-- the nodes, after their count
unfoldable pub nodes_at : List ℕ → ProofReader (List Node)
nodes_at bytes =
    counted MAX_NODES Malformed (u16_in bytes) (λ before. node_at bytes (length before))

-- ---- lines

-- whether the rule of a byte gives a Says
abbrev pub gives_says : ℕ → Bool
gives_says rule = rule == 10 || (rule == 11 || rule == 12)

-- the fact of a rule, over the numbers of n nodes
unfoldable pub fact_at : List ℕ → ℕ → ℕ → ProofReader Fact
fact_at bytes n rule at =
    if gives_says rule
    then made (λ x. Fact.Says x.0 x.1.0 x.1.1)
    (followed (number_in n bytes) (λ _. pair_in n bytes)) at
    else made (λ p. Fact.Speaks p.0 p.1) (pair_in n bytes) at

-- what stands after a fact: the number of an anchor or a certificate, or those of two lines or one;
-- what a rule does not have is 0
abbrev pub Premises : Type 0
Premises = ℕ × (ℕ × ℕ)

-- which numbers the step of a rule names
abbrev pub step_shape : ℕ → StepShape
step_shape rule =
    if rule == 1 || (rule == 3 || (rule == 4 || rule == 8)) then Bare
    else (if rule == 9 || rule == 10 then Place
    else (if rule == 13 || (rule == 14 || rule == 15) then OneLine
    else TwoLines))

-- the numbers that a step of this shape names
unfoldable pub premises_at : List ℕ → StepShape → ProofReader Premises
premises_at bytes Bare = given (0, (0, 0))
premises_at bytes Place = made (λ i. (i, (0, 0))) (u16_in bytes)
premises_at bytes OneLine = made (λ i. (0, (i, 0))) (u32_in bytes)
premises_at bytes TwoLines = made (λ p. (0, p)) (followed (u32_in bytes) (λ _. u32_in bytes))

-- the step of a rule from 1 to 15
abbrev pub step_ruled : ℕ → Premises → Step
step_ruled rule x =
    if rule == 1 then Step.Same
    else (if rule == 2 then Step.Chain x.1.0 x.1.1
    else (if rule == 3 then Step.Left
    else (if rule == 4 then Step.Right
    else (if rule == 5 then Step.Both x.1.0 x.1.1
    else (if rule == 6 then Step.Quote x.1.0 x.1.1
    else (if rule == 7 then Step.For x.1.0 x.1.1
    else (if rule == 8 then Step.Role
    else (if rule == 9 then Step.Anchor x.0
    else (if rule == 10 then Step.Said x.0
    else (if rule == 11 then Step.Lift x.1.0 x.1.1
    else (if rule == 12 then Step.Join x.1.0 x.1.1
    else (if rule == 13 then Step.HandOff x.1.0
    else (if rule == 14 then Step.Delegate x.1.0
    else Step.RoleUnder x.1.0)))))))))))))

-- the step of a rule
unfoldable pub step_at : List ℕ → ℕ → ProofReader Step
step_at bytes rule = made (step_ruled rule) (premises_at bytes (step_shape rule))

-- a line over the numbers of n nodes
unfoldable pub line_at : List ℕ → ℕ → ProofReader Line
line_at bytes n =
    made (λ x. record { fact = x.1.0; step = x.1.1 })
    (followed (byte_up_to 15 bytes)
    (λ rule. followed (fact_at bytes n rule) (λ _. step_at bytes rule)))

-- the lines, after their count
unfoldable pub lines_at : List ℕ → ℕ → ProofReader (List Line)
lines_at bytes n = counted MAX_LINES Malformed (u32_in bytes) (λ _. line_at bytes n)

-- ---- the whole

-- the nodes and the lines
unfoldable pub parts_at : List ℕ → ProofReader Parts
parts_at bytes =
    made (λ x. parts_of x.0 x.1)
    (followed (nodes_at bytes) (λ nodes. lines_at bytes (length nodes)))

-- whether two lists of principals are equal
abbrev pub same_principals : List Principal → List Principal → Bool
same_principals [] [] = true
same_principals (p ∷ ps) (q ∷ qs) = same_principal p q && same_principals ps qs
same_principals _ _ = false

-- whether the table is the canonical one of the lines
unfoldable pub is_canonical : Parts → Bool
is_canonical parts = same_principals (principals_of parts.nodes) (canonical_table (lines_of parts))

-- the proof that all of the bytes from an offset on spell, or the fault: another table is refused
-- at its first byte, and then what stands after the last line
unfoldable pub proof_from : List ℕ → ℕ → Result Parts ProofFault
proof_from bytes at = do
  x ← parts_at bytes at
  if is_canonical x.0
      then (if nat_lt x.1 (length bytes) then Err (Malformed x.1) else Ok x.0)
      else Err (Malformed at)

-- the proof that all of the bytes spell, or the fault. The clauses of `read_proof` pin it to
-- `Spells`, which does not read
abbrev pub proof_of : List ℕ → Result Parts ProofFault
proof_of bytes = proof_from bytes 0

-- the proof that fills so many bytes at an offset; faults are told by their offsets in all of the
-- bytes
unfoldable pub proof_filling : List ℕ → ℕ → ProofReader Parts
proof_filling bytes n at = do
  text ← bytes_at (ended bytes) n bytes at
  parts ← proof_from (take (at + n) bytes) at
  Ok (parts, text.1)

-- a length, and the lines of the proof that fills it
unfoldable pub proof_at : List ℕ → ProofReader (List Meaning)
proof_at bytes =
    made (λ x. lines_of x.1)
    (followed (u32_in bytes) (λ n. proof_filling bytes n))
