-- The one spelling of a proof: its canonical table, then its lines over the numbers of that table.
use Rattle.std.specs.Prelude.{ℕ, List, [], ◌∷◌, ◌++◌, length, map}
use Rattle.std.specs.Int.{w16, w32, to_be_bytes}
use Rattle.std.specs.List.{flat_map, position_or_len}
use Rattle.byte_fields.specs.Steps.{counted}
use Rattle.prin_term.specs.Principal.{Principal, Key, Name, And, Quoting, InRole, For}
use Rattle.taos_calculus.specs.declared.line.Node.{Node}
use Rattle.taos_calculus.specs.declared.line.Fact.{Fact}
use Rattle.taos_calculus.specs.declared.line.Step.{Step}
use Rattle.taos_calculus.specs.declared.line.Line.{Line}
use Rattle.taos_calculus.specs.Rules.{Judgement, SpeaksFor, Says, Line as Meaning}
use Rattle.taos_calculus.specs.Tables.{Parts, parts_of}
use Rattle.stmt_codec.specs.Distinct.{same_principal}
use Rattle.taos_calculus.specs.Canonical.{canonical_table}

-- the first place at which a principal stands in a table
abbrev pub place_in : List Principal → Principal → ℕ
place_in table p = position_or_len (same_principal p) table

-- a principal as a node, where number gives the number of each principal
abbrev pub node_of : (Principal → ℕ) → Principal → Node
node_of number (Key k) = Node.Key k
node_of number (Name n) = Node.Name n
node_of number (And a b) = Node.And (number a) (number b)
node_of number (Quoting a b) = Node.Quote (number a) (number b)
node_of number (InRole a r) = Node.AsRole (number a) r
node_of number (For a b) = Node.For (number a) (number b)

-- a judgement as a fact, where number gives the number of each principal
abbrev pub fact_of : (Principal → ℕ) → Judgement → Fact
fact_of number (SpeaksFor left right) = Fact.Speaks (number left) (number right)
fact_of number (Says who left right) = Fact.Says (number who) (number left) (number right)

-- a line over principals as a line over their numbers
abbrev pub line_of : (Principal → ℕ) → Meaning → Line
line_of number l = record { fact = fact_of number l.fact; step = l.step }

-- the parts that lines over principals have: their canonical table, and themselves by its numbers
abbrev pub numbered : List Meaning → Parts
numbered lines =
    parts_of (map (node_of (place_in (canonical_table lines))) (canonical_table lines))
    (map (line_of (place_in (canonical_table lines))) lines)

-- two numbers of principals
abbrev pub pair16 : ℕ → ℕ → List ℕ
pair16 a b = to_be_bytes w16 a ++ to_be_bytes w16 b

-- two numbers of lines
abbrev pub pair32 : ℕ → ℕ → List ℕ
pair32 i j = to_be_bytes w32 i ++ to_be_bytes w32 j

-- a node: its tag, then its operands or its number
abbrev pub node_bytes : Node → List ℕ
node_bytes (Node.Key k) = 1 ∷ to_be_bytes w32 k
node_bytes (Node.Name n) = 2 ∷ to_be_bytes w32 n
node_bytes (Node.And a b) = 3 ∷ pair16 a b
node_bytes (Node.Quote a b) = 4 ∷ pair16 a b
node_bytes (Node.AsRole a r) = 5 ∷ (to_be_bytes w16 a ++ to_be_bytes w32 r)
node_bytes (Node.For a b) = 6 ∷ pair16 a b

-- the numbers that a fact names
abbrev pub fact_bytes : Fact → List ℕ
fact_bytes (Fact.Speaks left right) = pair16 left right
fact_bytes (Fact.Says who left right) =
    to_be_bytes w16 who ++ to_be_bytes w16 left ++ to_be_bytes w16 right

-- the byte that names a rule
abbrev pub rule_byte : Step → ℕ
rule_byte Step.Same = 1
rule_byte (Step.Chain i j) = 2
rule_byte Step.Left = 3
rule_byte Step.Right = 4
rule_byte (Step.Both i j) = 5
rule_byte (Step.Quote i j) = 6
rule_byte (Step.For i j) = 7
rule_byte Step.Role = 8
rule_byte (Step.Anchor i) = 9
rule_byte (Step.Said i) = 10
rule_byte (Step.Lift i j) = 11
rule_byte (Step.Join i j) = 12
rule_byte (Step.HandOff i) = 13
rule_byte (Step.Delegate i) = 14
rule_byte (Step.RoleUnder i) = 15

-- the numbers that a step names
abbrev pub premise_bytes : Step → List ℕ
premise_bytes Step.Same = []
premise_bytes (Step.Chain i j) = pair32 i j
premise_bytes Step.Left = []
premise_bytes Step.Right = []
premise_bytes (Step.Both i j) = pair32 i j
premise_bytes (Step.Quote i j) = pair32 i j
premise_bytes (Step.For i j) = pair32 i j
premise_bytes Step.Role = []
premise_bytes (Step.Anchor i) = to_be_bytes w16 i
premise_bytes (Step.Said i) = to_be_bytes w16 i
premise_bytes (Step.Lift i j) = pair32 i j
premise_bytes (Step.Join i j) = pair32 i j
premise_bytes (Step.HandOff i) = to_be_bytes w32 i
premise_bytes (Step.Delegate i) = to_be_bytes w32 i
premise_bytes (Step.RoleUnder i) = to_be_bytes w32 i

-- a line: its rule, its fact, and the numbers that its step names
abbrev pub line_bytes : Line → List ℕ
line_bytes l = rule_byte l.step ∷ (fact_bytes l.fact ++ premise_bytes l.step)

-- the bytes of parts: the nodes after their count, and the lines after theirs
abbrev pub parts_spelling : Parts → List ℕ
parts_spelling parts =
    to_be_bytes w16 (length parts.nodes) ++ flat_map node_bytes parts.nodes ++
    to_be_bytes w32 (length parts.lines) ++ flat_map line_bytes parts.lines

-- the one spelling of lines over principals
unfoldable pub proof_spelling : List Meaning → List ℕ
proof_spelling lines = parts_spelling (numbered lines)

-- a proof, after its length
unfoldable pub proof_bytes : List Meaning → List ℕ
proof_bytes proof = counted w32 (proof_spelling proof)
