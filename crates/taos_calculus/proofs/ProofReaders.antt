-- The fields of a proof: what is read is spelled so, and the other way.
use Rattle.std.proofs.Common.{◌≡◌, ℕ, zero, suc, ◌^◌, ◌<◌, ◌≤◌, Bool, true, false, ◌&&◌, leb, ltb, List, [], ◌∷◌, ◌++◌, refl, sym, ap, subst, ◌∙◌, arith}
use Rattle.std.specs.Int.{w16, w32, to_be_bytes}
use Rattle.std.proofs.lemmas.Bool.{ltb-true, lt-ltb}
use Rattle.std.proofs.lemmas.Bool.Decides.{nat_tests}
use Rattle.byte_fields.proofs.FieldLaws.{wide16, wide32}
use Rattle.byte_fields.proofs.FieldReaders.{reads_given, reads_if}
use Rattle.byte_fields.proofs.ReaderLaws.{Reads, reads_byte, reads_number, reads_followed, reads_passing, reads_made, reads_as}
use Rattle.byte_fields.specs.declared.fault.FormatFault.TheVariants.{Malformed}
use Rattle.taos_calculus.specs.declared.line.Node.{Node}
use Rattle.taos_calculus.specs.declared.line.Fact.{Fact}
use Rattle.taos_calculus.specs.declared.line.Step.{Step}
use Rattle.taos_calculus.specs.declared.line.Line.{Line}
use Rattle.taos_calculus.specs.declared.reading_nodes.NodeShape.{NodeShape}
use Rattle.taos_calculus.specs.declared.reading_nodes.NodeShape.TheVariants.{Atom, Role, Pair}
use Rattle.taos_calculus.specs.declared.reading_lines.StepShape.{StepShape}
use Rattle.taos_calculus.specs.declared.reading_lines.StepShape.TheVariants.{Bare, Place, OneLine, TwoLines}
use Rattle.taos_calculus.specs.Spelling.{pair16, pair32, node_bytes, fact_bytes, rule_byte, premise_bytes, line_bytes}
use Rattle.taos_calculus.specs.Spells.{StepFits, LineFits, is_says, is_saying}
use Rattle.byte_fields.specs.Formats.{ended, u16_in, u32_in}
use Rattle.taos_calculus.specs.ProofReading.{byte_up_to, number_in, pair_in, NodeFields, node_shape, node_fields_at, node_tagged, node_at, gives_says, fact_at, Premises, step_shape, premises_at, step_ruled, step_at, line_at}

-- one of so many bytes
pub one_of_six : (P : ℕ → Type 0) → P 1 → P 2 → P 3 → P 4 → P 5 → P 6 → (k : ℕ) → 1 ≤ k → k ≤ 6 → P k
one_of_six P a b c d e f zero low high = absurd (omega (arith, low))
one_of_six P a b c d e f (suc zero) low high = a
one_of_six P a b c d e f (suc (suc zero)) low high = b
one_of_six P a b c d e f (suc (suc (suc zero))) low high = c
one_of_six P a b c d e f (suc (suc (suc (suc zero)))) low high = d
one_of_six P a b c d e f (suc (suc (suc (suc (suc zero))))) low high = e
one_of_six P a b c d e f (suc (suc (suc (suc (suc (suc zero)))))) low high = f
one_of_six P a b c d e f (suc (suc (suc (suc (suc (suc (suc k))))))) low high = absurd (omega (arith, high))

-- the number of one of n nodes, in two bytes
abbrev pub IsNumber : ℕ → ℕ → Type 0
IsNumber n k = (k < n) × (k < 2 ^ 16)

-- a node behind n others, whose numbers fit
abbrev pub FitsNode : ℕ → Node → Type 0
FitsNode n (Node.Key k) = k < 2 ^ 32
FitsNode n (Node.Name k) = k < 2 ^ 32
FitsNode n (Node.And a b) = IsNumber n a × IsNumber n b
FitsNode n (Node.Quote a b) = IsNumber n a × IsNumber n b
FitsNode n (Node.AsRole a r) = IsNumber n a × (r < 2 ^ 32)
FitsNode n (Node.For a b) = IsNumber n a × IsNumber n b

abbrev tag_of : Node → ℕ
tag_of (Node.Key k) = 1
tag_of (Node.Name k) = 2
tag_of (Node.And a b) = 3
tag_of (Node.Quote a b) = 4
tag_of (Node.AsRole a r) = 5
tag_of (Node.For a b) = 6

abbrev fields_of : Node → NodeFields
fields_of (Node.Key k) = ((0, 0), k)
fields_of (Node.Name k) = ((0, 0), k)
fields_of (Node.And a b) = ((a, b), 0)
fields_of (Node.Quote a b) = ((a, b), 0)
fields_of (Node.AsRole a r) = ((a, 0), r)
fields_of (Node.For a b) = ((a, b), 0)

abbrev fields_bytes : NodeShape → NodeFields → List ℕ
fields_bytes Atom x = to_be_bytes w32 x.1
fields_bytes Role x = to_be_bytes w16 x.0.0 ++ to_be_bytes w32 x.1
fields_bytes Pair x = pair16 x.0.0 x.0.1

abbrev FitShape : ℕ → NodeShape → NodeFields → Type 0
FitShape n Atom x = (x.0 ≡ (0, 0)) × (x.1 < 2 ^ 32)
FitShape n Role x = IsNumber n x.0.0 × (x.0.1 ≡ 0) × (x.1 < 2 ^ 32)
FitShape n Pair x = (IsNumber n x.0.0 × IsNumber n x.0.1) × (x.1 ≡ 0)

abbrev behind_tag : Node → List ℕ
behind_tag node = fields_bytes (node_shape (tag_of node)) (fields_of node)

abbrev OfTag : ℕ → ℕ → Node → Type 0
OfTag n tag node = FitsNode n node × (tag_of node ≡ tag)

node_again : (n tag : ℕ) (node : Node) → OfTag n tag node → FitShape n (node_shape tag) (fields_of node) × (behind_tag node ≡ fields_bytes (node_shape tag) (fields_of node)) × (node_tagged tag (fields_of node) ≡ node)
node_again n tag node is =
    subst (λ (t : ℕ). FitShape n (node_shape t) (fields_of node) × (behind_tag node ≡ fields_bytes (node_shape t) (fields_of node)) × (node_tagged t (fields_of node) ≡ node)) is.1
    (by node is.0)
  where
    by : (node : Node) → FitsNode n node → FitShape n (node_shape (tag_of node)) (fields_of node) × (behind_tag node ≡ fields_bytes (node_shape (tag_of node)) (fields_of node)) × (node_tagged (tag_of node) (fields_of node) ≡ node)
    by (Node.Key k) h = ((refl, h), refl, refl)
    by (Node.Name k) h = ((refl, h), refl, refl)
    by (Node.And a b) h = ((h, refl), refl, refl)
    by (Node.Quote a b) h = ((h, refl), refl, refl)
    by (Node.AsRole a r) h = ((h.0, refl, h.1), refl, refl)
    by (Node.For a b) h = ((h, refl), refl, refl)

abbrev Tagged : ℕ → ℕ → Type 0
Tagged n tag = (x : NodeFields) → FitShape n (node_shape tag) x → OfTag n tag (node_tagged tag x) × (fields_bytes (node_shape tag) x ≡ behind_tag (node_tagged tag x))

node_is_tagged : (n tag : ℕ) → 1 ≤ tag → tag ≤ 6 → Tagged n tag
node_is_tagged n tag low high =
    one_of_six (Tagged n) (λ x h. ((h.1, refl), refl)) (λ x h. ((h.1, refl), refl)) (λ x h. ((h.0, refl), refl)) (λ x h. ((h.0, refl), refl)) (λ x h. (((h.0, h.2), refl), refl)) (λ x h. ((h.0, refl), refl))
    tag low high

node_is_bytes : (node : Node) → tag_of node ∷ behind_tag node ≡ node_bytes node
node_is_bytes (Node.Key k) = refl
node_is_bytes (Node.Name k) = refl
node_is_bytes (Node.And a b) = refl
node_is_bytes (Node.Quote a b) = refl
node_is_bytes (Node.AsRole a r) = refl
node_is_bytes (Node.For a b) = refl

tag_within : (node : Node) → (1 ≤ tag_of node) × (tag_of node ≤ 6)
tag_within (Node.Key k) = (omega arith, omega arith)
tag_within (Node.Name k) = (omega arith, omega arith)
tag_within (Node.And a b) = (omega arith, omega arith)
tag_within (Node.Quote a b) = (omega arith, omega arith)
tag_within (Node.AsRole a r) = (omega arith, omega arith)
tag_within (Node.For a b) = (omega arith, omega arith)

-- one of so many rules
pub one_of_fifteen : (P : ℕ → Type 0) → P 1 → P 2 → P 3 → P 4 → P 5 → P 6 → P 7 → P 8 → P 9 → P 10 → P 11 → P 12 → P 13 → P 14 → P 15 → (k : ℕ) → 1 ≤ k → k ≤ 15 → P k
one_of_fifteen P a b c d e f g h i j k l m n o zero low high = absurd (omega (arith, low))
one_of_fifteen P a b c d e f g h i j k l m n o (suc zero) low high = a
one_of_fifteen P a b c d e f g h i j k l m n o (suc (suc zero)) low high = b
one_of_fifteen P a b c d e f g h i j k l m n o (suc (suc (suc zero))) low high = c
one_of_fifteen P a b c d e f g h i j k l m n o (suc (suc (suc (suc zero)))) low high = d
one_of_fifteen P a b c d e f g h i j k l m n o (suc (suc (suc (suc (suc zero))))) low high = e
one_of_fifteen P a b c d e f g h i j k l m n o (suc (suc (suc (suc (suc (suc zero)))))) low high = f
one_of_fifteen P a b c d e f g h i j k l m n o (suc (suc (suc (suc (suc (suc (suc zero))))))) low high = g
one_of_fifteen P a b c d e f g h i j k l m n o (suc (suc (suc (suc (suc (suc (suc (suc zero)))))))) low high = h
one_of_fifteen P a b c d e f g h i j k l m n o (suc (suc (suc (suc (suc (suc (suc (suc (suc zero))))))))) low high = i
one_of_fifteen P a b c d e f g h i j k l m n o (suc (suc (suc (suc (suc (suc (suc (suc (suc (suc zero)))))))))) low high = j
one_of_fifteen P a b c d e f g h i j k l m n o (suc (suc (suc (suc (suc (suc (suc (suc (suc (suc (suc zero))))))))))) low high = k
one_of_fifteen P a b c d e f g h i j k l m n o (suc (suc (suc (suc (suc (suc (suc (suc (suc (suc (suc (suc zero)))))))))))) low high = l
one_of_fifteen P a b c d e f g h i j k l m n o (suc (suc (suc (suc (suc (suc (suc (suc (suc (suc (suc (suc (suc zero))))))))))))) low high = m
one_of_fifteen P a b c d e f g h i j k l m n o (suc (suc (suc (suc (suc (suc (suc (suc (suc (suc (suc (suc (suc (suc zero)))))))))))))) low high = n
one_of_fifteen P a b c d e f g h i j k l m n o (suc (suc (suc (suc (suc (suc (suc (suc (suc (suc (suc (suc (suc (suc (suc zero))))))))))))))) low high = o
one_of_fifteen P a b c d e f g h i j k l m n o (suc (suc (suc (suc (suc (suc (suc (suc (suc (suc (suc (suc (suc (suc (suc (suc more)))))))))))))))) low high = absurd (omega (arith, high))

-- ---- steps

abbrev premises_in : Step → Premises
premises_in Step.Same = (0, (0, 0))
premises_in (Step.Chain i j) = (0, (i, j))
premises_in Step.Left = (0, (0, 0))
premises_in Step.Right = (0, (0, 0))
premises_in (Step.Both i j) = (0, (i, j))
premises_in (Step.Quote i j) = (0, (i, j))
premises_in (Step.For i j) = (0, (i, j))
premises_in Step.Role = (0, (0, 0))
premises_in (Step.RoleUnder i) = (0, (i, 0))
premises_in (Step.Anchor i) = (i, (0, 0))
premises_in (Step.Said i) = (i, (0, 0))
premises_in (Step.Lift i j) = (0, (i, j))
premises_in (Step.Join i j) = (0, (i, j))
premises_in (Step.HandOff i) = (0, (i, 0))
premises_in (Step.Delegate i) = (0, (i, 0))

abbrev shaped_bytes : StepShape → Premises → List ℕ
shaped_bytes Bare x = []
shaped_bytes Place x = to_be_bytes w16 x.0
shaped_bytes OneLine x = to_be_bytes w32 x.1.0
shaped_bytes TwoLines x = pair32 x.1.0 x.1.1

abbrev FitPremises : StepShape → Premises → Type 0
FitPremises Bare x = x ≡ (0, (0, 0))
FitPremises Place x = (x.0 < 2 ^ 16) × (x.1 ≡ (0, 0))
FitPremises OneLine x = (x.0 ≡ 0) × (x.1.0 < 2 ^ 32) × (x.1.1 ≡ 0)
FitPremises TwoLines x = (x.0 ≡ 0) × ((x.1.0 < 2 ^ 32) × (x.1.1 < 2 ^ 32))

abbrev OfRule : ℕ → Step → Type 0
OfRule rule s = StepFits s × (rule_byte s ≡ rule)

abbrev Returns : ℕ → Step → Type 0
Returns rule s = FitPremises (step_shape rule) (premises_in s) × (premise_bytes s ≡ shaped_bytes (step_shape rule) (premises_in s)) × (step_ruled rule (premises_in s) ≡ s)

step_again : (rule : ℕ) (s : Step) → OfRule rule s → Returns rule s
step_again rule s is = subst (λ (k : ℕ). Returns k s) is.1 (by s is.0)
  where
    by : (s : Step) → StepFits s → Returns (rule_byte s) s
    by Step.Same h = (refl, refl, refl)
    by (Step.Chain i j) h = ((refl, h), refl, refl)
    by Step.Left h = (refl, refl, refl)
    by Step.Right h = (refl, refl, refl)
    by (Step.Both i j) h = ((refl, h), refl, refl)
    by (Step.Quote i j) h = ((refl, h), refl, refl)
    by (Step.For i j) h = ((refl, h), refl, refl)
    by Step.Role h = (refl, refl, refl)
    by (Step.RoleUnder i) h = ((refl, h, refl), refl, refl)
    by (Step.Anchor i) h = ((h, refl), refl, refl)
    by (Step.Said i) h = ((h, refl), refl, refl)
    by (Step.Lift i j) h = ((refl, h), refl, refl)
    by (Step.Join i j) h = ((refl, h), refl, refl)
    by (Step.HandOff i) h = ((refl, h, refl), refl, refl)
    by (Step.Delegate i) h = ((refl, h, refl), refl, refl)

abbrev Ruled : ℕ → Type 0
Ruled rule = (x : Premises) → FitPremises (step_shape rule) x → OfRule rule (step_ruled rule x) × (shaped_bytes (step_shape rule) x ≡ premise_bytes (step_ruled rule x))

step_is_ruled : (rule : ℕ) → 1 ≤ rule → rule ≤ 15 → Ruled rule
step_is_ruled rule low high =
    one_of_fifteen Ruled
    (λ x h. ((tt, refl), refl))
    (λ x h. ((h.1, refl), refl))
    (λ x h. ((tt, refl), refl))
    (λ x h. ((tt, refl), refl))
    (λ x h. ((h.1, refl), refl))
    (λ x h. ((h.1, refl), refl))
    (λ x h. ((h.1, refl), refl))
    (λ x h. ((tt, refl), refl))
    (λ x h. ((h.0, refl), refl))
    (λ x h. ((h.0, refl), refl))
    (λ x h. ((h.1, refl), refl))
    (λ x h. ((h.1, refl), refl))
    (λ x h. ((h.1, refl), refl))
    (λ x h. ((h.1, refl), refl))
    (λ x h. ((h.1, refl), refl))
    rule low high

saying_rule : (s : Step) → gives_says (rule_byte s) ≡ is_saying s
saying_rule Step.Same = refl
saying_rule (Step.Chain i j) = refl
saying_rule Step.Left = refl
saying_rule Step.Right = refl
saying_rule (Step.Both i j) = refl
saying_rule (Step.Quote i j) = refl
saying_rule (Step.For i j) = refl
saying_rule Step.Role = refl
saying_rule (Step.RoleUnder i) = refl
saying_rule (Step.Anchor i) = refl
saying_rule (Step.Said i) = refl
saying_rule (Step.Lift i j) = refl
saying_rule (Step.Join i j) = refl
saying_rule (Step.HandOff i) = refl
saying_rule (Step.Delegate i) = refl

rule_within : (s : Step) → (1 ≤ rule_byte s) × (rule_byte s ≤ 15)
rule_within Step.Same = (omega arith, omega arith)
rule_within (Step.Chain i j) = (omega arith, omega arith)
rule_within Step.Left = (omega arith, omega arith)
rule_within Step.Right = (omega arith, omega arith)
rule_within (Step.Both i j) = (omega arith, omega arith)
rule_within (Step.Quote i j) = (omega arith, omega arith)
rule_within (Step.For i j) = (omega arith, omega arith)
rule_within Step.Role = (omega arith, omega arith)
rule_within (Step.RoleUnder i) = (omega arith, omega arith)
rule_within (Step.Anchor i) = (omega arith, omega arith)
rule_within (Step.Said i) = (omega arith, omega arith)
rule_within (Step.Lift i j) = (omega arith, omega arith)
rule_within (Step.Join i j) = (omega arith, omega arith)
rule_within (Step.HandOff i) = (omega arith, omega arith)
rule_within (Step.Delegate i) = (omega arith, omega arith)

-- ---- facts

-- a fact over the numbers of n nodes
abbrev pub FitsFact : ℕ → Fact → Type 0
FitsFact n (Fact.Speaks left right) = IsNumber n left × IsNumber n right
FitsFact n (Fact.Says who left right) = IsNumber n who × (IsNumber n left × IsNumber n right)

abbrev who_in : Fact → ℕ
who_in (Fact.Speaks left right) = 0
who_in (Fact.Says who left right) = who

abbrev sides_in : Fact → ℕ × ℕ
sides_in (Fact.Speaks left right) = (left, right)
sides_in (Fact.Says who left right) = (left, right)

abbrev OfKind : ℕ → Bool → Fact → Type 0
OfKind n saying fact = FitsFact n fact × (is_says fact ≡ saying)

says_again : (n : ℕ) (saying : Bool) (fact : Fact) → saying ≡ true → OfKind n saying fact
    → (IsNumber n (who_in fact) × (IsNumber n (sides_in fact).0 × IsNumber n (sides_in fact).1)) × (fact_bytes fact ≡ to_be_bytes w16 (who_in fact) ++ pair16 (sides_in fact).0 (sides_in fact).1) × (Fact.Says (who_in fact) (sides_in fact).0 (sides_in fact).1 ≡ fact)
says_again n saying (Fact.Speaks left right) e is = absurd (cc (e, is.1))
says_again n saying (Fact.Says who left right) e is = (is.0, refl, refl)

speaks_again : (n : ℕ) (saying : Bool) (fact : Fact) → saying ≡ false → OfKind n saying fact
    → (IsNumber n (sides_in fact).0 × IsNumber n (sides_in fact).1) × (fact_bytes fact ≡ pair16 (sides_in fact).0 (sides_in fact).1) × (Fact.Speaks (sides_in fact).0 (sides_in fact).1 ≡ fact)
speaks_again n saying (Fact.Speaks left right) e is = (is.0, refl, refl)
speaks_again n saying (Fact.Says who left right) e is = absurd (cc (e, is.1))

up_to_is : (last b : ℕ) → (leb 1 b && leb b last) ≡ true → (1 ≤ b) × (b ≤ last)
up_to_is last b e = (grind (arith, nat_tests), grind (arith, nat_tests))

up_to-true : (last b : ℕ) → 1 ≤ b → b ≤ last → (leb 1 b && leb b last) ≡ true
up_to-true last b low high = grind (arith, nat_tests)

module _ (bytes : List ℕ) where
  pub reads_u16 : Reads bytes (u16_in bytes) (to_be_bytes w16) (λ k. k < 2 ^ 16)
  reads_u16 = reads_number (ended bytes) w16 (2 ^ 16) wide16 bytes

  pub reads_u32 : Reads bytes (u32_in bytes) (to_be_bytes w32) (λ k. k < 2 ^ 32)
  reads_u32 = reads_number (ended bytes) w32 (2 ^ 32) wide32 bytes

  reads_up_to : (last : ℕ) → last < 256 → Reads bytes (byte_up_to last bytes) (λ b. b ∷ []) (λ b. (1 ≤ b) × (b ≤ last))
  reads_up_to last low =
      reads_as (λ b. b ∷ []) (λ b. (1 ≤ b) × (b ≤ last)) (reads_passing (λ b. leb 1 b && leb b last) Malformed (reads_byte (ended bytes) bytes))
      (λ b is. (up_to_is last b is.1, refl))
      (λ b is. (omega (arith, is.1), up_to-true last b is.0 is.1))

  reads_number_in : (n : ℕ) → Reads bytes (number_in n bytes) (to_be_bytes w16) (IsNumber n)
  reads_number_in n =
      reads_as (to_be_bytes w16) (IsNumber n) (reads_passing (λ k. ltb k n) Malformed reads_u16)
      (λ k is. ((ltb-true k n is.1, is.0), refl))
      (λ k is. (is.1, lt-ltb k n is.0))

  reads_pair : (n : ℕ) → Reads bytes (pair_in n bytes) (λ p. pair16 p.0 p.1) (λ p. IsNumber n p.0 × IsNumber n p.1)
  unfolding pair_in
  reads_pair n = reads_followed (reads_number_in n) (λ _ _. reads_number_in n)

  -- ---- nodes

  reads_fields : (n : ℕ) (shape : NodeShape) → Reads bytes (node_fields_at bytes n shape) (fields_bytes shape) (FitShape n shape)
  unfolding node_fields_at
  reads_fields n Atom =
      reads_made (λ (k : ℕ). ((0, 0), k)) (λ (x : NodeFields). x.1) (fields_bytes Atom) (FitShape n Atom) reads_u32
      (λ k is. ((refl, is), refl))
      (λ x is. (is.1, refl, ap (λ (p : ℕ × ℕ). (p, x.1)) (sym is.0)))
  reads_fields n Role =
      reads_made (λ (x : ℕ × ℕ). ((x.0, 0), x.1)) (λ (x : NodeFields). (x.0.0, x.1)) (fields_bytes Role) (FitShape n Role) (reads_followed (reads_number_in n) (λ _ _. reads_u32))
      (λ x is. ((is.0, refl, is.1), refl))
      (λ x is. ((is.0, is.2), refl, ap (λ (k : ℕ). ((x.0.0, k), x.1)) (sym is.1)))
  reads_fields n Pair =
      reads_made (λ (p : ℕ × ℕ). (p, 0)) (λ (x : NodeFields). x.0) (fields_bytes Pair) (FitShape n Pair) (reads_pair n)
      (λ p is. ((is, refl), refl))
      (λ x is. (is.0, refl, ap (λ (k : ℕ). (x.0, k)) (sym is.1)))

  pub reads_node : (n : ℕ) → Reads bytes (node_at bytes n) node_bytes (FitsNode n)
  unfolding node_at
  reads_node n =
      reads_made (λ (x : ℕ × Node). x.1) (λ (node : Node). (tag_of node, node)) node_bytes (FitsNode n)
      (reads_followed (reads_up_to 6 (omega arith))
      (λ tag within. reads_made (node_tagged tag) fields_of behind_tag (OfTag n tag) (reads_fields n (node_shape tag)) (node_is_tagged n tag within.0 within.1) (node_again n tag)))
      (λ x is. (is.1.0, ap (λ (k : ℕ). k ∷ behind_tag x.1) (sym is.1.1) ∙ node_is_bytes x.1))
      (λ node is. ((tag_within node, (is, refl)), sym (node_is_bytes node), refl))

  -- ---- lines

  reads_fact : (n rule : ℕ) → Reads bytes (fact_at bytes n rule) fact_bytes (OfKind n (gives_says rule))
  unfolding fact_at
  reads_fact n rule =
      reads_if (gives_says rule) _ _ fact_bytes (OfKind n (gives_says rule))
      (λ saying. reads_made (λ (x : ℕ × (ℕ × ℕ)). Fact.Says x.0 x.1.0 x.1.1) (λ (f : Fact). (who_in f, sides_in f)) fact_bytes (OfKind n (gives_says rule))
      (reads_followed (reads_number_in n) (λ _ _. reads_pair n))
      (λ x is. ((is, sym saying), refl))
      (λ f is. says_again n (gives_says rule) f saying is))
      (λ speaking. reads_made (λ (p : ℕ × ℕ). Fact.Speaks p.0 p.1) sides_in fact_bytes (OfKind n (gives_says rule)) (reads_pair n)
      (λ p is. ((is, sym speaking), refl))
      (λ f is. speaks_again n (gives_says rule) f speaking is))

  reads_premises : (shape : StepShape) → Reads bytes (premises_at bytes shape) (shaped_bytes shape) (FitPremises shape)
  unfolding premises_at
  reads_premises Bare = reads_as (shaped_bytes Bare) (FitPremises Bare) (reads_given bytes (0, (0, 0))) (λ x is. (is, refl)) (λ x is. is)
  reads_premises Place =
      reads_made (λ (i : ℕ). (i, (0, 0))) (λ (x : Premises). x.0) (shaped_bytes Place) (FitPremises Place) reads_u16
      (λ i is. ((is, refl), refl))
      (λ x is. (is.0, refl, ap (λ (p : ℕ × ℕ). (x.0, p)) (sym is.1)))
  reads_premises OneLine =
      reads_made (λ (i : ℕ). (0, (i, 0))) (λ (x : Premises). x.1.0) (shaped_bytes OneLine) (FitPremises OneLine) reads_u32
      (λ i is. ((refl, is, refl), refl))
      (λ x is. (is.1, refl, ap (λ (k : ℕ). (k, (x.1.0, 0))) (sym is.0) ∙ ap (λ (k : ℕ). (x.0, (x.1.0, k))) (sym is.2)))
  reads_premises TwoLines =
      reads_made (λ (p : ℕ × ℕ). (0, p)) (λ (x : Premises). x.1) (shaped_bytes TwoLines) (FitPremises TwoLines) (reads_followed reads_u32 (λ _ _. reads_u32))
      (λ p is. ((refl, is), refl))
      (λ x is. (is.1, refl, ap (λ (k : ℕ). (k, x.1)) (sym is.0)))

  reads_step : (rule : ℕ) → 1 ≤ rule → rule ≤ 15 → Reads bytes (step_at bytes rule) premise_bytes (OfRule rule)
  unfolding step_at
  reads_step rule low high =
      reads_made (step_ruled rule) premises_in premise_bytes (OfRule rule) (reads_premises (step_shape rule)) (step_is_ruled rule low high) (step_again rule)

  pub reads_line : (n : ℕ) → Reads bytes (line_at bytes n) line_bytes (λ l. FitsFact n l.fact × LineFits l)
  unfolding line_at
  reads_line n =
      reads_made (λ (x : ℕ × (Fact × Step)). record { fact = x.1.0; step = x.1.1 }) (λ (l : Line). (rule_byte l.step, (l.fact, l.step))) line_bytes (λ l. FitsFact n l.fact × LineFits l)
      (reads_followed (reads_up_to 15 (omega arith)) (λ rule within. reads_followed (reads_fact n rule) (λ _ _. reads_step rule within.0 within.1)))
      (λ x is. (
        (is.1.0.0, (is.1.0.1 ∙ ap gives_says (sym is.1.1.1) ∙ saying_rule x.1.1, is.1.1.0)),
        ap (λ (k : ℕ). k ∷ (fact_bytes x.1.0 ++ premise_bytes x.1.1)) (sym is.1.1.1),
      ))
      (λ l is. ((rule_within l.step, ((is.0, is.1.0 ∙ sym (saying_rule l.step)), (is.1.1, refl))), refl, refl))
