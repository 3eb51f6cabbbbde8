-- The rules over a table of nodes, whose principals are named by their numbers.
use Rattle.std.specs.Prelude.{◌≡◌, ℕ, ◌-◌, List, [], ◌∷◌, ◌++◌, Option, Some, slice_get, length, map, Contains}
use Rattle.prin_term.specs.declared.term.Anchor.{Anchor}
use Rattle.taos_calculus.specs.declared.line.Step.{Step}
use Rattle.taos_calculus.specs.declared.line.Node.{Node}
use Rattle.taos_calculus.specs.declared.line.Fact.{Fact}
use Rattle.taos_calculus.specs.declared.line.Line.{Line}
use Rattle.taos_calculus.specs.Rules.{Claim}
use Rattle.taos_calculus.specs.Tables.{named, IsBelow}

-- the step gives the fact from earlier facts: one case for each rule
pub data Gives (nodes : List Node) (anchors : List Anchor)
    (claims : List Claim) (earlier : List Fact) : Fact → Step → Type 0 where
  same : {a : ℕ} → Gives nodes anchors claims earlier (Fact.Speaks a a) Step.Same
  chain : {a b c i j : ℕ} →
      slice_get earlier i ≡ Some (Fact.Speaks a b) → slice_get earlier j ≡ Some (Fact.Speaks b c) →
      Gives nodes anchors claims earlier (Fact.Speaks a c) (Step.Chain i j)
  left : {a b c : ℕ} → slice_get nodes c ≡ Some (Node.And a b) →
      Gives nodes anchors claims earlier (Fact.Speaks c a) Step.Left
  right : {a b c : ℕ} → slice_get nodes c ≡ Some (Node.And a b) →
      Gives nodes anchors claims earlier (Fact.Speaks c b) Step.Right
  both : {a b c d i j : ℕ} →
      slice_get nodes d ≡ Some (Node.And a b) →
      slice_get earlier i ≡ Some (Fact.Speaks c a) → slice_get earlier j ≡ Some (Fact.Speaks c b) →
      Gives nodes anchors claims earlier (Fact.Speaks c d) (Step.Both i j)
  quoting : {a a' b b' c d i j : ℕ} →
      slice_get nodes c ≡ Some (Node.Quote a b) → slice_get nodes d ≡ Some (Node.Quote a' b') →
      slice_get earlier i ≡ Some (Fact.Speaks a a') →
      slice_get earlier j ≡ Some (Fact.Speaks b b') →
      Gives nodes anchors claims earlier (Fact.Speaks c d) (Step.Quote i j)
  for_both : {a a' b b' c d i j : ℕ} →
      slice_get nodes c ≡ Some (Node.For a b) → slice_get nodes d ≡ Some (Node.For a' b') →
      slice_get earlier i ≡ Some (Fact.Speaks a a') →
      slice_get earlier j ≡ Some (Fact.Speaks b b') →
      Gives nodes anchors claims earlier (Fact.Speaks c d) (Step.For i j)
  role : {a r c : ℕ} → slice_get nodes c ≡ Some (Node.AsRole a r) →
      Gives nodes anchors claims earlier (Fact.Speaks a c) Step.Role
  role_under : {a b r c d i : ℕ} →
      slice_get nodes c ≡ Some (Node.AsRole a r) → slice_get nodes d ≡ Some (Node.AsRole b r) →
      slice_get earlier i ≡ Some (Fact.Speaks a b) →
      Gives nodes anchors claims earlier (Fact.Speaks c d) (Step.RoleUnder i)
  anchored : {anchor : Anchor} {c d i : ℕ} →
      slice_get anchors i ≡ Some anchor →
      slice_get nodes c ≡ Some (Node.Key anchor.key) →
      slice_get nodes d ≡ Some (Node.Name anchor.name) →
      Gives nodes anchors claims earlier (Fact.Speaks c d) (Step.Anchor i)
  said : {claim : Claim} {w l r i : ℕ} →
      slice_get claims i ≡ Some claim →
      named nodes w ≡ claim.speaker → named nodes l ≡ claim.left → named nodes r ≡ claim.right →
      Gives nodes anchors claims earlier (Fact.Says w l r) (Step.Said i)
  lift : {a b l r i j : ℕ} →
      slice_get earlier i ≡ Some (Fact.Says a l r) → slice_get earlier j ≡ Some (Fact.Speaks a b) →
      Gives nodes anchors claims earlier (Fact.Says b l r) (Step.Lift i j)
  join : {a b c l r i j : ℕ} →
      slice_get nodes c ≡ Some (Node.And a b) →
      slice_get earlier i ≡ Some (Fact.Says a l r) → slice_get earlier j ≡ Some (Fact.Says b l r) →
      Gives nodes anchors claims earlier (Fact.Says c l r) (Step.Join i j)
  hand_off : {l t i : ℕ} →
      slice_get earlier i ≡ Some (Fact.Says t l t) →
      Gives nodes anchors claims earlier (Fact.Speaks l t) (Step.HandOff i)
  delegate : {a b c d i : ℕ} →
      slice_get nodes c ≡ Some (Node.Quote b a) → slice_get nodes d ≡ Some (Node.For b a) →
      slice_get earlier i ≡ Some (Fact.Says a c d) →
      Gives nodes anchors claims earlier (Fact.Speaks c d) (Step.Delegate i)

-- the facts of lines, in order
abbrev pub facts_at : List Line → List Fact
facts_at lines = map (λ (l : Line). l.fact) lines

-- the fact of the last line, if there is a line
abbrev pub last_fact_at : List Line → Option Fact
last_fact_at lines = slice_get (facts_at lines) (length lines - 1)

-- each line's step gives its fact from the earlier facts and the lines before it
abbrev pub EachGives : List Node → List Anchor → List Claim → List Fact → List Line → Type 0
EachGives nodes anchors claims earlier [] = Unit {0}
EachGives nodes anchors claims earlier (l ∷ rest) =
    Gives nodes anchors claims earlier l.fact l.step ×
    EachGives nodes anchors claims (earlier ++ l.fact ∷ []) rest

-- what a step gives from the known facts is known
abbrev pub IsClosed : List Node → List Anchor → List Claim → List Fact → Type 0
IsClosed nodes anchors claims known =
    (fact : Fact) (step : Step) → IsBelow (length nodes) fact →
    Gives nodes anchors claims known fact step → Contains known fact
