-- What has to stand at the numbers of a step for it to give a fact over the numbers of a table: one
-- relation for each rule, whose first arguments are nodes of the table and facts of earlier lines,
-- or None where nothing stands.
use Rattle.std.specs.Prelude.{◌≡◌, ℕ, List, Option, None, Some, slice_get}
use Rattle.prin_term.specs.declared.term.Anchor.{Anchor}
use Rattle.prin_term.specs.Principal.{Principal}
use Rattle.taos_calculus.specs.declared.line.Node.{Node}
use Rattle.taos_calculus.specs.declared.line.Fact.{Fact}
use Rattle.taos_calculus.specs.declared.line.Step.{Step}
use Rattle.taos_calculus.specs.Rules.{Claim}
use Rattle.taos_calculus.specs.Tables.{named}

-- the fact is there, and says that the one speaks for the other
abbrev pub IsSpeaks : Option Fact → ℕ → ℕ → Type 0
IsSpeaks fact left right = fact ≡ Some (Fact.Speaks left right)

-- the fact is there, and says that who says that the one speaks for the other
abbrev pub IsSays : Option Fact → ℕ → ℕ → ℕ → Type 0
IsSays fact who left right = fact ≡ Some (Fact.Says who left right)

-- two facts lead from left to right, through what the first leads to
abbrev pub Chains : Option Fact → Option Fact → ℕ → ℕ → Type 0
Chains first (Some (Fact.Speaks b c)) left right = IsSpeaks first left b × (c ≡ right)
Chains first _ left right = ⊥

-- the part is the conjunction's left one
abbrev pub IsLeftOf : Option Node → ℕ → Type 0
IsLeftOf (Some (Node.And a b)) part = a ≡ part
IsLeftOf _ part = ⊥

-- the part is the conjunction's right one
abbrev pub IsRightOf : Option Node → ℕ → Type 0
IsRightOf (Some (Node.And a b)) part = b ≡ part
IsRightOf _ part = ⊥

-- two facts lead from left to both parts of the conjunction
abbrev pub ReachBoth : Option Node → Option Fact → Option Fact → ℕ → Type 0
ReachBoth (Some (Node.And a b)) first second left = IsSpeaks first left a × IsSpeaks second left b
ReachBoth _ first second left = ⊥

-- both nodes are quotings, and the first speaks for the second part by part
abbrev pub Quotes : Option Node → Option Node → Option Fact → Option Fact → Type 0
Quotes (Some (Node.Quote a b)) (Some (Node.Quote c d)) first second =
    IsSpeaks first a c × IsSpeaks second b d
Quotes _ _ first second = ⊥

-- both nodes are delegations, and the first speaks for the second part by part
abbrev pub ActsFor : Option Node → Option Node → Option Fact → Option Fact → Type 0
ActsFor (Some (Node.For a b)) (Some (Node.For c d)) first second =
    IsSpeaks first a c × IsSpeaks second b d
ActsFor _ _ first second = ⊥

-- the node is the principal base in a role
abbrev pub IsRoleOf : Option Node → ℕ → Type 0
IsRoleOf (Some (Node.AsRole a r)) base = a ≡ base
IsRoleOf _ base = ⊥

-- both nodes are principals in one role, and the first's speaks for the second's
abbrev pub UnderRole : Option Node → Option Node → Option Fact → Type 0
UnderRole (Some (Node.AsRole a r)) (Some (Node.AsRole b s)) fact = (r ≡ s) × IsSpeaks fact a b
UnderRole _ _ fact = ⊥

-- left is the anchor's key, and right is its name
abbrev pub IsAnchored : Option Anchor → Option Node → Option Node → Type 0
IsAnchored (Some anchor) left right =
    (left ≡ Some (Node.Key anchor.key)) × (right ≡ Some (Node.Name anchor.name))
IsAnchored None left right = ⊥

-- the certificate's speaker says its statement, where p gives the principals of numbers
abbrev pub IsClaimed : (ℕ → Principal) → Option Claim → ℕ → ℕ → ℕ → Type 0
IsClaimed p (Some claim) who left right =
    (p who ≡ claim.speaker) × (p left ≡ claim.left) × (p right ≡ claim.right)
IsClaimed p None who left right = ⊥

-- what the one says is said by the one for whom he speaks
abbrev pub Lifts : Option Fact → Option Fact → ℕ → ℕ → ℕ → Type 0
Lifts (Some (Fact.Says a l r)) speaks who left right =
    (l ≡ left) × (r ≡ right) × IsSpeaks speaks a who
Lifts _ speaks who left right = ⊥

-- both parts of the conjunction say it
abbrev pub JoinIn : Option Node → Option Fact → Option Fact → ℕ → ℕ → Type 0
JoinIn (Some (Node.And a b)) first second left right =
    IsSays first a left right × IsSays second b left right
JoinIn _ first second left right = ⊥

-- right itself says that left speaks for right
abbrev pub HandsOff : Option Fact → ℕ → ℕ → Type 0
HandsOff says left right = IsSays says right left right

-- left is a quoting, right the delegation of its parts, and the one who is quoted says that left
-- speaks for right
abbrev pub Delegates : Option Node → Option Node → Option Fact → ℕ → ℕ → Type 0
Delegates (Some (Node.Quote b a)) target says left right =
    (target ≡ Some (Node.For b a)) × IsSays says a left right
Delegates _ target says left right = ⊥

-- what a step asks for, to give a fact
abbrev pub Asks : List Node → List Anchor → List Claim → List Fact → Fact → Step → Type 0
Asks nodes anchors claims earlier (Fact.Speaks l r) Step.Same = l ≡ r
Asks nodes anchors claims earlier (Fact.Speaks l r) (Step.Chain i j) =
    Chains (slice_get earlier i) (slice_get earlier j) l r
Asks nodes anchors claims earlier (Fact.Speaks l r) Step.Left = IsLeftOf (slice_get nodes l) r
Asks nodes anchors claims earlier (Fact.Speaks l r) Step.Right = IsRightOf (slice_get nodes l) r
Asks nodes anchors claims earlier (Fact.Speaks l r) (Step.Both i j) =
    ReachBoth (slice_get nodes r) (slice_get earlier i) (slice_get earlier j) l
Asks nodes anchors claims earlier (Fact.Speaks l r) (Step.Quote i j) =
    Quotes (slice_get nodes l) (slice_get nodes r) (slice_get earlier i) (slice_get earlier j)
Asks nodes anchors claims earlier (Fact.Speaks l r) (Step.For i j) =
    ActsFor (slice_get nodes l) (slice_get nodes r) (slice_get earlier i) (slice_get earlier j)
Asks nodes anchors claims earlier (Fact.Speaks l r) Step.Role = IsRoleOf (slice_get nodes r) l
Asks nodes anchors claims earlier (Fact.Speaks l r) (Step.RoleUnder i) =
    UnderRole (slice_get nodes l) (slice_get nodes r) (slice_get earlier i)
Asks nodes anchors claims earlier (Fact.Speaks l r) (Step.Anchor i) =
    IsAnchored (slice_get anchors i) (slice_get nodes l) (slice_get nodes r)
Asks nodes anchors claims earlier (Fact.Speaks l r) (Step.Said i) = ⊥
Asks nodes anchors claims earlier (Fact.Speaks l r) (Step.Lift i j) = ⊥
Asks nodes anchors claims earlier (Fact.Speaks l r) (Step.Join i j) = ⊥
Asks nodes anchors claims earlier (Fact.Speaks l r) (Step.HandOff i) =
    HandsOff (slice_get earlier i) l r
Asks nodes anchors claims earlier (Fact.Speaks l r) (Step.Delegate i) =
    Delegates (slice_get nodes l) (slice_get nodes r) (slice_get earlier i) l r
Asks nodes anchors claims earlier (Fact.Says w l r) (Step.Said i) =
    IsClaimed (named nodes) (slice_get claims i) w l r
Asks nodes anchors claims earlier (Fact.Says w l r) (Step.Lift i j) =
    Lifts (slice_get earlier i) (slice_get earlier j) w l r
Asks nodes anchors claims earlier (Fact.Says w l r) (Step.Join i j) =
    JoinIn (slice_get nodes w) (slice_get earlier i) (slice_get earlier j) l r
Asks nodes anchors claims earlier (Fact.Says w l r) _ = ⊥
