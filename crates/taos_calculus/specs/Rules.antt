-- The calculus: what a line of a derivation may say, and what is derivable.
use Rattle.std.specs.Prelude.{◌≡◌, ℕ, List, [], ◌∷◌, ◌++◌, Option, Some, None, slice_get}
use Rattle.prin_term.specs.declared.term.Anchor.{Anchor}
use Rattle.prin_term.specs.Principal.{Principal, Key, Name, And, Quoting, InRole, For}
use Rattle.taos_calculus.specs.declared.line.Step.{Step}

-- `left => right`, or `who says (left => right)`
pub data Judgement : Type 0 where
  SpeaksFor : (left right : Principal) → Judgement
  Says : (who left right : Principal) → Judgement

-- a speaker with its statement: all that the calculus takes of a certificate
pub record Claim : Type 0 where
  pub speaker : Principal
  -- who speaks, as the statement says
  pub left : Principal
  -- for whom he speaks
  pub right : Principal

-- a judgement with the rule that gives it
pub record Line : Type 0 where
  pub fact : Judgement
  pub step : Step

-- the line of this judgement and this rule
abbrev pub line : Judgement → Step → Line
line fact step = record { fact = fact; step = step }

-- the fact stands at the number
abbrev pub IsAt : List Judgement → ℕ → Judgement → Type 0
IsAt facts i fact = slice_get facts i ≡ Some fact

-- the line's fact is given by its rule: one case for each rule
pub data Follows (anchors : List Anchor) (claims : List Claim)
    (earlier : List Judgement) : Line → Type 0 where
  -- everyone speaks for himself
  same : {a : Principal} → Follows anchors claims earlier (line (SpeaksFor a a) Step.Same)
  -- who speaks for one that speaks for a third speaks for the third
  chain : {a b c : Principal} {i j : ℕ} →
      IsAt earlier i (SpeaksFor a b) → IsAt earlier j (SpeaksFor b c) →
      Follows anchors claims earlier (line (SpeaksFor a c) (Step.Chain i j))
  -- both together speak for the left one
  left : {a b : Principal} → Follows anchors claims earlier (line (SpeaksFor (And a b) a) Step.Left)
  -- both together speak for the right one
  right : {a b : Principal} →
      Follows anchors claims earlier (line (SpeaksFor (And a b) b) Step.Right)
  -- who speaks for each of two speaks for both together
  both : {a b c : Principal} {i j : ℕ} →
      IsAt earlier i (SpeaksFor c a) → IsAt earlier j (SpeaksFor c b) →
      Follows anchors claims earlier (line (SpeaksFor c (And a b)) (Step.Both i j))
  -- one quoting speaks for another, part by part
  quoting : {a a' b b' : Principal} {i j : ℕ} →
      IsAt earlier i (SpeaksFor a a') → IsAt earlier j (SpeaksFor b b') →
      Follows anchors claims earlier
      (line (SpeaksFor (Quoting a b) (Quoting a' b')) (Step.Quote i j))
  -- one delegation speaks for another, part by part
  for_both : {a a' b b' : Principal} {i j : ℕ} →
      IsAt earlier i (SpeaksFor a a') → IsAt earlier j (SpeaksFor b b') →
      Follows anchors claims earlier (line (SpeaksFor (For a b) (For a' b')) (Step.For i j))
  -- a principal speaks for itself in a role
  role : {a : Principal} {r : ℕ} →
      Follows anchors claims earlier (line (SpeaksFor a (InRole a r)) Step.Role)
  -- who speaks for another speaks, in a role, for the other in that role
  role_under : {a b : Principal} {r i : ℕ} →
      IsAt earlier i (SpeaksFor a b) →
      Follows anchors claims earlier (line (SpeaksFor (InRole a r) (InRole b r)) (Step.RoleUnder i))
  -- an anchor's key speaks for its name
  anchored : {anchor : Anchor} {i : ℕ} →
      slice_get anchors i ≡ Some anchor →
      Follows anchors claims earlier
      (line (SpeaksFor (Key anchor.key) (Name anchor.name)) (Step.Anchor i))
  -- a certificate's speaker says its statement
  said : {claim : Claim} {i : ℕ} →
      slice_get claims i ≡ Some claim →
      Follows anchors claims earlier
      (line (Says claim.speaker claim.left claim.right) (Step.Said i))
  -- what a speaker says, those for whom it speaks say
  lift : {a b l r : Principal} {i j : ℕ} →
      IsAt earlier i (Says a l r) → IsAt earlier j (SpeaksFor a b) →
      Follows anchors claims earlier (line (Says b l r) (Step.Lift i j))
  -- what each of two says, both together say
  join : {a b l r : Principal} {i j : ℕ} →
      IsAt earlier i (Says a l r) → IsAt earlier j (Says b l r) →
      Follows anchors claims earlier (line (Says (And a b) l r) (Step.Join i j))
  -- t is believed when it says that l speaks for t
  hand_off : {l t : Principal} {i : ℕ} →
      IsAt earlier i (Says t l t) →
      Follows anchors claims earlier (line (SpeaksFor l t) (Step.HandOff i))
  -- a is believed when it says that b quoting a speaks for b on behalf of a
  delegate : {a b : Principal} {i : ℕ} →
      IsAt earlier i (Says a (Quoting b a) (For b a)) →
      Follows anchors claims earlier (line (SpeaksFor (Quoting b a) (For b a)) (Step.Delegate i))

-- each line follows from the earlier facts and the lines before it
abbrev pub EachFollows : List Anchor → List Claim → List Judgement → List Line → Type 0
EachFollows anchors claims earlier [] = Unit {0}
EachFollows anchors claims earlier (l ∷ rest) =
    Follows anchors claims earlier l × EachFollows anchors claims (earlier ++ l.fact ∷ []) rest

-- the fact of the last line, where there is one
abbrev pub last_fact : List Line → Option Judgement
last_fact [] = None
last_fact (l ∷ []) = Some l.fact
last_fact (l ∷ m ∷ rest) = last_fact (m ∷ rest)

-- each line follows from those before it, and the last one's fact is this
pub record Proves (anchors : List Anchor) (claims : List Claim)
    (lines : List Line) (fact : Judgement) : Type 0 where
  -- each line follows from those before it
  pub follow : EachFollows anchors claims [] lines
  pub last : last_fact lines ≡ Some fact

-- some list of lines proves the fact; the lines may name any principals whatever
pub record Derivable (anchors : List Anchor) (claims : List Claim) (fact : Judgement) : Type 0 where
  pub lines : List Line
  pub proves : Proves anchors claims lines fact
