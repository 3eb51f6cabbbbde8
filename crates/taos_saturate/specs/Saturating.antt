-- What a saturation holds.
use Rattle.std.specs.Prelude.{◌≡◌, ℕ, ◌<◌, ◌≤◌, ◌^◌, List, [], Some}
use Rattle.std.specs.Prelude.{Option, MatchOption, slice_get, length, map, vec_capacity}
use Rattle.taos_calculus.specs.declared.line.Step.{Step}
use Rattle.taos_calculus.specs.declared.line.Fact.{Fact}
use Rattle.taos_calculus.specs.declared.line.Line.{Line}
use Rattle.taos_calculus.specs.Rules.{Claim}
use Rattle.taos_calculus.specs.Tables.{named, IsBelow, IsNodeTable}
use Rattle.taos_calculus.specs.Numbered.{Gives, EachGives}
use Rattle.term_pool.specs.declared.found.Pair.{Pair}
use Rattle.term_pool.specs.declared.cited.Cited.{Cited}
use Rattle.term_pool.specs.Claims.{claim_by, IsSaying}
use Rattle.taos_saturate.specs.declared.saturation.Saturation.{Saturation}
use Rattle.term_pool.specs.Finding.{IsFound, facts_in, pair, CellOf, room}

-- no certificate is this statement by this speaker
abbrev pub LacksSaying : List Cited → ℕ → ℕ → ℕ → Type 0
LacksSaying cited speaker left right =
    (i : ℕ) (c : Cited) → slice_get cited i ≡ Some c → IsSaying c speaker left right → ⊥

-- the certificate of number i is this statement by this speaker
abbrev pub HasSaying : List Cited → ℕ → ℕ → ℕ → ℕ → Type 0
HasSaying cited speaker left right i =
    (c : Cited) × (slice_get cited i ≡ Some c) × IsSaying c speaker left right

-- what its certificates say
abbrev pub claims_in : Saturation → List Claim
claims_in s = map (claim_by (named s.nodes.items)) s.cited.items

-- its facts, in the order in which they were found
abbrev pub facts_of : Saturation → List Fact
facts_of s = facts_in s.found

-- the step gives the fact from those that were found
abbrev pub GivesIn : Saturation → Fact → Step → Type 0
GivesIn s fact step = Gives s.nodes.items s.anchors.items (claims_in s) (facts_of s) fact step

-- the step does not give the fact from those that were found
abbrev pub Lacks : Saturation → Fact → Step → Type 0
Lacks s fact step = GivesIn s fact step → ⊥

-- the number is one of the table
abbrev pub IsNumber : Saturation → ℕ → Type 0
IsNumber s id = id < length s.nodes.items

-- its facts, certificates and statements speak of the table, and the index tells the lines
pub record IsReady (s : Saturation) : Type 0 where
  pub found : IsFound s.found
  pub width_is : s.found.width ≡ length s.nodes.items
  pub nodes_fit : length s.nodes.items < 2 ^ 16
  pub table : IsNodeTable s.nodes.items
  pub anchors_fit : length s.anchors.items < 2 ^ 16
  pub cited_fit : length s.cited.items < 2 ^ 16
  -- the sides of each statement are numbers of the table
  pub statements_in : (k : ℕ) (p : Pair) → slice_get s.found.statements.items k ≡ Some p →
      IsNumber s p.left × IsNumber s p.right
  -- each certificate's speaker is a number of the table, and what it says a statement
  pub cited_in : (k : ℕ) (c : Cited) → slice_get s.cited.items k ≡ Some c →
      IsNumber s c.speaker ×
      ((m : ℕ) × (slice_get s.found.statements.items m ≡ Some (pair c.left c.right)))

-- the fact was found
abbrev pub IsKnown : Saturation → Fact → Type 0
IsKnown s fact = (k : ℕ) × (slice_get (facts_of s) k ≡ Some fact)

-- the numbers of a line that has the one fact and of one that has the other, or none where one of
-- them is in no line
abbrev pub FindsBoth : Saturation → (one other : Fact) → Option (ℕ × ℕ) → Type 0
FindsBoth s one other lines =
    MatchOption lines ((i j : ℕ) → slice_get (facts_of s) i ≡ Some one
    → slice_get (facts_of s) j ≡ Some other → ⊥)
    (λ q. (slice_get (facts_of s) q.0 ≡ Some one) × (slice_get (facts_of s) q.1 ≡ Some other))

-- a line that may come next
pub record IsNew (s : Saturation) (line : Line) : Type 0 where
  pub gives : GivesIn s line.fact line.step
  -- its fact is over numbers of the table
  pub below : IsBelow (length s.nodes.items) line.fact
  -- its fact was not found before
  pub unknown : (k : ℕ) → slice_get (facts_of s) k ≡ Some line.fact → ⊥
  -- its fact has a place in the table of facts
  pub celled : (c : ℕ) × CellOf s.found line.fact c

-- a step to `left => right` that does not go through a third principal
abbrev pub IsNoChain : Step → Type 0
IsNoChain (Step.Chain i j) = ⊥
IsNoChain step = Unit {0}

-- a step to what is said that does not pass it on
abbrev pub IsNoLift : Step → Type 0
IsNoLift (Step.Lift i j) = ⊥
IsNoLift step = Unit {0}

-- no step without a chain gives that l speaks for r
abbrev pub LacksSpeaks : Saturation → ℕ → ℕ → Type 0
LacksSpeaks s l r = (step : Step) → IsNoChain step → Lacks s (Fact.Speaks l r) step

-- no step without a lift gives that w says `l => r`
abbrev pub LacksSays : Saturation → ℕ → ℕ → ℕ → Type 0
LacksSays s w l r = (step : Step) → IsNoLift step → Lacks s (Fact.Says w l r) step

-- what a step without a chain gives between these is known
abbrev pub SpeaksFull : Saturation → ℕ → ℕ → Type 0
SpeaksFull s l r =
    (step : Step) → IsNoChain step → GivesIn s (Fact.Speaks l r) step → IsKnown s (Fact.Speaks l r)

-- what a step without a lift gives, that w says this statement, is known
abbrev pub SaysFull : Saturation → ℕ → Pair → Type 0
SaysFull s w p =
    (step : Step) → IsNoLift step → GivesIn s (Fact.Says w p.left p.right) step →
    IsKnown s (Fact.Says w p.left p.right)

-- what m speaks for, l is known to speak for too, if it speaks for m
abbrev pub ChainFull : Saturation → ℕ → ℕ → Type 0
ChainFull s l m = (i j r : ℕ) →
    slice_get (facts_of s) i ≡ Some (Fact.Speaks l m) →
    slice_get (facts_of s) j ≡ Some (Fact.Speaks m r) → IsKnown s (Fact.Speaks l r)

-- what this line gives by a chain is known, unless it comes by a chain itself
abbrev pub LineFull : Saturation → ℕ → Type 0
LineFull s k =
    (line : Line) (l m : ℕ) → slice_get s.found.lines.items k ≡ Some line →
    line.fact ≡ Fact.Speaks l m → IsNoChain line.step → ChainFull s l m

-- for whom w speaks, they are known to say what w says
abbrev pub LiftFull : Saturation → ℕ → Pair → Type 0
LiftFull s w p = (i j b : ℕ) →
    slice_get (facts_of s) i ≡ Some (Fact.Says w p.left p.right) →
    slice_get (facts_of s) j ≡ Some (Fact.Speaks w b) → IsKnown s (Fact.Says b p.left p.right)

-- no step gives anything new
pub record IsFull (s : Saturation) : Type 0 where
  -- what a step without a chain gives is known
  pub speaks : (l r : ℕ) → IsNumber s l → IsNumber s r → SpeaksFull s l r
  -- what a chain gives is known
  pub chains : (l m : ℕ) → IsNumber s l → IsNumber s m → ChainFull s l m
  -- what a step without a lift gives is known
  pub says : (k w : ℕ) (p : Pair) → slice_get s.found.statements.items k ≡ Some p →
      IsNumber s w → SaysFull s w p
  -- what a lift gives is known
  pub lifts : (k w : ℕ) (p : Pair) →
      slice_get s.found.statements.items k ≡ Some p → IsNumber s w → LiftFull s w p

-- each line's step gives its fact from the lines before it
abbrev pub IsSound : Saturation → Type 0
IsSound s = EachGives s.nodes.items s.anchors.items (claims_in s) [] s.found.lines.items

-- the table is the same, with the anchors and the certificates
pub record SameTable (s t : Saturation) : Type 0 where
  pub nodes : t.nodes ≡ s.nodes
  pub anchors : t.anchors ≡ s.anchors
  pub cited : t.cited ≡ s.cited

-- t is s with more lines
pub record IsGrown (s t : Saturation) : Type 0 where
  pub ready : IsReady t
  pub sound : IsSound t
  pub table : SameTable s t
  pub statements : t.found.statements ≡ s.found.statements
  -- the room for facts did not grow
  pub room_left : room t.found ≤ room s.found
  -- the memory for lines did not shrink
  pub lines_kept : vec_capacity s.found.lines ≤ vec_capacity t.found.lines
  -- the memory for numbers did not shrink
  pub numbers_kept : vec_capacity s.found.numbers ≤ vec_capacity t.found.numbers

-- it is full, and so knows all that is derivable about its table
pub record IsGood (s : Saturation) : Type 0 where
  pub ready : IsReady s
  pub sound : IsSound s
  pub full : IsFull s
