-- What one step of telling finds and adds.
use Rattle.std.specs.Prelude.{◌≡◌, ℕ, ◌+◌, Option, Some, MatchOption, slice_get, length}
use Rattle.taos_calculus.specs.declared.line.Fact.{Fact}
use Rattle.taos_calculus.specs.declared.line.Node.{Node}
use Rattle.taos_calculus.specs.declared.line.Step.{Step}
use Rattle.taos_calculus.specs.Numbered.{Gives}
use Rattle.term_pool.specs.declared.cited.Cited.{Cited}
use Rattle.term_pool.specs.declared.found.Found.{Found}
use Rattle.term_pool.specs.Finding.{facts_in}
use Rattle.goal_search.specs.Reasons.{IsEdge, IsReason}
use Rattle.goal_search.specs.Searching.{Core, about, claims_in}
use Rattle.goal_search.specs.Telling.{IsTold, TellsOf, TellsPassed, TellsSaid}

-- the step gives the fact by what the lines tell
abbrev pub GivesIn : Core → Found → Fact → Step → Type 0
GivesIn s f fact step = Gives s.nodes s.anchors (claims_in (about s)) (facts_in f) fact step

-- it gives that this one says what the certificate of this number states
abbrev pub GivesSaid : Core → Found → (number who : ℕ) → Step → Type 0
GivesSaid s f number who step =
    (c : Cited) → slice_get s.cited number ≡ Some c →
    GivesIn s f (Fact.Says who c.left c.right) step

-- ---- the lines that are there

-- the number of a line that has the fact, or none where no line has it
abbrev pub FindsLine : Found → Fact → Option ℕ → Type 0
FindsLine f fact line =
    MatchOption line (IsTold f fact → ⊥) (λ k. slice_get (facts_in f) k ≡ Some fact)

-- the same of the fact that this one says what the certificate of this number states
abbrev pub FindsSaid : Core → Found → (number who : ℕ) → Option ℕ → Type 0
FindsSaid s f number who line =
    (c : Cited) → slice_get s.cited number ≡ Some c →
    FindsLine f (Fact.Says who c.left c.right) line

-- the numbers of two lines of g, that a speaks for c and that b speaks for d; or none where the
-- lines f do not tell both
abbrev pub FindsParts : Core → (f g : Found) → (a b c d : ℕ) → Option (ℕ × ℕ) → Type 0
FindsParts s f g a b c d lines =
    MatchOption lines (TellsPassed s f a c → TellsPassed s f b d → ⊥)
    (λ q. (slice_get (facts_in g) q.0 ≡ Some (Fact.Speaks a c))
    × (slice_get (facts_in g) q.1 ≡ Some (Fact.Speaks b d)))

-- ---- who says what the certificate of a number states: g tells it, where f tells what it rests on

-- `to`, by an edge from one who says it
abbrev pub TellsLifted : Core → (f g : Found) → (number from to : ℕ) → Type 0
TellsLifted s f g number from to =
    (c : Cited) → slice_get s.cited number ≡ Some c → IsTold f (Fact.Says from c.left c.right) →
    IsEdge (about s) (TellsOf s f) from to → IsTold g (Fact.Says to c.left c.right)

-- a conjunction, both parts of which say it
abbrev pub TellsJoined : Core → (f g : Found) → (number who : ℕ) → Type 0
TellsJoined s f g number who =
    (c : Cited) (a b : ℕ) → slice_get s.cited number ≡ Some c →
    slice_get s.nodes who ≡ Some (Node.And a b) →
    IsTold f (Fact.Says a c.left c.right) → IsTold f (Fact.Says b c.left c.right) →
    IsTold g (Fact.Says who c.left c.right)

-- `who`, which the statement's row has for this reason
abbrev pub TellsStated : Core → (f g : Found) → (number who reason : ℕ) → Type 0
TellsStated s f g number who reason =
    (c : Cited) → slice_get s.cited number ≡ Some c →
    IsReason (about s) (TellsOf s f) (length s.nodes + number) who reason →
    IsTold g (Fact.Says who c.left c.right)

-- ---- that a certificate's left one speaks for its right one: g tells it, where f tells who says so

-- by the right one
abbrev pub TellsHanded : Core → (f g : Found) → (number : ℕ) → Type 0
TellsHanded s f g number =
    (c : Cited) → slice_get s.cited number ≡ Some c → TellsSaid s f number c c.right →
    IsTold g (Fact.Speaks c.left c.right)

-- by a, where it delegates to b
abbrev pub TellsDelegated : Core → (f g : Found) → (number : ℕ) → Type 0
TellsDelegated s f g number =
    (c : Cited) (a b : ℕ) → slice_get s.cited number ≡ Some c →
    slice_get s.nodes c.left ≡ Some (Node.Quote b a) →
    slice_get s.nodes c.right ≡ Some (Node.For b a) → TellsSaid s f number c a →
    IsTold g (Fact.Speaks c.left c.right)
