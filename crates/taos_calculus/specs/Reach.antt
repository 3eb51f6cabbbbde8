-- What is reached and said: why a search among the members of a table misses nothing.
use Rattle.std.specs.Prelude.{◌≡◌, ℕ, List, Some, slice_get, All, Contains}
use Rattle.prin_term.specs.declared.term.Anchor.{Anchor}
use Rattle.prin_term.specs.Principal.{Principal, Key, Name, And, Quoting, InRole, For}
use Rattle.taos_calculus.specs.Rules.{Claim, Judgement, SpeaksFor, Says, Line, Follows}
use Rattle.taos_calculus.specs.Saturation.{IsTable, IsSaturated}

-- The principal, in the table or not, reaches the member: its parts, anchors and known facts
-- force it.
-- U holds of the members, and Known of the facts.
pub data Reach (U : Principal → Type 0) (Known : Judgement → Type 0) (anchors : List Anchor) :
    Principal → Principal → Type 0 where
  -- a member reaches itself
  itself : {x : Principal} → U x → Reach U Known anchors x x
  -- and what a member that is reached is known to speak for
  onward : {x u v : Principal} →
      Reach U Known anchors x u → Known (SpeaksFor u v) → U v → Reach U Known anchors x v
  -- and a conjunction where it reaches both
  to_both : {x u v : Principal} →
      Reach U Known anchors x u → Reach U Known anchors x v → U (And u v) →
      Reach U Known anchors x (And u v)
  -- a conjunction reaches what either part reaches
  by_left : {a b v : Principal} → Reach U Known anchors a v → Reach U Known anchors (And a b) v
  by_right : {a b v : Principal} → Reach U Known anchors b v → Reach U Known anchors (And a b) v
  -- the other compounds reach one of their form, part by part
  by_quoting : {a b u v : Principal} →
      Reach U Known anchors a u → Reach U Known anchors b v → U (Quoting u v) →
      Reach U Known anchors (Quoting a b) (Quoting u v)
  by_for : {a b u v : Principal} →
      Reach U Known anchors a u → Reach U Known anchors b v → U (For u v) →
      Reach U Known anchors (For a b) (For u v)
  by_role : {a u : Principal} {r : ℕ} →
      Reach U Known anchors a u → U (InRole u r) → Reach U Known anchors (InRole a r) (InRole u r)
  -- a key reaches what the names of its anchors reach
  by_anchor : {v : Principal} (anchor : Anchor) (i : ℕ) → slice_get anchors i ≡ Some anchor →
      Reach U Known anchors (Name anchor.name) v → Reach U Known anchors (Key anchor.key) v

-- a statement between members, and each member that the principal reaches is known to say it
abbrev pub Sayers : (Principal → Type 0) → (Judgement → Type 0) → List Anchor →
    Principal → Principal → Principal → Type 0
Sayers U Known anchors who l r =
    U l × U r × ((v : Principal) → Reach U Known anchors who v → Known (Says v l r))

-- what a judgement comes to: one that speaks for another reaches whatever that one reaches, and
-- whom a sayer reaches says the same
abbrev pub Comes : (Principal → Type 0) → (Judgement → Type 0) → List Anchor → Judgement → Type 0
Comes U Known anchors (SpeaksFor a b) =
    (v : Principal) → Reach U Known anchors b v → Reach U Known anchors a v
Comes U Known anchors (Says a l r) = Sayers U Known anchors a l r

-- each rule gives what comes to this from what does
abbrev pub KeepsReach : List Anchor → List Claim → List Principal → List Judgement → Type 0
KeepsReach anchors claims table known =
    IsTable (Contains table) claims →
    IsSaturated (Contains table) (Contains known) anchors claims →
    (earlier : List Judgement) (line : Line) →
    All (Comes (Contains table) (Contains known) anchors) earlier →
    Follows anchors claims earlier line →
    Comes (Contains table) (Contains known) anchors line.fact

-- a member is known to speak for what it reaches
abbrev pub KnowsReach : List Anchor → List Claim → List Principal → List Judgement → Type 0
KnowsReach anchors claims table known =
    IsTable (Contains table) claims →
    IsSaturated (Contains table) (Contains known) anchors claims →
    (x v : Principal) → Contains table x →
    Reach (Contains table) (Contains known) anchors x v → Contains known (SpeaksFor x v)
