-- Laws of what a seat tells, where others step the shards too.
use Rattle.std.specs.Prelude.{◌≡◌, ℕ, ◌+◌, ◌≤◌, Bool, List, [], ◌∷◌, ◌++◌, length, Some, slice_get}
use Rattle.proof_cache.specs.Cached.{Cached}
use Rattle.agent_core.specs.declared.asked.Settled.{Settled}
use Rattle.agent_core.specs.Asked.{AskedTo, IsGrant, IsDeniedAt}
use Rattle.agent_core.specs.declared.asked.Denial.{Denial}
use Rattle.agent_core.specs.declared.told.Told.{Told}
use Rattle.agent_core.specs.Journals.{Entry, entry, Begins, Stands, Verdict, IsVerdict, Granted, Denied}
use Rattle.denial_link.specs.declared.link.Link.{Link}
use Rattle.turn_cell.specs.Known.{Cell, Known}
use Rattle.agent_shards.specs.Cells.{AreJoined, AreSplit, HaveAll, shares_of}
use Rattle.agent_core.specs.State.{Plan, Ask, Asks, Event}
use Rattle.agent_core.specs.Steps.{JournalSeen, StepAnswer, StepsTo}

-- one own entry, of this event, was added after what was seen; other entries may stand between
pub record AddsOneOwn (earlier later : JournalSeen) (event : Event) (place : ℕ) : Type 0 where
  pub begins : Begins earlier.journal later.journal
  pub after : length earlier.journal ≤ place
  -- it is the last entry that is seen
  pub last : place + 1 ≡ length later.journal
  pub e : Entry
  pub there : slice_get later.journal place ≡ Some e
  pub of_event : e.event ≡ event
  pub own : later.own ≡ earlier.own ++ place ∷ []

-- a step among others that finds room adds one own entry
abbrev pub StepsAddOne : Type 0
StepsAddOne = (plan : Plan) (earlier later : JournalSeen) (event : Event) (place : ℕ)
    (answer : StepAnswer) → StepsTo plan earlier later event place answer →
    AddsOneOwn earlier later event place

-- this is the verdict on the Ask at a place after what was seen, by the entries before it alone
pub record IsVerdictThere (plan : Plan) (earlier later : JournalSeen) (a : Ask) (place : ℕ)
    (v : Verdict) : Type 0 where
  -- the entries before the place
  pub before : List Entry
  pub told : Told
  pub stands : Stands later.journal place before (entry (Asks a) told)
  pub after : length earlier.journal ≤ place
  pub verdict : IsVerdict plan before a v

-- an ask among others that is granted has this verdict at its place, whatever stands after it
abbrev pub GrantsAreVerdicts : Type 0
GrantsAreVerdicts = (plan : Plan) (earlier later : JournalSeen) (a : Ask) (place e : ℕ)
    (c : Cached) (kept : Bool) (settled : Settled) →
    AskedTo plan earlier later a (IsGrant plan later.journal a place e c kept settled) →
    IsVerdictThere plan earlier later a place Granted

-- and so has one that is denied
abbrev pub DenialsAreVerdicts : Type 0
DenialsAreVerdicts = (plan : Plan) (earlier later : JournalSeen) (a : Ask) (place : ℕ)
    (denial : Denial) →
    AskedTo plan earlier later a
    (λ own. IsDeniedAt plan later.journal a place denial × (own ≡ place ∷ [])) →
    (link : Link) × IsVerdictThere plan earlier later a place (Denied link)

-- passes that had all shares have them again, after they were divided, each seat kept its shares,
-- and they were joined
abbrev pub SharesAddUp : {F E : Type 0} → (F → List E → E → Type 0) → Type 0
SharesAddUp {F} {E} allows = (shares : ℕ) (cells : List (Cell F E))
    (before kept given kept_later given_later both : List (Known F E)) →
    HaveAll before → AreSplit shares cells before kept given →
    shares_of kept_later ≡ shares_of kept → shares_of given_later ≡ shares_of given →
    AreJoined allows cells kept_later both given_later → HaveAll both
