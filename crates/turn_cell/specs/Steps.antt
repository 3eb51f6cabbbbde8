-- The seven kinds of step, draw, look, take, put, call, split and join: a row says what the seat
-- `m` is afterwards, `n`, as its view and the slot that is out with it.
use Rattle.std.specs.Prelude.{◌≡◌, ◌≢◌, ℕ, ◌+◌, ◌-◌, ◌<◌, ◌≤◌, cond, ltb, List, [], ◌∷◌, ◌++◌, length, Option, Some, None}
use Rattle.atomic_table.specs.declared.shared.Seat.{Seat}
use Rattle.atomic_table.specs.Seated.{TableId}
use Rattle.atomic_table.specs.Table.{Me, Step}
use Rattle.turn_cell.specs.declared.shares.TheConstants.{ALL_SHARES}
use Rattle.turn_cell.specs.declared.steps.TheConstants.{WORDS}
use Rattle.turn_cell.specs.declared.view.Stage.{Stage}
use Rattle.turn_cell.specs.declared.view.Stage.TheVariants.{Idle, Waiting, Turn, Joined}
use Rattle.turn_cell.specs.declared.view.View.{View}
use Rattle.turn_cell.specs.Journal.{Grows, MayLeave, HasEach, times, longer}
use Rattle.turn_cell.specs.Known.{Known, Entered}

-- the seat is of this table, which has the words of a cell
abbrev pub SitsAt : TableId → TableId → Type 0
SitsAt seat table = (seat ≡ table) × (table.words ≡ WORDS)

-- what a seat is after a step, or a new seat that comes of it: at the same table, and its view and
-- its slot are so
abbrev pub StepsBy : {S V : Type 0} → (Me S V → Me S V → Type 0) → (before after : Seat S V) →
    Type 0
StepsBy R before after = (after.table_id ≡ before.table_id) × R before.me after.me

-- the seat is at the same table, with the same view and slot
abbrev pub Stays : {S V : Type 0} → (before after : Seat S V) → Type 0
Stays before after = StepsBy (λ m n. n ≡ m) before after

-- the places that a journal has beyond the one that was entered
abbrev pub added : {E : Type 0} → List E → List E → List ℕ
added entered journal = cond (ltb (length entered) (length journal)) (length entered ∷ []) []

-- the journal that a stage at its turn keeps
abbrev pub entered_of : {E : Type 0} → Stage E → List E
entered_of Idle = []
entered_of (Waiting t) = []
entered_of (Turn t entered) = entered
entered_of (Joined xs ys) = []

-- the ticket that a stage holds
abbrev pub ticket_of : {E : Type 0} → Stage E → ℕ
ticket_of Idle = 0
ticket_of (Waiting t) = t
ticket_of (Turn t entered) = t
ticket_of (Joined xs ys) = 0

module _ {F E : Type 0} where
  -- the view at another stage
  abbrev pub at_stage : Stage E → View F E → View F E
  at_stage stage v = record v { stage = stage }

  -- call: the view has seen the journal that was put, an added place is its own,
  -- and it keeps nothing as entered and holds no ticket
  abbrev pub gone_home : List E → List E → View F E → View F E
  gone_home entered journal v = record v {
    stage = Idle;
    seen = journal;
    own = v.own ++ added entered journal;
  }

  -- split: the first view keeps the other shares, what it had seen and its own places
  abbrev pub keeping : ℕ → View F E → View F E
  keeping give v = record v { shares = v.shares - give }

  -- split: the second view has the shares, has seen the same and has no own places
  abbrev pub given : ℕ → View F E → View F E
  given give v = record v { stage = Idle; shares = give; own = [] }

  -- join: one view with the longer list, both own places and the sum of shares. The other is spent
  abbrev pub both : View F E → View F E → View F E
  both v w = record v {
    stage = Joined v.seen w.seen;
    shares = v.shares + w.shares;
    seen = longer v.seen w.seen;
    own = v.own ++ w.own;
  }

  -- what contracts see of the view of a pass
  abbrev pub known_of : TableId → ℕ → View F E → Known F E
  known_of cell shares v = record {
    cell = cell;
    fixed = v.fixed;
    start = v.start;
    shares = shares;
    seen = v.seen;
    own = v.own;
  }

  -- what contracts see of the view of a pass that has entered
  abbrev pub entered_as : TableId → ℕ → View F E → Entered F E
  entered_as cell shares v = record {
    cell = cell;
    fixed = v.fixed;
    start = v.start;
    shares = shares;
    entered = entered_of v.stage;
    own = v.own;
  }

module _ {V F E : Type 0} where
  -- the seat takes no step: it has no ticket, no slot, and a share at least
  abbrev pub IsIdle : Me (Option V) (View F E) → Type 0
  IsIdle m = (m.0.stage ≡ Idle) × (0 < m.0.shares) × (m.1 ≡ [])

  -- the seat is at its turn, and its slot is empty, since the value is in the caller's hand
  abbrev pub IsAtTurn : Me (Option V) (View F E) → Type 0
  IsAtTurn m = (t : ℕ) × (entered : List E) × (m.0.stage ≡ Turn t entered) × (m.1 ≡ (4, None) ∷ [])

  -- the seat of a pass. One that has all shares has as its own each place from the opening on
  pub record IsResting (shares : ℕ) (m : Me (Option V) (View F E)) : Type 0 where
    pub no_slot : m.1 ≡ []
    pub idle : m.0.stage ≡ Idle
    pub counted : m.0.shares ≡ shares
    pub least : 1 ≤ shares
    pub most : shares ≤ ALL_SHARES
    pub whole : shares ≡ ALL_SHARES → HasEach m.0.start (length m.0.seen) m.0.own

  -- the seat of a pass that has entered
  pub record IsOut (shares : ℕ) (m : Me (Option V) (View F E)) : Type 0 where
    pub at_turn : IsAtTurn m
    pub counted : m.0.shares ≡ shares
    pub least : 1 ≤ shares
    pub most : shares ≤ ALL_SHARES

  -- the view is what `view` makes of it, and there is no slot
  abbrev pub IsLeft : (View F E → View F E) → (m n : Me (Option V) (View F E)) → Type 0
  IsLeft view m n = n ≡ (view m.0, [])

  -- draw: the view holds the ticket that was found
  abbrev pub Draws : Step (Option V) → Me (Option V) (View F E) → ℕ → Me (Option V) (View F E) →
      Type 0
  Draws st m found n = n ≡ (at_stage (Waiting found) m.0, m.1)

  -- draw, of a seat with no slot
  abbrev pub Drew : ℕ → (m n : Me (Option V) (View F E)) → Type 0
  Drew ticket m n = IsLeft (at_stage (Waiting ticket)) m n

  -- take: the value of the slot is in the caller's hand, and the view is as before
  pub record IsTaken (value : V) (m n : Me (Option V) (View F E)) : Type 0 where
    pub hand : m.1 ≡ (4, Some value) ∷ []
    pub after : n ≡ (m.0, (4, None) ∷ [])

  -- put: the slot has the value again, and the view is as before
  abbrev pub IsPut : V → (m n : Me (Option V) (View F E)) → Type 0
  IsPut value m n = n ≡ (m.0, (4, Some value) ∷ [])

module _ {V F E : Type 0} (fixed : V → F) (journal : V → List E)
    (allows : F → List E → E → Type 0) where
  -- look, on its turn: the seat has the slot, with a value that has the view's fixed data.
  -- The view keeps its journal as entered, which grew from what was seen
  pub record Turns (t : ℕ) (m n : Me (Option V) (View F E)) : Type 0 where
    pub value : V
    pub after : n ≡ (at_stage (Turn t (journal value)) m.0, (4, Some value) ∷ m.1)
    pub its_fixed : m.0.fixed ≡ Some (fixed value)
    pub grows : Grows allows (fixed value) m.0.seen (journal value)

  -- look: the view knows whether it is its turn
  abbrev pub Looks : Step (Option V) → Me (Option V) (View F E) → ℕ → Me (Option V) (View F E) →
      Type 0
  Looks st m found n =
      (t : ℕ) → m.0.stage ≡ Waiting t → (found ≡ t → Turns t m n) × (found ≢ t → n ≡ m)

  -- look on its turn, then take: the value is in the caller's hand
  pub record TookOut (t : ℕ) (value : V) (m n : Me (Option V) (View F E)) : Type 0 where
    pub after : n ≡ (at_stage (Turn t (journal value)) m.0, (4, None) ∷ [])
    pub its_fixed : m.0.fixed ≡ Some (fixed value)
    pub grows : Grows allows (fixed value) m.0.seen (journal value)

  -- before a call: the slot has a value with the view's fixed data and with the entered journal,
  -- or it with one allowed entry more
  pub record MayCall (m : Me (Option V) (View F E)) : Type 0 where
    pub ticket : ℕ
    pub entered : List E
    pub value : V
    pub stage : m.0.stage ≡ Turn ticket entered
    pub slot : m.1 ≡ (4, Some value) ∷ []
    pub live : 0 < m.0.shares
    pub its_fixed : m.0.fixed ≡ Some (fixed value)
    pub may : MayLeave allows (fixed value) entered (journal value)

module _ {V F E : Type 0} (journal : V → List E) where
  -- call: the ticket that was served is the view's, and the slot goes home.
  -- A view with all shares has as its own each place from the opening on
  pub record GoesHome (value : V) (m n : Me (Option V) (View F E)) : Type 0 where
    pub after : n ≡ (gone_home (entered_of m.0.stage) (journal value) m.0, [])
    pub whole : m.0.shares ≡ ALL_SHARES → HasEach m.0.start (length (journal value))
        (m.0.own ++ added (entered_of m.0.stage) (journal value))

  -- call, of a seat with its slot: the slot goes home
  abbrev pub TakesHome : (m n : Me (Option V) (View F E)) → Type 0
  TakesHome m n = (value : V) → m.1 ≡ (4, Some value) ∷ [] → GoesHome value m n

  -- call, of a view at its turn with its slot: its ticket is the one that was served, and the slot
  -- goes home
  abbrev pub Calls : Step (Option V) → Me (Option V) (View F E) → ℕ → Me (Option V) (View F E) →
      Type 0
  Calls st m found n = (t : ℕ) (entered : List E) (value : V)
      → m.0.stage ≡ Turn t entered → m.1 ≡ (4, Some value) ∷ []
      → (found ≡ t) × GoesHome value m n

module _ {V F E : Type 0} (allows : F → List E → E → Type 0) where
  -- join, its second load: what both had seen begins what the view has seen,
  -- no place is its own twice, and with all shares it has each from the opening on
  pub record Settles (xs ys : List E) (m n : Me (Option V) (View F E)) : Type 0 where
    pub after : n ≡ (at_stage Idle m.0, m.1)
    pub grows : (f : F) → m.0.fixed ≡ Some f
        → Grows allows f xs m.0.seen × Grows allows f ys m.0.seen
    pub few : m.0.shares ≤ ALL_SHARES
    pub distinct : (place : ℕ) → times place m.0.own ≤ 1
    pub whole : m.0.shares ≡ ALL_SHARES → HasEach m.0.start (length m.0.seen) m.0.own

  -- join, its second load, of a view that joined two lists
  abbrev pub Settled : Step (Option V) → Me (Option V) (View F E) → ℕ → Me (Option V) (View F E) →
      Type 0
  Settled st m found n = (xs ys : List E) → m.0.stage ≡ Joined xs ys → Settles xs ys m n

  -- the seat after that of `w` was joined into it
  pub record IsJoinOf (w : View F E) (m n : Me (Option V) (View F E)) : Type 0 where
    pub after : n ≡ (at_stage Idle (both m.0 w), [])
    pub grows : (f : F) → m.0.fixed ≡ Some f
        → Grows allows f m.0.seen (longer m.0.seen w.seen)
        × Grows allows f w.seen (longer m.0.seen w.seen)
    pub few : m.0.shares + w.shares ≤ ALL_SHARES
    pub distinct : (place : ℕ) → times place m.0.own + times place w.own ≤ 1
    pub whole : m.0.shares + w.shares ≡ ALL_SHARES
        → HasEach m.0.start (length (longer m.0.seen w.seen)) (m.0.own ++ w.own)
