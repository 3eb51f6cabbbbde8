-- The rule of a turn cell: what holds between any two steps, whoever takes them.
use Rattle.std.specs.Prelude.{◌≡◌, ℕ, ◌<◌, ◌≤◌, ◌⊎◌, List, [], length, slice_index, sum_by, Option, Some, None}
use mathlib.Core.Option.{some, none}
use lib.ListN.{get_elem?}
use Rattle.atomic_table.specs.Table.{State}
use Rattle.turn_cell.specs.declared.shares.TheConstants.{ALL_SHARES}
use Rattle.turn_cell.specs.declared.steps.TheConstants.{WORDS}
use Rattle.turn_cell.specs.declared.view.Stage.{Stage}
use Rattle.turn_cell.specs.declared.view.Stage.TheVariants.{Idle, Waiting, Turn, Joined}
use Rattle.turn_cell.specs.declared.view.View.{View}
use Rattle.turn_cell.specs.Journal.{Grows, times, once_within}
use Rattle.turn_cell.specs.Line.{IsLined}

module _ {E : Type 0} where
  -- the stage knows its turn
  abbrev pub KnowsTurn : Stage E → Type 0
  KnowsTurn Idle = ⊥
  KnowsTurn (Waiting t) = ⊥
  KnowsTurn (Turn t entered) = Unit {0}
  KnowsTurn (Joined xs ys) = ⊥

  -- a stage that knows its turn is of the seat `turn`, has the ticket that is served,
  -- and keeps the core's journal
  abbrev pub AtTurn : ℕ → ℕ → List E → ℕ → Stage E → Type 0
  AtTurn turn serving core seat Idle = Unit {0}
  AtTurn turn serving core seat (Waiting t) = Unit {0}
  AtTurn turn serving core seat (Turn t entered) = (seat ≡ turn) × (t ≡ serving) × (entered ≡ core)
  AtTurn turn serving core seat (Joined xs ys) = Unit {0}

  -- of two lists that were joined the seen list is the longer
  abbrev pub IsJoined : (List E → Type 0) → List E → Stage E → Type 0
  IsJoined grows seen Idle = Unit {0}
  IsJoined grows seen (Waiting t) = Unit {0}
  IsJoined grows seen (Turn t entered) = Unit {0}
  IsJoined grows seen (Joined xs ys) =
      grows xs × grows ys × (length xs ≤ length seen) × (length ys ≤ length seen)

module _ {F E : Type 0} where
  -- a view whose shares and places went into another
  abbrev pub spent : View F E
  spent = record { fixed = None; start = 0; stage = Idle; shares = 0; seen = []; own = [] }

module _ {V F E : Type 0} where
  -- the slot is out with the one view that knows its turn
  pub record IsAway (core : List E) (s : State (Option V) (View F E)) : Type 0 where
    pub turn : ℕ
    pub holder : View F E
    pub there : get_elem? s.views turn ≡ some holder
    pub knows : KnowsTurn holder.stage
    pub out : get_elem? s.homes 4 ≡ some none
    -- no other view knows its turn; its ticket is the one served, and it keeps the core's journal
    pub one_turn : (seat : ℕ) (v : View F E) → get_elem? s.views seat ≡ some v
        → AtTurn turn (slice_index s.words 9) core seat v.stage

module _ {V F E : Type 0} (fixed : V → F) (journal : V → List E) (opening : V) where
  -- what the pass of a new cell knows
  abbrev pub first_view : View F E
  first_view = record {
    fixed = Some (fixed opening);
    start = length (journal opening);
    stage = Idle;
    shares = ALL_SHARES;
    seen = journal opening;
    own = [];
  }

  -- no view knows its turn, and the slot has a value with the opening value's fixed data,
  -- whose journal is the core's
  pub record IsHome (core : List E) (s : State (Option V) (View F E)) : Type 0 where
    pub value : V
    pub here : get_elem? s.homes 4 ≡ some (some (Some value))
    pub its_journal : journal value ≡ core
    pub its_fixed : fixed value ≡ fixed opening
    pub no_turn : (seat : ℕ) (v : View F E) → get_elem? s.views seat ≡ some v →
        ¬ (KnowsTurn v.stage)

module _ {V F E : Type 0} (fixed : V → F) (journal : V → List E) (allows : F → List E → E → Type 0)
    (opening : V) where
  -- what a view that is not spent knows
  pub record IsLive (core : List E) (v : View F E) : Type 0 where
    -- it keeps the opening value's fixed data, and how long the opening journal was
    pub its_fixed : v.fixed ≡ Some (fixed opening)
    pub its_start : v.start ≡ length (journal opening)
    -- its seen list begins with the opening journal
    pub begins : Grows allows (fixed opening) (journal opening) v.seen
    -- its seen list is a beginning of the core's journal
    pub grows : Grows allows (fixed opening) v.seen core
    -- its own places lie in its seen list
    pub own_seen : (place : ℕ) → 0 < times place v.own → place < length v.seen
    pub joined : IsJoined (λ xs. Grows allows (fixed opening) xs core) v.seen v.stage

  -- a view is spent exactly where it has no share
  pub record IsTold (core : List E) (v : View F E) : Type 0 where
    pub live : 0 < v.shares → IsLive core v
    pub gone : v.shares ≡ 0 → v ≡ spent

  -- what holds between any two steps; the slot holds the value
  pub record IsInvariant (s : State (Option V) (View F E)) : Type 0 where
    -- the core's journal, the one that all threads add to
    pub core : List E
    -- word 8 is the next ticket, word 9 the ticket that is served; the others are there for nothing but
    -- their room, which keeps these apart from those of other cells
    pub words : length s.words ≡ WORDS
    -- tickets out are the numbers from `serving` to before `ticket`, one per view that holds one
    pub line : IsLined (slice_index s.words 9) (slice_index s.words 8) s.views
    -- slot 4, the only one that is ever taken, is away exactly while there is a view that knows its turn,
    -- and at most one does.
    -- The core's journal is what that view keeps as entered, and else the home value's
    pub slot : IsHome fixed journal opening core s ⊎ IsAway core s
    -- what each view knows is so
    pub told : (seat : ℕ) (v : View F E) → get_elem? s.views seat ≡ some v → IsTold core v
    -- shares add up
    pub shared : sum_by (λ v. v.shares) s.views ≡ ALL_SHARES
    -- each place from the opening on is own of exactly one view, and no other place of any
    pub placed : (place : ℕ) → sum_by (λ v. times place v.own) s.views
        ≡ once_within (length (journal opening)) (length core) place
