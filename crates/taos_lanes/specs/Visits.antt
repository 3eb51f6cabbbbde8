-- The connections that a lane served among others.
use Rattle.std.specs.Prelude.{◌≡◌, ℕ, Bool, true, false, List, [], ◌∷◌}
use Rattle.std.specs.List.{flat_map}
use Rattle.frame_link.specs.declared.outcome.Outcome.{Outcome}
use Rattle.frame_link.specs.declared.outcome.Outcome.TheVariants.{End, Truncated, TooLong, ReadFault, WriteFault, ClockFault, Spent, NoMemory}
use Rattle.frame_link.specs.Served.{Line, replies_of}
use Rattle.turn_cell.specs.Journal.{times}
use Rattle.request_course.specs.Cells.{Node, Journals, Cell, Place, numbers_in, alone_of}
use Rattle.request_course.specs.World.{Setting, World, setting_of}
use Rattle.request_course.specs.Connection.{Connects}
use Rattle.request_course.specs.Run.{Answered}

-- what stays as it is while a lane answers: others step its cells too
abbrev pub among : Node → Setting
among n = setting_of n (alone_of false false)

-- A connection that was served so, of at most so many frames: what it came from and what it came to,
-- and its outcome.
pub record VisitBy {S : Type 0} (Serves : Line S → Line S → Outcome → Type 0) (limit : ℕ) :
    Type 0 where
  pub before : Line S
  pub after : Line S
  pub outcome : Outcome
  pub connects : Serves before after outcome

-- how a node serves a connection of a lane
abbrev pub ServesAmong : Node → ℕ → Line World → Line World → Outcome → Type 0
ServesAmong n limit = Connects (among n) limit

-- a connection that a node served
abbrev pub Visit : Node → ℕ → Type 0
Visit n limit = VisitBy (ServesAmong n limit) limit

-- the outcome is neither the end of whole frames nor want of memory
abbrev pub is_broken : Outcome → Bool
is_broken (End count) = false
is_broken NoMemory = false
is_broken (Truncated have) = true
is_broken (TooLong length) = true
is_broken ReadFault = true
is_broken WriteFault = true
is_broken ClockFault = true
is_broken (Spent count) = true

-- memory was refused
abbrev pub is_lacking : Outcome → Bool
is_lacking NoMemory = true
is_lacking _ = false

module _ {S : Type 0} {Serves : Line S → Line S → Outcome → Type 0} {limit : ℕ} where
  -- what a connection began with
  abbrev pub begun : VisitBy Serves limit → S
  begun v = v.before.service

  -- what it left
  abbrev pub left : VisitBy Serves limit → S
  left v = v.after.service

  -- each connection begins with what the one before left
  abbrev pub Chain : S → List (VisitBy Serves limit) → S → Type 0
  Chain first [] last = last ≡ first
  Chain first (v ∷ visits) last = (begun v ≡ first) × Chain (left v) visits last

module _ {n : Node} {limit : ℕ} where
  -- the own places of a connection
  abbrev pub places_of : Visit n limit → List Place
  places_of v = v.connects.connection.used.places

  -- those of connections, in order
  abbrev pub all_places : List (Visit n limit) → List Place
  all_places visits = flat_map places_of visits

  -- a connection is answered in the journals, by its own places
  abbrev pub AnsweredIn : Journals → Visit n limit → Type 0
  AnsweredIn J v =
      let served = v.connects.connection.served in
      Answered n J v.connects.connection.used served.payloads (replies_of served.turns) v.outcome

  -- how often a place of a cell is the connection's own
  abbrev pub times_own : Cell → ℕ → Visit n limit → ℕ
  times_own cell place v = times place (numbers_in cell (places_of v))
