-- What is promised of a payload, of a request and of a connection, from a state to a state.
use Rattle.std.specs.Prelude.{◌≡◌, ℕ, List}
use Rattle.frame_link.specs.Served.{Line, line}
use Rattle.frame_link.specs.declared.outcome.Outcome.{Outcome}
use Rattle.taos_wire.specs.Request.{Request}
use Rattle.taos_wire.specs.View.{request}
use Rattle.taos_wire.specs.declared.request.Request.{Request as RequestValue}
use Rattle.request_course.specs.declared.handled.Handled.{Handled}
use Rattle.request_course.specs.Completeness.{AnswersPayload, AnswersRequest}
use Rattle.request_course.specs.Connection.{Connects}
use Rattle.request_course.specs.Handling.{Answers, Handles, HandlesPulled}
use Rattle.request_course.specs.World.{State, World, plainly}

-- what nobody changes did not change
pub record Stays (before after : State) : Type 0 where
  pub setting : after.setting ≡ before.setting
  pub lent : after.lent ≡ before.lent

module _ (before after : State) where
  -- the payload was answered, or came to the clock, which failed; and what stays did
  abbrev pub AnswersIn : (payload bytes : List ℕ) → Handled → Type 0
  AnswersIn payload bytes h =
      Stays before after × Answers before.setting before.world after.world payload bytes h

  -- the same of a request, with what is fetched for it
  abbrev pub HandlesIn : Request → (bytes : List ℕ) → Handled → Type 0
  HandlesIn r bytes h =
      Stays before after × HandlesPulled before.setting before.world after.world r bytes h

  -- the same of a request as it stands, for which nothing is fetched
  abbrev pub HandlesPlainly : Request → (bytes : List ℕ) → Handled → Type 0
  HandlesPlainly r bytes h =
      Stays before after × (after.world.fetch ≡ before.world.fetch)
      × Handles before.setting (plainly before.world) (plainly after.world) r bytes h

  -- the payload was answered, with its cause, and wholly where nothing failed
  abbrev pub AnswersWith : (payload bytes : List ℕ) → Handled → Type 0
  AnswersWith payload bytes h =
      AnswersPayload before.setting before.world after.world payload bytes h

  -- the same of a request
  abbrev pub HandlesWith : Request → (bytes : List ℕ) → Handled → Type 0
  HandlesWith r bytes h = AnswersRequest before.setting before.world after.world r bytes h

  -- the same of the program's request
  abbrev pub HandlesAsked : RequestValue → (bytes : List ℕ) → Handled → Type 0
  HandlesAsked r bytes h = HandlesWith (request r) bytes h

-- a line, by what an answer may change
abbrev pub in_world : Line State → Line World
in_world l = line l.input l.output l.service.world

-- a connection was served
abbrev pub ServesBy : ℕ → (before after : Line State) → Outcome → Type 0
ServesBy limit before after outcome =
    Connects before.service.setting limit (in_world before) (in_world after) outcome

-- the same, and what stays did
abbrev pub ServesIn : ℕ → (before after : Line State) → Outcome → Type 0
ServesIn limit before after outcome =
    Stays before.service after.service × ServesBy limit before after outcome
