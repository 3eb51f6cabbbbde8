-- What the answers of a node depend on where nobody else steps its cells: the frames, the readings of
-- the clock, the answers of the fetch and of the link, and the proofs that were made for grants.
use Rattle.std.specs.Prelude.{◌≡◌, ◌≢◌, ℕ, Bool, true, false, List, [], ◌∷◌, map, All, Option, Some, None}
use Rattle.frame_link.specs.declared.outcome.Outcome.{Outcome}
use Rattle.frame_link.specs.declared.outcome.Outcome.TheVariants.{End, Truncated, TooLong, ReadFault, WriteFault, ClockFault, Spent, NoMemory}
use Rattle.frame_link.specs.Served as link
use Rattle.frame_link.specs.Served.{Line, Chain, IsServed}
use Rattle.proof_cache.specs.Cached.{Cached}
use Rattle.taos_wire.specs.Reply as replies
use Rattle.taos_wire.specs.Reply.{Reply, Sent}
use Rattle.agent_core.specs.State.{Plan}
use Rattle.request_course.specs.Cells.{Node, Cell, Journals}
use Rattle.request_course.specs.World.{Setting, World}
use Rattle.request_course.specs.AtObject.{Seeking, Own, IsGuardedAfter, object_is_full, no_ruling, denied, granted}
use Rattle.request_course.specs.Course.{Used, CourseAfter, malformed, unknown_channel, bad_seal, cert_refused, relay_failed, unknown_object, ruled, unread, unopened}
use Rattle.request_course.specs.Course.{TurnAfter, plain, pull_failed, unfetched, unpulled, pull_stopped, pulled}
use Rattle.request_course.specs.Run.{Turn, frames_of, readings_of, pulls_of, calls_of}
use Rattle.request_course.specs.Connection.{AnswersFrame, GivesUpFrame, IsConnection}

-- ---- what was chosen

-- the proof of a grant, where it was made for it: one that was kept before is no choice
abbrev pub made : Bool → Cached → Option Cached
made false c = Some c
made true c = None

-- the proof that was made for what is sought, if one was
abbrev pub made_for : {plans : List Plan} {plan : Plan} {seen : Journals × Journals} {x : Seeking}
    {own : Own} {reply : Reply} → IsGuardedAfter plans plan seen x own reply → Option Cached
made_for (object_is_full at) = None
made_for (no_ruling before with unruled) = None
made_for (denied before stands denial tells) = None
made_for (granted {c} {kept} before stands grant performed out) = made kept c

-- the proof that was made in a course, if one was
abbrev pub choice_of : {n : Node} {past J : Journals} {payload : List ℕ} {used : Used} {sent : Sent} →
    CourseAfter n past J payload used sent → Option Cached
choice_of (malformed none reads) = None
choice_of (unknown_channel r spelled none) = None
choice_of (bad_seal r key spelled keyed other) = None
choice_of (cert_refused asked first) = None
choice_of (relay_failed asked first) = None
choice_of (unknown_object opened none) = None
choice_of (ruled t reading plan planned guarded) = made_for guarded
choice_of unread = None
choice_of (unopened asked interrupted) = None

-- the same, with what was fetched for it
abbrev pub choice_in : {n : Node} {past J : Journals} {payload : List ℕ} {used : Used} {sent : Sent} →
    TurnAfter n past J payload used sent → Option Cached
choice_in (plain course) = choice_of course
choice_in (pull_failed asked) = None
choice_in (unfetched asked) = None
choice_in (unpulled asked interrupted) = None
choice_in (pull_stopped asked failed) = None
choice_in (pulled asked opened course) = choice_of course

-- ---- the answers of a connection

-- the answer to a frame: what its course used and sent, and the proof that was made in it
pub record Answer : Type 0 where
  pub turn : Turn
  pub choice : Option Cached

-- the turns of answers
abbrev pub turns_of : List Answer → List Turn
turns_of answers = map (λ (a : Answer). a.turn) answers

module _ (s : Setting) where
  -- the answer to a frame, by its course
  abbrev pub answer_by : (before : World) (payload reply : List ℕ) (after : World) →
      AnswersFrame s before payload reply after → Answer
  answer_by before payload reply after x = record {
    turn = record { frame = payload; used = x.used; sent = x.sent };
    choice = choice_in x.course;
  }

  -- the answers to frames, one after the other
  abbrev pub answers_by : (before : World) (turns : List link.Turn) (after : World) →
      Chain (AnswersFrame s) before turns after → List Answer
  answers_by before [] after chain = []
  answers_by before (t ∷ turns) after chain =
      answer_by before t.payload t.reply chain.0 chain.1 ∷ answers_by chain.0 turns after chain.2

  -- the answers of a connection; the frame at which the clock failed has none
  abbrev pub answers_in : (limit : ℕ) (before after : Line World) (outcome : Outcome) →
      IsServed (AnswersFrame s) (GivesUpFrame s) limit before after outcome → List Answer
  answers_in limit before after (End n) x =
      answers_by before.service x.turns after.service x.answered.1
  answers_in limit before after (Truncated have) x =
      answers_by before.service x.turns after.service x.answered.1
  answers_in limit before after (TooLong n) x =
      answers_by before.service x.turns after.service x.answered.1
  answers_in limit before after ReadFault x =
      answers_by before.service x.turns after.service x.answered.1
  answers_in limit before after WriteFault x =
      answers_by before.service x.turns after.service x.answered.1
  answers_in limit before after ClockFault x =
      answers_by before.service x.turns x.answered.middle x.answered.chain
  answers_in limit before after (Spent n) x =
      answers_by before.service x.turns after.service x.answered.1
  answers_in limit before after NoMemory x =
      answers_by before.service x.turns after.service x.answered.1

-- ---- two of them

-- where two proofs were made they are one
abbrev pub SameChoice : Option Cached → Option Cached → Type 0
SameChoice (Some c) (Some d) = c ≡ d
SameChoice (Some c) None = Unit {0}
SameChoice None other = Unit {0}

-- place by place
abbrev pub SameChoices : List Answer → List Answer → Type 0
SameChoices (a ∷ answers) (b ∷ others) = SameChoice a.choice b.choice × SameChoices answers others
SameChoices (a ∷ answers) [] = Unit {0}
SameChoices [] others = Unit {0}

-- memory was not lacking for the answer
abbrev pub HadMemory : Answer → Type 0
HadMemory a = a.turn.sent.reply ≢ replies.NoMemory

-- Both answer the same frames, by the same readings of the clock and the same answers of the fetch and
-- of the link; where both had a grant for which no proof was kept, they made one proof; and memory was never
-- lacking.
pub record AreAlike (answers others : List Answer) : Type 0 where
  pub frames : frames_of (turns_of answers) ≡ frames_of (turns_of others)
  pub readings : readings_of (turns_of answers) ≡ readings_of (turns_of others)
  pub pulls : pulls_of (turns_of answers) ≡ pulls_of (turns_of others)
  pub calls : calls_of (turns_of answers) ≡ calls_of (turns_of others)
  pub choices : SameChoices answers others
  pub had_memory : All HadMemory answers
  pub others_had : All HadMemory others

-- nobody else steps a cell
abbrev pub IsAlone : Setting → Type 0
IsAlone s = (cell : Cell) → s.alone cell ≡ true

-- ---- laws

-- a frame is answered in one way, after the same entries, where both fetch or neither does
abbrev pub AnswersAgree : Setting → Type 0
AnswersAgree s =
    IsAlone s → (payload reply other : List ℕ) (before after start final : World) →
    (x : AnswersFrame s before payload reply after) (y : AnswersFrame s start payload other final) →
    before.seen.journals ≡ start.seen.journals → before.fetch.pulls ≡ start.fetch.pulls →
    AreAlike (answer_by s before payload reply after x ∷ [])
    (answer_by s start payload other final y ∷ []) →
    (reply ≡ other) × (after.seen.journals ≡ final.seen.journals)

-- connections alike, after the same entries, where both fetch or neither does, write the same replies and leave the same entries
abbrev pub ConnectionsAgree : Setting → Type 0
ConnectionsAgree s =
    IsAlone s → (limit most : ℕ) (before after start final : Line World) (outcome other : Outcome) →
    (x : IsConnection s limit before after outcome) (y : IsConnection s most start final other) →
    before.service.seen.journals ≡ start.service.seen.journals →
    before.service.fetch.pulls ≡ start.service.fetch.pulls →
    AreAlike (answers_in s limit before after outcome x.served)
    (answers_in s most start final other y.served) →
    (link.replies_of x.served.turns ≡ link.replies_of y.served.turns)
    × (after.service.seen.journals ≡ final.service.seen.journals)

-- the whole frames of a connection are a function of the bytes that it took
abbrev pub FramesAreRead : Setting → Type 0
FramesAreRead s =
    (limit most : ℕ) (before after start final : Line World) (outcome other : Outcome) →
    (x : IsConnection s limit before after outcome) (y : IsConnection s most start final other) →
    x.served.taken ≡ y.served.taken → x.served.payloads ≡ y.served.payloads
