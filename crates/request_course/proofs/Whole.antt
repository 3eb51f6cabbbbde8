-- Answers in which no call failed are whole, with what was fetched for them.
use Rattle.std.proofs.Common.{◌≡◌, ◌≢◌, ◌⊎◌, ℕ, ◌+◌, ◌-◌, ◌^◌, ◌<◌, ◌≤◌, List, [], ◌∷◌, ◌++◌, get_or, All, refl, sym, ap, subst, ◌∙◌, inl, inr, arith, append-nil}
use Rattle.std.proofs.lemmas.List.Elements.{All-nil, All-cons, All-head}
use Rattle.std.proofs.lemmas.Option.{same_Some}
use Rattle.keyed_seal.specs.Keys.{key_of}
use Rattle.frame_link.specs.declared.outcome.Outcome.{Outcome}
use Rattle.frame_link.specs.declared.outcome.Outcome.TheVariants as outcomes
use Rattle.frame_link.specs.declared.outcome.Outcome.TheVariants.{End, Truncated, TooLong, ReadFault, WriteFault, ClockFault, Spent}
use Rattle.stmt_codec.specs.Certificates.{Certificate}
use Rattle.taos_calculus.proofs.Walks.{All-front, All-back}
use Rattle.taos_wire.specs.Request.{Request, IsAsked}
use Rattle.taos_wire.proofs.RequestLaws.{spelled_once}
use Rattle.taos_wire.specs.Reply as replies
use Rattle.taos_wire.specs.Reply.{Reply, Sent}
use Rattle.cred_pull.specs.Fetching as fetching
use Rattle.cred_pull.specs.Fetching.{FetchSeen, Texts, Pull, Gave, IsFetched}
use Rattle.cred_pull.specs.Pulled.{ArePulled, IsFailedAt}
use Rattle.cred_pull.specs.Pulling.{within}
use Rattle.cred_pull.proofs.Walks.{one_way}
use Rattle.request_course.specs.Cells.{Node, Journals, no_entries, AreLegal}
use Rattle.request_course.specs.Completeness.{IsJudged, StoodStill, NoneFailed, NoPullFailed, NothingFailed, IsWhole, IsWholeTurn, AnswersWhole, HandlesWhole, AnswersPayload, AnswersRequest, AnswersAreWhole}
use Rattle.request_course.specs.Course.{Arrival, arrival_in, Used, uses, pulling, pulled_payload, CourseAfter, malformed, TurnAfter, plain, pull_failed, unfetched, unpulled, pull_stopped, pulled, ComesToClock, as_sent, with_more}
use Rattle.request_course.specs.Credentials.{LinkAnswer, Resealed, Lacked, Failed, LinkCall, call, FailedAs}
use Rattle.request_course.specs.Handling.{AreFetched, HasCourse, Answers, Handles, HandlesCause}
use Rattle.request_course.specs.Laws.{failed_in, failures}
use Rattle.request_course.specs.Run.{Turn, pulls_of, calls_of, AreTurns, Answered}
use Rattle.request_course.specs.World.{Setting, World, clock_faults}
use Rattle.request_course.specs.declared.handled.Handled.{Handled}
use Rattle.request_course.specs.declared.handled.Handled.TheVariants as handled
use Rattle.request_course.proofs.Causes.{faults_are_counted}
use Rattle.request_course.proofs.Complete.{arrivals_are_judged}

-- ---- where nothing failed

no_failure : (answer : LinkAnswer) → failed_in answer ≡ 0 → answer ≢ Failed
no_failure (Resealed new) none e = cc
no_failure _ none e = cc

none_failed : (calls : List LinkCall) → failures calls ≡ 0 → NoneFailed calls
none_failed [] none = All-nil (λ (c : LinkCall). c.answer ≢ Failed)
none_failed (c ∷ calls) none = All-cons (λ (d : LinkCall). d.answer ≢ Failed) c calls (no_failure c.answer (omega (arith, none))) (none_failed calls (omega (arith, none)))

steady_calls : (before after : ℕ) (calls : List LinkCall) → StoodStill before after → FailedAs before after calls → NoneFailed calls
steady_calls before after calls (same, below) f = let counted = faults_are_counted before after calls f (omega (arith, same, below)) in none_failed calls (omega (arith, counted, same))

-- ---- the same with what was fetched

-- a course of a payload fetched nothing
pub as_used : (n : Node) (past J : Journals) (payload : List ℕ) (used : Used) (sent : Sent) → CourseAfter n past J payload used sent → used ≡ uses used.readings used.calls used.places
as_used n past J payload used sent (malformed none reads) = refl
as_used n past J payload used sent _ = refl

pub none_fetched : (n : Node) (past J : Journals) (payload : List ℕ) (used : Used) (sent : Sent) → CourseAfter n past J payload used sent → used.pulls ≡ []
none_fetched n past J payload used sent c = ap (λ (u : Used). u.pulls) (as_used n past J payload used sent c)

-- one fetch is not none, nor another
pub fetch_is_none : (p : Pull) (ps : List Pull) → p ∷ ps ≡ [] → ⊥
fetch_is_none p ps e = absurd cc

pub same_texts : (a b : Texts) (ps qs : List Pull) → Gave a ∷ ps ≡ Gave b ∷ qs → a ≡ b
same_texts a b ps qs e = let first : Gave a ≡ Gave b = cc in cc

-- a turn for which nothing was fetched is a course
pub plain_course : (n : Node) (past J : Journals) (payload : List ℕ) (used : Used) (sent : Sent) → TurnAfter n past J payload used sent → used.pulls ≡ [] → CourseAfter n past J payload used sent
plain_course n past J payload used sent (plain c) none = c
plain_course n past J payload used sent (pull_failed asked) none = absurd (fetch_is_none fetching.Failed [] none)
plain_course n past J payload used sent (unfetched asked) none = absurd (fetch_is_none fetching.Lacked [] none)
plain_course n past J payload used sent (unpulled {fetched} asked interrupted) none = absurd (fetch_is_none (Gave fetched) [] none)
plain_course n past J payload used sent (pull_stopped {fetched} asked failed) none = absurd (fetch_is_none (Gave fetched) [] none)
plain_course n past J payload used sent (pulled {fetched} {used = later} asked opened c) none = absurd (fetch_is_none (Gave fetched) later.pulls none)

-- two readings of one payload under its channel's seal
pub same_asked : (n : Node) (payload : List ℕ) (q r : Request) (k l : List ℕ) → IsAsked n.channels payload q k → IsAsked n.channels payload r l → (q ≡ r) × (k ≡ l)
same_asked n payload q r k l a b =
    let one = spelled_once q r payload a.spelled b.spelled in
    (one, same_Some k l (sym a.keyed ∙ ap (λ (x : Request). key_of n.channels x.channel) one ∙ b.keyed))

-- the payload with what was pulled for it is one, by the same answers
module _ (n : Node) (payload : List ℕ) (q r : Request) (k l : List ℕ) (a : IsAsked n.channels payload q k) (b : IsAsked n.channels payload r l) (fetched others : Texts) (alike : fetched ≡ others)
    (calls by rest more : List LinkCall) (certs ds : List Certificate) (x : ArePulled n.relay_key (within q.certs fetched) calls certs) (y : ArePulled n.relay_key (within r.certs others) by ds) (together : calls ++ rest ≡ by ++ more) where
  one_way_there : (rest ≡ more) × (certs ≡ ds)
  one_way_there =
      let texts : within q.certs fetched ≡ within r.certs others = ap (λ (z : Request). within z.certs fetched) (same_asked n payload q r k l a b).0 ∙ ap (within r.certs) alike in
      one_way n.relay_key (within r.certs others) calls by rest more certs ds (subst (λ (ts : Texts). ArePulled n.relay_key ts calls certs) texts x) y together

  pub one_payload : pulled_payload n k q certs ≡ pulled_payload n l r ds
  one_payload =
      let (request, key) = same_asked n payload q r k l a b in
      ap (λ (z : Request). pulled_payload n k z certs) request ∙ ap (λ (z : List ℕ). pulled_payload n z r certs) key ∙ ap (pulled_payload n l r) one_way_there.1

  pub one_rest : rest ≡ more
  one_rest = one_way_there.0

-- it was judged by what was used, but for what was fetched
judged_with : {n : Node} {payload : List ℕ} (J : Journals) (t : Arrival n payload) (pull : Pull) (calls : List LinkCall) (used : Used) (reply : Reply) → IsJudged J t used reply → IsJudged J t (pulling pull calls used) reply
judged_with J t pull calls used reply j = record { reading = j.reading; read = j.read; ends = j.ends }

module _ (n : Node) (past J : Journals) (payload : List ℕ) (legal : AreLegal n J) where
  plainly_judged : (used : Used) (sent : Sent) → CourseAfter n past J payload used sent → (pulls : List Pull) (calls : List LinkCall) (c : ComesToClock n payload pulls calls) → used.pulls ≡ pulls → used.calls ≡ calls →
      IsJudged J (arrival_in n c) used sent.reply ⊎ (sent.reply ≡ replies.NoMemory)
  plainly_judged used sent course pulls calls (as_sent t) none same = arrivals_are_judged n past J payload used sent legal course t same
  plainly_judged used sent course pulls calls (with_more {fetched} asked opened t) one same = absurd (fetch_is_none (Gave fetched) [] (sym one ∙ none_fetched n past J payload used sent course))

  pulled_judged : (r : Request) (key : List ℕ) (fetched : Texts) (by : List LinkCall) (certs : List Certificate) (used : Used) (sent : Sent) → IsAsked n.channels payload r key → ArePulled n.relay_key (within r.certs fetched) by certs →
      CourseAfter n past J (pulled_payload n key r certs) used sent → (pulls : List Pull) (calls : List LinkCall) (c : ComesToClock n payload pulls calls) → Gave fetched ∷ used.pulls ≡ pulls → by ++ used.calls ≡ calls →
      IsJudged J (arrival_in n c) (pulling (Gave fetched) by used) sent.reply ⊎ (sent.reply ≡ replies.NoMemory)
  pulled_judged r key fetched by certs used sent asked opened course pulls calls (as_sent t) one same = absurd (fetch_is_none (Gave fetched) used.pulls one)
  pulled_judged r key fetched by certs used sent asked opened course pulls calls (with_more {r = q} {key = k} {fetched = texts} {calls = other} {certs = ds} again taken t) one same =
      let alike = same_texts fetched texts used.pulls [] one in
      let moved = subst (λ (p : List ℕ). CourseAfter n past J p used sent) (one_payload n payload r q key k asked again fetched texts alike by other used.calls t.calls certs ds opened taken same) course in
      let rest = one_rest n payload r q key k asked again fetched texts alike by other used.calls t.calls certs ds opened taken same in
      elim (arrivals_are_judged n past J (pulled_payload n k q ds) used sent legal moved t rest) [
        | inl j ↦ inl (judged_with J t (Gave fetched) by used sent.reply j)
        | inr lacking ↦ inr lacking
      ]

  -- no call failed, so none of the link's did for a fetched certificate
  not_stopped : (texts : Texts) (calls : List LinkCall) (place : ℕ) → IsFailedAt n.relay_key texts calls place → NoneFailed (calls ++ []) → ⊥
  not_stopped texts calls place f none =
      let last = call f.text Failed in
      let all = subst NoneFailed (append-nil calls ∙ f.calls_are) none in
      All-head (λ (c : LinkCall). c.answer ≢ Failed) last [] (All-back (λ (c : LinkCall). c.answer ≢ Failed) f.before (last ∷ []) all) refl

  -- a turn in which no call failed
  whole_turn : (used : Used) (sent : Sent) → NoneFailed used.calls → NoPullFailed used.pulls → TurnAfter n past J payload used sent → IsWhole n past J payload used sent
  whole_turn used sent none unfailed (plain c) = record { course = plain c; answered = none; fetched = unfailed; judged = plainly_judged used sent c }
  whole_turn used sent none unfailed (pull_failed asked) = absurd (All-head (λ (p : Pull). p ≢ fetching.Failed) fetching.Failed [] unfailed refl)
  whole_turn used sent none unfailed (unfetched asked) = record { course = unfetched asked; answered = none; fetched = unfailed; judged = λ pulls calls c one same. inr refl }
  whole_turn used sent none unfailed (unpulled asked interrupted) = record { course = unpulled asked interrupted; answered = none; fetched = unfailed; judged = λ pulls calls c one same. inr refl }
  whole_turn used sent none unfailed (pull_stopped {calls} {place} asked failed) = absurd (not_stopped _ calls place failed none)
  whole_turn used sent none unfailed (pulled {r} {key} {fetched} {calls} {certs} {used = later} asked opened c) =
      record { course = pulled asked opened c; answered = none; fetched = unfailed; judged = pulled_judged r key fetched calls certs later sent asked opened c }

-- no call of the fetch failed where its count stood still
no_pull_failed : (before after : FetchSeen) (pulls : List Pull) → AreFetched before after pulls → after.faults ≤ before.faults → before.faults < 2 ^ 64 - 1 → NoPullFailed pulls
no_pull_failed before after [] are low below = All-nil (λ (p : Pull). p ≢ fetching.Failed)
no_pull_failed before after (p ∷ pulls) (middle, is, later) low below =
    let rising = never_falls middle after pulls later in
    let first = not_failed before middle p is (omega (arith, rising, low)) below in
    All-cons (λ (q : Pull). q ≢ fetching.Failed) p pulls first
    (no_pull_failed middle after pulls later (omega (arith, low, fallen before middle p is)) (omega (arith, rising, low, below)))
  where
    -- a count does not fall
    fallen : (f g : FetchSeen) (pull : Pull) → IsFetched f g pull → f.faults ≤ g.faults
    fallen f g (Gave texts) one = omega (arith, one.counts)
    fallen f g fetching.Lacked one = omega (arith, one.counts)
    fallen f g fetching.Failed one = one.counts.0

    never_falls : (f g : FetchSeen) (ps : List Pull) → AreFetched f g ps → f.faults ≤ g.faults
    never_falls f g [] are = omega (arith, ap (λ (z : FetchSeen). z.faults) are)
    never_falls f g (q ∷ ps) (h, one, more) = omega (arith, fallen f h q one, never_falls h g ps more)

    not_failed : (f g : FetchSeen) (pull : Pull) → IsFetched f g pull → g.faults ≤ f.faults → f.faults < 2 ^ 64 - 1 → pull ≢ fetching.Failed
    not_failed f g fetching.Failed one still under e = omega (arith, still, under, one.counts.0, one.counts.1)
    not_failed f g _ one still under e = cc

steady_fetch : (before after : FetchSeen) (pulls : List Pull) → StoodStill before.faults after.faults → AreFetched before after pulls → NoPullFailed pulls
steady_fetch before after pulls (same, below) are = no_pull_failed before after pulls are (omega (arith, same)) below

module _ (s : Setting) (before after : World) where
  abbrev Whole : List ℕ → Used → Sent → Type 0
  Whole payload = IsWhole s.node before.seen.journals after.seen.journals payload

  -- a course taken to a reply is one of which more holds
  course_with : (P Q : Used → Sent → Type 0) (bytes : List ℕ) → StoodStill before.outside.link.faults after.outside.link.faults → StoodStill before.fetch.seen.faults after.fetch.seen.faults →
      ((used : Used) (sent : Sent) → AreLegal s.node after.seen.journals → NoneFailed used.calls → NoPullFailed used.pulls → P used sent → Q used sent) → HasCourse s before after P bytes → HasCourse s before after Q bytes
  course_with P Q bytes still unfailed more c = record {
    used = c.used;
    sent = c.sent;
    goes_on = c.goes_on;
    legal = c.legal;
    course = more c.used c.sent c.legal (steady_calls before.outside.link.faults after.outside.link.faults c.used.calls still c.linked.failed) (steady_fetch before.fetch.seen after.fetch.seen c.used.pulls unfailed c.fetched.1) c.course;
    tells_full = c.tells_full;
    gave = c.gave;
    linked = c.linked;
    fetched = c.fetched;
    asked = c.asked;
    spelled = c.spelled;
    short = c.short;
  }

  whole : (payload : List ℕ) (used : Used) (sent : Sent) → AreLegal s.node after.seen.journals → NoneFailed used.calls → NoPullFailed used.pulls → TurnAfter s.node before.seen.journals after.seen.journals payload used sent → Whole payload used sent
  whole payload used sent legal none unfailed turn = whole_turn s.node before.seen.journals after.seen.journals payload legal used sent none unfailed turn

  module _ (nothing : NothingFailed before after) where
    no_clock_fault : HandlesCause (clock_faults before) (clock_faults after) handled.ClockFault → ⊥
    no_clock_fault (le, rose) = omega (arith, (nothing.1).0, (nothing.1).1, rose)

    answers_whole : (h : Handled) (bytes payload : List ℕ) → HandlesCause (clock_faults before) (clock_faults after) h → Answers s before after payload bytes h → AnswersWhole s before after payload bytes h
    answers_whole handled.Replied bytes payload cause a = (refl, course_with _ (Whole payload) bytes nothing.0 nothing.2 (λ used sent legal none unfailed c. whole payload used sent legal none unfailed c) a)
    answers_whole handled.ClockFault bytes payload cause a = absurd (no_clock_fault cause)

    handles_whole : (h : Handled) (bytes : List ℕ) (r : Request) → HandlesCause (clock_faults before) (clock_faults after) h → Handles s before after r bytes h → HandlesWhole s before after r bytes h
    handles_whole handled.Replied bytes r cause a =
        (refl, course_with _ (λ used sent. (payload key : List ℕ) → IsAsked s.node.channels payload r key → Whole payload used sent) bytes nothing.0 nothing.2 (λ used sent legal none unfailed c payload key asked. whole payload used sent legal none unfailed (plain (c.1 payload key asked))) a)
    handles_whole handled.ClockFault bytes r cause a = absurd (no_clock_fault cause)

  pub answers_payload : (h : Handled) (bytes payload : List ℕ) → Answers s before after payload bytes h → HandlesCause (clock_faults before) (clock_faults after) h → AnswersPayload s before after payload bytes h
  answers_payload h bytes payload a cause = record { answers = a; cause = cause; whole = λ nothing. answers_whole nothing h bytes payload cause a }

  pub answers_request : (h : Handled) (bytes : List ℕ) (r : Request) → Handles s before after r bytes h → HandlesCause (clock_faults before) (clock_faults after) h → AnswersRequest s before after r bytes h
  answers_request h bytes r a cause = record { handles = a; cause = cause; whole = λ nothing. handles_whole nothing h bytes r cause a }

pub answers_are_whole : AnswersAreWhole
answers_are_whole s before after h bytes cause = (λ payload a. answers_payload s before after h bytes payload a cause, λ r a. answers_request s before after h bytes r a cause)

-- ---- the turns of a connection

-- none of the calls of turns failed
none_in_turns : (turns : List Turn) → NoneFailed (calls_of turns) → All (λ (t : Turn). NoneFailed t.used.calls) turns
none_in_turns [] none = All-nil (λ (t : Turn). NoneFailed t.used.calls)
none_in_turns (t ∷ turns) none =
    All-cons (λ (u : Turn). NoneFailed u.used.calls) t turns (All-front (λ (c : LinkCall). c.answer ≢ Failed) t.used.calls (calls_of turns) none)
    (none_in_turns turns (All-back (λ (c : LinkCall). c.answer ≢ Failed) t.used.calls (calls_of turns) none))

-- nor of those of the fetch
unfailed_in_turns : (turns : List Turn) → NoPullFailed (pulls_of turns) → All (λ (t : Turn). NoPullFailed t.used.pulls) turns
unfailed_in_turns [] none = All-nil (λ (t : Turn). NoPullFailed t.used.pulls)
unfailed_in_turns (t ∷ turns) none =
    All-cons (λ (u : Turn). NoPullFailed u.used.pulls) t turns (All-front (λ (p : Pull). p ≢ fetching.Failed) t.used.pulls (pulls_of turns) none)
    (unfailed_in_turns turns (All-back (λ (p : Pull). p ≢ fetching.Failed) t.used.pulls (pulls_of turns) none))

-- what the link was asked for turns, and what was fetched for them, is all, but for the frame at which the clock failed
none_by_turns : (n : Node) (outcome : Outcome) (turns : List Turn) (frames : List (List ℕ)) (used : Used) → AreTurns n outcome turns frames used → NoneFailed used.calls → NoPullFailed used.pulls → NoneFailed (calls_of turns) × NoPullFailed (pulls_of turns)
none_by_turns n (End count) turns frames used are none unfailed = (subst NoneFailed are.2 none, subst NoPullFailed are.1 unfailed)
none_by_turns n (Truncated have) turns frames used are none unfailed = (subst NoneFailed are.2 none, subst NoPullFailed are.1 unfailed)
none_by_turns n (TooLong long) turns frames used are none unfailed = (subst NoneFailed are.2 none, subst NoPullFailed are.1 unfailed)
none_by_turns n ReadFault turns frames used are none unfailed = (subst NoneFailed are.2 none, subst NoPullFailed are.1 unfailed)
none_by_turns n WriteFault turns frames used are none unfailed = (subst NoneFailed are.2 none, subst NoPullFailed are.1 unfailed)
none_by_turns n ClockFault turns frames used (last, pulls, calls, come, all, fetched, called) none unfailed = (
  All-front (λ (c : LinkCall). c.answer ≢ Failed) (calls_of turns) calls (subst NoneFailed called none),
  All-front (λ (p : Pull). p ≢ fetching.Failed) (pulls_of turns) pulls (subst NoPullFailed fetched unfailed),
)
none_by_turns n (Spent count) turns frames used are none unfailed = (subst NoneFailed are.2 none, subst NoPullFailed are.1 unfailed)
none_by_turns n outcomes.NoMemory turns frames used are none unfailed = (subst NoneFailed are.2 none, subst NoPullFailed are.1 unfailed)

pub turns_are_whole : (n : Node) (J : Journals) (used : Used) (frames replies : List (List ℕ)) (outcome : Outcome) (before after : ℕ) (first last : FetchSeen) → AreLegal n J → (a : Answered n J used frames replies outcome) → FailedAs before after used.calls →
    AreFetched first last used.pulls → StoodStill before after → StoodStill first.faults last.faults → All (IsWholeTurn n J) a.turns
turns_are_whole n J used frames replies outcome before after first last legal a failed fetched still unfailed =
    let (calls, pulls) = none_by_turns n outcome a.turns frames used a.in_order (steady_calls before after used.calls still failed) (steady_fetch first last used.pulls unfailed fetched) in
    let none = none_in_turns a.turns calls in
    let given = unfailed_in_turns a.turns pulls in
    λ k d lt. let t = get_or a.turns k d in whole_turn n no_entries J t.frame legal t.used t.sent (none k d lt) (given k d lt) (a.courses k d lt)
