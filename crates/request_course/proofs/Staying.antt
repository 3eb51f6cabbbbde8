-- A course stays where the journals go on.
use Rattle.std.proofs.Common.{◌≡◌, ℕ, ◌≤◌, List, length, Option, Some, slice_get, refl, inl, inr, arith, get_or}
use Rattle.object_core.specs.Operation.{Op}
use Rattle.stmt_codec.specs.Certificates.{Certificate}
use Rattle.taos_wire.specs.Reply.{Reply, Sent}
use Rattle.agent_core.specs.declared.told.Told.{Told}
use Rattle.agent_core.specs.State.{Plan, Ask, Event}
use Rattle.agent_core.specs.Journals.{Entry, Begins, IsLegalJournal}
use Rattle.agent_core.specs.Asked.{Unanswered}
use Rattle.agent_core.proofs.Onward.{stands_on, begins_on, grant_stays, denied_stays, told_stays}
use Rattle.request_course.specs.Asking.{IsUnruled, full, replayed, channel_full, untold, unanswered}
use Rattle.request_course.specs.AtObject.{Seeking, Own, IsGuarded, IsGuardedAfter, object_is_full, no_ruling, denied, granted, asks_for}
use Rattle.request_course.specs.Cells.{Node, Journals, no_entries, Extends, AreLegal, AreLegalShards}
use Rattle.request_course.specs.Course.{Used, Course, CourseAfter, malformed, unknown_channel, bad_seal, cert_refused, relay_failed, unknown_object, ruled, unread, unopened}
use Rattle.request_course.specs.Course.{TurnAfter, plain, pull_failed, unfetched, unpulled, pull_stopped, pulled}
use Rattle.request_course.specs.Effects.{ShardStep, WentThrough, FoundNoRoom, FoundNoPlace, IsPerformed, through, not_held, no_room, no_place, AreDone}
use Rattle.request_course.specs.Operations.{effect_of}
use Rattle.request_course.specs.Laws.{CourseStays}
use Rattle.request_course.proofs.Going.{longer_by}
use Rattle.request_course.proofs.Short.{short}

pub steps_stay : (J K : ℕ → List Entry) (effect : Option Event) (steps : List ShardStep) → ((s : ℕ) → Begins (J s) (K s)) → AreDone J effect steps → AreDone K effect steps
steps_stay J K effect steps goes are = record {
  stand = λ k d lt.
      let s = are.stand k d lt in
      record { event = s.event; effect_is = s.effect_is; before = s.before; stands = stands_on s.stands (goes (get_or steps k d).shard) };
  done = are.done;
}

-- one that begins with a journal at the limit is at the limit
pub still_full : (plan : Plan) (xs ys : List Entry) → Begins xs ys → IsLegalJournal plan ys → length xs ≡ plan.limit → length ys ≡ plan.limit
still_full plan xs ys b legal at = omega (arith, short plan ys legal, longer_by b, at)

module _ (plan : Plan) (xs ys : List Entry) (shard : ℕ) (a : Ask) (goes : Begins xs ys) (legal : IsLegalJournal plan ys) where
  unanswered_stays : (own : List ℕ) → Unanswered plan xs a own → Unanswered plan ys a own
  unanswered_stays own (inl none) = inl none
  unanswered_stays own (inr (place, before, stands, verdict, is)) = inr (place, before, stands_on stands goes, verdict, is)

  unruled_stays : (own : List ℕ) (reply : Reply) → IsUnruled plan xs shard a own reply → IsUnruled plan ys shard a own reply
  unruled_stays own reply (full at) = full (still_full plan xs ys goes legal at)
  unruled_stays own reply (replayed {place} {last} t) = replayed (told_stays plan xs ys a goes place _ t)
  unruled_stays own reply (channel_full {place} {held} t) = channel_full (told_stays plan xs ys a goes place _ t)
  unruled_stays own reply (untold {place} {entry} {c} {kept} {settled} {own = places} g) = untold (grant_stays plan xs ys a goes place entry c kept settled places (short plan ys legal) g)
  unruled_stays own reply (unanswered {own = places} u) = unanswered (unanswered_stays places u)

-- ---- what was performed

module _ (plans : List Plan) (J K : ℕ → List Entry) (goes : (s : ℕ) → Begins (J s) (K s)) (legal : AreLegalShards plans K) (effect : Option Event) (shards : List ℕ) where
  went_stays : (steps : List ShardStep) → WentThrough J effect shards steps → WentThrough K effect shards steps
  went_stays steps w = record { order = w.order; are_done = steps_stay J K effect steps goes w.are_done }

  no_room_stays : (steps : List ShardStep) (shard : ℕ) (told : Told) → FoundNoRoom J effect shards steps shard told → FoundNoRoom K effect shards steps shard told
  no_room_stays steps shard told f = record {
    done = f.done;
    place = f.place;
    rest = f.rest;
    order = f.order;
    are_done = steps_stay J K effect f.done goes f.are_done;
    steps_are = f.steps_are;
    refused = record { event = f.refused.event; effect_is = f.refused.effect_is; before = f.refused.before; stands = stands_on f.refused.stands (goes shard) };
  }

  no_place_stays : (steps : List ShardStep) (shard limit : ℕ) → FoundNoPlace J effect plans shards steps shard limit → FoundNoPlace K effect plans shards steps shard limit
  no_place_stays steps shard limit f = record {
    rest = f.rest;
    order = f.order;
    are_done = steps_stay J K effect steps goes f.are_done;
    plan = f.plan;
    planned = f.planned;
    limit_is = f.limit_is;
    full = still_full f.plan (J shard) (K shard) (goes shard) (legal shard f.plan f.planned) f.full;
  }

module _ (plans : List Plan) (J K : ℕ → List Entry) (goes : (s : ℕ) → Begins (J s) (K s)) (legal : AreLegalShards plans K) (op : Op) (certs : List Certificate) (reading : ℕ) where
  performed_stays : (steps : List ShardStep) (refused : Option Reply) → IsPerformed plans J op (effect_of op certs reading) steps refused → IsPerformed plans K op (effect_of op certs reading) steps refused
  performed_stays steps refused (through w lets) = through (went_stays plans J K goes legal _ _ steps w) lets
  performed_stays steps refused (not_held digest is w none) = not_held digest is (went_stays plans J K goes legal _ _ steps w) none
  performed_stays steps refused (no_room {shard = s} {told} lacks f) = no_room lacks (no_room_stays plans J K goes legal _ _ steps s told f)
  performed_stays steps refused (no_place {shard = s} {limit} f) = no_place (no_place_stays plans J K goes legal _ _ steps s limit f)

-- ---- the whole

module _ (plans : List Plan) (plan : Plan) (J K : Journals) (goes : Extends J K) (legal : AreLegalShards plans K.shards) (x : Seeking) (planned : slice_get plans x.shard ≡ Some plan) (within : length (K.objects x.request.object) ≤ x.fixed.limit) where
  guarded_stays : (own : Own) (reply : Reply) → IsGuarded plans plan J x own reply → IsGuarded plans plan K x own reply
  guarded_stays own reply (object_is_full at) = object_is_full (omega (arith, at, within, longer_by (goes.objects x.request.object)))
  guarded_stays own reply (no_ruling {own = asks} before b u) =
      no_ruling before (record { begins = begins_on b.begins (goes.objects x.request.object); after = b.after; room = b.room }) (unruled_stays plan (J.shards x.shard) (K.shards x.shard) x.shard (asks_for x before) (goes.shards x.shard) (legal x.shard plan planned) asks reply u)
  guarded_stays own reply (denied {place} {denial} before s d tells) =
      denied before (stands_on s (goes.objects x.request.object)) (denied_stays plan (J.shards x.shard) (K.shards x.shard) (asks_for x before) (goes.shards x.shard) place denial d) tells
  guarded_stays own reply (granted {place} {entry} {c} {kept} {settled} {asks} {steps} {refused} before s g p out) =
      granted before (stands_on s (goes.objects x.request.object))
      (grant_stays plan (J.shards x.shard) (K.shards x.shard) (asks_for x before) (goes.shards x.shard) place entry c kept settled asks (short plan (K.shards x.shard) (legal x.shard plan planned)) g)
      (performed_stays plans J.shards K.shards goes.shards legal x.request.op x.certs x.reading steps refused p) out

pub course_stays : (n : Node) → CourseStays n
course_stays n J K goes legal payload used sent (malformed none reads) = malformed none reads
course_stays n J K goes legal payload used sent (unknown_channel r spelled none) = unknown_channel r spelled none
course_stays n J K goes legal payload used sent (bad_seal r key spelled keyed other) = bad_seal r key spelled keyed other
course_stays n J K goes legal payload used sent (cert_refused asked first) = cert_refused asked first
course_stays n J K goes legal payload used sent (relay_failed asked first) = relay_failed asked first
course_stays n J K goes legal payload used sent (unknown_object opened none) = unknown_object opened none
course_stays n J K goes legal payload used sent (ruled {own} {reply} t reading plan planned r) =
    ruled t reading plan planned (guarded_stays n.plans plan J K goes legal.shards _ planned (legal.objects t.request.object t.object t.arrived.there) own reply r)
course_stays n J K goes legal payload used sent unread = unread
course_stays n J K goes legal payload used sent (unopened asked interrupted) = unopened asked interrupted

-- ---- after what was seen

guarded_at_all : (plans : List Plan) (plan : Plan) (past J : Journals) (x : Seeking) (own : Own) (reply : Reply) → IsGuardedAfter plans plan (past, J) x own reply → IsGuarded plans plan J x own reply
guarded_at_all plans plan past J x own reply (object_is_full at) = object_is_full at
guarded_at_all plans plan past J x own reply (no_ruling before b u) = no_ruling before (record { begins = b.begins; after = λ told. record { rest = before; is = refl }; room = b.room }) u
guarded_at_all plans plan past J x own reply (denied before s d tells) = denied before s d tells
guarded_at_all plans plan past J x own reply (granted before s g p out) = granted before s g p out

-- a course after what was seen is a course
pub course_at_all : (n : Node) (past J : Journals) (payload : List ℕ) (used : Used) (sent : Sent) → CourseAfter n past J payload used sent → Course n J payload used sent
course_at_all n past J payload used sent (malformed none reads) = malformed none reads
course_at_all n past J payload used sent (unknown_channel r spelled none) = unknown_channel r spelled none
course_at_all n past J payload used sent (bad_seal r key spelled keyed other) = bad_seal r key spelled keyed other
course_at_all n past J payload used sent (cert_refused asked first) = cert_refused asked first
course_at_all n past J payload used sent (relay_failed asked first) = relay_failed asked first
course_at_all n past J payload used sent (unknown_object opened none) = unknown_object opened none
course_at_all n past J payload used sent (ruled {own} {reply} t reading plan planned is) = ruled t reading plan planned (guarded_at_all n.plans plan past J _ own reply is)
course_at_all n past J payload used sent unread = unread
course_at_all n past J payload used sent (unopened asked interrupted) = unopened asked interrupted

-- ---- with what was fetched

-- a turn is, whatever was seen before
abbrev pub Turned : Node → Journals → List ℕ → Used → Sent → Type 0
Turned n J payload used sent = TurnAfter n no_entries J payload used sent

pub turn_stays : (n : Node) (J K : Journals) → Extends J K → AreLegal n K → (payload : List ℕ) (used : Used) (sent : Sent) → Turned n J payload used sent → Turned n K payload used sent
turn_stays n J K goes legal payload used sent (plain c) = plain (course_stays n J K goes legal payload used sent c)
turn_stays n J K goes legal payload used sent (pull_failed asked) = pull_failed asked
turn_stays n J K goes legal payload used sent (unfetched asked) = unfetched asked
turn_stays n J K goes legal payload used sent (unpulled asked interrupted) = unpulled asked interrupted
turn_stays n J K goes legal payload used sent (pull_stopped asked failed) = pull_stopped asked failed
turn_stays n J K goes legal payload used sent (pulled {used = later} asked opened c) = pulled asked opened (course_stays n J K goes legal _ later sent c)

-- a turn after what was seen is a turn
pub turn_at_all : (n : Node) (past J : Journals) (payload : List ℕ) (used : Used) (sent : Sent) → TurnAfter n past J payload used sent → Turned n J payload used sent
turn_at_all n past J payload used sent (plain c) = plain (course_at_all n past J payload used sent c)
turn_at_all n past J payload used sent (pull_failed asked) = pull_failed asked
turn_at_all n past J payload used sent (unfetched asked) = unfetched asked
turn_at_all n past J payload used sent (unpulled asked interrupted) = unpulled asked interrupted
turn_at_all n past J payload used sent (pull_stopped asked failed) = pull_stopped asked failed
turn_at_all n past J payload used sent (pulled {used = later} asked opened c) = pulled asked opened (course_at_all n past J _ later sent c)
