-- The entry of an object is the ruling of the Ask of one request, which is the one that is due.
use Rattle.std.proofs.Common.{◌≡◌, inl, inr, ℕ, Bool, List, [], ◌∷◌, ◌++◌, map, Some, slice_get, refl, sym, ap, ◌∙◌, subst}
use Rattle.object_core.specs.Objects.{ObjectEntry, list_after}
use Rattle.object_core.specs.Operation.{FitsOperation, right_of}
use Rattle.object_core.specs.Shelving.{ObjectFixed, fixed_at}
use Rattle.object_core.specs.declared.ruling.Ruling.TheVariants as rulings
use Rattle.proof_cache.specs.Cached.{Cached}
use Rattle.agent_core.specs.declared.asked.Settled.{Settled}
use Rattle.agent_core.specs.declared.told.Told.{Told}
use Rattle.agent_core.specs.Asked.{IsGrant, IsGrantedAt, by_kept, was_kept, was_dropped, had_no_room}
use Rattle.agent_core.specs.Journals.{Entry, entry, Stands}
use Rattle.agent_core.specs.State.{Plan, Ask, Asks}
use Rattle.agent_core.proofs.AtPlaces.{slice_at}
use Rattle.audit_replay.specs.Legal.{IsDue, WasJudged, hit, missed}
use Rattle.request_course.specs.AtObject.{IsGuardedAfter, Own, Seeking, asks_for, denied, granted, no_ruling, object_is_full, places_at, ruled_as}
use Rattle.request_course.specs.Cells.{Node, Journals, OfObject, OfShard, Place, in_object, in_shard, no_entries}
use Rattle.request_course.specs.Course.{Course, TurnAfter, Used, bad_seal, cert_refused, malformed, relay_failed, ruled, unknown_channel, unknown_object, unopened, unread}
use Rattle.request_course.specs.Course.{plain, pull_failed, unfetched, unpulled, pull_stopped, pulled}
use Rattle.request_course.specs.Course.{its_seeking}
use Rattle.request_course.specs.Effects.{ShardStep, its_place}
use Rattle.taos_wire.specs.Reply.{Reply, Sent}
use Rattle.node_journals.specs.Works.{In}
use Rattle.node_journals.proofs.Members.{in_either, map_in}

-- ---- places

same_cell : (o m : ℕ) → OfObject o ≡ OfObject m → o ≡ m
same_cell o m e = cc

pub same_object : (o k m j : ℕ) → in_object o k ≡ in_object m j → (o ≡ m) × (k ≡ j)
same_object o k m j e = (same_cell o m (ap (λ (p : Place). p.cell) e), ap (λ (p : Place). p.number) e)

other_cell : (s m : ℕ) → OfShard s ≡ OfObject m → ⊥
other_cell s m e = absurd cc

other_sort : (s k m j : ℕ) → in_shard s k ≡ in_object m j → ⊥
other_sort s k m j e = other_cell s m (ap (λ (p : Place). p.cell) e)

-- no entry of a shard is one of an object
none_of_asks : (s m j : ℕ) (asks : List ℕ) → In (in_object m j) (map (in_shard s) asks) → ⊥
none_of_asks s m j asks h = let (k, is, same) = map_in (in_shard s) asks (in_object m j) h in other_sort s k m j same

none_of_steps : (m j : ℕ) (steps : List ShardStep) → In (in_object m j) (map its_place steps) → ⊥
none_of_steps m j steps h = let (s, is, same) = map_in its_place steps (in_object m j) h in other_sort s.shard s.place m j same

-- what stands at a place
pub stands_there : {E : Type 0} (journal : List E) (place : ℕ) (before : List E) (e : E) → Stands journal place before e → slice_get journal place ≡ Some e
stands_there journal place before e s = ap (λ (l : List _). slice_get l place) s.is ∙ ap (slice_get (before ++ e ∷ s.rest)) (sym s.placed) ∙ slice_at before e s.rest

-- ---- a grant

-- what is due to the Ask at its place, which is the first of the own ones
pub record HasDue (plan : Plan) (journal : List Entry) (a : Ask) (place chosen : ℕ) (asks : List ℕ) : Type 0 where
  pub told : Told
  pub stands : slice_get journal place ≡ Some (entry (Asks a) told)
  pub judged : WasJudged told
  pub due : IsDue plan journal place a (rulings.Granted chosen)
  pub rest : List ℕ
  pub first : asks ≡ place ∷ rest

module _ (plan : Plan) (journal : List Entry) (a : Ask) (place chosen : ℕ) (c : Cached) where
  made_due : (rest : List ℕ) → IsGrantedAt plan journal a place chosen c → HasDue plan journal a place chosen (place ∷ rest)
  made_due rest g = record {
    told = Told.Miss;
    stands = stands_there journal place g.before (entry (Asks a) Told.Miss) g.stands;
    judged = tt;
    due = missed g.stands g.judged (g.granted.grant, g.granted.first);
    rest = rest;
    first = refl;
  }

  pub grant_due : (kept : Bool) (settling : Settled) (asks : List ℕ) → IsGrant plan journal a place chosen c kept settling asks → HasDue plan journal a place chosen asks
  grant_due kept settling asks (by_kept h) =
      let stands : slice_get journal place ≡ Some (entry (Asks a) (Told.Hit chosen)) = stands_there journal place h.before (entry (Asks a) (Told.Hit chosen)) h.stands in
      record { told = Told.Hit chosen; stands = stands; judged = tt; due = hit stands; rest = []; first = refl }
  grant_due kept settling asks (was_kept {keep = k} g stands) = made_due (k ∷ []) g
  grant_due kept settling asks (was_dropped {keep = k} g stands) = made_due (k ∷ []) g
  grant_due kept settling asks (had_no_room g full) = made_due [] g

-- ---- an entry of an object

-- The entry at this place of the object is the ruling of an Ask, which stands at one of these places,
-- and it is the one that is due; no other entry of an object stands at one of them.
pub record RuledAt (n : Node) (J : Journals) (number at : ℕ) (own : List Place) : Type 0 where
  pub object : ObjectFixed
  pub there : fixed_at n.objects number ≡ Some object
  pub before : List ObjectEntry
  pub e : ObjectEntry
  pub stands : Stands (J.objects number) at before e
  pub plan : Plan
  pub planned : slice_get n.plans e.shard ≡ Some plan
  pub asked : Ask
  pub told : Told
  pub asks : slice_get (J.shards e.shard) e.place ≡ Some (entry (Asks asked) told)
  pub judged : WasJudged told
  pub right : asked.right ≡ right_of e.op
  pub list : asked.list ≡ list_after object.plan before
  pub due : IsDue plan (J.shards e.shard) e.place asked e.ruling
  pub fits : FitsOperation e.op
  pub ask_own : In (in_shard e.shard e.place) own
  pub only : (m j : ℕ) → In (in_object m j) own → (m ≡ number) × (j ≡ at)

module _ (n : Node) (J : Journals) where
  -- of the entry of an object that is one of these places
  moved : (o k m j : ℕ) (own : List Place) → in_object o k ≡ in_object m j → RuledAt n J o k own → RuledAt n J m j own
  moved o k m j own same r =
      let (objects, places) = same_object o k m j same in
      subst (λ (x : ℕ). RuledAt n J x j own) objects (subst (λ (y : ℕ). RuledAt n J o y own) places r)

  module _ (x : Seeking) (plan : Plan) (planned : slice_get n.plans x.shard ≡ Some plan) (there : fixed_at n.objects x.request.object ≡ Some x.fixed) (fits : FitsOperation x.request.op) where
    abbrev o : ℕ
    o = x.request.object

    pub guarded_at : (own : Own) (reply : Reply) (m j : ℕ) → IsGuardedAfter n.plans plan (no_entries, J) x own reply → In (in_object m j) (places_at x own) → RuledAt n J m j (places_at x own)
    guarded_at own reply m j (object_is_full full) h = absurd h
    guarded_at own reply m j (no_ruling {own = asks} before seen unruled) h =
        elim (in_either (in_object m j) (map (in_shard x.shard) asks ++ []) [] h) [
          | inl asked ↦ elim (in_either (in_object m j) (map (in_shard x.shard) asks) [] asked) [ inl ask ↦ absurd (none_of_asks x.shard m j asks ask) | inr none ↦ absurd none ]
          | inr none ↦ absurd none
        ]
    guarded_at own reply m j (denied {place = p} {at = k} before stands is tells) h =
        let places : List Place = in_shard x.shard p ∷ in_object o k ∷ [] in
        let a : Ask = asks_for x before in
        let one : RuledAt n J o k places = record {
          object = x.fixed;
          there = there;
          before = before;
          e = ruled_as x.shard p x.request.op rulings.Denied;
          stands = stands;
          plan = plan;
          planned = planned;
          asked = a;
          told = Told.Miss;
          asks = stands_there (J.shards x.shard) p is.before (entry (Asks a) Told.Miss) is.stands;
          judged = tt;
          right = refl;
          list = refl;
          due = missed is.stands is.judged is.denied.none;
          fits = fits;
          ask_own = inl refl;
          only = λ a b is_own. elim is_own [
            | inl ask ↦ absurd (other_sort x.shard p a b ask)
            | inr rest ↦ elim rest [ inl same ↦ let (objects, numbers) = same_object o k a b same in (sym objects, sym numbers) | inr none ↦ absurd none ]
          ];
        } in
        elim h [
          | inl ask ↦ absurd (other_sort x.shard p m j ask)
          | inr rest ↦ elim rest [ inl same ↦ moved o k m j places same one | inr none ↦ absurd none ]
        ]
    guarded_at own reply m j (granted {place = p} {at = k} {entry = chosen} {c = c} {kept = kept} {settled = settling} {asks = asks} {steps = steps} before stands is performed leaves) h =
        let front : List Place = map (in_shard x.shard) asks in
        let behind : List Place = map its_place steps in
        let places : List Place = (front ++ in_object o k ∷ []) ++ behind in
        let a : Ask = asks_for x before in
        let g : HasDue plan (J.shards x.shard) a p chosen asks = grant_due plan (J.shards x.shard) a p chosen c kept settling asks is in
        let one : RuledAt n J o k places = record {
          object = x.fixed;
          there = there;
          before = before;
          e = ruled_as x.shard p x.request.op (rulings.Granted chosen);
          stands = stands;
          plan = plan;
          planned = planned;
          asked = a;
          told = g.told;
          asks = g.stands;
          judged = g.judged;
          right = refl;
          list = refl;
          due = g.due;
          fits = fits;
          ask_own = subst (λ (l : List ℕ). In (in_shard x.shard p) ((map (in_shard x.shard) l ++ in_object o k ∷ []) ++ behind)) (sym g.first) (inl refl);
          only = λ a b is_own. only_one front behind asks steps refl refl k a b is_own;
        } in
        elim (in_either (in_object m j) (front ++ in_object o k ∷ []) behind h) [
          | inl first ↦ elim (in_either (in_object m j) front (in_object o k ∷ []) first) [
            | inl ask ↦ absurd (none_of_asks x.shard m j asks ask)
            | inr rest ↦ elim rest [ inl same ↦ moved o k m j places same one | inr none ↦ absurd none ]
          ]
          | inr step ↦ absurd (none_of_steps m j steps step)
        ]
      where
        only_one : (front behind : List Place) (asks : List ℕ) (steps : List ShardStep) → front ≡ map (in_shard x.shard) asks → behind ≡ map its_place steps → (k a b : ℕ) → In (in_object a b) ((front ++ in_object o k ∷ []) ++ behind) → (a ≡ o) × (b ≡ k)
        only_one front behind asks steps fronts behinds k a b is_own =
            elim (in_either (in_object a b) (front ++ in_object o k ∷ []) behind is_own) [
              | inl first ↦ elim (in_either (in_object a b) front (in_object o k ∷ []) first) [
                | inl ask ↦ absurd (none_of_asks x.shard a b asks (subst (In (in_object a b)) fronts ask))
                | inr rest ↦ elim rest [ inl same ↦ let (objects, numbers) = same_object o k a b same in (sym objects, sym numbers) | inr none ↦ absurd none ]
              ]
              | inr step ↦ absurd (none_of_steps a b steps (subst (In (in_object a b)) behinds step))
            ]

  -- the course of a request
  course_ruled_at : (payload : List ℕ) (used : Used) (sent : Sent) (m j : ℕ) → Course n J payload used sent → In (in_object m j) used.places → RuledAt n J m j used.places
  course_ruled_at payload used sent m j (malformed none reads) h = absurd h
  course_ruled_at payload used sent m j (unknown_channel q spelled none) h = absurd h
  course_ruled_at payload used sent m j (bad_seal q key spelled keyed bad) h = absurd h
  course_ruled_at payload used sent m j (cert_refused is first) h = absurd h
  course_ruled_at payload used sent m j (relay_failed is first) h = absurd h
  course_ruled_at payload used sent m j (unknown_object is none) h = absurd h
  course_ruled_at payload used sent m j (ruled {own = own} {reply = reply} t reading plan planned guarded) h =
      guarded_at (its_seeking n t reading) plan planned t.arrived.there t.arrived.presented.asked.spelled.limits.op own reply m j guarded h
  course_ruled_at payload used sent m j unread h = absurd h
  course_ruled_at payload used sent m j (unopened is at) h = absurd h

  -- the same with what was fetched for it
  pub ruled_at : (payload : List ℕ) (used : Used) (sent : Sent) (m j : ℕ) → TurnAfter n no_entries J payload used sent → In (in_object m j) used.places → RuledAt n J m j used.places
  ruled_at payload used sent m j (plain c) h = course_ruled_at payload used sent m j c h
  ruled_at payload used sent m j (pull_failed asked) h = absurd h
  ruled_at payload used sent m j (unfetched asked) h = absurd h
  ruled_at payload used sent m j (unpulled asked interrupted) h = absurd h
  ruled_at payload used sent m j (pull_stopped asked failed) h = absurd h
  ruled_at payload used sent m j (pulled {used = later} asked opened c) h = course_ruled_at _ later sent m j c h
