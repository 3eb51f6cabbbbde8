-- What the course of a drill's request can be.
use Rattle.std.proofs.Common.{◌≡◌, ◌≢◌, ℕ, zero, suc, ◌+◌, ◌%◌, ◌<◌, ◌≤◌, ◌^◌, Bool, true, false, cond, List, [], ◌∷◌, ◌++◌, length, map, Option, Some, slice_get, refl, sym, ap, subst, ◌∙◌, append-nil, arith}
use Rattle.std.specs.Prelude.{All}
use Rattle.std.specs.List.{range_with_len}
use Rattle.std.specs.Option.{option_map}
use Rattle.std.proofs.lemmas.List.Elements.{All-head}
use Rattle.std.proofs.lemmas.List.FromFn.{length-map-range_with_len}
use Rattle.std.proofs.lemmas.Option.{none-some, same_Some}
use Rattle.keyed_seal.specs.Keys.{key_of}
use Rattle.object_core.specs.Objects.{ObjectEntry, ObjectPlan, list_after, object_of}
use Rattle.object_core.specs.Operation.{Read, Discard}
use Rattle.object_core.specs.Shelving.{fixed_at}
use Rattle.object_core.specs.declared.ruling.Ruling.TheVariants as rulings
use Rattle.prin_term.specs.View.{Grant}
use Rattle.stmt_codec.specs.Certificates.{Certificate}
use Rattle.taos_wire.specs.Request.{Request, Spells, IsAsked, IsSealed}
use Rattle.taos_wire.specs.Reply as replies
use Rattle.taos_wire.specs.Reply.{Reply, Sent}
use Rattle.taos_wire.proofs.RequestLaws.{spelled_once}
use Rattle.agent_core.specs.declared.told.Told.{Told}
use Rattle.agent_core.specs.State.{Plan, Event, Asks}
use Rattle.agent_core.specs.Journals.{Entry, entry, Begins, Stands}
use Rattle.agent_core.specs.Asked.{IsTold}
use Rattle.node_journals.specs.Load.{AsksAt, load_ask}
use Rattle.node_commands.specs.Words.{DrillWords}
use Rattle.taos_drill.specs.declared.numbers.TheConstants.{READING}
use Rattle.taos_drill.specs.Opened.{drill_objects, empty_object, reader}
use Rattle.taos_drill.specs.Sent.{drill_certificate, drill_request, number_of, payload_of, presented}
use Rattle.taos_drill.specs.Words.{is_even, key_at, word_of}
use Rattle.taos_drill.proofs.Asking.{certificate_opens, request_asked}
use Rattle.taos_drill.proofs.Readable.{even_object, odd_object}
use Rattle.request_course.specs.Cells.{Node, home, Journals, no_entries, in_object, in_shard}
use Rattle.request_course.specs.Credentials.{LinkCall, AreOpened, IsFirstRefused, IsFirstFailed}
use Rattle.request_course.specs.Asking.{IsUnruled, full, replayed, channel_full, untold, unanswered}
use Rattle.request_course.specs.AtObject.{Seeking, Own, asks_for, places_at, ruled_as, IsGuardedAfter, object_is_full, no_ruling, denied, granted}
use Rattle.request_course.specs.Effects.{ShardStep, its_place, shards_of, IsPerformed, through, not_held, no_room, no_place}
use Rattle.request_course.specs.Course.{Arrival, Used, Course, its_seeking, malformed, unknown_channel, bad_seal, cert_refused, relay_failed, unknown_object, ruled, unread, unopened}
use Rattle.node_journals.specs.Requests.{FitsDrill, IsLoadNode, channels_of, its_channel, its_fixed, its_limit, its_list, its_object, its_shard, load_plan}
use Rattle.node_journals.specs.Works as works
use Rattle.node_journals.specs.Works.{Turned, WasListed, work_of, work_places}
use Rattle.node_journals.proofs.Opened.{never_failed, never_refused, opened_to}

-- ---- small

pub stood_at : {E : Type 0} (journal before : List E) (e : E) (place : ℕ) → Stands journal place before e → slice_get journal place ≡ Some e
stood_at {E} journal before e place stands =
    ap (λ (l : List E). slice_get l place) stands.is ∙ ap (λ k. slice_get (before ++ e ∷ stands.rest) k) (sym stands.placed) ∙ behind before e stands.rest
  where
    behind : (front : List E) (x : E) (rest : List E) → slice_get (front ++ x ∷ rest) (length front) ≡ Some x
    behind [] x rest = refl
    behind (y ∷ front) x rest = behind front x rest

no_steps : (steps : List ShardStep) → shards_of steps ≡ [] → steps ≡ []
no_steps [] e = refl
no_steps (s ∷ steps) e = absurd (some e)
  where
    some : s.shard ∷ shards_of steps ≡ [] → ⊥
    some h = absurd cc

none_before : (xs ys : List ℕ) (x : ℕ) → [] ≡ xs ++ x ∷ ys → ⊥
none_before [] ys x e = absurd cc
none_before (y ∷ xs) ys x e = absurd cc

not_discard : (digest : List ℕ) → Read ≡ Discard digest → ⊥
not_discard digest e = absurd cc

-- a Read steps no shard
read_steps : (plans : List Plan) (journals : ℕ → List Entry) (effect : Option Event) (steps : List ShardStep) (refused : Option Reply) → IsPerformed plans journals Read effect steps refused → steps ≡ []
read_steps plans journals effect steps refused (through went held) = no_steps steps went.order
read_steps plans journals effect steps refused (not_held digest is went none) = absurd (not_discard digest is)
read_steps plans journals effect steps refused (no_room {shard = s} lacks found) = absurd (none_before (shards_of found.done) found.rest s found.order)
read_steps plans journals effect steps refused (no_place {shard = s} found) = absurd (none_before (shards_of steps) found.rest s found.order)

pub planned_at : (f : ℕ → Plan) (a n s : ℕ) → s < n → slice_get (map f (range_with_len a n)) s ≡ Some (f (a + s))
planned_at f a zero s lt = absurd (omega (arith, lt))
planned_at f a (suc n) zero lt = let e : a ≡ a + 0 = omega arith in ap (λ k. Some (f k)) e
planned_at f a (suc n) (suc s) lt = let e : a + 1 + s ≡ a + suc s = omega arith in planned_at f (a + 1) n s (omega (arith, lt)) ∙ ap (λ k. Some (f k)) e

module _ (d : DrillWords) (fits : FitsDrill d) (n : Node) (node : IsLoadNode d n) where
  -- ---- the node

  pub plan_is : (s : ℕ) (plan : Plan) → s < 4 → slice_get n.plans s ≡ Some plan → plan ≡ load_plan d (channels_of n) s
  plan_is s plan lt planned =
      let here : 0 + s ≡ s = omega arith in
      same_Some plan (load_plan d (channels_of n) s)
      (sym planned ∙ ap (λ (l : List Plan). slice_get l s) node.plans ∙ planned_at (load_plan d (channels_of n)) 0 4 s lt ∙ ap (λ k. Some (load_plan d (channels_of n) k)) here)

  pub four_plans : length n.plans ≡ 4
  four_plans = ap (λ (l : List Plan). length l) node.plans ∙ length-map-range_with_len (load_plan d (channels_of n)) 0 4

  home_is : (c : ℕ) → home n c ≡ c % 4
  home_is c = ap (λ k. c % k) four_plans

  module _ (i : ℕ) (is : i < d.requests) where
    abbrev c : ℕ
    c = its_channel d i

    abbrev r : Request
    r = drill_request d.seed d.lanes i

    abbrev payload : List ℕ
    payload = payload_of d.seed d.lanes i

    abbrev key : List ℕ
    key = key_at d.seed c

    few : i % d.lanes + 1 ≤ d.lanes
    few = let some = fits.some_lanes in omega (arith, some)

    asked : IsAsked n.channels payload r key
    asked =
        let a = request_asked d.seed d.requests d.lanes i fits.few_requests (let some = fits.some_lanes in omega (arith, some)) fits.few_lanes is in
        record { spelled = a.spelled; keyed = node.channels c ∙ a.keyed; seal = a.seal }

    same_request : (q : Request) → Spells q payload → q ≡ r
    same_request q spelled = spelled_once q r payload spelled asked.spelled

    keyed_once : (q : Request) → q ≡ r → (k : List ℕ) → key_of n.channels q.channel ≡ Some k → k ≡ key
    keyed_once q same k keyed = same_Some k key (sym keyed ∙ ap (λ (x : Request). key_of n.channels x.channel) same ∙ asked.keyed)

    small : c < 2 ^ 32
    small = let f = few in let l = fits.few_lanes in omega (arith, f, l)

    opens : (calls : List LinkCall) (certs : List Certificate) (q : Request) → q ≡ r → AreOpened n.relay_key q.certs calls certs → certs ≡ drill_certificate c ∷ []
    opens calls certs q same opened =
        opened_to (key_at d.seed 0) (presented d.seed c) (drill_certificate c) (certificate_opens d.seed c small) calls certs
        (subst (λ (k : List ℕ). AreOpened k (presented d.seed c ∷ []) calls certs) node.relay_key (subst (λ (x : Request). AreOpened n.relay_key x.certs calls certs) same opened))

    object_by : (b : Bool) → is_even (word_of d.seed i) ≡ b → object_of (drill_objects d.lanes) (its_object d i) ≡ Some (empty_object (cond b (reader ∷ []) []) (its_object d i))
    object_by true even = let f = few in even_object d.lanes c (word_of d.seed i) fits.few_lanes (omega arith) (omega (arith, f)) even
    object_by false odd = let f = few in odd_object d.lanes c (word_of d.seed i) fits.few_lanes (omega arith) (omega (arith, f)) odd

    pub there : fixed_at n.objects (its_object d i) ≡ Some (its_fixed d i)
    there =
        node.objects (its_object d i)
        ∙ ap (option_map (λ (p : ObjectPlan). record { plan = p; limit = its_limit d })) (object_by (is_even (word_of d.seed i)) refl)

    -- ---- what it seeks

    abbrev seeks : Seeking
    seeks = record { request = r; certs = drill_certificate c ∷ []; reading = READING; shard = its_shard d i; fixed = its_fixed d i }

    sought : (t : Arrival n payload) (reading : ℕ) → reading ≡ READING → its_seeking n t reading ≡ seeks
    sought t reading read =
        let req = same_request t.request t.arrived.presented.asked.spelled in
        let certs = opens t.calls t.certs t.request req t.arrived.presented.opened in
        let object = same_Some t.object (its_fixed d i) (sym t.arrived.there ∙ ap (λ (x : Request). fixed_at n.objects x.object) req ∙ there) in
        let shard = ap (λ (x : Request). home n x.channel) req ∙ home_is c in
        λ k. record { request = req k; certs = certs k; reading = read k; shard = shard k; fixed = object k }

    module _ (J : Journals) where
      abbrev plan0 : Plan
      plan0 = load_plan d (channels_of n) (its_shard d i)

      listed : (before : List ObjectEntry) → Begins before (J.objects (its_object d i)) → WasListed d J i (list_after (its_fixed d i).plan before)
      listed before begins = record { before = before; begins = begins; is = refl }

      told_at : (list : List Grant) (place : ℕ) (told : Told) → IsTold plan0 (J.shards (its_shard d i)) (load_ask c (number_of d.lanes i) list) place told → AsksAt (J.shards (its_shard d i)) place c (number_of d.lanes i) list told
      told_at list place told stands = stood_at (J.shards (its_shard d i)) stands.0 (entry (Asks (load_ask c (number_of d.lanes i) list)) told) place stands.1

      unruled_to : (before : List ObjectEntry) → Begins before (J.objects (its_object d i)) → (own : List ℕ) (reply : Reply) → reply ≢ replies.NoMemory →
          IsUnruled plan0 (J.shards (its_shard d i)) (its_shard d i) (asks_for seeks before) own reply → Turned d n J i (places_at seeks (record { asks = own; ruling = []; steps = [] }))
      unruled_to before begins own reply had (full at_limit) = record { asks = []; ruling = []; placed = refl; list = list_after (its_fixed d i).plan before; listed = listed before begins; came = works.shard_full at_limit }
      unruled_to before begins own reply had (replayed {place} {last} told) = record {
        asks = place ∷ [];
        ruling = [];
        placed = refl;
        list = list_after (its_fixed d i).plan before;
        listed = listed before begins;
        came = works.unheard (told_at (list_after (its_fixed d i).plan before) place (Told.Replayed last) told) tt;
      }
      unruled_to before begins own reply had (channel_full {place} {held} told) = record {
        asks = place ∷ [];
        ruling = [];
        placed = refl;
        list = list_after (its_fixed d i).plan before;
        listed = listed before begins;
        came = works.unheard (told_at (list_after (its_fixed d i).plan before) place (Told.Full held) told) tt;
      }
      unruled_to before begins own reply had (untold is) = absurd (had refl)
      unruled_to before begins own reply had (unanswered is) = absurd (had refl)

      begun : (before : List ObjectEntry) (at : ℕ) (e : ObjectEntry) → Stands (J.objects (its_object d i)) at before e → Begins before (J.objects (its_object d i))
      begun before at e stands = record { rest = e ∷ stands.rest; is = stands.is }

      no_more : (asks ruling : List ℕ) (steps : List ShardStep) → steps ≡ [] → places_at seeks (record { asks = asks; ruling = ruling; steps = steps }) ≡ work_places d (work_of i asks ruling)
      no_more asks ruling steps none =
          ap (λ (l : List ShardStep). map (in_shard (its_shard d i)) asks ++ map (in_object (its_object d i)) ruling ++ map its_place l) none
          ∙ append-nil (map (in_shard (its_shard d i)) asks ++ map (in_object (its_object d i)) ruling)

      guarded_to : (own : Own) (reply : Reply) → reply ≢ replies.NoMemory → IsGuardedAfter n.plans plan0 (no_entries, J) seeks own reply → Turned d n J i (places_at seeks own)
      guarded_to own reply had (object_is_full at_limit) = record {
        asks = [];
        ruling = [];
        placed = refl;
        list = its_list d i;
        listed = record { before = []; begins = record { rest = J.objects (its_object d i); is = refl }; is = refl };
        came = works.object_full at_limit;
      }
      guarded_to own reply had (no_ruling before seen unruled) = unruled_to before seen.begins _ reply had unruled
      guarded_to own reply had (denied {place} {at} {denial} {told} before stands is tells) = record {
        asks = place ∷ [];
        ruling = at ∷ [];
        placed = refl;
        list = list_after (its_fixed d i).plan before;
        listed = listed before (begun before at (ruled_as (its_shard d i) place Read rulings.Denied) stands);
        came = works.denied is (stood_at (J.objects (its_object d i)) before (ruled_as (its_shard d i) place Read rulings.Denied) at stands);
      }
      guarded_to own reply had (granted {place} {at} {entry = e} {c = cached} {kept} {settled} {asks} {steps} {refused} before stands is performed leaves) = record {
        asks = asks;
        ruling = at ∷ [];
        placed = no_more asks (at ∷ []) steps (read_steps n.plans J.shards _ steps refused performed);
        list = list_after (its_fixed d i).plan before;
        listed = listed before (begun before at (ruled_as (its_shard d i) place Read (rulings.Granted e)) stands);
        came = works.granted is (stood_at (J.objects (its_object d i)) before (ruled_as (its_shard d i) place Read (rulings.Granted e)) at stands);
      }

      -- the course of the request was one of these
      pub turned : (used : Used) (sent : Sent) → Course n J payload used sent → All (λ reading. reading ≡ READING) used.readings → sent.reply ≢ replies.NoMemory → Turned d n J i used.places
      turned used sent (malformed none reads) read had = absurd (none r asked.spelled)
      turned used sent (unknown_channel q spelled none) read had =
          absurd (none-some key (sym none ∙ ap (λ (x : Request). key_of n.channels x.channel) (same_request q spelled) ∙ asked.keyed))
      turned used sent (bad_seal q k spelled keyed bad) read had =
          absurd (bad (subst (λ (x : List ℕ). IsSealed x payload) (sym (keyed_once q (same_request q spelled) k keyed)) asked.seal))
      turned used sent (cert_refused {r = q} {key = k} {calls} {index} {code} is first) read had =
          absurd (never_refused (key_at d.seed 0) (presented d.seed c) (drill_certificate c) (certificate_opens d.seed c small) calls index code
          (subst (λ (x : List ℕ). IsFirstRefused x (presented d.seed c ∷ []) calls index code) node.relay_key
          (subst (λ (x : Request). IsFirstRefused n.relay_key x.certs calls index code) (same_request q is.spelled) first)))
      turned used sent (relay_failed {r = q} {key = k} {calls} {index} is first) read had =
          absurd (never_failed (key_at d.seed 0) (presented d.seed c) (drill_certificate c) (certificate_opens d.seed c small) calls index
          (subst (λ (x : List ℕ). IsFirstFailed x (presented d.seed c ∷ []) calls index) node.relay_key
          (subst (λ (x : Request). IsFirstFailed n.relay_key x.certs calls index) (same_request q is.spelled) first)))
      turned used sent (unknown_object {r = q} {key = k} {calls} {certs} is none) read had =
          absurd (none-some (its_fixed d i) (sym none ∙ ap (λ (x : Request). fixed_at n.objects x.object) (same_request q is.asked.spelled) ∙ there))
      turned used sent (ruled {own} {reply} t reading plan planned guarded) read had =
          let seek = sought t reading (All-head (λ (x : ℕ). x ≡ READING) reading [] read) in
          let at : slice_get n.plans (its_shard d i) ≡ Some plan = subst (λ (x : Seeking). slice_get n.plans x.shard ≡ Some plan) seek planned in
          let same = plan_is (its_shard d i) plan (omega arith) at in
          subst (λ (x : Seeking). Turned d n J i (places_at x own)) (sym seek)
          (guarded_to own reply had
          (subst (λ (p : Plan). IsGuardedAfter n.plans p (no_entries, J) seeks own reply) same
          (subst (λ (x : Seeking). IsGuardedAfter n.plans plan (no_entries, J) x own reply) seek guarded)))
      turned used sent unread read had = absurd (had refl)
      turned used sent (unopened is at) read had = absurd (had refl)
