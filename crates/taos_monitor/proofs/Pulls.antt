-- What a pull and the course behind it come to for a request under its channel's seal.
use Rattle.std.proofs.Common.{◌≡◌, ◌<◌, ◌^◌, ℕ, suc, Bool, true, List, [], ◌∷◌, ◌++◌, length, Some, inl, refl, sym, ap, subst, ◌∙◌, append-nil}
use Rattle.std.specs.Prelude.{is_some}
use Rattle.std.proofs.KnownBytes.{Keeps-refl}
use Rattle.std.proofs.lemmas.Option.{same_Some}
use Rattle.keyed_seal.specs.Keys.{key_of}
use Rattle.frame_link.specs.Outside.{outside_of}
use Rattle.frame_link.specs.Relay.{Link}
use Rattle.frame_link.specs.Streams.{Stream}
use Rattle.object_core.specs.Objects.{ObjectEntry}
use Rattle.object_core.specs.Shelving.{ObjectFixed}
use Rattle.stmt_codec.specs.Certificates.{Certificate}
use Rattle.taos_wire.specs.Request.{Request, FitsRequest, IsAsked, request_text}
use Rattle.taos_wire.specs.Reply as replies
use Rattle.taos_wire.specs.Reply.{Reply, sealed, spelling}
use Rattle.taos_wire.proofs.RequestLaws.{sealed_spells}
use Rattle.agent_core.specs.State.{Plan}
use Rattle.agent_core.specs.Journals.{Entry}
use Rattle.cred_pull.specs.Fetching.{FetchSeen, Texts, Pull, Gave, IsFetched}
use Rattle.cred_pull.specs.Pulled.{ArePulled}
use Rattle.cred_pull.specs.declared.pulling.Pulled.{Pulled}
use Rattle.cred_pull.specs.declared.pulling.Pulled.TheVariants as results
use Rattle.cred_pull.specs.Pulling as ends
use Rattle.cred_pull.specs.Pulling.{within, with_pulled, Ends, Pulls, pull_use}
use Rattle.request_course.specs.declared.handled.Handled.{Handled}
use Rattle.request_course.specs.declared.handled.Handled.TheVariants as handled
use Rattle.taos_monitor.specs.declared.node_keys.NodeKeys.{NodeKeys}
use Rattle.taos_monitor.specs.Arriving.{node_of}
use Rattle.request_course.specs.Cells.{Node, Cell, Journals, Viewed, seen_of, AreLegalIn}
use Rattle.request_course.specs.Course.{nothing, pulling, pulled_payload, TurnAfter, pull_failed, unfetched, unpulled, pull_stopped, pulled, with_more}
use Rattle.request_course.specs.Credentials.{LinkCall, link_use, IsLinked}
use Rattle.request_course.specs.Handling.{AreFetched, ArePulls, PullsFor, Handles, HandlesPulled, Answers}
use Rattle.request_course.specs.World.{Setting, World, fetch_use, setting_of, reaching, world_of}
use Rattle.request_course.proofs.Going.{stood}
use Rattle.taos_monitor.proofs.Presenting.{linked_both}

-- the payload with what was pulled is the request with that, under the same seal
pub asked_again : (n : Node) (payload key : List ℕ) (r : Request) (certs : List Certificate) → IsAsked n.channels payload r key → FitsRequest (with_pulled n.relay_key r certs) →
    IsAsked n.channels (pulled_payload n key r certs) (with_pulled n.relay_key r certs) key
asked_again n payload key r certs asked fits = record {
  spelled = sealed_spells key (with_pulled n.relay_key r certs) fits;
  keyed = asked.keyed;
  seal = record { text = request_text (with_pulled n.relay_key r certs); whole = refl };
}

-- one fetch, and none behind it
one_fetch : (f0 f1 : FetchSeen) (pull : Pull) (later : List Pull) → IsFetched f0 f1 pull → later ≡ [] → ArePulls (fetch_use true f0) (fetch_use true f1) (pull ∷ later)
one_fetch f0 f1 pull later is none = (refl, (f1, is, subst (AreFetched f1 f1) (sym none) refl))

one_pull : (pull : Pull) (later : List Pull) → later ≡ [] → length (pull ∷ later) ≡ 1
one_pull pull later none = ap (λ (l : List Pull). suc (length l)) none

under_seal : (sealed : Bool) (pulls : List Pull) → sealed ≡ true → length pulls ≡ 1 → PullsFor true sealed pulls
under_seal sealed pulls is one = subst (λ (b : Bool). PullsFor true b pulls) (sym is) one

-- ---- what came of a pull

ready_is : (key : List ℕ) (old new : Request) (pull : Pull) (calls : List LinkCall) → Ends key old new pull calls results.Ready →
    (fetched : Texts) × (certs : List Certificate) × (pull ≡ Gave fetched) × ArePulled key (within old.certs fetched) calls certs × (new ≡ with_pulled key old certs)
ready_is key old new pull calls (ends.ready {fetched} {calls = by} {certs} opened is) = (fetched, certs, refl, opened, is)

pub same_channel : (key : List ℕ) (old new : Request) (pull : Pull) (calls : List LinkCall) → Ends key old new pull calls results.Ready → new.channel ≡ old.channel
same_channel key old new pull calls (ends.ready opened is) = ap (λ (q : Request). q.channel) is

module _ (n : Node) (past J : Journals) (r new : Request) where
  -- each payload of the request has this reply
  abbrev Turns : Pull → List LinkCall → Reply → Type 0
  Turns pull calls reply = (payload k : List ℕ) → IsAsked n.channels payload r k → TurnAfter n past J payload (pulling pull calls nothing) (sealed k r reply)

  failed_turn : (pull : Pull) (calls : List LinkCall) → Ends n.relay_key r new pull calls results.PullFailed → Turns pull calls replies.PullFailed
  failed_turn pull calls (ends.pull_failed is) payload k asked = pull_failed asked

  halted_turn : (pull : Pull) (calls : List LinkCall) (index : ℕ) → Ends n.relay_key r new pull calls (results.RelayFailed index) → Turns pull calls (replies.RelayFailed index)
  halted_turn pull calls index (ends.relay_failed failed is) payload k asked = pull_stopped asked failed

  lacking_turn : (pull : Pull) (calls : List LinkCall) → Ends n.relay_key r new pull calls results.NoMemory → Turns pull calls replies.NoMemory
  lacking_turn pull calls (ends.unfetched is) payload k asked = unfetched asked
  lacking_turn pull calls (ends.interrupted interrupted is) payload k asked = unpulled asked interrupted

-- ---- the request

module _ (keys : NodeKeys) (plans : List Plan) (objects : List ObjectFixed) (alone : Cell → Bool) (f0 f1 : FetchSeen) (link0 link1 : Link)
    (shards0 : Viewed Entry) (objects0 : Viewed ObjectEntry) (r : Request) where
  abbrev node : Node
  node = node_of keys plans objects

  abbrev seen0 : Journals
  seen0 = (seen_of shards0 objects0).journals

  -- the pull came to this
  abbrev pub Comes : Request → Pulled → Type 0
  Comes new result = Pulls keys.relay_key (pull_use f0 f1 (link_use keys.node link0 link1)) r new result

  -- the request has its reply by what was fetched alone
  pub stopped_to : (clock : Stream) (key : List ℕ) → key_of keys.channels.entries r.channel ≡ Some key → (pull : Pull) (calls : List LinkCall) (reply : Reply) (bytes : List ℕ) →
      AreLegalIn plans objects seen0 → IsFetched f0 f1 pull → IsLinked keys.node link0 link1 calls →
      ((payload k : List ℕ) → IsAsked node.channels payload r k → TurnAfter node seen0 seen0 payload (pulling pull calls nothing) (sealed k r reply)) →
      bytes ≡ spelling (sealed key r reply) → length bytes < 2 ^ 26 →
      HandlesPulled (setting_of node alone) (reaching (outside_of clock link0) (fetch_use true f0) shards0 objects0) (reaching (outside_of clock link1) (fetch_use true f1) shards0 objects0) r bytes handled.Replied
  stopped_to clock key known pull calls reply bytes legal fetched linked turn spelled short = record {
    used = pulling pull calls nothing;
    sent = sealed key r reply;
    goes_on = stood alone (seen_of shards0 objects0);
    legal = legal;
    course = λ payload k asked. subst (λ (other : List ℕ). TurnAfter node seen0 seen0 payload (pulling pull calls nothing) (sealed other r reply)) (same_Some k key (sym asked.keyed ∙ known)) (turn payload k asked);
    tells_full = λ shard plan at lacks none. inl refl;
    gave = Keeps-refl clock.told;
    linked = subst (IsLinked keys.node link0 link1) (sym (append-nil calls)) linked;
    fetched = one_fetch f0 f1 pull [] fetched refl;
    asked = refl;
    spelled = spelled;
    short = short;
  }

  -- the request has what was pulled, and then its course
  pub pulled_to : (fetched : Texts) (calls : List LinkCall) (certs : List Certificate) (link2 : Link) (clock0 clock1 : Stream) (shards1 : Viewed Entry) (objects1 : Viewed ObjectEntry) (bytes : List ℕ) →
      IsFetched f0 f1 (Gave fetched) → IsLinked keys.node link0 link1 calls → ArePulled keys.relay_key (within r.certs fetched) calls certs → FitsRequest (with_pulled keys.relay_key r certs) → (h : Handled) →
      Handles (setting_of node alone) (world_of (outside_of clock0 link1) shards0 objects0) (world_of (outside_of clock1 link2) shards1 objects1) (with_pulled keys.relay_key r certs) bytes h →
      HandlesPulled (setting_of node alone) (reaching (outside_of clock0 link0) (fetch_use true f0) shards0 objects0) (reaching (outside_of clock1 link2) (fetch_use true f1) shards1 objects1) r bytes h
  pulled_to fetched calls certs link2 clock0 clock1 shards1 objects1 bytes is linked opened fits handled.Replied t = record {
    used = pulling (Gave fetched) calls t.used;
    sent = t.sent;
    goes_on = t.goes_on;
    legal = t.legal;
    course = λ payload k asked. pulled asked opened (t.course.1 (pulled_payload node k r certs) k (asked_again node payload k r certs asked fits));
    tells_full = t.tells_full;
    gave = t.gave;
    linked = linked_both keys.node link0 link1 link2 calls t.used.calls linked t.linked;
    fetched = one_fetch f0 f1 (Gave fetched) t.used.pulls is t.asked;
    asked = under_seal (is_some t.sent.key) (Gave fetched ∷ t.used.pulls) t.course.0 (one_pull (Gave fetched) t.used.pulls t.asked);
    spelled = t.spelled;
    short = t.short;
  }
  pulled_to fetched calls certs link2 clock0 clock1 shards1 objects1 bytes is linked opened fits handled.ClockFault stop =
      let (none, all, object, arrived) = stop.come in
      record {
        pulls = Gave fetched ∷ [];
        calls = calls ++ stop.calls;
        unchanged = stop.unchanged;
        come = λ payload k asked. with_more asked opened (record {
          request = with_pulled keys.relay_key r certs;
          key = k;
          calls = stop.calls;
          certs = all;
          object = object;
          arrived = arrived (pulled_payload node k r certs) k (asked_again node payload k r certs asked fits);
        });
        fetched = one_fetch f0 f1 (Gave fetched) [] is refl;
        asked = refl;
        keeps = stop.keeps;
        linked = linked_both keys.node link0 link1 link2 calls stop.calls linked stop.linked;
      }

  -- ---- by what came of the pull

  pub ready_to : (new : Request) (link2 : Link) (clock0 clock1 : Stream) (shards1 : Viewed Entry) (objects1 : Viewed ObjectEntry) (bytes : List ℕ) →
      Comes new results.Ready → FitsRequest new → (h : Handled) →
      Handles (setting_of node alone) (world_of (outside_of clock0 link1) shards0 objects0) (world_of (outside_of clock1 link2) shards1 objects1) new bytes h →
      HandlesPulled (setting_of node alone) (reaching (outside_of clock0 link0) (fetch_use true f0) shards0 objects0) (reaching (outside_of clock1 link2) (fetch_use true f1) shards1 objects1) r bytes h
  ready_to new link2 clock0 clock1 shards1 objects1 bytes p fits h handles =
      let (fetched, certs, gave, opened, is) = ready_is keys.relay_key r new p.pull p.calls p.ends in
      pulled_to fetched p.calls certs link2 clock0 clock1 shards1 objects1 bytes (subst (IsFetched f0 f1) gave p.fetched) p.linked opened (subst FitsRequest is fits) h
      (subst (λ (q : Request). Handles (setting_of node alone) (world_of (outside_of clock0 link1) shards0 objects0) (world_of (outside_of clock1 link2) shards1 objects1) q bytes h) is handles)

  module _ (clock : Stream) (key : List ℕ) (known : key_of keys.channels.entries r.channel ≡ Some key) (bytes : List ℕ) (legal : AreLegalIn plans objects seen0) where
    -- it has this reply
    abbrev pub Replies : Type 0
    Replies = HandlesPulled (setting_of node alone) (reaching (outside_of clock link0) (fetch_use true f0) shards0 objects0) (reaching (outside_of clock link1) (fetch_use true f1) shards0 objects0) r bytes handled.Replied

    pub unfetched_to : (new : Request) → Comes new results.PullFailed → bytes ≡ spelling (sealed key r replies.PullFailed) → length bytes < 2 ^ 26 → Replies
    unfetched_to new p = stopped_to clock key known p.pull p.calls replies.PullFailed bytes legal p.fetched p.linked (failed_turn node seen0 seen0 r new p.pull p.calls p.ends)

    pub halted_to : (new : Request) (index : ℕ) → Comes new (results.RelayFailed index) → bytes ≡ spelling (sealed key r (replies.RelayFailed index)) → length bytes < 2 ^ 26 → Replies
    halted_to new index p = stopped_to clock key known p.pull p.calls (replies.RelayFailed index) bytes legal p.fetched p.linked (halted_turn node seen0 seen0 r new p.pull p.calls index p.ends)

    pub lacking_to : (new : Request) → Comes new results.NoMemory → bytes ≡ spelling (sealed key r replies.NoMemory) → length bytes < 2 ^ 26 → Replies
    lacking_to new p = stopped_to clock key known p.pull p.calls replies.NoMemory bytes legal p.fetched p.linked (lacking_turn node seen0 seen0 r new p.pull p.calls p.ends)

-- what is promised of a request holds of the payload that it is
pub answers_pulled : (s : Setting) (w0 w1 : World) (r : Request) (payload key bytes : List ℕ) → IsAsked s.node.channels payload r key → (h : Handled) → HandlesPulled s w0 w1 r bytes h → Answers s w0 w1 payload bytes h
answers_pulled s w0 w1 r payload key bytes asked handled.Replied t = record {
  used = t.used;
  sent = t.sent;
  goes_on = t.goes_on;
  legal = t.legal;
  course = t.course payload key asked;
  tells_full = t.tells_full;
  gave = t.gave;
  linked = t.linked;
  fetched = t.fetched;
  asked = t.asked;
  spelled = t.spelled;
  short = t.short;
}
answers_pulled s w0 w1 r payload key bytes asked handled.ClockFault stop = record {
  pulls = stop.pulls;
  calls = stop.calls;
  unchanged = stop.unchanged;
  come = stop.come payload key asked;
  fetched = stop.fetched;
  asked = stop.asked;
  keeps = stop.keeps;
  linked = stop.linked;
}
