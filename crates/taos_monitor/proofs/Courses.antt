-- The course of a request, from what was done for it.
use Rattle.std.proofs.Common.{◌≡◌, ◌<◌, ◌^◌, ℕ, Bool, true, false, List, [], ◌∷◌, ◌++◌, length, map, Some, inl, refl, sym, subst, ◌∙◌}
use Rattle.std.specs.Io.KnownBytes.{Keeps}
use Rattle.std.proofs.KnownBytes.{Keeps-refl}
use Rattle.std.proofs.lemmas.Option.{same_Some}
use Rattle.keyed_seal.specs.Keys.{key_of}
use Rattle.frame_link.specs.Readings.{ShowsKnown}
use Rattle.frame_link.specs.Outside.{outside_of}
use Rattle.frame_link.specs.Relay.{Link}
use Rattle.frame_link.specs.Streams.{Stream}
use Rattle.object_core.specs.Objects.{ObjectEntry}
use Rattle.object_core.specs.Shelving.{ObjectFixed}
use Rattle.taos_wire.specs.Request.{Request, IsAsked}
use Rattle.taos_wire.specs.Reply.{Reply, sealed, unsealed, spelling}
use Rattle.taos_wire.specs.View.{cited as shared}
use Rattle.agent_core.specs.State.{Plan}
use Rattle.agent_core.specs.Plans.{home}
use Rattle.agent_core.specs.Journals.{Entry}
use Rattle.taos_monitor.specs.declared.arrival.Arrived.{Arrived}
use Rattle.request_course.specs.declared.handled.Handled.TheVariants as handled
use Rattle.taos_monitor.specs.declared.node_keys.NodeKeys.{NodeKeys}
use Rattle.taos_monitor.specs.declared.refusal.Refusal.{Refusal}
use Rattle.taos_monitor.specs.Refusals.{refusal}
use Rattle.request_course.specs.Cells.{Node, Cell, Journals, Viewed, in_shard, seen_of, AreLegalIn}
use Rattle.request_course.specs.World.{FetchUse, setting_of, reaching, world_of}
use Rattle.request_course.specs.Credentials.{link_use}
use Rattle.request_course.specs.AtObject.{Seeking, places_at}
use Rattle.request_course.specs.Course.{Arrival, Used, uses, nothing, only_calls, CourseAfter, ruled, plain}
use Rattle.taos_monitor.specs.Arriving.{node_of, IsNotAsked, Arrives, NotArrives}
use Rattle.taos_monitor.specs.Ruling.{Leaves, GuardedTo, standing_of}
use Rattle.request_course.specs.Handling.{PullsFor, HandledTo, StoppedAtClock, Answers}
use Rattle.request_course.proofs.Going.{stood}
use Rattle.taos_monitor.proofs.Presenting.{none_called, quiet_linked}

-- where there are no places, none is that of an Ask
no_asks : {X : Type 0} (f : ℕ → X) (asks : List ℕ) (ruling steps : List X) → map f asks ++ ruling ++ steps ≡ [] → asks ≡ []
no_asks f [] ruling steps none = refl
no_asks f (place ∷ asks) ruling steps none = absurd cc

module _ (keys : NodeKeys) (plans : List Plan) (objects : List ObjectFixed) (alone : Cell → Bool) (link0 link1 : Link)
    (shards0 : Viewed Entry) (objects0 : Viewed ObjectEntry) (r : Request) (key : List ℕ) (known : key_of keys.channels.entries r.channel ≡ Some key) where
  abbrev node : Node
  node = node_of keys plans objects

  -- the key of the payload's channel is that one
  under_key : (past J : Journals) (used : Used) (reply : Reply) →
      ((payload k : List ℕ) → IsAsked node.channels payload r k → CourseAfter node past J payload used (sealed k r reply)) →
      (payload k : List ℕ) → IsAsked node.channels payload r k → CourseAfter node past J payload used (sealed key r reply)
  under_key past J used reply f payload k asked =
      subst (λ (other : List ℕ). CourseAfter node past J payload used (sealed other r reply)) (same_Some k key (sym asked.keyed ∙ known)) (f payload k asked)

  pub refused_to : (clock : Stream) (f : Refusal) (bytes : List ℕ) → AreLegalIn plans objects (seen_of shards0 objects0).journals → NotArrives keys objects (link_use keys.node link0 link1) r f →
      bytes ≡ spelling (sealed key r (refusal f)) → length bytes < 2 ^ 26 →
      HandledTo (setting_of node alone) (world_of (outside_of clock link0) shards0 objects0) (world_of (outside_of clock link1) shards0 objects0) r bytes
  refused_to clock f bytes legal stops spelled short = record {
    used = only_calls stops.calls;
    sent = sealed key r (refusal f);
    goes_on = stood alone (seen_of shards0 objects0);
    legal = legal;
    course = (
      refl,
      under_key (seen_of shards0 objects0).journals (seen_of shards0 objects0).journals (only_calls stops.calls) (refusal f)
          (λ payload k asked. stops.course plans (seen_of shards0 objects0).journals (seen_of shards0 objects0).journals payload k asked),
    );
    tells_full = λ shard plan at lacks none. inl refl;
    gave = Keeps-refl clock.told;
    linked = stops.linked;
    fetched = (refl, refl);
    asked = refl;
    spelled = spelled;
    short = short;
  }

  module _ (a : Arrived) (came : Arrives keys objects (link_use keys.node link0 link1) r a) where
    abbrev arrival : (payload k : List ℕ) → IsAsked node.channels payload r k → Arrival node payload
    arrival payload k asked = record { request = r; key = k; calls = came.calls; certs = map shared a.certs.items; object = came.object; arrived = came.arrived plans payload k asked }

    pub stopped_at_clock : (clock0 clock1 : Stream) → Keeps clock0.told clock1.told → StoppedAtClock (setting_of node alone) (world_of (outside_of clock0 link0) shards0 objects0) (world_of (outside_of clock1 link1) shards0 objects0) r
    stopped_at_clock clock0 clock1 keeps = record {
      pulls = [];
      calls = came.calls;
      unchanged = refl;
      come = (refl, map shared a.certs.items, came.object, λ payload k asked. came.arrived plans payload k asked);
      fetched = (refl, refl);
      asked = refl;
      keeps = keeps;
      linked = came.linked;
    }

    -- what is sought, at a reading
    abbrev pub sought : ℕ → Seeking
    sought reading = record { request = r; certs = map shared a.certs.items; reading = reading; shard = home plans r.channel; fixed = came.object }

    pub ruled_to : (shards1 : Viewed Entry) (objects1 : Viewed ObjectEntry) (clock0 clock1 : Stream) (reading : ℕ) (bytes : List ℕ) → ShowsKnown clock0.told clock1.told reading →
        Leaves r.channel r.seq (Some key) bytes (GuardedTo (standing_of plans objects alone) (seen_of shards0 objects0) (seen_of shards1 objects1) (sought reading)) →
        HandledTo (setting_of node alone) (world_of (outside_of clock0 link0) shards0 objects0) (world_of (outside_of clock1 link1) shards1 objects1) r bytes
    ruled_to shards1 objects1 clock0 clock1 reading bytes shows left =
        let x = left.holds in
        let used = uses (reading ∷ []) came.calls (places_at (sought reading) x.own) in
        record {
          used = used;
          sent = sealed key r left.reply;
          goes_on = x.goes_on;
          legal = x.legal;
          course = (
            refl,
            under_key (seen_of shards0 objects0).journals (seen_of shards1 objects1).journals used left.reply (λ payload k asked. ruled (arrival payload k asked) reading x.plan x.planned x.guarded),
          );
          tells_full = λ shard plan at lacks none. x.tells_full shard plan at lacks (no_asks (in_shard (home plans r.channel)) x.own.asks _ _ none);
          gave = (clock1.told, shows, Keeps-refl clock1.told);
          linked = came.linked;
          fetched = (refl, refl);
          asked = refl;
          spelled = left.spelled;
          short = left.short;
        }

-- ---- from the payload on

-- nothing is fetched for what has no seal
none_unsealed : (pulls : Bool) → PullsFor pulls false []
none_unsealed true = refl
none_unsealed false = refl

-- no request under its seal
pub unasked_to : (keys : NodeKeys) (plans : List Plan) (objects : List ObjectFixed) (alone : Cell → Bool) (fetch : FetchUse) (relay : Link) (shards0 : Viewed Entry) (objects0 : Viewed ObjectEntry) (clock : Stream) (payload : List ℕ) (f : Refusal) (bytes : List ℕ) →
    AreLegalIn plans objects (seen_of shards0 objects0).journals → IsNotAsked keys payload f → bytes ≡ spelling (unsealed (refusal f)) → length bytes < 2 ^ 26 →
    Answers (setting_of (node_of keys plans objects) alone) (reaching (outside_of clock relay) fetch shards0 objects0) (reaching (outside_of clock relay) fetch shards0 objects0) payload bytes handled.Replied
unasked_to keys plans objects alone fetch relay shards0 objects0 clock payload f bytes legal stops spelled short = record {
  used = nothing;
  sent = unsealed (refusal f);
  goes_on = stood alone (seen_of shards0 objects0);
  legal = legal;
  course = plain (stops plans objects (seen_of shards0 objects0).journals (seen_of shards0 objects0).journals);
  tells_full = λ shard plan at lacks none. inl refl;
  gave = Keeps-refl clock.told;
  linked = quiet_linked keys.node relay relay [] (none_called keys.node relay);
  fetched = (refl, refl);
  asked = none_unsealed fetch.pulls;
  spelled = spelled;
  short = short;
}
