-- What a desk does, from what was done at its cells and reached outside.
use Rattle.std.proofs.Common.{◌≡◌, ℕ, Bool, true, false, List, [], None, refl, sym, ap, subst, ◌∙◌}
use Rattle.std.specs.Prelude.{is_some}
use Rattle.frame_link.specs.Lent.{Lent, Nothing, To, Both}
use Rattle.frame_link.specs.Outside.{OutsideSeen, outside_of}
use Rattle.frame_link.specs.Relay.{Link}
use Rattle.frame_link.specs.Served.{Line, line}
use Rattle.frame_link.specs.Streams.{Stream}
use Rattle.frame_link.specs.declared.outcome.Outcome.{Outcome}
use Rattle.object_core.specs.Objects.{ObjectEntry}
use Rattle.object_core.specs.Shelving.{ObjectFixed, ShelfSeen}
use Rattle.taos_wire.specs.Request.{Request, FitsRequest}
use Rattle.agent_core.specs.State.{Plan}
use Rattle.agent_core.specs.Journals.{Entry}
use Rattle.agent_core.specs.Shards.{ShardsSeen}
use Rattle.cred_pull.specs.Fetching.{FetchSeen, Pull}
use Rattle.cred_pull.specs.Pulling.{Pulls}
use Rattle.cred_pull.specs.declared.pulling.Pulled.TheVariants as results
use Rattle.request_course.specs.declared.handled.Handled.{Handled}
use Rattle.request_course.specs.declared.handled.Handled.TheVariants as handled
use Rattle.taos_monitor.specs.declared.node_keys.NodeKeys.{NodeKeys}
use Rattle.taos_monitor.specs.Arriving.{node_of}
use Rattle.request_course.specs.Cells.{Cell, OfShard, OfObject, Viewed, CellsStay, both_cells, alone_of}
use Rattle.request_course.specs.Connection.{Connects}
use Rattle.request_course.specs.Course.{plain, ComesToClock, as_sent}
use Rattle.request_course.specs.States.{ServesIn}
use Rattle.request_course.specs.Handling.{AreFetched, PullsFor, Answers, Handles, HandlesPulled}
use Rattle.taos_monitor.specs.Planned.{ArePlanned}
use Rattle.taos_monitor.specs.Reaching.{ReachSeen, pull_by}
use Rattle.request_course.specs.World.{FetchUse, Setting, World, fetch_use, no_fetch, plainly, reaching, reaching_by, setting_of, state_with, world_of}
use Rattle.taos_monitor.specs.Desk.{setting_by}
use Rattle.request_course.proofs.Connections.{unfetched}
use Rattle.taos_monitor.proofs.Pulls.{ready_to}

-- nothing that stays changed
pub same_setting : (keys : NodeKeys) {objects0 objects1 : List ObjectFixed} {plans0 plans1 : List Plan} {alone0 alone1 lone0 lone1 : Bool} → objects1 ≡ objects0 → plans1 ≡ plans0 → alone1 ≡ alone0 → lone1 ≡ lone0 →
    setting_of (node_of keys plans1 objects1) (alone_of alone1 lone1) ≡ setting_of (node_of keys plans0 objects0) (alone_of alone0 lone0)
same_setting keys objects plans alone lone = rw (objects, plans, alone, lone) refl

-- what holds of a clock and a link holds of the outside that has them
pub moved : (P : OutsideSeen → Type 0) (clock : Stream) (link : Link) (o : OutsideSeen) → clock ≡ o.clock → link ≡ o.link → P (outside_of clock link) → P o
moved P clock link o same_clock same_link x = subst P (λ i. outside_of (same_clock i) (same_link i)) x

-- ---- where nothing is fetched

-- no call of the fetch leaves it as it was
none_fetched : (f g : FetchSeen) (pulls : List Pull) → g ≡ f → pulls ≡ [] → AreFetched f g pulls
none_fetched f g pulls same none = subst (AreFetched f g) (sym none) same

-- what is done for a request as it stands is done for it where nothing is fetched
pub handled_plainly : (s : Setting) (w0 w1 : World) (r : Request) (bytes : List ℕ) → w0.fetch.pulls ≡ false → w1.fetch ≡ w0.fetch → (h : Handled) → Handles s (plainly w0) (plainly w1) r bytes h → HandlesPulled s w0 w1 r bytes h
handled_plainly s w0 w1 r bytes unpulled same handled.Replied t = record {
  used = t.used;
  sent = t.sent;
  goes_on = t.goes_on;
  legal = t.legal;
  course = λ payload key asked. plain (t.course.1 payload key asked);
  tells_full = t.tells_full;
  gave = t.gave;
  linked = t.linked;
  fetched = (ap (λ (f : FetchUse). f.pulls) same, none_fetched w0.fetch.seen w1.fetch.seen t.used.pulls (ap (λ (f : FetchUse). f.seen) same) t.asked);
  asked = subst (λ (b : Bool). PullsFor b (is_some t.sent.key) t.used.pulls) (sym unpulled) t.asked;
  spelled = t.spelled;
  short = t.short;
}
handled_plainly s w0 w1 r bytes unpulled same handled.ClockFault stop =
    let (none, certs, object, arrived) = stop.come in
    record {
      pulls = stop.pulls;
      calls = stop.calls;
      unchanged = stop.unchanged;
      come = λ payload key asked. subst (λ (fetches : List Pull). ComesToClock s.node payload fetches stop.calls) (sym none)
          (as_sent (record { request = r; key = key; calls = stop.calls; certs = certs; object = object; arrived = arrived payload key asked }));
      fetched = (ap (λ (f : FetchUse). f.pulls) same, none_fetched w0.fetch.seen w1.fetch.seen stop.pulls (ap (λ (f : FetchUse). f.seen) same) stop.asked);
      asked = subst (λ (b : Bool). PullsFor b true stop.pulls) (sym unpulled) stop.asked;
      keeps = stop.keeps;
      linked = stop.linked;
    }

-- and what is answered where nothing is fetched is answered whatever there is to fetch from
pub answered_plainly : (s : Setting) (w0 w1 : World) (payload bytes : List ℕ) → w0.fetch.pulls ≡ false → (h : Handled) → Answers s w0 w1 payload bytes h → Answers s (plainly w0) (plainly w1) payload bytes h
answered_plainly s w0 w1 payload bytes unpulled handled.Replied t =
    let none = subst (λ (b : Bool). PullsFor b (is_some t.sent.key) t.used.pulls) unpulled t.asked in
    record {
      used = t.used;
      sent = t.sent;
      goes_on = t.goes_on;
      legal = t.legal;
      course = t.course;
      tells_full = t.tells_full;
      gave = t.gave;
      linked = t.linked;
      fetched = (refl, none_fetched no_fetch.seen no_fetch.seen t.used.pulls refl none);
      asked = none;
      spelled = t.spelled;
      short = t.short;
    }
answered_plainly s w0 w1 payload bytes unpulled handled.ClockFault stop =
    let none = subst (λ (b : Bool). PullsFor b true stop.pulls) unpulled stop.asked in
    record {
      pulls = stop.pulls;
      calls = stop.calls;
      unchanged = stop.unchanged;
      come = stop.come;
      fetched = (refl, none_fetched no_fetch.seen no_fetch.seen stop.pulls refl none);
      asked = none;
      keeps = stop.keeps;
      linked = stop.linked;
    }

-- a line, where nothing is fetched
abbrev pub plain_line : Line World → Line World
plain_line l = line l.input l.output (plainly l.service)

-- a line with this fetch
abbrev with_fetch : Line World → FetchUse → Line World
with_fetch l f = line l.input l.output (record { outside = l.service.outside; fetch = f; seen = l.service.seen })

-- the same of a connection
pub connects_plainly : (s : Setting) (limit : ℕ) (before after : Line World) (outcome : Outcome) → before.service.fetch ≡ no_fetch → Connects s limit before after outcome → Connects s limit (plain_line before) (plain_line after) outcome
connects_plainly s limit before after outcome none x =
    let stays : after.service.fetch ≡ before.service.fetch = λ i. fetch_use (x.connection.fetched.0 i) (unfetched s limit before after outcome x.connection (ap (λ (f : FetchUse). f.pulls) none) i) in
    subst (λ (f : FetchUse). Connects s limit (with_fetch before f) (plain_line after) outcome) none
    (subst (λ (f : FetchUse). Connects s limit before (with_fetch after f) outcome) (stays ∙ none) x)

-- ---- with what was pulled

module _ (keys : NodeKeys) (plans : List Plan) (objects : List ObjectFixed) (alone : Cell → Bool) (shards0 : Viewed Entry) (objects0 : Viewed ObjectEntry) (r : Request) (a0 a1 : ReachSeen) (clock : a1.outside.clock ≡ a0.outside.clock) where
  abbrev setting : Setting
  setting = setting_of (node_of keys plans objects) alone

  abbrev pub before_pull : Bool → World
  before_pull pulls = reaching a0.outside (fetch_use pulls a0.fetch) shards0 objects0

  -- a request that has its reply by what was fetched alone
  pub stopped_pulling : (pulls : Bool) (bytes : List ℕ) → pulls ≡ true →
      HandlesPulled setting (before_pull true) (reaching (outside_of a0.outside.clock a1.outside.link) (fetch_use true a1.fetch) shards0 objects0) r bytes handled.Replied →
      HandlesPulled setting (before_pull pulls) (reaching a1.outside (fetch_use pulls a1.fetch) shards0 objects0) r bytes handled.Replied
  stopped_pulling pulls bytes pulling x =
      subst (λ (b : Bool). HandlesPulled setting (before_pull b) (reaching a1.outside (fetch_use b a1.fetch) shards0 objects0) r bytes handled.Replied) (sym pulling)
      (moved (λ (o : OutsideSeen). HandlesPulled setting (before_pull true) (reaching o (fetch_use true a1.fetch) shards0 objects0) r bytes handled.Replied)
      a0.outside.clock a1.outside.link a1.outside (sym clock) refl x)

  -- one that was handled with what was pulled
  pub ready_pulling : (new : Request) (a2 : ReachSeen) (pulls later : Bool) (shards1 : Viewed Entry) (objects1 : Viewed ObjectEntry) (bytes : List ℕ) → pulls ≡ true → fetch_use later a2.fetch ≡ fetch_use pulls a1.fetch →
      Pulls keys.relay_key (pull_by keys.node a0 a1) r new results.Ready → FitsRequest new → (h : Handled) →
      Handles setting (world_of a1.outside shards0 objects0) (world_of a2.outside shards1 objects1) new bytes h →
      HandlesPulled setting (before_pull pulls) (reaching a2.outside (fetch_use later a2.fetch) shards1 objects1) r bytes h
  ready_pulling new a2 pulls later shards1 objects1 bytes pulling same p fits h x =
      let used : fetch_use true a1.fetch ≡ fetch_use later a2.fetch = sym (same ∙ ap (λ (b : Bool). fetch_use b a1.fetch) pulling) in
      subst (λ (b : Bool). HandlesPulled setting (before_pull b) (reaching a2.outside (fetch_use later a2.fetch) shards1 objects1) r bytes h) (sym pulling)
      (subst (λ (f : FetchUse). HandlesPulled setting (before_pull true) (reaching a2.outside f shards1 objects1) r bytes h) used
      (ready_to keys plans objects alone a0.fetch a1.fetch a0.outside.link a1.outside.link shards0 objects0 r new a2.outside.link a0.outside.clock a2.outside.clock shards1 objects1 bytes p fits h
      (subst (λ (k : Stream). Handles setting (world_of (outside_of k a1.outside.link) shards0 objects0) (world_of a2.outside shards1 objects1) new bytes h) clock x)))

-- ---- what a desk borrows

-- what holds of these holds of those that they are
pub same_one : {A : Type 0} (P : A → Type 0) (a p : A) → a ≡ p → P a → P p
same_one P a p same x = subst P same x

pub same_two : {A B : Type 0} (P : A → B → Type 0) (a p : A) (b q : B) → a ≡ p → b ≡ q → P a b → P p q
same_two P a p b q first second x = subst (λ y. P p y) second (subst (λ y. P y b) first x)

pub same_three : {A B C : Type 0} (P : A → B → C → Type 0) (a p : A) (b q : B) (c r : C) → a ≡ p → b ≡ q → c ≡ r → P a b c → P p q r
same_three P a p b q c r first second third x = subst (P p q) third (same_two (λ y z. P y z c) a p b q first second x)

pub same_four : {A B C D : Type 0} (P : A → B → C → D → Type 0) (a p : A) (b q : B) (c r : C) (d s : D) → a ≡ p → b ≡ q → c ≡ r → d ≡ s → P a b c d → P p q r s
same_four P a p b q c r d s first second third fourth x =
    same_two (λ y z. P p q y z) c r d s third fourth (same_two (λ y z. P y z c d) a p b q first second x)

-- its cells, and what it opens by, name by name
pub lent_names : (a b c p q r : ℕ) → Both (Both (To a Nothing) (To b Nothing)) (To c Nothing) ≡ Both (Both (To p Nothing) (To q Nothing)) (To r Nothing) → (a ≡ p) × (b ≡ q) × (c ≡ r)
lent_names a b c p q r same = (cc, cc, cc)

-- what stays has each channel still planned
pub planned_on : (s t : Setting) → t ≡ s → ArePlanned s.node.channels s.node.plans → ArePlanned t.node.channels t.node.plans
planned_on s t same planned = subst (λ (x : Setting). ArePlanned x.node.channels x.node.plans) (sym same) planned

-- the cells that a desk of these keys was left with make the setting that stays, whatever keys they are told by
same_keys : (keys later : NodeKeys) (s t : ShardsSeen) (h k : ShelfSeen) → setting_by later t k ≡ setting_by keys s h → setting_by keys t k ≡ setting_by keys s h
same_keys keys later s t h k same =
    same_setting keys (ap (λ (x : Setting). x.node.objects) same) (ap (λ (x : Setting). x.node.plans) same) (ap (λ (x : Setting). x.alone (OfShard 0)) same) (ap (λ (x : Setting). x.alone (OfObject 0)) same)

-- a connection that was served by a desk that was lent, with these keys and this use of the fetch in the end, was served by the one that lent it
pub serves_lent : (keys later : NodeKeys) (pulls used : Bool) (s t : ShardsSeen) (h k : ShelfSeen) (r q : ReachSeen) (desk : Lent) (limit : ℕ) (input rest output written : Stream) (outcome : Outcome) → setting_by later t k ≡ setting_by keys s h → q.lent ≡ r.lent → used ≡ pulls →
    Connects (setting_by keys s h) limit (line input output (reaching_by r.outside (fetch_use pulls r.fetch) s h)) (line rest written (reaching_by q.outside (fetch_use used q.fetch) t k)) outcome →
    ServesIn limit (line input output (state_with (setting_by keys s h) (reaching_by r.outside (fetch_use pulls r.fetch) s h) (Both desk r.lent)))
    (line rest written (state_with (setting_by keys t k) (reaching_by q.outside (fetch_use pulls q.fetch) t k) (Both desk q.lent))) outcome
serves_lent keys later pulls used s t h k r q desk limit input rest output written outcome same lent kept x = (
  record { setting = same_keys keys later s t h k same; lent = ap (Both desk) lent },
  subst (λ (b : Bool). Connects (setting_by keys s h) limit (line input output (reaching_by r.outside (fetch_use pulls r.fetch) s h)) (line rest written (reaching_by q.outside (fetch_use b q.fetch) t k)) outcome) kept x,
)

-- the same setting is the same cells, where no object is left taken
pub cells_stay : (keys later : NodeKeys) (s t : ShardsSeen) (h k : ShelfSeen) → setting_by later t k ≡ setting_by keys s h → k.taken ≡ None → CellsStay (both_cells s h) (both_cells t k)
cells_stay keys later s t h k same taken = record {
  plans = ap (λ (x : Setting). x.node.plans) same;
  alone = ap (λ (x : Setting). x.alone (OfShard 0)) same;
  objects = ap (λ (x : Setting). x.node.objects) same;
  others_take = ap (λ (x : Setting). x.alone (OfObject 0)) same;
  taken = taken;
}

-- what a service lends, with the name of what it reaches outside
pub lent_under : {l m k n : Lent} (name : ℕ) → Both l k ≡ Both m n → Both l (To name k) ≡ Both m (To name n)
lent_under name same = cc

-- the same, part by part
pub lent_apart : (l m k n : Lent) (b q : ℕ) → Both l (To b k) ≡ Both m (To q n) → (l ≡ m) × (b ≡ q) × (k ≡ n)
lent_apart l m k n b q same = (cc, cc, cc)

-- the borrows of a desk, and of a clock, a link and a fetch that stand side by side, name by name
pub names_apart : {a b c d e p q r s t : ℕ} {l k f m n g : Lent} →
    Both (Both (Both (To a Nothing) (To b Nothing)) (To c Nothing)) (Both (Both (To d l) (To e k)) f)
    ≡ Both (Both (Both (To p Nothing) (To q Nothing)) (To r Nothing)) (Both (Both (To s m) (To t n)) g) →
    (a ≡ p) × (b ≡ q) × (d ≡ s) × (e ≡ t)
names_apart same = (cc, cc, cc, cc)
