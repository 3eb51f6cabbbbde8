-- A lane's worker between two of its connections.
use Rattle.std.proofs.Common.{◌≡◌, inl, inr, ℕ, ◌+◌, ◌≤◌, ◌<◌, Bool, true, false, List, [], ◌∷◌, ◌++◌, length, Option, None, Some, refl, sym, ap, ◌∙◌, subst, arith, length-append, append-nil, cond}
use Rattle.std.specs.Prelude.{count_by}
use Rattle.std.proofs.lemmas.List.Sums.{sum_by_push}
use Rattle.agent_core.specs.Shards.{ShardsSeen}
use Rattle.object_core.specs.Shelving.{ShelfSeen}
use Rattle.frame_link.specs.Lent.{Both}
use Rattle.frame_link.specs.declared.limits.Limits.{Limits}
use Rattle.frame_link.specs.declared.outcome.Outcome.{Outcome}
use Rattle.frame_link.specs.Faults.{Rose}
use Rattle.frame_link.specs.Served.{Line}
use Rattle.frame_link.specs.Doors.{DoorSeen, OpensKnown, Counts, TakesBack, TakesBackKnown}
use Rattle.frame_link.specs.Plan.{HasCounted}
use Rattle.frame_link.proofs.Counted.{counted_none}
use Rattle.request_course.specs.Cells.{Node, alone_of}
use Rattle.taos_monitor.specs.declared.desk.Desk.{Desk}
use Rattle.taos_monitor.specs.Desk.{lent_by, setting_at, world_at}
use Rattle.taos_monitor.specs.Reaching.{ReachSeen, reach_of}
use Rattle.request_course.specs.World.{Setting, State, World, setting_of, state_with}
use Rattle.request_course.specs.Connection.{Connects}
use Rattle.taos_lanes.specs.declared.tally.Tally.{Tally}
use Rattle.taos_monitor.specs.Changing.{change}
use Rattle.taos_lanes.specs.Telling.{Telling}
use Rattle.taos_lanes.specs.Visits as Visits
use Rattle.taos_lanes.specs.Visits.{VisitBy, among, begun, Chain, is_broken, is_lacking}
use Rattle.taos_lanes.specs.Doors.{GaveKnown, TookKnown, AreFew, IsTold, IsNoneLeft, Through, IsVisitOf}
use Rattle.taos_lanes.specs.Workers.{LaneShown, GivesBack, HasOtherDoor}
use Rattle.taos_lanes.specs.Working.{CountsOne, LaneSeen, Seated, SitsStill, in_world, lane_of, seated_at, tally_of, ServesDoor, ServesDoorBy, ServesSeated, HasDoorCause}
use Rattle.taos_lanes.proofs.Closing.{goes_on}
use Rattle.taos_lanes.proofs.Giving.{through_goes_on}

-- the connections up to now
pub record SoFar {In Out S : Type 0} (telling : Telling In Out) (Serves : Line S → Line S → Outcome → Type 0) (limits : Limits)
    (before now : LaneSeen S (In × Out)) (tally : Tally) : Type 0 where
  pub visits : List (VisitBy Serves limits.frames)
  pub chain : Chain before.world visits now.world
  pub through : Through telling before.door now.door visits
  pub counted : tally ≡ tally_of visits false
  pub few : length visits ≤ limits.connections
  pub steady : now.door.faults ≡ before.door.faults

-- ---- at first

gave_none : {X : Type 0} (left : Option (List X)) → GaveKnown left left []
gave_none None = tt
gave_none (Some xs) = refl

took_none : {X : Type 0} (back : Option (List X)) → TookKnown back back []
took_none None = tt
took_none (Some xs) = sym (append-nil xs)

module _ {In Out S : Type 0} (telling : Telling In Out) (Serves : Line S → Line S → Outcome → Type 0) (limits : Limits) where
  pub none_yet : (before : LaneSeen S (In × Out)) (tally : Tally) → tally.served ≡ 0 → tally.broken ≡ 0 → tally.lacked ≡ 0 → tally.door_failed ≡ false →
      SoFar telling Serves limits before before tally
  none_yet before tally served broken lacked fresh = record {
    visits = [];
    chain = refl;
    through = record {
      given = [];
      kept = [];
      gave = gave_none before.door.left;
      count = counted_none before.door.given;
      took = λ orderly. (took_none before.door.back, orderly);
      are = tt;
    };
    counted = λ i. record { served = served i; broken = broken i; lacked = lacked i; door_failed = fresh i };
    few = omega arith;
    steady = refl;
  }

  -- ---- one connection more

  counts_more : (is : Outcome → Bool) (visits : List (VisitBy Serves limits.frames)) (v : VisitBy Serves limits.frames) →
      count_by (λ (w : VisitBy Serves limits.frames). is w.outcome) (visits ++ v ∷ []) ≡ count_by (λ (w : VisitBy Serves limits.frames). is w.outcome) visits + cond (is v.outcome) 1 0
  counts_more is visits v =
      sum_by_push (λ (w : VisitBy Serves limits.frames). cond (is w.outcome) 1 0) visits v

  pub one_more : (before now after : LaneSeen S (In × Out)) (tally added : Tally) (g k : In × Out) (v : VisitBy Serves limits.frames) →
      SoFar telling Serves limits before now tally →
      begun v ≡ now.world → Visits.left v ≡ after.world →
      OpensKnown now.door.left after.door.left (Some g) → Counts now.door.left now.door.given after.door.given (Some g) → TakesBackKnown now.door.back after.door.back after.door.given k →
      IsVisitOf telling g k v → after.door.faults ≡ now.door.faults → tally.served < limits.connections → CountsOne v.outcome tally added →
      SoFar telling Serves limits before after added
  one_more before now after tally added g k v s begins ends opens counts takes is steady more one = record {
    visits = s.visits ++ v ∷ [];
    chain = subst (λ (w : S). Chain before.world (s.visits ++ v ∷ []) w) ends (goes_on before.world now.world s.visits v s.chain begins);
    through = through_goes_on telling Serves limits.frames before.door now.door after.door s.visits g k v s.through opens counts takes is;
    counted = λ i. record {
      served = (one.served ∙ (ap (λ (x : Tally). x.served + 1) s.counted ∙ sym (length-append s.visits (v ∷ [])))) i;
      broken = (one.broken ∙ (ap (λ (x : Tally). x.broken + cond (is_broken v.outcome) 1 0) s.counted ∙ sym (counts_more is_broken s.visits v))) i;
      lacked = (one.lacked ∙ (ap (λ (x : Tally). x.lacked + cond (is_lacking v.outcome) 1 0) s.counted ∙ sym (counts_more is_lacking s.visits v))) i;
      door_failed = (one.door ∙ ap (λ (x : Tally). x.door_failed) s.counted) i;
    };
    few = omega (arith, length-append s.visits (v ∷ []), ap (λ (x : Tally). x.served) s.counted, more);
    steady = steady ∙ s.steady;
  }

  -- the same, by what the door answered, still is, and was given back
  pub one_served : (before now after : LaneSeen S (In × Out)) (asked : DoorSeen (In × Out)) (served left : LaneShown (In × Out)) (tally added : Tally) (opened : Option (In × Out)) (g k : In × Out) (v : VisitBy Serves limits.frames) →
      SoFar telling Serves limits before now tally →
      begun v ≡ now.world → Visits.left v ≡ after.world → opened ≡ Some g →
      OpensKnown now.door.left asked.left opened × Counts now.door.left now.door.given asked.given opened → asked.back ≡ now.door.back → asked.faults ≡ now.door.faults →
      served.door ≡ asked → GivesBack served left k → left.door ≡ after.door →
      IsVisitOf telling g k v → tally.served < limits.connections → CountsOne v.outcome tally added →
      SoFar telling Serves limits before after added
  one_served before now after asked served left tally added opened g k v s begins ends is gives same_back steady same gone last visit more one =
      let rest : after.door ≡ record asked { back = after.door.back } = subst (λ (x : DoorSeen (In × Out) × DoorSeen (In × Out)). x.0 ≡ record x.1 { back = x.0.back }) (λ i. (last i, same i)) gone.stays in
      let takes : TakesBack asked after.door k = subst (λ (x : DoorSeen (In × Out) × DoorSeen (In × Out)). TakesBack x.0 x.1 k) (λ i. (same i, last i)) gone.takes in
      one_more before now after tally added g k v s begins ends
      (subst (λ (x : Option (List (In × Out)) × Option (In × Out)). OpensKnown now.door.left x.0 x.1) (λ i. ((sym rest i).left, is i)) gives.0)
      (subst (λ (x : ℕ × Option (In × Out)). Counts now.door.left now.door.given x.0 x.1) (λ i. ((sym rest i).given, is i)) gives.1)
      (subst (λ (x : Option (List (In × Out)) × ℕ). TakesBackKnown x.0 after.door.back x.1 k) (λ i. (same_back i, (sym rest i).given)) takes)
      visit (ap (λ (d : DoorSeen (In × Out)). d.faults) rest ∙ steady) more one

-- ---- at the end

gives_none : {X : Type 0} (before middle after : Option (List X)) (given : List X) → GaveKnown before middle given → OpensKnown middle after None → GaveKnown before after given
gives_none None middle after given g o = tt
gives_none (Some xs) None after given g o = absurd g
gives_none (Some xs) (Some ys) None given g o = absurd o
gives_none (Some xs) (Some ys) (Some zs) given g o = g ∙ ap (λ (l : List _). given ++ l) (o.0 ∙ sym o.1)

nothing_left : {X : Type 0} (before middle after : Option (List X)) (given : List X) → GaveKnown before middle given → OpensKnown middle after None → IsNoneLeft before after
nothing_left None middle after given g o = tt
nothing_left (Some xs) None after given g o = absurd g
nothing_left (Some xs) (Some ys) None given g o = absurd o
nothing_left (Some xs) (Some ys) (Some zs) given g o = o.1

told_still : {X : Type 0} (middle after : Option (List X)) → IsTold middle → OpensKnown middle after None → IsTold after
told_still None after told o = absurd told
told_still (Some xs) None told o = absurd o
told_still (Some xs) (Some ys) told o = tt

module _ {In Out S : Type 0} (telling : Telling In Out) (Serves : Line S → Line S → Outcome → Type 0) (limits : Limits)
    (before now : LaneSeen S (In × Out)) (tally : Tally) (s : SoFar telling Serves limits before now tally) where
  fresh : tally.door_failed ≡ false
  fresh = ap (λ (x : Tally). x.door_failed) s.counted

  tallied : tally ≡ tally_of s.visits tally.door_failed
  tallied = subst (λ (b : Bool). tally ≡ tally_of s.visits b) (sym fresh) s.counted

  -- so many were served
  pub all_served : limits.connections ≤ tally.served → ServesDoorBy telling Serves limits (change before now) tally
  all_served enough = record {
    visits = s.visits;
    chain = s.chain;
    through = record { through = s.through; few = s.few; whole = inl (omega (arith, enough, s.few, ap (λ (x : Tally). x.served) s.counted)) };
    counted = tallied;
    cause = subst (λ (b : Bool). HasDoorCause b before.door.faults now.door.faults) (sym fresh) s.steady;
  }

  -- the door has none
  pub none_left : (door : DoorSeen (In × Out)) → OpensKnown now.door.left door.left None → door.back ≡ now.door.back → door.given ≡ now.door.given → door.faults ≡ now.door.faults →
      ServesDoorBy telling Serves limits (change before (lane_of now.world door)) tally
  none_left door opens back given faults = record {
    visits = s.visits;
    chain = s.chain;
    through = record {
      through = record {
        given = s.through.given;
        kept = s.through.kept;
        gave = gives_none before.door.left now.door.left door.left s.through.given s.through.gave opens;
        count = subst (HasCounted (length s.visits) before.door.given) (sym given) s.through.count;
        took = λ orderly.
            let was = s.through.took orderly in (
              subst (λ (b : Option (List (In × Out))). TookKnown before.door.back b s.through.kept) (sym back) was.0,
              record {
                left = told_still now.door.left door.left was.1.left opens;
                back = subst IsTold (sym back) was.1.back;
                few = subst (λ (k : ℕ). AreFew door.back k) (sym given) (subst (λ (b : Option (List (In × Out))). AreFew b now.door.given) (sym back) was.1.few);
              },
            );
        are = s.through.are;
      };
      few = s.few;
      whole = inr (inl (nothing_left before.door.left now.door.left door.left s.through.given s.through.gave opens));
    };
    counted = tallied;
    cause = subst (λ (b : Bool). HasDoorCause b before.door.faults door.faults) (sym fresh) (faults ∙ s.steady);
  }

  -- the door failed
  pub door_fails : (door : DoorSeen (In × Out)) → door.left ≡ now.door.left → door.back ≡ now.door.back → door.given ≡ now.door.given →
      now.door.faults ≤ door.faults → Rose now.door.faults door.faults →
      ServesDoorBy telling Serves limits (change before (lane_of now.world door)) (record tally { door_failed = true })
  door_fails door told back given later rose = record {
    visits = s.visits;
    chain = s.chain;
    through = record {
      through = record {
        given = s.through.given;
        kept = s.through.kept;
        gave = subst (λ (l : Option (List (In × Out))). GaveKnown before.door.left l s.through.given) (sym told) s.through.gave;
        count = subst (HasCounted (length s.visits) before.door.given) (sym given) s.through.count;
        took = λ orderly.
            let was = s.through.took orderly in (
              subst (λ (b : Option (List (In × Out))). TookKnown before.door.back b s.through.kept) (sym back) was.0,
              record {
                left = subst IsTold (sym told) was.1.left;
                back = subst IsTold (sym back) was.1.back;
                few = subst (λ (k : ℕ). AreFew door.back k) (sym given) (subst (λ (b : Option (List (In × Out))). AreFew b now.door.given) (sym back) was.1.few);
              },
            );
        are = s.through.are;
      };
      few = s.few;
      whole = inr (inr refl);
    };
    counted = ap (λ (x : Tally). record x { door_failed = true }) s.counted;
    cause = subst (λ (k : ℕ). (k ≤ door.faults) × Rose k door.faults) s.steady (later, rose);
  }

-- ---- what a connection is served in

pub settled_at : (s : Setting) (n : Node) {a b : Bool} → s ≡ setting_of n (alone_of a b) → a ≡ false → b ≡ false → (limit : ℕ) (before after : Line World) (outcome : Outcome) →
    Connects s limit before after outcome → Connects (among n) limit before after outcome
settled_at s n same shards_among objects_among limit before after outcome =
    subst (λ (x : Setting). Connects x limit before after outcome) (same ∙ (λ i. setting_of n (alone_of (shards_among i) (objects_among i))))

-- ---- a lane at a desk

module _ {X : Type 0} where
  pub reach_is : {a b : LaneShown X} → HasOtherDoor a b → reach_of b.outside b.fetch ≡ reach_of a.outside a.fetch
  reach_is other i = reach_of (other.outside i) (other.fetch i)

  pub other_doors : {a b c : LaneShown X} → HasOtherDoor a b → HasOtherDoor b c → HasOtherDoor a c
  other_doors x y = record { outside = y.outside ∙ x.outside; fetch = y.fetch ∙ x.fetch; work = y.work ∙ x.work }

  pub still_too : {a b c : Seated X} → SitsStill a b → c.state ≡ b.state → c.lane.work ≡ b.lane.work → SitsStill a c
  still_too s state work = record {
    stays = record { setting = ap (λ (x : State). x.setting) state ∙ s.stays.setting; lent = ap (λ (x : State). x.lent) state ∙ s.stays.lent };
    pulls = ap (λ (x : State). x.world.fetch.pulls) state ∙ s.pulls;
    work = work ∙ s.work;
  }

-- what the desk answers in is the same where the lane has another door
pub state_is : {S H B L X : Type 0} (shards : S → ShardsSeen) (shelf : H → ShelfSeen) (shown : L → LaneShown X) (desk : Desk S H B) (x y : L) → HasOtherDoor (shown x) (shown y) →
    (seated_at shards shelf shown desk y).state ≡ (seated_at shards shelf shown desk x).state
state_is shards shelf shown desk x y other =
    ap (λ (r : ReachSeen). state_with (setting_at shards shelf desk) (world_at shards shelf desk r) (Both (lent_by desk) r.lent)) (reach_is other)

-- it did so too where its door was asked last
pub serves_asked : {In Out : Type 0} (telling : Telling In Out) (limits : Limits) (before now asked : Seated (In × Out)) (tally : Tally) → asked.state ≡ now.state →
    ServesDoor telling before.state.setting.node limits (change (in_world before) (lane_of now.state.world asked.lane.door)) tally → SitsStill before now → asked.lane.work ≡ now.lane.work → ServesSeated telling limits before asked tally
serves_asked telling limits before now asked tally state serves still work = record {
  serves = subst (λ (x : State). ServesDoor telling before.state.setting.node limits (change (in_world before) (lane_of x.world asked.lane.door)) tally) (sym state) serves;
  still = still_too still state work;
}
