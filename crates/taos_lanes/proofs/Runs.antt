-- The lanes of a node, from their stocks until its cells were closed.
use Rattle.std.proofs.Common.{◌≡◌, ℕ, zero, suc, ◌≤◌, ◌==◌, true, List, [], ◌∷◌, length, map, get_or, drop, Option, None, Some, refl, sym, ap, ◌∙◌, subst}
use Rattle.std.specs.Prelude.{Bool, All, slice_get}
use Rattle.std.specs.List.{AllZip}
use Rattle.std.specs.List.{position_or_len}
use Rattle.std.proofs.lemmas.List.Elements.{All-nil, All-cons, All-head, All-tail}
use Rattle.std.proofs.lemmas.Option.{same_Some}
use Rattle.frame_link.specs.Doors.{DoorSeen}
use Rattle.shard_core.specs.Alone as alone
use Rattle.shard_core.specs.Alone.{plans_in}
use Rattle.agent_core.specs.Journals.{Entry, ShardSeen, IsLegalJournal}
use Rattle.agent_core.specs.State.{Plan}
use Rattle.agent_shards.specs.Cells.{IsClosed, shares_of}
use Rattle.agent_shards.specs.Each.{Each3}
use Rattle.agent_shards.specs.Shards.{ShardCell, KnownShard, AreShardsClosed, journal_of, places_of, journal_at, own_at, plans_of}
use Rattle.agent_shards.specs.Objects.{ObjectCell, KnownObject, AreObjectsClosed, journal_by, places_by, seen_on, own_on, fixed_in, place_among}
use Rattle.object_core.specs.Objects.{ObjectEntry, ObjectSeen}
use Rattle.object_core.specs.OneOwner as lone
use Rattle.object_core.specs.Shelving.{ObjectFixed, fixed_of, numbers_of}
use Rattle.agent_shards.proofs.Seats.{seat_legal}
use Rattle.agent_shards.proofs.Shelves.{told_within}
use Rattle.turn_cell.proofs.Journals.{once_within-none}
use Rattle.turn_cell.specs.Journal.{HasEach}
use Rattle.turn_cell.specs.Known.{Cell, Known}
use Rattle.taos_monitor.specs.declared.node_keys.NodeKeys.{NodeKeys}
use Rattle.request_course.specs.Cells as node
use Rattle.request_course.specs.Cells.{Node, Journals, OfShard, OfObject, AreLegal, viewed}
use Rattle.request_course.specs.World.{fetch_use, reaching}
use Rattle.frame_link.specs.declared.limits.Limits.{Limits}
use Rattle.taos_lanes.specs.declared.lane.Stock.{Stock}
use Rattle.taos_lanes.specs.Doors.{GoesThrough}
use Rattle.taos_lanes.specs.Telling.{Telling}
use Rattle.taos_lanes.specs.Lanes.{LaneRun, ServesAll, IsFresh}
use Rattle.taos_lanes.specs.Working.{HasDoorCause, tally_of}
use Rattle.taos_lanes.specs.Stocked.{NodeCells, node_at, seat, shelf, shards_viewed, objects_viewed, world_at, ServesLane}
use Rattle.taos_lanes.specs.Workers.{LaneShown}
use Rattle.taos_lanes.specs.Joining.{NodePasses, ArePassesOf, JoinsAll, AreFresh, HaveOne, IsFreshStock, IsGivenStock, IsEmptied, stocks_in}
use Rattle.taos_lanes.specs.Serving.{unseen, IsRunOf, journals_of}
use Rattle.taos_lanes.specs.Laws.{JoinedAt, ClosedServesAll}
use Rattle.taos_lanes.proofs.Closing.{joined_are_closed}
use Rattle.taos_lanes.proofs.Joined.{HasSeen, Knows, knows_all}
use Rattle.taos_lanes.proofs.Totals.{given_first}

-- ---- stocks

pub same_stock : (o : Option Stock) (s t : Stock) → o ≡ Some s → o ≡ Some t → s ≡ t
same_stock o s t p q = same_Some s t (sym p ∙ q)

-- ---- fresh passes

module _ {F E : Type 0} where
  fresh_at : (passes : List (Known F E)) → AreFresh passes → (i : ℕ) (p : Known F E) → slice_get passes i ≡ Some p → (p.seen ≡ []) × (p.own ≡ [])
  fresh_at [] fresh i p at = absurd cc
  fresh_at (q ∷ passes) fresh zero p at = subst (λ (x : Known F E). (x.seen ≡ []) × (x.own ≡ [])) (same_Some q p at) (All-head (λ (x : Known F E). (x.seen ≡ []) × (x.own ≡ [])) q passes fresh)
  fresh_at (q ∷ passes) fresh (suc i) p at = fresh_at passes (All-tail (λ (x : Known F E). (x.seen ≡ []) × (x.own ≡ [])) q passes fresh) i p at

shard_unseen : (passes : List KnownShard) → AreFresh passes → (i : ℕ) (o : Option KnownShard) → slice_get passes i ≡ o → (journal_of o ≡ []) × (places_of o ≡ [])
shard_unseen passes fresh i None at = (refl, refl)
shard_unseen passes fresh i (Some p) at = fresh_at passes fresh i p at

object_unseen : (passes : List KnownObject) → AreFresh passes → (i : ℕ) (o : Option KnownObject) → slice_get passes i ≡ o → (journal_by o ≡ []) × (places_by o ≡ [])
object_unseen passes fresh i None at = (refl, refl)
object_unseen passes fresh i (Some p) at = fresh_at passes fresh i p at

shards_unseen : (cells : List ShardCell) (passes : List KnownShard) → AreFresh passes → shards_viewed cells passes ≡ unseen
shards_unseen cells passes fresh k = viewed
    (λ s. (shard_unseen passes fresh s (slice_get passes s) refl).0 k)
    (λ s. (shard_unseen passes fresh s (slice_get passes s) refl).1 k)

objects_unseen : (cells : List ObjectCell) (passes : List KnownObject) → AreFresh passes → objects_viewed cells passes ≡ unseen
objects_unseen cells passes fresh k = viewed
    (λ o. (object_unseen passes fresh (place_among cells o) (slice_get passes (place_among cells o)) refl).0 k)
    (λ o. (object_unseen passes fresh (place_among cells o) (slice_get passes (place_among cells o)) refl).1 k)

-- passes with one share each have it still where their shares are the same
same_ones : {F E : Type 0} (p q : List (Known F E)) → shares_of q ≡ shares_of p → HaveOne p → HaveOne q
same_ones p [] same one = All-nil _
same_ones [] (x ∷ q) same one = absurd cc
same_ones {F} {E} (y ∷ p) (x ∷ q) same one =
    All-cons (λ (k : Known F E). k.shares ≡ 1) x q (ap (λ (l : List ℕ). get_or l 0 0) same ∙ All-head (λ (k : Known F E). k.shares ≡ 1) y p one)
    (same_ones p q (ap (λ (l : List ℕ). drop 1 l) same) (All-tail (λ (k : Known F E). k.shares ≡ 1) y p one))

-- ---- runs

module _ {In Out : Type 0} (telling : Telling In Out) (keys : NodeKeys) (cells : NodeCells) (pulls : Bool) (limits : Limits) where
  abbrev pub Serves : LaneShown (In × Out) → LaneShown (In × Out) → Type 0
  Serves = ServesLane telling keys cells pulls limits

  abbrev pub run_of : (before after : LaneShown (In × Out)) → Serves before after → LaneRun (node_at keys cells) limits.frames
  run_of before after s = record {
    first = world_at cells before.outside (fetch_use pulls before.fetch) s.old;
    last = world_at cells after.outside (fetch_use pulls after.fetch) s.new;
    visits = s.serves.visits;
    chain = s.serves.chain;
    door_failed = s.new.tally.door_failed;
  }

  first_fresh : (before after : LaneShown (In × Out)) (s : Serves before after) → IsFreshStock cells s.old → IsFresh (run_of before after s)
  first_fresh before after s f (OfShard k) = (shard_unseen s.old.passes f.shards_fresh k (slice_get s.old.passes k) refl).1
  first_fresh before after s f (OfObject o) = (object_unseen s.old.racked f.objects_fresh (place_among cells.objects o) (slice_get s.old.racked (place_among cells.objects o)) refl).1

  -- each is what its lane did
  run_is : (old before after new : LaneShown (In × Out)) → IsGivenStock cells old before → (s : Serves before after) → IsEmptied after new → IsRunOf telling pulls limits old new (run_of before after s)
  run_is old before after new g s e =
      let fresh : IsFreshStock cells s.old = subst (IsFreshStock cells) (same_stock before.work g.work.0 s.old g.work.1 s.had) g.work.2 in
      record {
        first = λ k. reaching (g.same.outside k) (fetch_use pulls (g.same.fetch k)) (shards_unseen cells.shards s.old.passes fresh.shards_fresh k) (objects_unseen cells.objects s.old.racked fresh.objects_fresh k);
        outside = sym e.same.outside;
        fetch = ap (fetch_use pulls) (sym e.same.fetch);
        through = subst (λ (d : DoorSeen (In × Out) × DoorSeen (In × Out)). GoesThrough telling limits.connections d.0 d.1 (s.new.tally.door_failed ≡ true) s.serves.visits)
            (λ k. (g.same.door k, sym e.same.door k)) s.serves.through;
        cause = subst (λ (d : DoorSeen (In × Out) × DoorSeen (In × Out)). HasDoorCause s.new.tally.door_failed d.0.faults d.1.faults) (λ k. (g.same.door k, sym e.same.door k)) s.serves.cause;
      }

  -- what lanes did, from fresh stocks until these, of which they were emptied
  pub record Ran (olds news : List (LaneShown (In × Out))) (stocks : List Stock) : Type 0 where
    pub runs : List (LaneRun (node_at keys cells) limits.frames)
    pub each : Each3 (IsRunOf telling pulls limits) olds news runs
    pub fresh : All IsFresh runs
    pub seen : AllZip (HasSeen cells) runs stocks
    pub counted : AllZip (λ (run : LaneRun (node_at keys cells) limits.frames) (stock : Stock). stock.tally ≡ tally_of run.visits run.door_failed) runs stocks
    pub ones : All (λ (stock : Stock). HaveOne stock.passes × HaveOne stock.racked) stocks
    pub long : length stocks ≡ length olds

  pub all_ran : (olds befores afters news : List (LaneShown (In × Out))) → AllZip (IsGivenStock cells) olds befores → AllZip Serves befores afters → AllZip IsEmptied afters news → Ran olds news (stocks_in afters)
  all_ran [] [] [] [] g z e = record { runs = []; each = tt; fresh = All-nil IsFresh; seen = tt; counted = tt; ones = All-nil _; long = refl }
  all_ran (old ∷ olds) (before ∷ befores) (after ∷ afters) (new ∷ news) g z e =
      let more = all_ran olds befores afters news g.1 z.1 e.1 in
      let s = z.0 in
      let run = run_of before after s in
      let given : IsFreshStock cells s.old = subst (IsFreshStock cells) (same_stock before.work g.0.work.0 s.old g.0.work.1 s.had) g.0.work.2 in
      subst (Ran (old ∷ olds) (new ∷ news)) (sym (given_first (λ (lane : LaneShown (In × Out)). lane.work) after afters s.new s.has)) (record {
        runs = run ∷ more.runs;
        each = (run_is old before after new g.0 s e.0, more.each);
        fresh = All-cons IsFresh run more.runs (first_fresh before after s given) more.fresh;
        seen = (refl, more.seen);
        counted = (s.serves.counted, more.counted);
        ones = All-cons (λ (stock : Stock). HaveOne stock.passes × HaveOne stock.racked) s.new (stocks_in afters)
            (same_ones s.old.passes s.new.passes s.shares.shards given.one.shards, same_ones s.old.racked s.new.racked s.shares.objects given.one.objects) more.ones;
        long = ap suc more.long;
      })
  all_ran [] [] [] (new ∷ news) g z e = absurd e
  all_ran [] [] (after ∷ afters) news g z e = absurd z
  all_ran [] (before ∷ befores) afters news g z e = absurd g
  all_ran (old ∷ olds) [] afters news g z e = absurd g
  all_ran (old ∷ olds) (before ∷ befores) [] news g z e = absurd z
  all_ran (old ∷ olds) (before ∷ befores) (after ∷ afters) [] g z e = absurd e

-- ---- closed cells

module _ {S F E : Type 0} (fixed : S → F) (journal : S → List E) where
  -- where a new cell was closed, its pass has each place as its own, once
  abbrev ClosedAt : Option (Known F E) → Option S → Type 0
  ClosedAt None None = Unit {0}
  ClosedAt (Some p) (Some s) = (journal s ≡ p.seen) × HasEach 0 (length p.seen) p.own
  ClosedAt _ _ = ⊥

  -- what closed cells give
  abbrev AreClosedAs : List (Cell F E) → List (Known F E) → List S → Type 0
  AreClosedAs cells passes values = Each3 (λ c p s. IsClosed c p (fixed s) (journal s)) cells passes values

  closed_at : (cells : List (Cell F E)) (passes : List (Known F E)) (values : List S) → All (λ (c : Cell F E). c.opening ≡ []) cells → AreClosedAs cells passes values →
      (i : ℕ) → ClosedAt (slice_get passes i) (slice_get values i)
  closed_at [] [] [] new closed i = tt
  closed_at (c ∷ cells) (p ∷ passes) (s ∷ values) new closed zero =
      (closed.0.its_journal, subst (λ (l : List E). HasEach (length l) (length p.seen) p.own) (All-head (λ (x : Cell F E). x.opening ≡ []) c cells new) closed.0.own)
  closed_at (c ∷ cells) (p ∷ passes) (s ∷ values) new closed (suc i) = closed_at cells passes values (All-tail (λ (x : Cell F E). x.opening ≡ []) c cells new) closed.1 i
  closed_at _ _ _ new closed i = absurd closed

  -- what never changes of them is that of the cells
  closed_same : (cells : List (Cell F E)) (passes : List (Known F E)) (values : List S) → AreClosedAs cells passes values → map fixed values ≡ map (λ (c : Cell F E). c.fixed) cells
  closed_same [] [] [] closed = refl
  closed_same (c ∷ cells) (p ∷ passes) (s ∷ values) closed = λ k. closed.0.its_fixed k ∷ closed_same cells passes values closed.1 k
  closed_same _ _ _ closed = absurd closed

none_each : HasEach 0 0 []
none_each place = sym (once_within-none 0 place)

-- what is told of a shard that was closed, and of an object
abbrev plan_of : ShardSeen → Plan
plan_of s = s.plan

abbrev journal_in : ShardSeen → List Entry
journal_in s = s.journal

abbrev journal_told : ObjectSeen → List ObjectEntry
journal_told o = o.journal

shard_own : (p : Option KnownShard) (s : Option ShardSeen) → ClosedAt plan_of journal_in p s → (alone.journal_of s ≡ journal_of p) × HasEach 0 (length (alone.journal_of s)) (places_of p)
shard_own None None c = (refl, none_each)
shard_own (Some p) (Some s) c = (c.0, subst (λ (l : List Entry). HasEach 0 (length l) p.own) (sym c.0) c.1)
shard_own None (Some s) c = absurd c
shard_own (Some p) None c = absurd c

object_own : (p : Option KnownObject) (s : Option ObjectSeen) → ClosedAt fixed_of journal_told p s → (lone.journal_of s ≡ journal_by p) × HasEach 0 (length (lone.journal_of s)) (places_by p)
object_own None None c = (refl, none_each)
object_own (Some p) (Some s) c = (c.0, subst (λ (l : List ObjectEntry). HasEach 0 (length l) p.own) (sym c.0) c.1)
object_own None (Some s) c = absurd c
object_own (Some p) None c = absurd c

pub closed_plans : (cells : List ShardCell) (passes : List KnownShard) (shards : List ShardSeen) → AreShardsClosed cells passes shards → plans_in shards ≡ plans_of cells
closed_plans = closed_same plan_of journal_in

pub closed_fixed : (cells : List ObjectCell) (passes : List KnownObject) (objects : List ObjectSeen) → AreObjectsClosed cells passes objects → map fixed_of objects ≡ fixed_in cells
closed_fixed = closed_same fixed_of journal_told

-- ---- the whole

-- what is known of no lanes
none_joined : {E : Type 0} {n : Node} {limit : ℕ} (cell : node.Cell) (journal : Journals → List E) {seen : List E} {own : List ℕ} → (seen ≡ []) × (own ≡ []) → JoinedAt {E = E} {n = n} {limit = limit} cell journal seen own []
none_joined cell journal is = record { owned = is.1; begin = All-nil _ }

module _ {In Out : Type 0} (telling : Telling In Out) (keys : NodeKeys) (cells : NodeCells) (limits : Limits)
    (shards_new : All (λ (c : ShardCell). c.opening ≡ []) cells.shards) (objects_new : All (λ (c : ObjectCell). c.opening ≡ []) cells.objects)
    (kept final : NodePasses) (shards_fresh : AreFresh kept.shards) (objects_fresh : AreFresh kept.objects) (of : ArePassesOf cells final)
    (shards : List ShardSeen) (objects : List ObjectSeen) (shards_closed : AreShardsClosed cells.shards final.shards shards) (objects_closed : AreObjectsClosed cells.objects final.objects objects) where
  abbrev pub J : Journals
  J = journals_of shards objects

  place_same : (o : ℕ) → position_or_len (λ m. m == o) (numbers_of (map fixed_of objects)) ≡ place_among cells.objects o
  place_same o = ap (λ (l : List ObjectFixed). position_or_len (λ m. m == o) (numbers_of l)) (closed_fixed cells.objects final.objects objects objects_closed)

  shard_at : (s : ℕ) → (J.shards s ≡ journal_at (seat cells.shards final.shards) s) × HasEach 0 (length (J.shards s)) (own_at (seat cells.shards final.shards) s)
  shard_at s = shard_own (slice_get final.shards s) (slice_get shards s) (closed_at plan_of journal_in cells.shards final.shards shards shards_new shards_closed s)

  object_at : (o : ℕ) → (J.objects o ≡ seen_on (shelf cells.objects final.objects) o) × HasEach 0 (length (J.objects o)) (own_on (shelf cells.objects final.objects) o)
  object_at o =
      let there = object_own (slice_get final.objects (place_among cells.objects o)) (slice_get objects (place_among cells.objects o)) (closed_at fixed_of journal_told cells.objects final.objects objects objects_new objects_closed (place_among cells.objects o)) in
      let same : J.objects o ≡ lone.journal_of (slice_get objects (place_among cells.objects o)) = ap (λ (i : ℕ). lone.journal_of (slice_get objects i)) (place_same o) in
      (same ∙ there.0, subst (λ (l : List ObjectEntry). HasEach 0 (length l) (own_on (shelf cells.objects final.objects) o)) (sym same) there.1)

  legal : AreLegal (node_at keys cells) J
  legal = record {
    shards = λ s plan is. subst (IsLegalJournal plan) (sym (shard_at s).0) (seat_legal cells.shards final.shards of.shards s plan is);
    objects = λ o f is. subst (λ (l : List ObjectEntry). length l ≤ f.limit) (sym (object_at o).0) (told_within (shelf cells.objects final.objects) of.objects o f is);
  }

  module _ (serves : ClosedServesAll (node_at keys cells) limits.frames) where
    pub all_serve : (runs : List (LaneRun (node_at keys cells) limits.frames)) (stocks : List Stock) → All IsFresh runs → AllZip (HasSeen cells) runs stocks → JoinsAll cells kept stocks final → ServesAll J runs
    all_serve runs stocks fresh seen joins = serves J runs (joined_are_closed (node_at keys cells) limits.frames J
        (λ s. own_at (seat cells.shards final.shards) s) (λ o. own_on (shelf cells.objects final.objects) o) runs legal fresh
        (λ s. subst (λ (l : List Entry). JoinedAt (OfShard s) (λ (K : Journals). K.shards s) l (own_at (seat cells.shards final.shards) s) runs) (sym (shard_at s).0) (known.shards s))
        (λ o. subst (λ (l : List ObjectEntry). JoinedAt (OfObject o) (λ (K : Journals). K.objects o) l (own_on (shelf cells.objects final.objects) o) runs) (sym (object_at o).0) (known.objects o))
        (λ s. (shard_at s).1) (λ o. (object_at o).1))
      where
        known : Knows cells final runs
        known = knows_all cells kept final [] runs stocks seen joins (record {
          shards = λ s. none_joined (OfShard s) (λ (K : Journals). K.shards s) (shard_unseen kept.shards shards_fresh s (slice_get kept.shards s) refl);
          objects = λ o. none_joined (OfObject o) (λ (K : Journals). K.objects o) (object_unseen kept.objects objects_fresh (place_among cells.objects o) (slice_get kept.objects (place_among cells.objects o)) refl);
        })
