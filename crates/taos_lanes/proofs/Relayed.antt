-- The runs of a relay's lanes.
use Rattle.std.proofs.Common.{◌≡◌, List, [], ◌∷◌, map, subst, sym}
use Rattle.std.specs.List.{AllZip}
use Rattle.agent_shards.specs.Each.{Each3}
use Rattle.relay_core.specs.declared.resealing.RelayTable.{RelayTable}
use Rattle.frame_link.specs.declared.limits.Limits.{Limits}
use Rattle.frame_link.specs.Doors.{DoorSeen}
use Rattle.taos_lanes.specs.declared.tally.Tally.{Tally}
use Rattle.taos_lanes.specs.declared.total.Total.{Total}
use Rattle.taos_lanes.specs.Relaying.{IsRelayRunOf, RelayRun, RelaysDoor, RelaysLane, RelaysLanes, ServesRelayed}
use Rattle.taos_lanes.specs.Workers.{Keeps, LaneShown}
use Rattle.taos_lanes.specs.Working.{ServesDoorBy, lane_of, tally_of}
use Rattle.taos_lanes.specs.Totals.{IsSumOf}
use Rattle.taos_monitor.specs.Changing.{change}
use Rattle.taos_lanes.specs.Telling.{Telling}
use Rattle.taos_lanes.proofs.SoFar.{other_doors}
use Rattle.taos_lanes.proofs.Totals.{sum_same}

-- a lane keeps what was counted
pub kept_on : {In Out : Type 0} (telling : Telling In Out) (table : RelayTable) (limits : Limits) (before served after : LaneShown (In × Out)) (tally : Tally) →
    RelaysDoor telling table limits before served tally → Keeps served after tally → RelaysLane telling table limits before after
kept_on {In} {Out} telling table limits before served after tally relays kept = record {
  same = other_doors relays.same kept.rest;
  serves = subst (λ (x : DoorSeen (In × Out) × Tally). ServesDoorBy telling (ServesRelayed limits.frames) limits (change (lane_of table before.door) (lane_of table x.0)) x.1)
      (λ i. (sym kept.door i, sym kept.tally i)) relays.serves;
}

module _ {A In Out : Type 0} (f : A → LaneShown (In × Out)) (telling : Telling In Out) (table : RelayTable) (limits : Limits) where
  -- what all lanes did, and counted
  ran : (xs ys : List A) → AllZip (RelaysLane telling table limits) (map f xs) (map f ys) →
      (runs : List (RelayRun limits.frames)) × Each3 (IsRelayRunOf telling table limits) (map f xs) (map f ys) runs
      × AllZip (λ (run : RelayRun limits.frames) (y : A). (f y).tally ≡ tally_of run.visits run.door_failed) runs ys
  ran [] [] z = ([], tt, tt)
  ran (x ∷ xs) (y ∷ ys) z =
      let more = ran xs ys z.1 in
      let it = z.0.serves in (
        record { visits = it.visits; door_failed = (f y).tally.door_failed } ∷ more.0,
        (record { same = z.0.same; chain = it.chain; through = it.through; cause = it.cause }, more.1),
        (it.counted, more.2),
      )
  ran [] (y ∷ ys) z = absurd z
  ran (x ∷ xs) [] z = absurd z

  pub relays : (xs ys : List A) (total : Total) → AllZip (RelaysLane telling table limits) (map f xs) (map f ys) → IsSumOf (λ (y : A). (f y).tally) ys total →
      RelaysLanes telling table limits (change (map f xs) (map f ys)) total
  relays xs ys total z t =
      let all = ran xs ys z in
      record { runs = all.0; each = all.1; counted = sum_same (λ (run : RelayRun limits.frames). tally_of run.visits run.door_failed) (λ (y : A). (f y).tally) all.0 ys total all.2 t }
