-- What the lanes of a drill answered, by what they counted.
use Rattle.std.proofs.Common.{◌≡◌, ℕ, ◌+◌, ◌≤◌, Bool, true, false, List, [], ◌∷◌, ◌++◌, length, map, Option, None, Some, cond, sum_by, count_by, refl, sym, ap, subst, ◌∙◌, arith}
use Rattle.std.specs.Io.KnownBytes.{Consumes}
use Rattle.std.specs.List.{AllZip, range_with_len}
use Rattle.std.specs.declared.alloc.Global.{Global}
use Rattle.std.specs.declared.vec.Vec.{Vec}
use Rattle.std.proofs.lemmas.List.{length-append, length-map, map_push}
use Rattle.std.proofs.lemmas.List.FromFn.{length-range_with_len}
use Rattle.std.proofs.lemmas.List.Sums.{sum_by-cons}
use Rattle.frame_link.specs.Doors.{DoorSeen}
use Rattle.frame_link.specs.declared.outcome.Outcome.{Outcome}
use Rattle.frame_link.specs.declared.outcome.Outcome.TheVariants.{End, Truncated, TooLong, ReadFault, WriteFault, ClockFault, Spent, NoMemory}
use Rattle.frame_link.specs.Frames.{Splits}
use Rattle.frame_link.specs.Served.{EndsAs}
use Rattle.frame_link.specs.Hall.{Hall}
use Rattle.frame_link.specs.Supply.{Supply}
use Rattle.frame_link.specs.Times.{Times}
use Rattle.frame_link.specs.Streams.{Stream}
use Rattle.frame_link.proofs.Complete.{all_taken}
use Rattle.frame_link.proofs.Splits.{split_once}
use Rattle.agent_shards.specs.Each.{Each3}
use Rattle.taos_drill.specs.Grown.{Grown}
use Rattle.taos_drill.specs.Sent.{drill_stream, drill_streams, payload_of, requests_of}
use Rattle.taos_drill.proofs.Frames.{stream_splits}
use Rattle.taos_wire.specs.View.{text_of}
use Rattle.taos_lanes.specs.declared.lane.Lane.{Lane}
use Rattle.taos_lanes.specs.Doors.{AreVisits, GaveKnown, GoesThrough}
use Rattle.taos_lanes.specs.Lanes.{LaneRun}
use Rattle.taos_lanes.specs.Serving.{IsRunOf, Left}
use Rattle.taos_lanes.specs.Workers.{LaneShown}
use Rattle.taos_lanes.specs.Visits.{Visit, is_broken, is_lacking}
use Rattle.request_course.specs.Cells.{Node}
use Rattle.taos_node.specs.Drills.{AnswersAll, AreDrillLanes, Came, IsDrillLane, ServesDrill, Wire, drill_limits, drill_shown, wire, wire_told}
use Rattle.node_commands.specs.Words.{DrillWords}
use Rattle.node_journals.specs.Requests.{FitsDrill}
use Rattle.taos_node.proofs.DrillCounts.{LoadsAreCounted, lanes_answered, load_node, one_each}

-- ---- one more lane

pub one_lane_more : (streams : List (List ℕ)) (lanes : List (LaneShown Wire)) (bytes : List ℕ) (lane : LaneShown Wire) → AreDrillLanes streams lanes → IsDrillLane bytes lane → AreDrillLanes (streams ++ bytes ∷ []) (lanes ++ lane ∷ [])
one_lane_more [] [] bytes lane are is = (is, tt)
one_lane_more (s ∷ streams) (l ∷ lanes) bytes lane are is = (are.0, one_lane_more streams lanes bytes lane are.1 is)
one_lane_more [] (l ∷ lanes) bytes lane are is = absurd are
one_lane_more (s ∷ streams) [] bytes lane are is = absurd are

-- the same of what the program has
abbrev pub DrillLane : Type 0
DrillLane = Lane Times ℕ (Hall Wire) ℕ Supply Grown

pub more_lanes : (streams : List (Vec ℕ Global)) (bytes : Vec ℕ Global) (lanes : List DrillLane) (lane : DrillLane) (after : List DrillLane) → after ≡ lanes ++ lane ∷ [] → AreDrillLanes (map text_of streams) (map drill_shown lanes) →
    IsDrillLane bytes.items (drill_shown lane) → length lanes ≡ length streams → AreDrillLanes (map text_of (streams ++ bytes ∷ [])) (map drill_shown after) × (length after ≡ length (streams ++ bytes ∷ []))
more_lanes streams bytes lanes lane after is are of same = (
  subst (λ (x : List (List ℕ) × List (LaneShown Wire)). AreDrillLanes x.0 x.1) (λ i. (sym (map_push text_of streams bytes) i, sym (ap (map drill_shown) is ∙ map_push drill_shown lanes lane) i)) (one_lane_more (map text_of streams) (map drill_shown lanes) bytes.items (drill_shown lane) are of),
  omega (arith, ap (λ (l : List DrillLane). length l) is, length-append lanes (lane ∷ []), length-append streams (bytes ∷ []), same),
)

pub many_streams : (seed requests lanes : ℕ) (streams : List (Vec ℕ Global)) → map text_of streams ≡ drill_streams seed requests lanes → length streams ≡ lanes
many_streams seed requests lanes streams sent =
    sym (length-map streams text_of) ∙ ap (λ (l : List (List ℕ)). length l) sent ∙ length-map (range_with_len 0 lanes) (drill_stream seed requests lanes) ∙ length-range_with_len 0 lanes

-- ---- one connection

-- neither broken nor lacking memory, it ended with whole frames
is_end : (outcome : Outcome) → is_broken outcome ≡ false → is_lacking outcome ≡ false → (frames : ℕ) × (outcome ≡ End frames)
is_end (End n) b l = (n, refl)
is_end NoMemory b l = absurd cc
is_end (Truncated n) b l = absurd cc
is_end (TooLong n) b l = absurd cc
is_end ReadFault b l = absurd cc
is_end WriteFault b l = absurd cc
is_end ClockFault b l = absurd cc
is_end (Spent n) b l = absurd cc

none_of : (b : Bool) (m : ℕ) → m ≡ cond b 1 0 + 0 → m ≡ 0 → b ≡ false
none_of true m is none = absurd (omega (arith, is, none))
none_of false m is none = refl

module _ {n : Node} {limit : ℕ} where
  -- what the lanes' counts are of
  abbrev breaks : LaneRun n limit → ℕ
  breaks run = count_by (λ (v : Visit n limit). is_broken v.outcome) run.visits

  abbrev lacks : LaneRun n limit → ℕ
  lacks run = count_by (λ (v : Visit n limit). is_lacking v.outcome) run.visits

  abbrev serves : LaneRun n limit → ℕ
  serves run = length run.visits

  -- the connection's input was the one that its door had
  input_is : (v : Visit n limit) (w : Wire) (after : Option (List Wire)) (given kept : List Wire) → GaveKnown (Some (w ∷ [])) after given →
      AreVisits wire_told given kept (v ∷ []) → v.before.input.told ≡ Some w.0.left
  input_is v w None given kept gave are = absurd gave
  input_is v w (Some ys) [] [] gave are = absurd are
  input_is v w (Some ys) [] (k ∷ kept) gave are = absurd are
  input_is v w (Some ys) (g ∷ given) [] gave are = absurd are
  input_is v w (Some ys) (g ∷ given) (k ∷ kept) gave are = let first : w ≡ g = cc in ap (λ (s : Stream). s.told) are.0.input ∙ ap (λ (x : Wire). Some x.0.left) (sym first)

  -- a connection that had these frames to read, and ended with whole frames, was of them all
  of_all : (v : Visit n limit) (bytes : List ℕ) (payloads : List (List ℕ)) → Splits 65536 bytes payloads [] → v.before.input.told ≡ Some bytes → ((frames : ℕ) × (v.outcome ≡ End frames)) →
      (v.connects.connection.served.payloads ≡ payloads) × (v.outcome ≡ End (length payloads))
  of_all v bytes payloads splits had is =
      let served = v.connects.connection.served in
      let ended = subst (EndsAs limit served.payloads served.rest v.after.input) is.1 served.ended in
      let took = subst (λ x. Consumes x v.after.input.told served.taken) had served.took in
      let all : bytes ≡ served.taken = all_taken bytes served.taken v.after.input.told took ended.2 in
      let same = split_once 65536 served.taken payloads served.payloads [] served.rest (omega arith) (subst (λ (l : List ℕ). Splits 65536 l payloads []) all splits) served.splits in
      (sym same.0, is.1 ∙ ap End (ended.1 ∙ ap (λ (l : List (List ℕ)). length l) (sym same.0)))

  -- a lane with one connection, neither broken nor lacking memory
  one_run : (bytes : List ℕ) (payloads : List (List ℕ)) (before after : LaneShown Wire) (run : LaneRun n limit) → Splits 65536 bytes payloads [] → IsDrillLane bytes before → IsRunOf wire_told false (one_each limit) before after run →
      serves run ≡ 1 → breaks run ≡ 0 → lacks run ≡ 0 → AnswersAll payloads run
  one_run bytes payloads before after run splits lane is one whole had = by run.visits refl
    where
      by : (vs : List (Visit n limit)) → run.visits ≡ vs → AnswersAll payloads run
      by [] are = absurd (omega (arith, ap (λ (l : List (Visit n limit)). length l) are, one))
      by (v ∷ w ∷ vs) are = absurd (omega (arith, ap (λ (l : List (Visit n limit)). length l) are, one))
      by (v ∷ []) are =
          let through = subst (λ (l : List (Visit n limit)). GoesThrough wire_told 1 before.door after.door (run.door_failed ≡ true) l) are is.through in
          let gave = subst (λ (d : DoorSeen Wire). GaveKnown d.left after.door.left through.through.given) lane.door through.through.gave in
          let input = input_is v (wire bytes) after.door.left through.through.given through.through.kept gave through.through.are in
          let unbroken = none_of (is_broken v.outcome) (breaks run)
          (ap (λ (l : List (Visit n limit)). count_by (λ (u : Visit n limit). is_broken u.outcome) l) are ∙ sum_by-cons (λ (u : Visit n limit). cond (is_broken u.outcome) 1 0) v []) whole in
          let fed = none_of (is_lacking v.outcome) (lacks run)
          (ap (λ (l : List (Visit n limit)). count_by (λ (u : Visit n limit). is_lacking u.outcome) l) are ∙ sum_by-cons (λ (u : Visit n limit). cond (is_lacking u.outcome) 1 0) v []) had in
          let did = of_all v bytes payloads splits input (is_end v.outcome unbroken fed) in
          record { visit = v; one = are; all = did.0; ended = did.1 }

  -- ---- all lanes

  no_more : (before after : List (LaneShown Wire)) (runs : List (LaneRun n limit)) → Each3 (IsRunOf wire_told false (one_each limit)) before after runs → sum_by serves runs ≤ length runs
  no_more [] [] [] each = omega arith
  no_more (b ∷ before) (a ∷ after) (r ∷ runs) each = omega (arith, sum_by-cons serves r runs, each.0.through.few, no_more before after runs each.1)
  no_more _ _ _ each = absurd each

  module _ (seed requests lanes : ℕ) where
    all_answered : (ks : List ℕ) (before after : List (LaneShown Wire)) (runs : List (LaneRun n limit)) → AreDrillLanes (map (drill_stream seed requests lanes) ks) before → Each3 (IsRunOf wire_told false (one_each limit)) before after runs →
        sum_by serves runs ≡ length runs → sum_by breaks runs ≡ 0 → sum_by lacks runs ≡ 0 → AllZip AnswersAll (map (λ lane. map (payload_of seed lanes) (requests_of requests lanes lane)) ks) runs
    all_answered [] [] [] [] are each one whole had = tt
    all_answered [] (b ∷ before) after runs are each one whole had = absurd are
    all_answered (k ∷ ks) [] after runs are each one whole had = absurd are
    all_answered (k ∷ ks) (b ∷ before) (a ∷ after) (r ∷ runs) are each one whole had =
        let s = sum_by-cons serves r runs in
        let w = sum_by-cons breaks r runs in
        let h = sum_by-cons lacks r runs in
        let few = no_more before after runs each.1 in
        let here : serves r ≡ 1 = omega (arith, s, few, each.0.through.few, one) in (
          one_run (drill_stream seed requests lanes k) (map (payload_of seed lanes) (requests_of requests lanes k)) b a r (stream_splits seed requests lanes k) are.0 each.0 here (omega (arith, w, whole)) (omega (arith, h, had)),
          all_answered ks before after runs are.1 each.1 (omega (arith, s, here, one)) (omega (arith, w, whole)) (omega (arith, h, had)),
        )
    all_answered _ _ _ _ are each one whole had = absurd each

-- what lanes counted tells that they answered the load
pub came : (d : DrillWords) → FitsDrill d → LoadsAreCounted → (l : Left) (s : ServesDrill d l) → l.total.served ≡ l.total.lanes → l.total.broken ≡ 0 → l.total.lacked ≡ 0 → Came d l
came d fits law l s served broken lacked =
    let node = s.serves.serves in
    let counted = node.counted in
    let all = all_answered d.seed d.requests d.lanes (range_with_len 0 d.lanes) s.lanes.before s.lanes.after node.runs s.are node.each (sym counted.served ∙ served ∙ counted.lanes) (sym counted.broken ∙ broken) (sym counted.lacked ∙ lacked) in
    record {
      serves = s;
      all = all;
      counts = λ memory.
          law d s.serves.node (drill_limits d).frames fits (load_node d s.serves.node s.serves.is_node) l.shards l.objects node.runs node.plans node.fixed node.serves
          (lanes_answered d (range_with_len 0 d.lanes) s.lanes.before s.lanes.after node.runs s.are node.each all memory);
    }
