-- The node and the lanes of a drill, as the law of its counts has them.
use Rattle.std.proofs.Common.{◌≡◌, ◌≢◌, ℕ, false, zero, suc, ◌+◌, ◌<◌, List, [], ◌∷◌, length, map, get_or, ap, subst, ◌∙◌, inl, inr, add-one, arith}
use Rattle.std.specs.Prelude.{All, AllPairs}
use Rattle.std.specs.List.{AllZip, range_with_len}
use Rattle.std.specs.List.Sorted.{IsStrictlyIncreasing}
use Rattle.std.proofs.lemmas.Bool.{cases_lt}
use Rattle.std.proofs.lemmas.List.{get_or_default, length-map}
use Rattle.std.proofs.lemmas.List.Elements.{All-head, All-tail}
use Rattle.std.proofs.lemmas.List.FromFn.{length-range_with_len}
use Rattle.agent_shards.specs.Each.{Each3}
use Rattle.node_journals.specs.Lanes.{AnswersLane, HadMemory}
use Rattle.node_journals.specs.LoadLaws.{LoadIsCounted}
use Rattle.node_journals.specs.Requests.{IsLoadNode}
use Rattle.node_commands.specs.Words.{DrillWords}
use Rattle.object_core.specs.Shelving.{numbers_of as object_numbers}
use Rattle.taos_drill.specs.Opened.{drill_opening}
use Rattle.taos_drill.specs.Words.{key_at}
use Rattle.taos_drill.specs.Sent.{drill_stream, payload_of, requests_of}
use Rattle.taos_lanes.specs.Lanes.{LaneRun}
use Rattle.taos_lanes.specs.Serving.{IsRunOf}
use Rattle.taos_lanes.specs.Workers.{LaneShown}
use Rattle.taos_lanes.specs.Visits.{Visit}
use Rattle.request_course.specs.Cells.{Node}
use Rattle.request_course.specs.World.{World}
use Rattle.taos_node.specs.Drills.{AnswersAll, AreDrillLanes, HaveMemory, Wire, wire_told}
use Rattle.taos_lanes.specs.Opened.{IsNodeOf}
use Rattle.frame_link.specs.Streams.{Stream}
use Rattle.frame_link.specs.declared.limits.Limits.{Limits}

-- the law, of every load
abbrev pub LoadsAreCounted : Type 0
LoadsAreCounted = (d : DrillWords) (n : Node) (limit : ℕ) → LoadIsCounted d n limit

-- ---- the node

ascends : (ns : List ℕ) → IsStrictlyIncreasing ns → (i j : ℕ) → i < j → j < length ns → get_or ns i 0 < get_or ns j 0
ascends ns up i zero lt within = absurd (omega (arith, lt))
ascends ns up i (suc j) lt within =
    let step = up j (omega (arith, within)) in
    let next : get_or ns (j + 1) 0 ≡ get_or ns (suc j) 0 = ap (λ k. get_or ns k 0) (add-one j) in
    elim (cases_lt i j) [
      | inl below ↦ let h = ascends ns up i j below (omega (arith, within)) in omega (arith, h, step, next)
      | inr over ↦ let same : i ≡ j = omega (arith, over, lt) in let e = ap (λ k. get_or ns k 0) same in omega (arith, e, step, next)
    ]

own_apart : (ns : List ℕ) → IsStrictlyIncreasing ns → AllPairs (λ (m : ℕ) (k : ℕ). m ≢ k) ns
own_apart ns up i j d lt within same =
    let h = ascends ns up i j lt within in
    let a = get_or_default ns i d 0 (omega (arith, lt, within)) in
    let b = get_or_default ns j d 0 within in
    omega (arith, h, a, b, same)

pub load_node : (d : DrillWords) (n : Node) → IsNodeOf (drill_opening d.seed d.requests d.lanes) n → IsLoadNode d n
load_node d n is = record {
  relay_key = is.relay_key;
  channels = is.channels;
  few_channels = is.count ∙ (length-map (range_with_len 1 d.lanes) (λ channel. (channel, key_at d.seed channel)) ∙ length-range_with_len 1 d.lanes);
  objects = is.objects;
  own_numbers = own_apart (object_numbers n.objects) is.by_number;
  plans = is.plans;
}

-- ---- the lanes

-- one connection of each lane, of at most so many frames
abbrev pub one_each : ℕ → Limits
one_each frames = record { connections = 1; frames = frames }

module _ {n : Node} {limit : ℕ} (d : DrillWords) where
  pub lanes_answered : (ks : List ℕ) (before after : List (LaneShown Wire)) (runs : List (LaneRun n limit)) → AreDrillLanes (map (drill_stream d.seed d.requests d.lanes) ks) before → Each3 (IsRunOf wire_told false (one_each limit)) before after runs →
      AllZip AnswersAll (map (λ lane. map (payload_of d.seed d.lanes) (requests_of d.requests d.lanes lane)) ks) runs → HaveMemory runs → AllZip (AnswersLane d) ks runs
  lanes_answered [] [] [] [] are each all memory = tt
  lanes_answered [] (b ∷ before) after runs are each all memory = absurd are
  lanes_answered (k ∷ ks) [] after runs are each all memory = absurd are
  lanes_answered (k ∷ ks) (b ∷ before) (a ∷ after) (r ∷ runs) are each all memory = (
    record {
      clock = ap (λ (w : World). w.outside.clock.told) each.0.first ∙ ap (λ (s : Stream). s.told) are.0.clock;
      unfetched = ap (λ (w : World). w.fetch.pulls) each.0.first;
      visit = all.0.visit;
      one = all.0.one;
      all = all.0.all;
      ended = all.0.ended;
      memory = All-head (λ (v : Visit n limit). HadMemory v) all.0.visit []
          (subst (All (λ (v : Visit n limit). HadMemory v)) all.0.one (All-head (λ (run : LaneRun n limit). All (λ (v : Visit n limit). HadMemory v) run.visits) r runs memory));
    },
    lanes_answered ks before after runs are.1 each.1 all.1 (All-tail (λ (run : LaneRun n limit). All (λ (v : Visit n limit). HadMemory v) run.visits) r runs memory),
  )
  lanes_answered _ _ _ _ are each all memory = absurd each
