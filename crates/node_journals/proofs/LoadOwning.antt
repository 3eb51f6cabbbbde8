-- What came of all requests, by the connections that answered them.
use Rattle.std.proofs.Common.{◌≡◌, ◌≢◌, ℕ, ◌+◌, ◌<◌, false, cond, eqb, List, [], ◌∷◌, ◌++◌, map, Option, Some, None, refl, sym, ap, ap₂, subst, ◌∙◌, inl, inr, arith}
use Rattle.std.specs.Prelude.{All, AllPairs, sum_by}
use Rattle.std.specs.List.{AllZip, flat_map, range_with_len}
use Rattle.std.proofs.lemmas.Grind.{flat_map-append}
use Rattle.std.proofs.lemmas.List.Concat.{flat_map-cons}
use Rattle.std.proofs.lemmas.List.Elements.{All-head, All-tail, filter_map-append}
use Rattle.std.proofs.lemmas.List.Sums.{sum_by-cons, sum_by-append}
use Rattle.frame_link.specs.declared.outcome.Outcome.{Outcome}
use Rattle.frame_link.specs.declared.outcome.Outcome.TheVariants.{End}
use Rattle.frame_link.specs.Readings.{ShowsKnown}
use Rattle.frame_link.specs.Served.{replies_of}
use Rattle.node_commands.specs.Words.{DrillWords}
use Rattle.taos_drill.specs.declared.numbers.TheConstants.{READING}
use Rattle.taos_drill.specs.Sent.{payload_of, requests_of}
use Rattle.taos_lanes.specs.Lanes.{LaneRun, ServesAll, IsLaneAnswered, times_in_lane}
use Rattle.taos_lanes.specs.Visits.{Visit, AnsweredIn, Chain, among, times_own}
use Rattle.request_course.specs.Cells.{Node, Journals, no_entries, Cell, Place, IsAfter, number_in, numbers_in}
use Rattle.request_course.specs.Course.{Course, Used}
use Rattle.request_course.specs.Handling.{Gave}
use Rattle.request_course.specs.Run.{Turn, AreTurns, IsCourse, frames_of, readings_of, pulls_of, places_of}
use Rattle.request_course.specs.World.{World}
use Rattle.request_course.proofs.Connections.{unpulled}
use Rattle.request_course.proofs.Whole.{plain_course}
use Rattle.taos_wire.specs.Reply as replies
use Rattle.taos_wire.specs.Reply.{Sent, spelling}
use Rattle.turn_cell.specs.Journal.{times}
use Rattle.turn_cell.proofs.Sums.{times-append}
use Rattle.node_journals.specs.Lanes.{AnswersLane}
use Rattle.node_journals.specs.Requests.{FitsDrill, IsLoadNode}
use Rattle.node_journals.specs.Works.{Work, work_of, work_places, In, CameBy, LaneOf, LoadWorks}
use Rattle.node_journals.proofs.Members.{in_left, in_right, in_map, all_in, in_all, of_lane}
use Rattle.node_journals.proofs.Turning.{turned}

-- ---- readings

-- a clock that reads one time always gave no other
gave_one : (x : ℕ) (before after : Option (List ℕ)) (readings : List ℕ) → before ≡ Some (x ∷ []) → Gave before after readings → (y : ℕ) → In y readings → y ≡ x
gave_one x before after [] is gave y h = absurd h
gave_one x before after (z ∷ zs) is (None, shows, later) y h = absurd (subst (λ (b : Option (List ℕ)). ShowsKnown b None z) is shows)
gave_one x before after (z ∷ zs) is (Some left, shows, later) y h =
    let now = subst (λ (b : Option (List ℕ)). ShowsKnown b (Some left) z) is shows in
    elim h [
      | inl same ↦ sym same ∙ now.0
      | inr more ↦ gave_one x (Some left) after zs (ap (λ (l : List ℕ). Some l) now.1) later y more
    ]

-- two lists together without an element
none_apart : {X : Type 0} (xs ys : List X) → xs ++ ys ≡ [] → (xs ≡ []) × (ys ≡ [])
none_apart [] ys none = (refl, none)
none_apart (x ∷ xs) ys none = absurd cc

-- ---- one lane

-- what came of these requests, in order
pub record WorksOf (d : DrillWords) (n : Node) (J : Journals) (requests : List ℕ) (places : List Place) : Type 0 where
  pub works : List Work
  pub requests_are : map (λ (w : Work). w.request) works ≡ requests
  pub placed : places ≡ flat_map (work_places d) works
  pub came : (w : Work) → In w works → CameBy d n J w

module _ (d : DrillWords) (fits : FitsDrill d) (n : Node) (node : IsLoadNode d n) (J : Journals) where
  heads : (i : ℕ) (is : List ℕ) (t : Turn) (turns : List Turn) → map (payload_of d.seed d.lanes) (i ∷ is) ≡ frames_of (t ∷ turns) →
      (t.frame ≡ payload_of d.seed d.lanes i) × (map (payload_of d.seed d.lanes) is ≡ frames_of turns)
  heads i is t turns e = (first_is e, rest_is e)
    where
      first_is : payload_of d.seed d.lanes i ∷ map (payload_of d.seed d.lanes) is ≡ t.frame ∷ frames_of turns → t.frame ≡ payload_of d.seed d.lanes i
      first_is h = cc

      rest_is : payload_of d.seed d.lanes i ∷ map (payload_of d.seed d.lanes) is ≡ t.frame ∷ frames_of turns → map (payload_of d.seed d.lanes) is ≡ frames_of turns
      rest_is h = cc

  works_of : (is : List ℕ) (turns : List Turn) → map (payload_of d.seed d.lanes) is ≡ frames_of turns → All (IsCourse n J) turns → ((x : ℕ) → In x (readings_of turns) → x ≡ READING) → pulls_of turns ≡ [] →
      ((t : Turn) → In t turns → t.sent.reply ≢ replies.NoMemory) → ((i : ℕ) → In i is → i < d.requests) → WorksOf d n J is (places_of turns)
  works_of [] [] frames courses read none had below = record { works = []; requests_are = refl; placed = refl; came = λ w h. absurd h }
  works_of [] (t ∷ turns) frames courses read none had below = absurd (some frames)
    where
      some : [] ≡ t.frame ∷ frames_of turns → ⊥
      some e = absurd cc
  works_of (i ∷ is) [] frames courses read none had below = absurd (some frames)
    where
      some : payload_of d.seed d.lanes i ∷ map (payload_of d.seed d.lanes) is ≡ [] → ⊥
      some e = absurd cc
  works_of (i ∷ is) (t ∷ turns) frames courses read none had below =
      let h = heads i is t turns frames in
      let (here_none, later_none) = none_apart t.used.pulls (pulls_of turns) (sym (flat_map-cons (λ (u : Turn). u.used.pulls) t turns) ∙ none) in
      let course = subst (λ (f : List ℕ). Course n J f t.used t.sent) h.0 (plain_course n no_entries J t.frame t.used t.sent (All-head (IsCourse n J) t turns courses) here_none) in
      let readings = in_all (λ (x : ℕ). x ≡ READING) t.used.readings (λ x at. read x (in_left x t.used.readings (readings_of turns) at)) in
      let one = turned d fits n node i (below i (inl refl)) J t.used t.sent course readings (had t (inl refl)) in
      let rest = works_of is turns h.1 (All-tail (IsCourse n J) t turns courses) (λ x at. read x (in_right x t.used.readings (readings_of turns) at)) later_none (λ u at. had u (inr at)) (λ k at. below k (inr at)) in
      let here = work_of i one.asks one.ruling in
      record {
        works = here ∷ rest.works;
        requests_are = ap (λ (l : List ℕ). i ∷ l) rest.requests_are;
        placed = ap₂ (λ (x y : List Place). x ++ y) one.placed rest.placed;
        came = λ w at. elim at [
          | inl same ↦ subst (CameBy d n J) same (one.list, one.listed, one.came)
          | inr later ↦ rest.came w later
        ];
      }

  -- ---- one connection

  module _ (limit : ℕ) where
    answered_turns : (outcome : Outcome) (count : ℕ) → outcome ≡ End count → (turns : List Turn) (frames : List (List ℕ)) (used : Used) → AreTurns n outcome turns frames used → (frames ≡ frames_of turns) × (used.pulls ≡ pulls_of turns)
    answered_turns outcome count is turns frames used are = let all = subst (λ (o : Outcome). AreTurns n o turns frames used) is are in (all.0, all.1)

    lane_works : (lane : ℕ) (run : LaneRun n limit) → (a : AnswersLane d lane run) → IsLaneAnswered J run → (works : List Work) × LaneOf d n J lane works
        × ((cell : Cell) (place : ℕ) → times place (numbers_in cell (flat_map (work_places d) works)) ≡ times_in_lane cell place run)
    lane_works lane run a answered =
        let v = a.visit in
        let in_journals = All-head (AnsweredIn J) v [] (subst (All (AnsweredIn J)) a.one answered) in
        let chain = subst (λ (l : List (Visit n limit)). Chain run.first l run.last) a.one run.chain in
        let clock : v.before.service.outside.clock.told ≡ Some (READING ∷ []) = ap (λ (w : World). w.outside.clock.told) chain.0 ∙ a.clock in
        let turns = in_journals.turns in
        let answered_so = answered_turns v.outcome _ a.ended turns v.connects.connection.served.payloads v.connects.connection.used in_journals.in_order in
        let frames : map (payload_of d.seed d.lanes) (requests_of d.requests d.lanes lane) ≡ frames_of turns = sym a.all ∙ answered_so.0 in
        let unfetched : v.before.service.fetch.pulls ≡ false = ap (λ (w : World). w.fetch.pulls) chain.0 ∙ a.unfetched in
        let none : pulls_of turns ≡ [] = sym answered_so.1 ∙ unpulled (among n) limit v.before v.after v.outcome v.connects.connection unfetched in
        let read : (x : ℕ) → In x (readings_of turns) → x ≡ READING =
        λ x at. gave_one READING v.before.service.outside.clock.told v.after.service.outside.clock.told v.connects.connection.used.readings clock v.connects.connection.gave x (subst (In x) (sym in_journals.read) at) in
        let had : (t : Turn) → In t turns → t.sent.reply ≢ replies.NoMemory =
        λ t at. all_in (λ (bytes : List ℕ). (s : Sent) → bytes ≡ spelling s → s.reply ≢ replies.NoMemory) (replies_of v.connects.connection.served.turns) (spelling t.sent) a.memory
        (subst (In (spelling t.sent)) (sym in_journals.replies_are) (in_map (λ (u : Turn). spelling u.sent) turns t at)) t.sent refl in
        let below : (i : ℕ) → In i (requests_of d.requests d.lanes lane) → i < d.requests = λ i at. (of_lane d.requests d.lanes lane i at).0 in
        let w = works_of (requests_of d.requests d.lanes lane) turns frames in_journals.courses read none had below in
        let places : v.connects.connection.used.places ≡ flat_map (work_places d) w.works = in_journals.owned ∙ w.placed in (
          w.works,
          record { requests_are = w.requests_are; came = w.came; ascending = subst (AllPairs IsAfter) places in_journals.ascending },
          λ cell place.
              ap (λ (l : List Place). times place (numbers_in cell l)) (sym places)
              ∙ sym (ap (sum_by (times_own cell place)) a.one ∙ (sum_by-cons (times_own cell place) v [] ∙ plus_none (times_own cell place v))),
        )
      where
        plus_none : (k : ℕ) → k + 0 ≡ k
        plus_none k = omega arith

    -- ---- all lanes

    all_works : (ks : List ℕ) (runs : List (LaneRun n limit)) → AllZip (AnswersLane d) ks runs → All (IsLaneAnswered J) runs → (lanes : List (List Work)) × AllZip (LaneOf d n J) ks lanes
        × ((cell : Cell) (place : ℕ) → times place (numbers_in cell (flat_map (work_places d) (flat_map (λ (ws : List Work). ws) lanes))) ≡ sum_by (times_in_lane cell place) runs)
    all_works [] [] are answered = ([], tt, λ cell place. refl)
    all_works [] (r ∷ runs) are answered = absurd are
    all_works (k ∷ ks) [] are answered = absurd are
    all_works (k ∷ ks) (r ∷ runs) are answered =
        let here = lane_works k r are.0 (All-head (IsLaneAnswered J) r runs answered) in
        let rest = all_works ks runs are.1 (All-tail (IsLaneAnswered J) r runs answered) in (
          here.0 ∷ rest.0,
          (here.1, rest.1),
          λ cell place.
              ap (λ (l : List Place). times place (numbers_in cell l)) (flat_map-append (work_places d) here.0 (flat_map (λ (ws : List Work). ws) rest.0))
              ∙ (ap (times place) (filter_map-append (number_in cell) (flat_map (work_places d) here.0) (flat_map (work_places d) (flat_map (λ (ws : List Work). ws) rest.0)))
              ∙ (times-append place (numbers_in cell (flat_map (work_places d) here.0)) (numbers_in cell (flat_map (work_places d) (flat_map (λ (ws : List Work). ws) rest.0)))
              ∙ (ap₂ (λ (x y : ℕ). x + y) (here.2 cell place) (rest.2 cell place) ∙ sym (sum_by-cons (times_in_lane cell place) r runs)))),
        )

pub load_works : (d : DrillWords) (fits : FitsDrill d) (n : Node) (node : IsLoadNode d n) (J : Journals) (limit : ℕ) (runs : List (LaneRun n limit)) → ServesAll J runs → AllZip (AnswersLane d) (range_with_len 0 d.lanes) runs → LoadWorks d n J
load_works d fits n node J limit runs serves are =
    let w = all_works d fits n node J limit (range_with_len 0 d.lanes) runs are serves.answered in
    record { lanes = w.0; each = w.1; owned = λ cell place. w.2 cell place ∙ serves.one_owner cell place; legal = serves.legal }
