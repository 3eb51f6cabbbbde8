-- What came of the requests of all lanes of a node.
use Rattle.std.proofs.Common.{◌≡◌, ℕ, ◌+◌, ◌<◌, ◌≤◌, Bool, true, false, cond, leb, ltb, ◌&&◌, List, [], ◌∷◌, ◌++◌, refl, sym, ap, ap₂, ◌∙◌, arith}
use Rattle.std.specs.Prelude.{All, sum_by}
use Rattle.std.proofs.lemmas.Bool.{le-leb, lt-ltb}
use Rattle.std.proofs.lemmas.Grind.{flat_map-append}
use Rattle.std.proofs.lemmas.List.Elements.{All-append, All-head, All-nil, All-tail, filter_map-append}
use Rattle.std.proofs.lemmas.List.Sums.{sum_by-cons}
use Rattle.turn_cell.specs.Journal.{once_within, times}
use Rattle.taos_lanes.specs.Lanes.{IsLaneAnswered, LaneRun, ServesAll, times_in_lane}
use Rattle.taos_lanes.specs.Visits.{AnsweredIn, Visit, times_own}
use Rattle.request_course.specs.Cells.{Cell, Journals, Node, Place, entries_in, number_in, numbers_in}
use Rattle.request_course.specs.Run.{IsCourse, Turn, places_of}
use Rattle.node_journals.proofs.Members.{in_times}
use Rattle.turn_cell.proofs.Sums.{times-append}
use Rattle.node_journals.proofs.Owning.{Came, all_apart, in_numbers}

-- requests whose courses stand in the journals, and how often each place is theirs
pub record Requests (n : Node) (J : Journals) (often : Cell → ℕ → ℕ) : Type 0 where
  pub turns : List Turn
  pub courses : All (IsCourse n J) turns
  pub counted : (cell : Cell) (place : ℕ) → times place (numbers_in cell (places_of turns)) ≡ often cell place

module _ {n : Node} (J : Journals) where
  no_requests : (often : Cell → ℕ → ℕ) → ((cell : Cell) (place : ℕ) → often cell place ≡ 0) → Requests n J often
  no_requests often none = record { turns = []; courses = All-nil (IsCourse n J); counted = λ cell place. sym (none cell place) }

  -- those of both
  joined : (f g often : Cell → ℕ → ℕ) → ((cell : Cell) (place : ℕ) → often cell place ≡ f cell place + g cell place) → Requests n J f → Requests n J g → Requests n J often
  joined f g often both r s = record {
    turns = r.turns ++ s.turns;
    courses = All-append (IsCourse n J) r.turns s.turns r.courses s.courses;
    counted = λ cell place.
        ap (λ (l : List Place). times place (numbers_in cell l)) (flat_map-append (λ (t : Turn). t.used.places) r.turns s.turns)
        ∙ ap (times place) (filter_map-append (number_in cell) (places_of r.turns) (places_of s.turns))
        ∙ times-append place (numbers_in cell (places_of r.turns)) (numbers_in cell (places_of s.turns))
        ∙ ap₂ (λ (x y : ℕ). x + y) (r.counted cell place) (s.counted cell place)
        ∙ sym (both cell place);
  }

at_most_once : (last place : ℕ) → once_within 0 last place ≤ 1
at_most_once last place = by (leb 0 place && ltb place last)
  where
    by : (b : Bool) → cond b 1 0 ≤ 1
    by true = omega arith
    by false = omega arith

once_there : (last place : ℕ) → place < last → once_within 0 last place ≡ 1
once_there last place below =
    let first : leb 0 place ≡ true = le-leb 0 place (omega arith) in
    let second : ltb place last ≡ true = lt-ltb place last below in
    rw (first, second) refl

module _ {n : Node} {limit : ℕ} (J : Journals) where
  of_visit : (v : Visit n limit) → AnsweredIn J v → Requests n J (λ cell place. times_own cell place v)
  of_visit v a = record { turns = a.turns; courses = a.courses; counted = λ cell place. ap (λ (l : List Place). times place (numbers_in cell l)) (sym a.owned) }

  of_visits : (vs : List (Visit n limit)) → All (AnsweredIn J) vs → Requests n J (λ cell place. sum_by (times_own cell place) vs)
  of_visits [] all = no_requests J (λ cell place. 0) (λ cell place. refl)
  of_visits (v ∷ vs) all =
      joined J (λ cell place. times_own cell place v) (λ cell place. sum_by (times_own cell place) vs) (λ cell place. sum_by (times_own cell place) (v ∷ vs)) (λ cell place. sum_by-cons (times_own cell place) v vs)
      (of_visit v (All-head (AnsweredIn J) v vs all)) (of_visits vs (All-tail (AnsweredIn J) v vs all))

  of_lanes : (lanes : List (LaneRun n limit)) → All (IsLaneAnswered J) lanes → Requests n J (λ cell place. sum_by (times_in_lane cell place) lanes)
  of_lanes [] all = no_requests J (λ cell place. 0) (λ cell place. refl)
  of_lanes (l ∷ lanes) all =
      joined J (λ cell place. times_in_lane cell place l) (λ cell place. sum_by (times_in_lane cell place) lanes) (λ cell place. sum_by (times_in_lane cell place) (l ∷ lanes)) (λ cell place. sum_by-cons (times_in_lane cell place) l lanes)
      (of_visits l.visits (All-head (IsLaneAnswered J) l lanes all)) (of_lanes lanes (All-tail (IsLaneAnswered J) l lanes all))

  pub came_of_lanes : (lanes : List (LaneRun n limit)) → ServesAll J lanes → Came n J
  came_of_lanes lanes serves =
      let r : Requests n J (λ cell place. sum_by (times_in_lane cell place) lanes) = of_lanes lanes serves.answered in
      record {
        legal = serves.legal;
        turns = r.turns;
        courses = r.courses;
        apart = all_apart (places_of r.turns) (λ cell place. omega (arith, r.counted cell place, serves.one_owner cell place, at_most_once (entries_in J cell) place));
        each = λ cell number below.
            in_numbers cell number (places_of r.turns)
            (in_times number (numbers_in cell (places_of r.turns)) (omega (arith, r.counted cell number, serves.one_owner cell number, once_there (entries_in J cell) number below)));
      }
