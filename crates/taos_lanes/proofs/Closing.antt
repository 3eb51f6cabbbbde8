-- Lanes whose seats were joined and whose cells were closed served all that stands in the journals.
use Rattle.std.proofs.Common.{◌≡◌, ℕ, ◌+◌, eqb, cond, List, [], ◌∷◌, ◌++◌, length, refl, sym, ap, ap₂, ◌∙◌, subst, arith, append_assoc, append-nil}
use Rattle.std.specs.Prelude.{All, sum_by}
use Rattle.std.proofs.lemmas.List.Elements.{All-nil, All-cons, All-append, All-head, All-tail, filter_map-append}
use Rattle.std.proofs.lemmas.List.Sums.{sum_by-cons}
use Rattle.frame_link.specs.declared.outcome.Outcome.{Outcome}
use Rattle.frame_link.specs.Served.{Line, replies_of}
use Rattle.agent_core.specs.Journals.{Begins}
use Rattle.agent_core.proofs.Onward.{begins_itself, begins_on}
use Rattle.turn_cell.specs.Journal.{times, HasEach}
use Rattle.request_course.specs.Cells.{Node, Journals, Cell, OfShard, OfObject, number_in, numbers_in, entries_in, AreLegal, Extends}
use Rattle.request_course.specs.World.{World}
use Rattle.request_course.specs.Laws.{AnsweredStays}
use Rattle.taos_lanes.specs.Visits.{Visit, VisitBy, begun, left, Chain, places_of, all_places, AnsweredIn, times_own}
use Rattle.taos_lanes.specs.Lanes.{LaneRun, times_in_lane, owned_in, IsFresh, IsLaneAnswered, SawBegins}
use Rattle.taos_lanes.specs.Laws.{ChainGoesOn, JoinsOneMore, JoinedAreClosed, ClosedServesAll}

-- ---- journals that begin journals

extends_itself : (J : Journals) → Extends J J
extends_itself J = record {
  shards = λ s. begins_itself (J.shards s);
  objects = λ o. begins_itself (J.objects o);
}

extends_on : {I J K : Journals} → Extends I J → Extends J K → Extends I K
extends_on a b = record {
  shards = λ s. begins_on (a.shards s) (b.shards s);
  objects = λ o. begins_on (a.objects o) (b.objects o);
}

-- ---- counts of places

times-cons : (place x : ℕ) (xs : List ℕ) → times place (x ∷ xs) ≡ cond (eqb x place) 1 0 + times place xs
times-cons place x xs = sum_by-cons (λ q. cond (eqb q place) 1 0) x xs

pub times-append : (place : ℕ) (xs ys : List ℕ) → times place (xs ++ ys) ≡ times place xs + times place ys
times-append place [] ys = omega arith
times-append place (x ∷ xs) ys = omega (arith, times-append place xs ys, times-cons place x xs, times-cons place x (xs ++ ys))

-- ---- one lane

module _ {n : Node} {limit : ℕ} where
  -- what was seen before a chain begins what was seen behind it
  pub chain_extends : (first last : World) (visits : List (Visit n limit)) → Chain first visits last → Extends first.seen.journals last.seen.journals
  chain_extends first last [] same = subst (λ (x : World). Extends first.seen.journals x.seen.journals) (sym same) (extends_itself first.seen.journals)
  chain_extends first last (v ∷ visits) c =
      extends_on (subst (λ (x : World). Extends x.seen.journals (left v).seen.journals) c.0 v.connects.connection.goes_on.goes_on)
      (chain_extends (left v) last visits c.1)

  -- the own places of a seat are those of its connections, in order
  pub chain_owns : (cell : Cell) (first last : World) (visits : List (Visit n limit)) → Chain first visits last →
      last.seen.own cell ≡ first.seen.own cell ++ numbers_in cell (all_places visits)
  chain_owns cell first last [] same = ap (λ (x : World). x.seen.own cell) same ∙ sym (append-nil (first.seen.own cell))
  chain_owns cell first last (v ∷ visits) c =
      chain_owns cell (left v) last visits c.1
      ∙ ap (λ (l : List ℕ). l ++ numbers_in cell (all_places visits)) (v.connects.connection.goes_on.owned cell ∙ ap (λ (x : World). x.seen.own cell ++ numbers_in cell (places_of v)) c.0)
      ∙ append_assoc (first.seen.own cell) (numbers_in cell (places_of v)) (numbers_in cell (all_places visits))
      ∙ ap (λ (l : List ℕ). first.seen.own cell ++ l) (sym (filter_map-append (number_in cell) (places_of v) (all_places visits)))

  -- each connection is answered in all legal journals that go on from the last ones
  pub chain_answered : AnsweredStays n → (J : Journals) → AreLegal n J → (first last : World) (visits : List (Visit n limit)) → Chain first visits last →
      Extends last.seen.journals J → All (AnsweredIn J) visits
  chain_answered stays J legal first last [] c ext = All-nil (AnsweredIn J)
  chain_answered stays J legal first last (v ∷ visits) c ext =
      All-cons (AnsweredIn J) v visits
      (stays (left v).seen.journals J (extends_on (chain_extends (left v) last visits c.1) ext) legal
      v.connects.connection.used v.connects.connection.served.payloads (replies_of v.connects.connection.served.turns) v.outcome v.connects.connection.answered)
      (chain_answered stays J legal (left v) last visits c.1 ext)

  -- what each had seen when it ended begins those that begin with what the last had
  pub chain_begins : (J : Journals) (first last : World) (visits : List (Visit n limit)) → Chain first visits last → Extends last.seen.journals J → All (λ (v : Visit n limit). Extends (left v).seen.journals J) visits
  chain_begins J first last [] c ext = All-nil _
  chain_begins J first last (v ∷ visits) c ext =
      All-cons (λ (w : Visit n limit). Extends (left w).seen.journals J) v visits (extends_on (chain_extends (left v) last visits c.1) ext) (chain_begins J (left v) last visits c.1 ext)

  -- and each of its places counts at one of them
  pub times_visits : (cell : Cell) (place : ℕ) (visits : List (Visit n limit)) → times place (numbers_in cell (all_places visits)) ≡ sum_by (times_own cell place) visits
  times_visits cell place [] = refl
  times_visits cell place (v ∷ visits) =
      ap (times place) (filter_map-append (number_in cell) (places_of v) (all_places visits))
      ∙ times-append place (numbers_in cell (places_of v)) (numbers_in cell (all_places visits))
      ∙ ap (λ (k : ℕ). times_own cell place v + k) (times_visits cell place visits)
      ∙ sym (sum_by-cons (times_own cell place) v visits)

-- ---- all lanes

module _ {n : Node} {limit : ℕ} where
  lane_times : (cell : Cell) (place : ℕ) (lane : LaneRun n limit) → IsFresh lane → times place (lane.last.seen.own cell) ≡ times_in_lane cell place lane
  lane_times cell place lane fresh =
      ap (times place) (chain_owns cell lane.first lane.last lane.visits lane.chain ∙ ap (λ (l : List ℕ). l ++ numbers_in cell (all_places lane.visits)) (fresh cell))
      ∙ times_visits cell place lane.visits

  lanes_times : (cell : Cell) (place : ℕ) (lanes : List (LaneRun n limit)) → All IsFresh lanes → times place (owned_in cell lanes) ≡ sum_by (times_in_lane cell place) lanes
  lanes_times cell place [] fresh = refl
  lanes_times cell place (lane ∷ lanes) fresh =
      times-append place (lane.last.seen.own cell) (owned_in cell lanes)
      ∙ ap₂ (λ (a b : ℕ). a + b) (lane_times cell place lane (All-head IsFresh lane lanes fresh)) (lanes_times cell place lanes (All-tail IsFresh lane lanes fresh))
      ∙ sym (sum_by-cons (times_in_lane cell place) lane lanes)

  lanes_answered : AnsweredStays n → (J : Journals) → AreLegal n J → (lanes : List (LaneRun n limit)) → All (λ (lane : LaneRun n limit). Extends lane.last.seen.journals J) lanes → All (IsLaneAnswered J) lanes
  lanes_answered stays J legal [] ext = All-nil (IsLaneAnswered J)
  lanes_answered stays J legal (lane ∷ lanes) ext =
      All-cons (IsLaneAnswered J) lane lanes
      (chain_answered stays J legal lane.first lane.last lane.visits lane.chain (All-head (λ (x : LaneRun n limit). Extends x.last.seen.journals J) lane lanes ext))
      (lanes_answered stays J legal lanes (All-tail (λ (x : LaneRun n limit). Extends x.last.seen.journals J) lane lanes ext))

module _ {n : Node} {limit : ℕ} where
  lanes_begin : (J : Journals) (lanes : List (LaneRun n limit)) → All (λ (lane : LaneRun n limit). Extends lane.last.seen.journals J) lanes → All (SawBegins J) lanes
  lanes_begin J [] ext = All-nil (SawBegins J)
  lanes_begin J (lane ∷ lanes) ext =
      All-cons (SawBegins J) lane lanes
      (let last = All-head (λ (x : LaneRun n limit). Extends x.last.seen.journals J) lane lanes ext in record { last = last; each = chain_begins J lane.first lane.last lane.visits lane.chain last })
      (lanes_begin J lanes (All-tail (λ (x : LaneRun n limit). Extends x.last.seen.journals J) lane lanes ext))

pub closed_serves_all : (n : Node) (limit : ℕ) → AnsweredStays n → ClosedServesAll n limit
closed_serves_all n limit stays J lanes closed = record {
  legal = closed.legal;
  begin = lanes_begin J lanes closed.begin;
  answered = lanes_answered stays J closed.legal lanes closed.begin;
  one_owner = λ cell place. sym (lanes_times cell place lanes closed.fresh) ∙ closed.owned cell place;
}

-- ---- the joined passes

module _ {n : Node} {limit : ℕ} where
  owned-append : (cell : Cell) (xs ys : List (LaneRun n limit)) → owned_in cell (xs ++ ys) ≡ owned_in cell xs ++ owned_in cell ys
  owned-append cell [] ys = refl
  owned-append cell (x ∷ xs) ys = ap (λ (l : List ℕ). x.last.seen.own cell ++ l) (owned-append cell xs ys) ∙ sym (append_assoc (x.last.seen.own cell) (owned_in cell xs) (owned_in cell ys))

  begin_on : {E : Type 0} (journal : Journals → List E) (seen later : List E) (lanes : List (LaneRun n limit)) → Begins seen later →
      All (λ (lane : LaneRun n limit). Begins (journal lane.last.seen.journals) seen) lanes → All (λ (lane : LaneRun n limit). Begins (journal lane.last.seen.journals) later) lanes
  begin_on journal seen later lanes more h k d lt = begins_on (h k d lt) more

pub joins_one_more : (E : Type 0) (n : Node) (limit : ℕ) → JoinsOneMore E n limit
joins_one_more E n limit cell journal seen later own lanes lane joined more here = record {
  owned = ap (λ (l : List ℕ). l ++ lane.last.seen.own cell) joined.owned
      ∙ sym (owned-append cell lanes (lane ∷ []) ∙ ap (λ (l : List ℕ). owned_in cell lanes ++ l) (append-nil (lane.last.seen.own cell)));
  begin = All-append (λ (x : LaneRun n limit). Begins (journal x.last.seen.journals) later) lanes (lane ∷ []) (begin_on journal seen later lanes more joined.begin)
      (All-cons (λ (x : LaneRun n limit). Begins (journal x.last.seen.journals) later) lane [] here (All-nil (λ (x : LaneRun n limit). Begins (journal x.last.seen.journals) later)));
}

pub joined_are_closed : (n : Node) (limit : ℕ) → JoinedAreClosed n limit
joined_are_closed n limit J shards_own objects_own lanes legal fresh shards objects each each_object = record {
  legal = legal;
  fresh = fresh;
  begin = λ k d lt. record {
    shards = λ s. (shards s).begin k d lt;
    objects = λ o. (objects o).begin k d lt;
  };
  owned = owned;
}
  where
    owned : (cell : Cell) → HasEach 0 (entries_in J cell) (owned_in cell lanes)
    owned (OfShard s) = subst (HasEach 0 (length (J.shards s))) (shards s).owned (each s)
    owned (OfObject o) = subst (HasEach 0 (length (J.objects o))) (objects o).owned (each_object o)

-- a chain of connections that are served so goes on
pub goes_on : {S : Type 0} {Serves : Line S → Line S → Outcome → Type 0} {limit : ℕ} (first last : S) (visits : List (VisitBy Serves limit)) (v : VisitBy Serves limit) → Chain first visits last → begun v ≡ last →
    Chain first (visits ++ v ∷ []) (left v)
goes_on first last [] v c same = (same ∙ c, refl)
goes_on first last (w ∷ visits) v c same = (c.0, goes_on (left w) last visits v c.1 same)

pub chain_goes_on : (n : Node) (limit : ℕ) → ChainGoesOn n limit
chain_goes_on n limit first last visits v c same = goes_on first last visits v c same
