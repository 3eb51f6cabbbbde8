-- Seats at shards: what a pass tells is legal, and a step in a cell is one among others.
use Rattle.std.proofs.Common.{◌≡◌, ℕ, ◌<◌, false, Option, None, Some, List, [], ◌∷◌, ◌++◌, length, set, Result, Ok, Err, refl, sym, ap, ◌∙◌, subst, append_assoc, append-nil}
use Rattle.std.specs.Prelude.{IfOk, OnErr}
use Rattle.std.specs.List.{AllZip, slice_get}
use Rattle.std.specs.Option.{option_map}
use Rattle.std.proofs.lemmas.Bool.{false≢true}
use Rattle.std.proofs.lemmas.List.{length-map}
use Rattle.std.proofs.lemmas.Option.{same_Some, slice_get-map, slice_get_within}
use Rattle.agent_core.specs.declared.told.Answer.{Answer}
use Rattle.agent_core.specs.Answers.{Stepped, SteppedTo, TakesMemory}
use Rattle.shard_core.specs.Alone.{plans_in}
use Rattle.agent_core.specs.Journals.{Entry, entry, Begins, ShardSeen, IsMeant, MayFollow, IsLegalJournal, told_at}
use Rattle.agent_core.specs.Shards.{HasPlanAt, StepsAmong, StepsShard, shard_at}
use Rattle.agent_core.specs.State.{Plan, Event}
use Rattle.agent_core.specs.Steps.{JournalSeen, StepAnswer, Steps, StepsTo, StepRefused}
use Rattle.agent_core.proofs.Journaling.{legal_more, meant_on}
use Rattle.shard_core.proofs.OneOwner.{of_answer, from_answer}
use Rattle.turn_cell.specs.declared.shares.TheConstants.{ALL_SHARES}
use Rattle.turn_cell.specs.Journal.{AllAllowed, Grows}
use Rattle.turn_cell.specs.Known.{Entered, IsPassOf}
use Rattle.agent_shards.specs.Cells.{IsOpened, AreSplit, AreJoined}
use Rattle.agent_shards.specs.Shards.{KnownShard, ShardCell, IsShardPass, ArePasses, IsShardOpened, AreShardsOpened, SeatSeen, journal_at, journal_of, places_of, plans_of, seat_seen, sight_of}
use Rattle.agent_shards.proofs.Rows.{each3_long, each3_map, each3_zip, set_other, set_same, zip_at, zip_long, zip_map, zip_there}

-- which entry may follow which, as the cell has it
abbrev pub follows : Plan → List Entry → Entry → Type 0
follows plan before e = MayFollow plan before e

-- ---- what grows by entries that may follow stays legal

legal_on : (plan : Plan) (before more : List Entry) → IsLegalJournal plan before → AllAllowed follows plan before more → IsLegalJournal plan (before ++ more)
legal_on plan before [] legal all = subst (IsLegalJournal plan) (sym (append-nil before)) legal
legal_on plan before (e ∷ more) legal all =
    subst (IsLegalJournal plan) (append_assoc before (e ∷ []) more)
    (legal_on plan (before ++ e ∷ []) more (legal_more plan before e legal all.0) all.1)

pub legal_grows : (plan : Plan) (seen later : List Entry) → IsLegalJournal plan seen → Grows follows plan seen later → IsLegalJournal plan later
legal_grows plan seen later legal g = subst (IsLegalJournal plan) (sym g.1) (legal_on plan seen g.0 legal g.2)

-- what is meant after what was seen is meant after what was entered
pub meant_grows : (plan : Plan) (seen later : List Entry) (event : Event) → Grows follows plan seen later → IsMeant plan seen event → IsMeant plan later event
meant_grows plan seen later event g m = subst (λ (l : List Entry). IsMeant plan l event) (sym g.1) (meant_on plan seen g.0 event m)

-- ---- after what was seen, and entries of others

module _ (plan : Plan) (p q : KnownShard) (journal : List Entry) (event : Event) (grows : Grows follows plan p.seen journal) (legal : IsLegalJournal plan p.seen)
    (kept : q.seen ≡ journal → q.own ≡ p.own) (added : (e : Entry) → q.seen ≡ journal ++ e ∷ [] → q.own ≡ p.own ++ length journal ∷ []) where
  begins : Begins p.seen journal
  begins = record { rest = grows.0; is = grows.1 }

  legal_entered : IsLegalJournal plan journal
  legal_entered = legal_grows plan p.seen journal legal grows

  stays : q.seen ≡ journal → StepRefused plan (sight_of p) (sight_of q)
  stays same = record {
    goes_on = subst (Begins p.seen) (sym same) begins;
    undisturbed = λ e. absurd (false≢true e);
    legal = subst (IsLegalJournal plan) (sym same) legal_entered;
    owned = kept same;
  }

  module _ (place : ℕ) where
    handed : (x : StepAnswer) → Steps plan journal event q.seen place x → StepsTo plan (sight_of p) (sight_of q) event place x
    handed x s = record {
      before = journal;
      goes_on = begins;
      undisturbed = λ e. absurd (false≢true e);
      steps = s;
      owned = added (entry event s.told) s.adds ∙ ap (λ (n : ℕ). p.own ++ n ∷ []) s.placed;
    }

    stepped_among : (r : Answer) → Stepped plan journal event q.seen place r → SteppedTo plan (sight_of p) (sight_of q) event place r
    stepped_among = of_answer _ _ _ _ handed (λ n f. (stays f.0, ap (λ (l : List Entry). length l) f.0 ∙ f.1, f.2, f.3))

    legal_step : (x : StepAnswer) → Steps plan journal event q.seen place x → IsLegalJournal plan q.seen
    legal_step x s = s.legal

    legal_left : (r : Answer) → Stepped plan journal event q.seen place r → IsLegalJournal plan q.seen
    legal_left = from_answer _ _ (IsLegalJournal plan q.seen) legal_step (λ n f. subst (IsLegalJournal plan) (sym f.0) legal_entered)

-- the whole step: `h` is what was entered, `m` and `m'` the shard before and after
module _ (plan : Plan) (p q : KnownShard) (h : Entered Plan Entry) (m m' : ShardSeen) (event : Event)
    (planned : m.plan ≡ plan) (grows : Grows follows plan p.seen m.journal) (entered : h.entered ≡ m.journal) (own_in : h.own ≡ p.own) (legal : IsLegalJournal plan p.seen)
    (seen : q.seen ≡ m'.journal) (kept : m'.journal ≡ h.entered → q.own ≡ h.own) (added : (e : Entry) → m'.journal ≡ h.entered ++ e ∷ [] → q.own ≡ h.own ++ length h.entered ∷ []) where
  kept' : q.seen ≡ m.journal → q.own ≡ p.own
  kept' same = kept (sym seen ∙ (same ∙ sym entered)) ∙ own_in

  added' : (e : Entry) → q.seen ≡ m.journal ++ e ∷ [] → q.own ≡ p.own ++ length m.journal ∷ []
  added' e more = added e (sym seen ∙ (more ∙ ap (λ (l : List Entry). l ++ e ∷ []) (sym entered)))
      ∙ (ap (λ (o : List ℕ). o ++ length h.entered ∷ []) own_in ∙ ap (λ (l : List Entry). p.own ++ length l ∷ []) entered)

  stepped_as : (x : ℕ × Answer) → Stepped m.plan m.journal event m'.journal x.0 x.1 → Stepped plan m.journal event q.seen x.0 x.1
  stepped_as x s = subst (λ (l : List Entry). Stepped plan m.journal event l x.0 x.1) (sym seen) (subst (λ (p : Plan). Stepped p m.journal event m'.journal x.0 x.1) planned s)

  same_journal : m' ≡ m → q.seen ≡ m.journal
  same_journal same = seen ∙ ap (λ (s : ShardSeen). s.journal) same

  pub cell_steps : {E : Type 0} (r : Result (ℕ × Answer) E) → IfOk r (λ x. Stepped m.plan m.journal event m'.journal x.0 x.1) → OnErr r (m' ≡ m) →
      OnErr r (TakesMemory (told_at m.plan m.journal event)) → OnErr r (length m.journal < m.plan.limit) → StepsShard plan (sight_of p) (sight_of q) event r
  cell_steps (Ok x) answered unchanged wanted room = record {
    steps = stepped_among plan p q m.journal event grows legal kept' added' x.0 x.1 (stepped_as x answered);
    refused = tt;
    wanted = tt;
    room = tt;
  }
  cell_steps (Err e) answered unchanged wanted room = record {
    steps = tt;
    refused = stays plan p q m.journal event grows legal kept' added' (same_journal unchanged);
    wanted = subst (λ (j : List Entry). TakesMemory (told_at plan j event)) (sym (same_journal unchanged)) (subst (λ (p : Plan). TakesMemory (told_at p m.journal event)) planned wanted);
    room = subst (λ (j : List Entry). length j < plan.limit) (sym (same_journal unchanged)) (subst (λ (p : Plan). length m.journal < p.limit) planned room);
  }

  pub cell_legal : {E : Type 0} (r : Result (ℕ × Answer) E) → IfOk r (λ x. Stepped m.plan m.journal event m'.journal x.0 x.1) → OnErr r (m' ≡ m) → IsLegalJournal plan q.seen
  cell_legal (Ok x) answered unchanged = legal_left plan p q m.journal event grows legal kept' added' x.0 x.1 (stepped_as x answered)
  cell_legal (Err e) answered unchanged = subst (IsLegalJournal plan) (sym (same_journal unchanged)) (legal_grows plan p.seen m.journal legal grows)

-- ---- passes of all shards

pub of_cells : (cells : List ShardCell) (passes : List KnownShard) → ArePasses cells passes → AllZip IsPassOf cells passes
of_cells cells passes are = zip_map IsShardPass IsPassOf (λ c p h. h.of_cell) cells passes are

pub shard_opened : (s m : ShardSeen) (cell : ShardCell) (pass : KnownShard) → m ≡ s → IsOpened m.plan m.journal cell pass → IsLegalJournal s.plan s.journal → IsShardOpened s cell pass
shard_opened s m cell pass same opened legal = record { opened = subst (λ (x : ShardSeen). IsOpened x.plan x.journal cell pass) same opened; legal = legal }

opened_pass : (s : ShardSeen) (cell : ShardCell) (pass : KnownShard) → IsShardOpened s cell pass → IsShardPass cell pass
opened_pass s cell pass o = record {
  of_cell = o.opened.of_cell;
  legal = subst (λ (z : Plan × List Entry). IsLegalJournal z.0 z.1) (λ k. (sym o.opened.its_fixed k, sym o.opened.seen k)) o.legal;
}

module _ (shards : List ShardSeen) (cells : List ShardCell) (passes : List KnownShard) (are : AreShardsOpened shards cells passes) where
  pub opened_passes : ArePasses cells passes
  opened_passes = each3_zip IsShardOpened IsShardPass opened_pass shards cells passes are

  pub opened_plans : plans_of cells ≡ plans_in shards
  opened_plans = each3_map IsShardOpened (λ (s : ShardSeen). s.plan) (λ (c : ShardCell). c.fixed) (λ s c p o. o.opened.its_fixed) shards cells passes are

  pub opened_count : length cells ≡ length shards
  opened_count = each3_long IsShardOpened shards cells passes are

pub split_passes : (shares : ℕ) (cells : List ShardCell) (before kept given : List KnownShard) → ArePasses cells before → AreSplit shares cells before kept given → ArePasses cells kept × ArePasses cells given
split_passes shares [] [] [] [] are split = (tt, tt)
split_passes shares (c ∷ cs) (p ∷ ps) (k ∷ ks) (g ∷ gs) are split =
    let rest = split_passes shares cs ps ks gs are.1 split.1 in (
      (record { of_cell = split.0.kept_of; legal = subst (IsLegalJournal c.fixed) (sym split.0.seen.0) are.0.legal }, rest.0),
      (record { of_cell = split.0.given_of; legal = subst (IsLegalJournal c.fixed) (sym split.0.seen.1) are.0.legal }, rest.1),
    )
split_passes shares _ _ _ _ are split = absurd split

pub joined_passes : (cells : List ShardCell) (first both second : List KnownShard) → ArePasses cells first → AreJoined follows cells first both second → ArePasses cells both
joined_passes [] [] [] [] are joined = tt
joined_passes (c ∷ cs) (a ∷ as') (b ∷ bs) (s ∷ ss) are joined = (
  record { of_cell = joined.0.of_cell; legal = legal_grows c.fixed a.seen b.seen are.0.legal joined.0.first_goes_on },
  joined_passes cs as' bs ss are.1 joined.1,
)
joined_passes _ _ _ _ are joined = absurd joined

pub seated : (shares : ℕ) (cells cells' : List ShardCell) (before before' kept given : List KnownShard) → cells' ≡ cells → before' ≡ before → ArePasses cells before → AreSplit shares cells' before' kept given → ArePasses cells kept × ArePasses cells given
seated shares cells cells' before before' kept given c b are split =
    split_passes shares cells before kept given are (subst (λ (z : List ShardCell × List KnownShard). AreSplit shares z.0 z.1 kept given) (λ k. (c k, b k)) split)

pub unseated : (cells cells' : List ShardCell) (first first' both second : List KnownShard) → cells' ≡ cells → first' ≡ first → ArePasses cells first → AreJoined follows cells' first' both second → ArePasses cells both
unseated cells cells' first first' both second c f are joined =
    joined_passes cells first both second are (subst (λ (z : List ShardCell × List KnownShard). AreJoined follows z.0 z.1 both second) (λ k. (c k, f k)) joined)

-- the same passes of the same cells
pub same_cells : (cells cells' : List ShardCell) (passes passes' : List KnownShard) → cells' ≡ cells → passes' ≡ passes → ArePasses cells passes → AllZip IsPassOf cells' passes'
same_cells cells cells' passes passes' c p are =
    subst (λ (z : List ShardCell × List KnownShard). AllZip IsPassOf z.0 z.1) (λ k. (sym c k, sym p k)) (of_cells cells passes are)

-- ---- a seat

module _ (cells : List ShardCell) (passes : List KnownShard) (are : ArePasses cells passes) where
  abbrev seat : SeatSeen
  seat = record { cells = cells; passes = passes }

  pub seat_long : length passes ≡ length (plans_of cells)
  seat_long = zip_long IsShardPass cells passes are ∙ sym (length-map cells (λ (c : ShardCell). c.fixed))

  module _ (number : ℕ) (plan : Plan) where
    legal_here : (o : Option ShardCell) → slice_get cells number ≡ o → option_map (λ (x : ShardCell). x.fixed) o ≡ Some plan → IsLegalJournal plan (journal_of (slice_get passes number))
    legal_here None at is = absurd cc
    legal_here (Some c) at is =
        let (p, there, h) = zip_there IsShardPass cells passes number c are at in
        subst (λ (z : Plan × Option KnownShard). IsLegalJournal z.0 (journal_of z.1)) (λ k. (same_Some c.fixed plan is k, sym there k)) h.legal

    pub seat_legal : HasPlanAt (seat_seen seat) number plan → IsLegalJournal plan (journal_at seat number)
    seat_legal at = legal_here (slice_get cells number) refl (sym (slice_get-map (λ (x : ShardCell). x.fixed) cells number) ∙ at)

  module _ (number : ℕ) (c : ShardCell) (p : KnownShard) (at : slice_get cells number ≡ Some c) (there : slice_get passes number ≡ Some p) where
    pub seat_pass : IsShardPass c p
    seat_pass = zip_at IsShardPass cells passes number c p are at there

    plan_there : slice_get (plans_of cells) number ≡ Some c.fixed
    plan_there = slice_get-map (λ (x : ShardCell). x.fixed) cells number ∙ ap (option_map (λ (x : ShardCell). x.fixed)) at

    pub seat_meant : (event : Event) → ((plan : Plan) → HasPlanAt (seat_seen seat) number plan → IsMeant plan (journal_at seat number) event) → IsMeant c.fixed p.seen event
    seat_meant event meant = subst (λ (o : Option KnownShard). IsMeant c.fixed (journal_of o) event) there (meant c.fixed plan_there)

    module _ (q : KnownShard) where
      abbrev after : SeatSeen
      after = record { cells = cells; passes = set passes number q }

      here : slice_get (set passes number q) number ≡ Some q
      here = set_same passes number q (slice_get_within passes number p there)

      seen_now : shard_at (seat_seen after) number ≡ sight_of q
      seen_now = λ k. record { alone = false; journal = journal_of (here k); own = places_of (here k) }

      seen_then : shard_at (seat_seen seat) number ≡ sight_of p
      seen_then = λ k. record { alone = false; journal = journal_of (there k); own = places_of (there k) }

      planned : (plan : Plan) → HasPlanAt (seat_seen seat) number plan → c.fixed ≡ plan
      planned plan has = same_Some c.fixed plan (sym plan_there ∙ has)

      pub seat_steps : {E : Type 0} (event : Event) (r : Result (ℕ × Answer) E) → StepsShard c.fixed (sight_of p) (sight_of q) event r → StepsAmong (seat_seen seat) (seat_seen after) number event r
      seat_steps event r s = record {
        here = λ plan has. subst (λ (z : Plan × (JournalSeen × JournalSeen)). StepsShard z.0 z.1.0 z.1.1 event r) (λ k. (planned plan has k, (sym seen_then k, sym seen_now k))) s;
        rest = record { plans = refl; alone = refl; others = λ n other. let e = set_other passes number q n other in (ap journal_of e, ap places_of e) };
      }

-- ---- the end

-- the pass is of the cell, with all shares
abbrev pub IsLast : ShardCell → KnownShard → Type 0
IsLast cell pass = IsPassOf cell pass × (pass.shares ≡ ALL_SHARES)
