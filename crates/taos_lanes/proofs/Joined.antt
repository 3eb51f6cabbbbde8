-- What passes that come back make of what lanes have seen.
use Rattle.std.proofs.Common.{◌≡◌, ℕ, zero, suc, ◌+◌, List, [], ◌∷◌, ◌++◌, Option, None, Some, refl, sym, ap, ◌∙◌, subst, arith, append_assoc, append-nil}
use Rattle.std.specs.Prelude.{slice_get, ⊤}
use Rattle.std.specs.List.{AllZip}
use Rattle.std.proofs.lemmas.List.Elements.{All-nil, All-cons, All-head, All-tail}
use Rattle.agent_core.specs.Journals.{Begins, MayFollow}
use Rattle.agent_shards.specs.Cells.{AreJoined, AreSplit}
use Rattle.agent_shards.specs.Room.{HasRoom}
use Rattle.agent_shards.specs.Shards.{KnownShard, journal_of, places_of, journal_at, own_at}
use Rattle.agent_shards.specs.Objects.{KnownObject, journal_by, places_by, place_among, seen_on, own_on}
use Rattle.turn_cell.specs.declared.shares.TheConstants.{ALL_SHARES}
use Rattle.turn_cell.specs.Journal.{Grows}
use Rattle.turn_cell.specs.Known.{Cell, Known}
use Rattle.request_course.specs.Cells as node
use Rattle.request_course.specs.Cells.{Node, Journals, OfShard, OfObject, seen_of}
use Rattle.taos_lanes.specs.declared.lane.Stock.{Stock}
use Rattle.taos_lanes.specs.Lanes.{LaneRun}
use Rattle.taos_lanes.specs.Laws.{JoinedAt}
use Rattle.taos_lanes.specs.Stocked.{NodeCells, seat, shelf, shards_viewed, objects_viewed}
use Rattle.taos_lanes.specs.Joining.{NodePasses, AreFresh, HaveAllBut, HaveOne, Joins, JoinsAll}
use Rattle.taos_lanes.proofs.Closing.{joins_one_more}

-- ---- one cell

-- what a pass is, of two that were joined, where there are such
abbrev AtPlace : {F E : Type 0} → (first both second : Option (Known F E)) → Type 0
AtPlace None None None = ⊤
AtPlace (Some a) (Some b) (Some c) = (b.own ≡ a.own ++ c.own) × Begins a.seen b.seen × Begins c.seen b.seen
AtPlace _ _ _ = ⊥

grown : {F E : Type 0} (allows : F → List E → E → Type 0) (fixed : F) (earlier later : List E) → Grows allows fixed earlier later → Begins earlier later
grown allows fixed earlier later g = record { rest = g.0; is = g.1 }

at_place : {F E : Type 0} (allows : F → List E → E → Type 0) (cells : List (Cell F E)) (first both second : List (Known F E)) → AreJoined allows cells first both second →
    (i : ℕ) → AtPlace (slice_get first i) (slice_get both i) (slice_get second i)
at_place allows [] [] [] [] h i = tt
at_place allows (c ∷ cells) (a ∷ first) (b ∷ both) (d ∷ second) h zero =
    (h.0.own, grown allows c.fixed a.seen b.seen h.0.first_goes_on, grown allows c.fixed d.seen b.seen h.0.second_goes_on)
at_place allows (c ∷ cells) (a ∷ first) (b ∷ both) (d ∷ second) h (suc i) = at_place allows cells first both second h.1 i
at_place allows _ _ _ _ h i = absurd h

-- ---- what joined passes have seen of the lanes

begins_none : {E : Type 0} (journal : List E) → Begins [] journal
begins_none journal = record { rest = journal; is = refl }

-- what was seen and is own, once what another has is joined to it
record IsMore {E : Type 0} (seen later its : List E) (own both here : List ℕ) : Type 0 where
  pub owned : both ≡ own ++ here
  pub first : Begins seen later
  pub second : Begins its later

shard_more : (o p q : Option KnownShard) → AtPlace o p q → IsMore (journal_of o) (journal_of p) (journal_of q) (places_of o) (places_of p) (places_of q)
shard_more None None None at = record { owned = refl; first = begins_none []; second = begins_none [] }
shard_more (Some a) (Some b) (Some c) at = record { owned = at.0; first = at.1; second = at.2 }
shard_more _ _ _ at = absurd at

object_more : (o p q : Option KnownObject) → AtPlace o p q → IsMore (journal_by o) (journal_by p) (journal_by q) (places_by o) (places_by p) (places_by q)
object_more None None None at = record { owned = refl; first = begins_none []; second = begins_none [] }
object_more (Some a) (Some b) (Some c) at = record { owned = at.0; first = at.1; second = at.2 }
object_more _ _ _ at = absurd at

module _ {n : Node} {limit : ℕ} where
  -- the lane has seen what the stock's passes have
  abbrev pub HasSeen : NodeCells → LaneRun n limit → Stock → Type 0
  HasSeen cells run stock = run.last.seen ≡ seen_of (shards_viewed cells.shards stock.passes) (objects_viewed cells.objects stock.racked)

  -- one more lane's pass is joined to those before
  step : {E : Type 0} (cell : node.Cell) (journal : Journals → List E) (done : List (LaneRun n limit)) (run : LaneRun n limit) {seen later its : List E} {own both here : List ℕ} →
      IsMore seen later its own both here → JoinedAt cell journal seen own done → journal run.last.seen.journals ≡ its → run.last.seen.own cell ≡ here → JoinedAt cell journal later both (done ++ run ∷ [])
  step {E} cell journal done run {seen} {later} {its} {own} more joined told mine =
      subst (λ (l : List ℕ). JoinedAt cell journal later l (done ++ run ∷ [])) (ap (λ (l : List ℕ). own ++ l) mine ∙ sym more.owned)
      (joins_one_more E n limit cell journal seen later own done run joined more.first (subst (λ (l : List E). Begins l later) (sym told) more.second))

  -- what passes joined of these lanes know of the node's cells
  pub record Knows (cells : NodeCells) (passes : NodePasses) (runs : List (LaneRun n limit)) : Type 0 where
    pub shards : (s : ℕ) → JoinedAt (OfShard s) (λ (K : Journals). K.shards s) (journal_at (seat cells.shards passes.shards) s) (own_at (seat cells.shards passes.shards) s) runs
    pub objects : (o : ℕ) → JoinedAt (OfObject o) (λ (K : Journals). K.objects o) (seen_on (shelf cells.objects passes.objects) o) (own_on (shelf cells.objects passes.objects) o) runs

  knows_more : (cells : NodeCells) (before after : NodePasses) (stock : Stock) (done : List (LaneRun n limit)) (run : LaneRun n limit) → Joins cells before after stock → HasSeen cells run stock →
      Knows cells before done → Knows cells after (done ++ run ∷ [])
  knows_more cells before after stock done run j seen k = record {
    shards = λ s. step (OfShard s) (λ (K : Journals). K.shards s) done run (shard_more _ _ _ (at_place MayFollow cells.shards before.shards after.shards stock.passes j.shards s)) (k.shards s)
        (ap (λ (x : node.Seen). x.journals.shards s) seen) (ap (λ (x : node.Seen). x.own (OfShard s)) seen);
    objects = λ o. step (OfObject o) (λ (K : Journals). K.objects o) done run (object_more _ _ _ (at_place HasRoom cells.objects before.objects after.objects stock.racked j.objects (place_among cells.objects o))) (k.objects o)
        (ap (λ (x : node.Seen). x.journals.objects o) seen) (ap (λ (x : node.Seen). x.own (OfObject o)) seen);
  }

  pub knows_all : (cells : NodeCells) (before after : NodePasses) (done runs : List (LaneRun n limit)) (stocks : List Stock) → AllZip (HasSeen cells) runs stocks → JoinsAll cells before stocks after →
      Knows cells before done → Knows cells after (done ++ runs)
  knows_all cells before after done [] [] z j k =
      subst (λ (x : NodePasses × List (LaneRun n limit)). Knows cells x.0 x.1) (λ i. (sym j i, sym (append-nil done) i)) k
  knows_all cells before after done (run ∷ runs) (stock ∷ stocks) z j k =
      subst (Knows cells after) (append_assoc done (run ∷ []) runs)
      (knows_all cells j.0 after (done ++ run ∷ []) runs stocks z.1 j.2 (knows_more cells before j.0 stock done run j.1 z.0 k))
  knows_all cells before after done [] (stock ∷ stocks) z j k = absurd z
  knows_all cells before after done (run ∷ runs) [] z j k = absurd z

-- ---- one stock more

pub joins_push : (cells : NodeCells) (before middle after : NodePasses) (stocks : List Stock) (stock : Stock) → JoinsAll cells before stocks middle → Joins cells middle after stock →
    JoinsAll cells before (stocks ++ stock ∷ []) after
joins_push cells before middle after [] stock j one = (after, subst (λ (x : NodePasses). Joins cells x after stock) j one, refl)
joins_push cells before middle after (s ∷ stocks) stock j one = (j.0, j.1, joins_push cells j.0 middle after stocks stock j.2 one)

-- ---- passes that give a share away

-- what passes that gave one share away are, and those that they gave
pub record Gives {F E : Type 0} (count : ℕ) (kept given : List (Known F E)) : Type 0 where
  pub kept_fresh : AreFresh kept
  pub given_fresh : AreFresh given
  pub left : HaveAllBut (count + 1) kept
  pub one : HaveOne given

pub gives_share : {F E : Type 0} (count : ℕ) (cells : List (Cell F E)) (before kept given : List (Known F E)) → AreSplit 1 cells before kept given → AreFresh before → HaveAllBut count before → Gives count kept given
gives_share count [] [] [] [] split fresh left = record { kept_fresh = All-nil _; given_fresh = All-nil _; left = All-nil _; one = All-nil _ }
gives_share {F} {E} count (c ∷ cells) (b ∷ before) (k ∷ kept) (g ∷ given) split fresh left =
    let rest = gives_share count cells before kept given split.1 (All-tail (λ (p : Known F E). (p.seen ≡ []) × (p.own ≡ [])) b before fresh) (All-tail (λ (p : Known F E). p.shares + count ≡ ALL_SHARES) b before left) in
    let first = All-head (λ (p : Known F E). (p.seen ≡ []) × (p.own ≡ [])) b before fresh in
    let all = All-head (λ (p : Known F E). p.shares + count ≡ ALL_SHARES) b before left in
    record {
      kept_fresh = All-cons (λ (p : Known F E). (p.seen ≡ []) × (p.own ≡ [])) k kept (split.0.seen.0 ∙ first.0, split.0.own.0 ∙ first.1) rest.kept_fresh;
      given_fresh = All-cons (λ (p : Known F E). (p.seen ≡ []) × (p.own ≡ [])) g given (split.0.seen.1 ∙ first.0, split.0.own.1) rest.given_fresh;
      left = All-cons (λ (p : Known F E). p.shares + (count + 1) ≡ ALL_SHARES) k kept (omega (arith, split.0.shared, all)) rest.left;
      one = All-cons (λ (p : Known F E). p.shares ≡ 1) g given split.0.gives rest.one;
    }
gives_share count _ _ _ _ split fresh left = absurd split
