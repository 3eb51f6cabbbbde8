-- What serving at new cells comes to, of its steps.
use Rattle.std.proofs.Common.{◌≡◌, ℕ, suc, ◌+◌, List, [], ◌∷◌, length, map, None, refl, sym, ◌∙◌, subst, arith}
use Rattle.std.specs.Prelude.{Bool, All}
use Rattle.std.specs.List.{AllZip}
use Rattle.std.proofs.lemmas.List.Elements.{All-nil, All-cons, All-head, All-tail}
use Rattle.agent_core.specs.Journals.{MayFollow}
use Rattle.agent_shards.specs.Cells.{AreJoined, HaveAll, shares_of}
use Rattle.agent_shards.specs.Room.{HasRoom}
use Rattle.agent_shards.specs.Shards.{ShardCell}
use Rattle.agent_shards.specs.Objects.{ObjectCell}
use Rattle.turn_cell.specs.declared.shares.TheConstants.{ALL_SHARES}
use Rattle.turn_cell.specs.Known.{Cell, Known}
use Rattle.taos_monitor.specs.declared.node_keys.NodeKeys.{NodeKeys}
use Rattle.frame_link.specs.declared.limits.Limits.{Limits}
use Rattle.taos_lanes.specs.declared.lane.Stock.{Stock}
use Rattle.taos_lanes.specs.Stocked.{NodeCells, IsStockOf, IsStocked, ServesLane}
use Rattle.taos_lanes.specs.Workers.{LaneShown, HasOtherWork}
use Rattle.taos_lanes.specs.Joining.{NodePasses, HaveAllBut, HaveOne, IsGivenStock, IsEmptied, JoinsAll, WorkIs}
use Rattle.taos_lanes.specs.Telling.{Telling}
use Rattle.taos_lanes.proofs.Runs.{Ran}

-- ---- lanes before and after

module _ {A X : Type 0} (f : A → LaneShown X) where
  -- lanes that were emptied have no work
  pub idle_after : (xs ys : List A) → AllZip IsEmptied (map f xs) (map f ys) → All (λ (y : A). (f y).work ≡ None) ys
  idle_after [] [] z = All-nil _
  idle_after (x ∷ xs) (y ∷ ys) z = All-cons (λ (l : A). (f l).work ≡ None) y ys z.0.work (idle_after xs ys z.1)
  idle_after [] (y ∷ ys) z = absurd z
  idle_after (x ∷ xs) [] z = absurd z

-- what has other work, and then none, has other work
pub same_ends : {X : Type 0} (xs ys zs : List (LaneShown X)) → AllZip HasOtherWork xs ys → AllZip IsEmptied ys zs → AllZip HasOtherWork xs zs
same_ends [] [] [] a b = tt
same_ends (x ∷ xs) (y ∷ ys) (z ∷ zs) a b = (
  record {
    outside = b.0.same.outside ∙ a.0.outside;
    door = b.0.same.door ∙ a.0.door;
    fetch = b.0.same.fetch ∙ a.0.fetch;
    tally = b.0.same.tally ∙ a.0.tally;
  },
  same_ends xs ys zs a.1 b.1,
)
same_ends [] [] (z ∷ zs) a b = absurd b
same_ends [] (y ∷ ys) zs a b = absurd a
same_ends (x ∷ xs) [] zs a b = absurd a
same_ends (x ∷ xs) (y ∷ ys) [] a b = absurd b

-- ---- shares

-- passes with one share of each cell
one_each : {F E : Type 0} (P : Cell F E → Known F E → Type 0) (cells : List (Cell F E)) (passes : List (Known F E)) → AllZip P cells passes → HaveOne passes → shares_of passes ≡ map (λ (c : Cell F E). 1) cells
one_each P [] [] z one = refl
one_each {F} {E} P (c ∷ cells) (p ∷ passes) z one =
    let first = All-head (λ (q : Known F E). q.shares ≡ 1) p passes one in
    let rest = one_each P cells passes z.1 (All-tail (λ (q : Known F E). q.shares ≡ 1) p passes one) in
    λ i. first i ∷ rest i
one_each P [] (p ∷ passes) z one = absurd z
one_each P (c ∷ cells) [] z one = absurd z

-- a lane with a fresh stock is stocked with one share of each cell
pub lanes_stocked : {A X : Type 0} (f : A → LaneShown X) (cells : NodeCells) (xs ys : List A) → AllZip (IsGivenStock cells) (map f xs) (map f ys) →
    All (λ (y : A). IsStocked cells (map (λ (c : ShardCell). 1) cells.shards) (map (λ (c : ObjectCell). 1) cells.objects) (f y).work) ys
lanes_stocked f cells [] [] z = All-nil _
lanes_stocked f cells (x ∷ xs) (y ∷ ys) z =
    let w = z.0.work in
    All-cons (λ l. IsStocked cells (map (λ (c : ShardCell). 1) cells.shards) (map (λ (c : ObjectCell). 1) cells.objects) (f l).work) y ys (record {
      stock = w.0;
      is = w.1;
      of = w.2.one.of;
      shards_shared = one_each _ cells.shards w.0.passes w.2.one.of.shards w.2.one.shards;
      objects_shared = one_each _ cells.objects w.0.racked w.2.one.of.objects w.2.one.objects;
    }) (lanes_stocked f cells xs ys z.1)
lanes_stocked f cells [] (y ∷ ys) z = absurd z
lanes_stocked f cells (x ∷ xs) [] z = absurd z

-- one share comes back
one_back : {F E : Type 0} (allows : F → List E → E → Type 0) (count : ℕ) (cells : List (Cell F E)) (first both second : List (Known F E)) → AreJoined allows cells first both second →
    HaveAllBut (suc count) first → HaveOne second → HaveAllBut count both
one_back allows count [] [] [] [] j left one = All-nil _
one_back {F} {E} allows count (c ∷ cells) (a ∷ first) (b ∷ both) (d ∷ second) j left one =
    let all = All-head (λ (p : Known F E). p.shares + suc count ≡ ALL_SHARES) a first left in
    let its = All-head (λ (p : Known F E). p.shares ≡ 1) d second one in
    All-cons (λ (p : Known F E). p.shares + count ≡ ALL_SHARES) b both (omega (arith, j.0.shares, all, its))
    (one_back allows count cells first both second j.1 (All-tail (λ (p : Known F E). p.shares + suc count ≡ ALL_SHARES) a first left) (All-tail (λ (p : Known F E). p.shares ≡ 1) d second one))
one_back allows count _ _ _ _ j left one = absurd j

shares_back : (cells : NodeCells) (before after : NodePasses) (stocks : List Stock) → JoinsAll cells before stocks after → All (λ (s : Stock). HaveOne s.passes × HaveOne s.racked) stocks →
    HaveAllBut (length stocks) before.shards → HaveAllBut (length stocks) before.objects → HaveAllBut 0 after.shards × HaveAllBut 0 after.objects
shares_back cells before after [] j one shards objects = (subst (λ (x : NodePasses). HaveAllBut 0 x.shards) (sym j) shards, subst (λ (x : NodePasses). HaveAllBut 0 x.objects) (sym j) objects)
shares_back cells before after (s ∷ stocks) j one shards objects =
    let first = All-head (λ (x : Stock). HaveOne x.passes × HaveOne x.racked) s stocks one in
    shares_back cells j.0 after stocks j.2 (All-tail (λ (x : Stock). HaveOne x.passes × HaveOne x.racked) s stocks one)
    (one_back MayFollow (length stocks) cells.shards before.shards j.0.shards s.passes j.1.shards shards first.0)
    (one_back HasRoom (length stocks) cells.objects before.objects j.0.objects s.racked j.1.objects objects first.1)

have_all : {F E : Type 0} (passes : List (Known F E)) → HaveAllBut 0 passes → HaveAll passes
have_all [] left = All-nil _
have_all {F} {E} (p ∷ passes) left =
    All-cons (λ (q : Known F E). q.shares ≡ ALL_SHARES) p passes (omega (arith, All-head (λ (q : Known F E). q.shares + 0 ≡ ALL_SHARES) p passes left))
    (have_all passes (All-tail (λ (q : Known F E). q.shares + 0 ≡ ALL_SHARES) p passes left))

module _ {In Out : Type 0} (telling : Telling In Out) (keys : NodeKeys) (cells : NodeCells) (pulls : Bool) (limits : Limits) where
  -- the lanes' work is of the cells
  pub works : (befores afters : List (LaneShown (In × Out))) → AllZip (ServesLane telling keys cells pulls limits) befores afters → All (WorkIs (IsStockOf cells)) afters
  works [] [] z = All-nil _
  works (b ∷ befores) (a ∷ afters) z = All-cons (WorkIs (IsStockOf cells)) a afters (z.0.new, z.0.has, z.0.of) (works befores afters z.1)
  works [] (a ∷ afters) z = absurd z
  works (b ∷ befores) [] z = absurd z

  -- all shares are back
  pub all_back : (kept final : NodePasses) (olds news : List (LaneShown (In × Out))) (stocks : List Stock) → Ran telling keys cells pulls limits olds news stocks → JoinsAll cells kept stocks final →
      HaveAllBut (length olds) kept.shards → HaveAllBut (length olds) kept.objects → HaveAll final.shards × HaveAll final.objects
  all_back kept final olds news stocks ran j shards objects =
      let back = shares_back cells kept final stocks j ran.ones
      (subst (λ (n : ℕ). HaveAllBut n kept.shards) (sym ran.long) shards) (subst (λ (n : ℕ). HaveAllBut n kept.objects) (sym ran.long) objects) in
      (have_all final.shards back.0, have_all final.objects back.1)
