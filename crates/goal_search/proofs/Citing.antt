-- A search with one certificate more, and a row for its statement.
use Rattle.std.proofs.Common.{◌≡◌, ℕ, ◌+◌, ◌*◌, ◌<◌, ◌≤◌, List, [], ◌∷◌, ◌++◌, Bool, true, false, cond, nat_lt, Some, slice_get, length, filter, refl, sym, subst, ◌∙◌, All, arith}
use Rattle.std.specs.Prelude.{slice_index}
use Rattle.std.specs.List.{AllByRecursion, IsDistinct}
use Rattle.std.proofs.Math.Dec.{eqb}
use Rattle.std.proofs.lemmas.Bool.{ltb-true}
use Rattle.std.proofs.lemmas.List.{length-append}
use Rattle.std.proofs.lemmas.List.Elements.{All-cons, All-head, All-nil, All-push, All-tail}
use Rattle.std.proofs.lemmas.Map.Keys.{IsDistinct-cons, IsDistinct-head, IsDistinct-tail}
use Rattle.std.proofs.lemmas.Nat.{mul-le}
use Rattle.taos_calculus.proofs.Building.{slice_get-front}
use Rattle.term_pool.specs.Claims.{CitedIn}
use Rattle.term_pool.specs.declared.cited.Cited.{Cited}
use Rattle.goal_search.specs.declared.cells.Cells.{Cells}
use Rattle.goal_search.specs.Cells.{AreCells, held_at, reason_of, stamp_of}
use Rattle.goal_search.specs.Reasons.{About, IsEdge, IsReason, left, right, role, anchored, quoting, for_both, role_under, hand_off, delegate, itself, speaker, both, onward}
use Rattle.goal_search.specs.Searching.{Core, about, Has, HadBefore, IsBegun, IsReady, IsRow, from_itself, from_speakers}
use Rattle.goal_search.proofs.Gaining.{reason_more}
use Rattle.goal_search.proofs.Lengthened.{held_same, row_less, row_more}

-- a reason stays one when a certificate comes behind the others
module _ (a : About) (it : Cited) (Has : ℕ → ℕ → Type 0) where
  abbrev pub with_cited : About
  with_cited = record { nodes = a.nodes; anchors = a.anchors; cited = a.cited ++ it ∷ [] }

  stands : (i : ℕ) (c : Cited) → slice_get a.cited i ≡ Some c → slice_get (a.cited ++ it ∷ []) i ≡ Some c
  stands i c e = slice_get-front a.cited (it ∷ []) i c e

  edge_cited : (from to : ℕ) → IsEdge a Has from to → IsEdge with_cited Has from to
  edge_cited from to (left e) = left e
  edge_cited from to (right e) = right e
  edge_cited from to (role e) = role e
  edge_cited from to (anchored i s e f) = anchored i s e f
  edge_cited from to (quoting e f p q) = quoting e f p q
  edge_cited from to (for_both e f p q) = for_both e f p q
  edge_cited from to (role_under e f p) = role_under e f p
  edge_cited from to (hand_off {c} i e l r s) = hand_off i (stands i c e) l r s
  edge_cited from to (delegate {c = c} i e l r p q s) = delegate i (stands i c e) l r p q s

  pub reason_cited : (row number reason : ℕ) → IsReason a Has row number reason → IsReason with_cited Has row number reason
  reason_cited row number reason (itself h e w) = itself h e w
  reason_cited row number reason (speaker {c} {d} i k e f alike p n w) = speaker i k (stands i c e) (stands k d f) alike p n w
  reason_cited row number reason (both e h k w) = both e h k w
  reason_cited row number reason (onward h k e) = onward h k (edge_cited reason number e)

-- what passes a test, and what holds of that
pub filtered : {X : Type 0} (test : X → Bool) (P Q : X → Type 0) → ((x : X) → test x ≡ true → P x → Q x) → (xs : List X) → All P xs → All Q (filter test xs)
filtered test P Q so [] all = All-nil Q
filtered {X} test P Q so (x ∷ xs) all = by (filtered test P Q so xs (All-tail P x xs all)) (test x) refl
  where
    by : All Q (filter test xs) → (b : Bool) → test x ≡ b → All Q (cond b (x ∷ filter test xs) (filter test xs))
    by more true e = All-cons Q x (filter test xs) (so x e (All-head P x xs all)) more
    by more false e = more

-- what passes a test is as far apart as it was
apart_filtered : (test : ℕ → Bool) (k : ℕ) (xs : List ℕ) → AllByRecursion (λ y. eqb k y ≡ false) xs → AllByRecursion (λ y. eqb k y ≡ false) (filter test xs)
apart_filtered test k [] a = tt
apart_filtered test k (x ∷ xs) a = by (test x) (apart_filtered test k xs a.1)
  where
    by : (b : Bool) → AllByRecursion (λ y. eqb k y ≡ false) (filter test xs) → AllByRecursion (λ y. eqb k y ≡ false) (cond b (x ∷ filter test xs) (filter test xs))
    by true r = (a.0, r)
    by false r = r

pub distinct_filtered : (test : ℕ → Bool) (xs : List ℕ) → IsDistinct eqb xs → IsDistinct eqb (filter test xs)
distinct_filtered test [] d = d
distinct_filtered test (x ∷ xs) d = by (test x) (distinct_filtered test xs (IsDistinct-tail eqb x xs d))
  where
    by : (b : Bool) → IsDistinct eqb (filter test xs) → IsDistinct eqb (cond b (x ∷ filter test xs) (filter test xs))
    by true r = IsDistinct-cons eqb x (filter test xs) (apart_filtered test x xs (IsDistinct-head eqb x xs d)) r
    by false r = r

-- there is room for one row more
pub row_fits : (s : Core) → IsReady s → length s.cited < 64 → s.cells.width * (s.cells.rows + 1) ≤ 1762560
row_fits s ready few =
    omega (arith, mul-le s.cells.width (s.cells.rows + 1) 1296 1360 (omega (arith, ready.width_is, ready.few_nodes)) (omega (arith, ready.rows_are, ready.few_nodes, few)))

module _ (s : Core) (ready : IsReady s) (it : Cited) (cells : Cells) (are : AreCells cells) (width : cells.width ≡ s.cells.width) (rows : cells.rows ≡ s.cells.rows + 1)
    (same : (place : ℕ) → slice_index cells.cells.items place ≡ slice_index s.cells.cells.items place) (it_in : CitedIn (length s.nodes) it) (few : length s.cited < 64) where
  abbrev small : ℕ → Bool
  small x = nat_lt x (length s.nodes)

  abbrev t : Core
  t = record { nodes = s.nodes; anchors = s.anchors; links = s.links; cited = s.cited ++ it ∷ []; cells = cells; wanted = filter small s.wanted }

  before : (r c : ℕ) → held_at cells r c ≡ held_at s.cells r c
  before r c = held_same s.cells cells width rows same r c

  has_more : (r c : ℕ) → Has s r c → Has t r c
  has_more r c h = row_more s.cells cells width rows same r c h

  before_more : (stamp r c : ℕ) → HadBefore s stamp r c → HadBefore t stamp r c
  before_more stamp r c h = (has_more r c h.0, rw (before r c) h.1)

  grounded : (r c : ℕ) → Has t r c → IsReason (about t) (HadBefore t (stamp_of (held_at cells r c))) r c (reason_of (held_at cells r c))
  grounded r c h =
      let stamp : ℕ = stamp_of (held_at s.cells r c) in
      let reason : ℕ = reason_of (held_at s.cells r c) in
      let why : IsReason (about s) (HadBefore t stamp) r c reason = reason_more (about s) (HadBefore s stamp) (HadBefore t stamp) (before_more stamp) r c reason (ready.grounded r c (row_less s.cells cells ready.cells width rows same r c h)) in
      rw (before r c) (reason_cited (about s) it (HadBefore t stamp) r c reason why)

  still_begun : (x : ℕ) → small x ≡ true → IsRow s x × IsBegun (about s) (Has s) x → IsRow t x × IsBegun (about t) (Has t) x
  still_begun x e h = (omega (arith, below, length-append s.cited (it ∷ [])), go h.1)
    where
      below : x < length s.nodes
      below = ltb-true x (length s.nodes) e

      go : IsBegun (about s) (Has s) x → IsBegun (about t) (Has t) x
      go (from_itself b k) = from_itself b (has_more x x k)
      go (from_speakers k f p all) = absurd (omega (arith, p, below))

  ready_t : IsReady t
  ready_t = record {
    cells = are;
    width_is = width ∙ ready.width_is;
    rows_are = omega (arith, rows, ready.rows_are, length-append s.cited (it ∷ []));
    table = ready.table;
    few_nodes = ready.few_nodes;
    few_cited = omega (arith, few, length-append s.cited (it ∷ []));
    cited_in = All-push (CitedIn (length s.nodes)) s.cited it ready.cited_in it_in;
    few_anchors = ready.few_anchors;
    few_links = ready.few_links;
    anchored = ready.anchored;
    grounded = grounded;
    wanted = filtered small (λ x. IsRow s x × IsBegun (about s) (Has s) x) (λ x. IsRow t x × IsBegun (about t) (Has t) x) still_begun s.wanted ready.wanted;
    wanted_once = distinct_filtered small s.wanted ready.wanted_once;
  }

  pub ready_cited : (cited : List Cited) (wanted : List ℕ) → cited ≡ s.cited ++ it ∷ [] → wanted ≡ filter small s.wanted →
      IsReady (record { nodes = s.nodes; anchors = s.anchors; links = s.links; cited = cited; cells = cells; wanted = wanted })
  ready_cited cited wanted longer passed =
      subst (λ (xs : List Cited). IsReady (record { nodes = s.nodes; anchors = s.anchors; links = s.links; cited = xs; cells = cells; wanted = wanted })) (sym longer)
      (subst (λ (ws : List ℕ). IsReady (record { nodes = s.nodes; anchors = s.anchors; links = s.links; cited = s.cited ++ it ∷ []; cells = cells; wanted = ws })) (sym passed) ready_t)
