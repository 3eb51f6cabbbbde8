-- One more row is wanted.
use Rattle.std.proofs.Common.{◌≡◌, ℕ, ◌+◌, ◌<◌, ◌≤◌, List, [], ◌∷◌, ◌++◌, true, false, length, le_refl, refl, ◌∙◌, ap, All, Contains, arith}
use Rattle.std.specs.Cmp.{nat_eq_equiv}
use Rattle.std.specs.List.{IsDistinct, list_any}
use Rattle.std.proofs.Math.Dec.{eqb}
use Rattle.std.proofs.lemmas.Bool.{eqb-true, false_from_ne_true}
use Rattle.std.proofs.lemmas.List.{length-append}
use Rattle.std.proofs.lemmas.List.Elements.{All-contains, All-push, All-weaker, Contains-append_left, Contains-push}
use Rattle.std.proofs.lemmas.Map.Keys.{IsDistinct-push}
use Rattle.std.proofs.lemmas.Map.Steps.{length-le_from_distinct_below}
use Rattle.std.proofs.lemmas.Map.Views.{Contains-from_any}
use Rattle.goal_search.specs.Cells.{room_in}
use Rattle.goal_search.specs.Searching.{Core, about, Has, IsRow, IsBegun, IsReady, IsGrown, IsFilled, left_to_do}
use Rattle.goal_search.proofs.Growing.{grown_then}

-- the search with these rows wanted
abbrev pub with_wanted : Core → List ℕ → Core
with_wanted s wanted = record { nodes = s.nodes; anchors = s.anchors; links = s.links; cited = s.cited; cells = s.cells; wanted = wanted }

module _ (s : Core) (row : ℕ) (ready : IsReady s) (row_in : IsRow s row) (new : Contains s.wanted row → ⊥) where
  abbrev rows : ℕ
  rows = length s.nodes + length s.cited

  not_there : list_any (eqb row) s.wanted ≡ false
  not_there = false_from_ne_true (list_any (eqb row) s.wanted) (λ e. new (Contains-from_any (λ x y. eqb-true x y) row s.wanted e))

  distinct : IsDistinct eqb (s.wanted ++ row ∷ [])
  distinct = IsDistinct-push nat_eq_equiv s.wanted row ready.wanted_once not_there

  -- fewer rows are wanted than there are
  pub fewer_wanted : length s.wanted < rows
  fewer_wanted = omega (arith, length-le_from_distinct_below (s.wanted ++ row ∷ []) rows distinct below, length-append s.wanted (row ∷ []))
    where
      all : All (λ x. x < rows) (s.wanted ++ row ∷ [])
      all = All-push (λ x. x < rows) s.wanted row (All-weaker (λ x. IsRow s x × IsBegun (about s) (Has s) x) (λ x. x < rows) (λ x h. h.0) s.wanted ready.wanted) row_in

      below : (q : ℕ) → list_any (eqb q) (s.wanted ++ row ∷ []) ≡ true → q < rows
      below q e = All-contains (λ x. x < rows) (s.wanted ++ row ∷ []) q all (Contains-from_any (λ x y. eqb-true x y) q (s.wanted ++ row ∷ []) e)

  module _ (begun : IsBegun (about s) (Has s) row) (wanted : List ℕ) (longer : wanted ≡ s.wanted ++ row ∷ []) where
    pub ready_wanted : IsReady (with_wanted s wanted)
    ready_wanted = record {
      cells = ready.cells;
      width_is = ready.width_is;
      rows_are = ready.rows_are;
      table = ready.table;
      few_nodes = ready.few_nodes;
      few_cited = ready.few_cited;
      cited_in = ready.cited_in;
      few_anchors = ready.few_anchors;
      few_links = ready.few_links;
      anchored = ready.anchored;
      grounded = ready.grounded;
      wanted = rw longer (All-push (λ x. IsRow s x × IsBegun (about s) (Has s) x) s.wanted row ready.wanted (row_in, begun));
      wanted_once = rw longer distinct;
    }

    pub now_wanted : Contains wanted row
    now_wanted = rw longer (Contains-push s.wanted row)

    pub wanted_grown : IsGrown s (with_wanted s wanted)
    wanted_grown = record {
      ready = ready_wanted;
      about_is = refl;
      links_are = refl;
      nodes_count = refl;
      cited_count = refl;
      links_count = refl;
      kept = λ r c h. h;
      still_wanted = λ r h. rw longer (Contains-append_left s.wanted (row ∷ []) r h);
      room_left = le_refl (room_in s.cells);
    }

-- a row is begun, then wanted, then closed
module _ (s t u : Core) (row : ℕ) (wanted : List ℕ) (ready : IsReady s) (row_in : IsRow s row) (new : Contains s.wanted row → ⊥) (begins : IsFilled s t) where
  pub row_then : IsRow t row
  row_then = omega (arith, row_in, begins.grown.nodes_count, begins.grown.cited_count)

  pub new_then : Contains t.wanted row → ⊥
  new_then c = new (rw begins.wanted_are at c)

  module _ (begun : IsBegun (about t) (Has t) row) (longer : wanted ≡ t.wanted ++ row ∷ []) (closes : IsFilled (with_wanted t wanted) u) where
    pub wants_grown : IsGrown s u
    wants_grown =
        grown_then s t u begins.grown (grown_then t (with_wanted t wanted) u (wanted_grown t row begins.grown.ready row_then new_then begun wanted longer) closes.grown)

    pub wants_it : Contains u.wanted row
    wants_it = closes.grown.still_wanted row (now_wanted t row begins.grown.ready row_then new_then begun wanted longer)

    pub wants_less : left_to_do u < left_to_do s
    wants_less =
        let nodes : length u.nodes ≡ length s.nodes = closes.grown.nodes_count ∙ begins.grown.nodes_count in
        let cited : length u.cited ≡ length s.cited = closes.grown.cited_count ∙ begins.grown.cited_count in
        let one_more : wanted ≡ s.wanted ++ row ∷ [] = longer ∙ ap (λ (w : List ℕ). w ++ row ∷ []) begins.wanted_are in
        omega (
          arith,
          fewer_wanted s row ready row_in new,
          closes.grown.ready.rows_are,
          ready.rows_are,
          nodes,
          cited,
          ap length closes.wanted_are,
          ap length one_more,
          length-append s.wanted (row ∷ []),
          closes.grown.room_left,
          begins.grown.room_left,
        )

-- where the same rows are wanted, what is left is as much as there is room
pub filled_left : (s t : Core) → IsReady s → IsFilled s t → left_to_do t ≤ left_to_do s
filled_left s t ready f =
    omega (arith, f.grown.ready.rows_are, ready.rows_are, f.grown.nodes_count, f.grown.cited_count, ap length f.wanted_are, f.grown.room_left)

pub filled_less : (s t u : Core) → IsReady s → IsFilled s t → IsFilled t u → room_in t.cells < room_in s.cells → left_to_do u < left_to_do s
filled_less s t u ready f g less =
    omega (
      arith,
      g.grown.ready.rows_are,
      ready.rows_are,
      f.grown.nodes_count,
      f.grown.cited_count,
      g.grown.nodes_count,
      g.grown.cited_count,
      ap length f.wanted_are,
      ap length g.wanted_are,
      g.grown.room_left,
      less,
    )
