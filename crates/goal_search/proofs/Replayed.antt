-- Cells that are told in the order in which they were filled make a proof.
use Rattle.std.proofs.Common.{◌≡◌, ◌≢◌, ◌⊎◌, inl, inr, ℕ, zero, suc, ◌+◌, ◌-◌, ◌*◌, ◌/◌, ◌%◌, ◌<◌, ◌≤◌, List, Some, slice_get, slice_index, length, map, refl, sym, ap, subst, ◌∙◌, arith}
use Rattle.std.proofs.lemmas.List.{length-map}
use Rattle.std.proofs.Math.Nat.{div-lt_iff_lt-mul, mod-lt, mul_comm, zero-mul}
use Rattle.std.proofs.lemmas.Nat.{div-mul-add, mod-mul-add, mul-add-lt}
use Rattle.taos_calculus.specs.declared.line.Fact.{Fact}
use Rattle.taos_calculus.specs.Question.{Question}
use Rattle.taos_calculus.specs.Tables.{IsBelow}
use Rattle.term_pool.specs.declared.found.Found.{Found}
use Rattle.term_pool.specs.declared.found.Pair.{Pair}
use Rattle.term_pool.specs.Claims.{CitedIn}
use Rattle.term_pool.specs.Finding.{CellOf, of_speaks, of_says, facts_in, pair, statement_of}
use Rattle.term_pool.specs.Taking.{AreFoundFor}
use Rattle.term_pool.proofs.Cells.{facts_apart}
use Rattle.term_pool.proofs.Orders.{same_or_not}
use Rattle.goal_search.specs.Cells.{held_at, IsPlace, reason_of, stamp_of}
use Rattle.goal_search.specs.Reasons.{IsReason}
use Rattle.goal_search.specs.Replaying.{IsOrder, IsQuestionOf}
use Rattle.goal_search.specs.Searching.{Core, about, Has, HadBefore, IsReady}
use Rattle.goal_search.specs.Telling.{IsTelling, IsTold, TellsBefore, TellsMore, TellsOf}
use Rattle.goal_search.proofs.Gaining.{reason_more}
use Rattle.goal_search.proofs.Pushed.{made_of}
use Rattle.goal_search.proofs.Told.{cited_below}

-- a place is in a row and a column
pub place_row : (w rows place n : ℕ) → n ≡ w * rows → place < n → (place / w < rows) × (place % w < w)
place_row zero rows place n e h = absurd (omega (arith, e, h, zero-mul rows))
place_row (suc w) rows place n e h =
    ((div-lt_iff_lt-mul {k = suc w} {x = place} {y = rows} (omega arith)).1 (omega (arith, h, e, mul_comm rows (suc w))), mod-lt place {m = suc w} (omega arith))

module _ (s : Core) (ready : IsReady s) where
  place_in : (row number : ℕ) → IsPlace s.cells row number → row * s.cells.width + number < length s.cells.cells.items
  place_in row number h = omega (arith, ready.cells.sized, mul-add-lt row s.cells.width number s.cells.rows h.0 h.1)

  -- a table of lines over the same numbers has as many cells
  pub found_cells : (w n : ℕ) → w ≡ length s.nodes → n ≡ length s.cited → w * (w + n) ≡ length s.cells.cells.items
  found_cells w n e f = rw (e, f) (sym (ready.cells.sized ∙ rw (ready.width_is, ready.rows_are) refl))

  -- where a number is in a row, there are cells
  pub some_cells : (row number : ℕ) → Has s row number → 0 < length s.cells.cells.items
  some_cells row number h = omega (arith, place_in row number h.0)

  pub placed_in : (place : ℕ) → place < length s.cells.cells.items → (place / s.cells.width < length s.nodes + length s.cited) × (place % s.cells.width < length s.nodes)
  placed_in place h =
      let (r, c) = place_row s.cells.width s.cells.rows place (length s.cells.cells.items) ready.cells.sized h in
      (omega (arith, r, ready.rows_are), omega (arith, c, ready.width_is))

  -- the place of a row and a number is in that row and that column
  pub row_at : (row number place : ℕ) → number < length s.nodes → place ≡ row * length s.nodes + number → place / s.cells.width ≡ row
  row_at row number place h e = rw (ready.width_is, e) (div-mul-add row (length s.nodes) number h)

  pub column_at : (row number place : ℕ) → number < length s.nodes → place ≡ row * length s.nodes + number → place % s.cells.width ≡ number
  column_at row number place h e = rw (ready.width_is, e) (mod-mul-add row (length s.nodes) number h)

  -- what one place tells
  pub place_tells : (f g : Found) (place row number : ℕ) → Has s row number → place ≡ row * length s.nodes + number →
      (IsReason (about s) (TellsOf s f) (place / s.cells.width) (place % s.cells.width) (reason_of (slice_index s.cells.cells.items place)) → TellsOf s g (place / s.cells.width) (place % s.cells.width)) →
      IsReason (about s) (TellsOf s f) row number (reason_of (slice_index s.cells.cells.items place)) → TellsOf s g row number
  place_tells f g place row number h e told why =
      let inside : number < length s.nodes = omega (arith, h.0.1, ready.width_is) in
      let r : place / s.cells.width ≡ row = row_at row number place inside e in
      let c : place % s.cells.width ≡ number = column_at row number place inside e in
      (rw (r, c) at told) why

  module _ (f : Found) (t : IsTelling s f) where
    cell_below : (fact : Fact) (c : ℕ) → CellOf f fact c → IsBelow (length s.nodes) fact
    cell_below fact c (of_speaks h k e) = (omega (arith, h, t.width_is), omega (arith, k, t.width_is))
    cell_below fact c (of_says {w} {l} {r} i h first e) =
        let stands : slice_get (map statement_of s.cited) i ≡ Some (pair l r) = subst (λ (xs : List Pair). slice_get xs i ≡ Some (pair l r)) t.stated first.stands in
        let (x, at, is) = made_of statement_of s.cited i (pair l r) stands in
        let b : CitedIn (length s.nodes) x = cited_below s ready i x at in
        let el : x.left ≡ l = ap (λ (p : Pair). p.left) is in
        let er : x.right ≡ r = ap (λ (p : Pair). p.right) is in
        (omega (arith, h, t.width_is), omega (arith, b.left, el), omega (arith, b.right, er))

    facts_below : (k : ℕ) (fact : Fact) → slice_get (facts_in f) k ≡ Some fact → IsBelow (length s.nodes) fact
    facts_below k fact e = let (c, cell, at) = t.found.index.celled k fact e in cell_below fact c cell

    pub found_for : (q : Question) → IsQuestionOf s q → AreFoundFor q (record { nodes = s.nodes; cited = s.cited; lines = f.lines.items })
    found_for q asked = record {
      table = ready.table;
      chosen_is = asked.chosen_is;
      places_apart = asked.apart;
      follow = rw asked.anchors_are t.sound;
      below = facts_below;
      distinct = facts_apart f t.found;
    }

    same_cells : length f.numbers.items ≡ length s.cells.cells.items
    same_cells =
        let stated : length f.statements.items ≡ length s.cited = ap length t.stated ∙ length-map s.cited statement_of in
        t.found.index.sized ∙ rw (t.width_is, stated) (sym (ready.cells.sized ∙ rw (ready.width_is, ready.rows_are) refl))

    pub few_lines : length f.lines.items ≤ 1762560
    few_lines = omega (arith, t.found.index.counted, same_cells, ready.cells.few)

  -- nothing was filled before the first stamp
  pub tells_none : (f : Found) → TellsBefore s 1 f
  tells_none f row number fact h lt is =
      let stamped : 0 < stamp_of (held_at s.cells row number) = (ready.cells.stamped (row * s.cells.width + number) h.1).0 in
      absurd (omega (arith, stamped, lt))

  -- the next cell is told for a reason that was told before
  module _ (f g : Found) (order : List ℕ) (n k : ℕ) (ordered : IsOrder s.cells n order (length s.cells.cells.items)) (inside : k < n) (more : TellsMore s f g)
      (told : (row number : ℕ) → Has s row number → slice_index order k ≡ row * length s.nodes + number →
      IsReason (about s) (TellsOf s f) row number (reason_of (slice_index s.cells.cells.items (slice_index order k))) → TellsOf s g row number)
      (before : TellsBefore s (k + 1) f) where
    now_told : (row number : ℕ) → Has s row number → stamp_of (held_at s.cells row number) ≡ k + 1 → TellsOf s g row number
    now_told row number h e =
        let place : ℕ = row * s.cells.width + number in
        let at_stamp : slice_index order (stamp_of (slice_index s.cells.cells.items place) - 1) ≡ place = ordered.placed place (place_in row number h.0) h.1 (omega (arith, e, inside)) in
        let which : stamp_of (slice_index s.cells.cells.items place) - 1 ≡ k = omega (arith, e) in
        let here : slice_index order k ≡ place = rw which at at_stamp in
        let why : IsReason (about s) (TellsOf s f) row number (reason_of (held_at s.cells row number))
        = reason_more (about s) (HadBefore s (stamp_of (held_at s.cells row number))) (TellsOf s f)
        (λ r c b fact is. before r c fact b.0 (omega (arith, b.1, e)) is) row number (reason_of (held_at s.cells row number)) (ready.grounded row number h) in
        told row number h (rw ready.width_is at here) (rw here why)

    pub tells_next : TellsBefore s (k + 1 + 1) g
    tells_next row number fact h lt is = go (same_or_not (stamp_of (held_at s.cells row number)) (k + 1))
      where
        go : (stamp_of (held_at s.cells row number) ≡ k + 1) ⊎ (stamp_of (held_at s.cells row number) ≢ k + 1) → IsTold g fact
        go (inl e) = now_told row number h e fact is
        go (inr ne) = more.kept fact (before row number fact h (below_else ne) is)
          where
            below_else : stamp_of (held_at s.cells row number) ≢ k + 1 → stamp_of (held_at s.cells row number) < k + 1
            below_else other = omega (arith, lt, other)
