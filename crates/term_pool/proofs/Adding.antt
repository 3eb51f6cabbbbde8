-- One line more, and its number in the table.
use Rattle.std.proofs.Common.{◌≡◌, ◌≢◌, ◌⊎◌, inl, inr, ℕ, zero, suc, ◌+◌, ◌-◌, ◌<◌, List, [], ◌∷◌, ◌++◌, Some, slice_get, slice_index, get_or, set, length, sum_by, refl, sym, ◌∙◌, ap, subst, arith, add-one}
use Rattle.std.proofs.lemmas.List.{get_or-set_same, get_or-set_other, get_or_default, map-append, length-map, length-append, length-set}
use Rattle.std.proofs.lemmas.List.Sums.{sum_by-set}
use Rattle.std.proofs.lemmas.Option.{same_Some, none-some}
use Rattle.taos_calculus.specs.declared.line.Fact.{Fact}
use Rattle.taos_calculus.specs.declared.line.Line.{Line}
use Rattle.term_pool.specs.declared.found.Pair.{Pair}
use Rattle.term_pool.specs.Finding.{IsCell, IsIndex, vacancy}
use Rattle.taos_calculus.specs.Numbered.{facts_at}
use Rattle.taos_calculus.proofs.Building.{slice_get-front, slice_get-back}
use Rattle.term_pool.proofs.Orders.{below_or_not, same_or_not}
use Rattle.term_pool.proofs.Cells.{cell_one, cell_fact, cell_in}

slice_get-within : {X : Type 0} (xs ys : List X) (k : ℕ) → k < length xs → slice_get (xs ++ ys) k ≡ slice_get xs k
slice_get-within [] ys k h = absurd (omega arith)
slice_get-within (x ∷ xs) ys zero h = refl
slice_get-within (x ∷ xs) ys (suc k) h = slice_get-within xs ys k (omega arith)

module _ (width : ℕ) (statements : List Pair) (numbers : List ℕ) (lines : List Line)
    (index : IsIndex width statements numbers lines) where
  -- a fact without a line has 0 at its cell
  pub cell_empty : (fact : Fact) (c : ℕ) → IsCell width statements fact c →
      ((k : ℕ) → slice_get (facts_at lines) k ≡ Some fact → ⊥) → slice_index numbers c ≡ 0
  cell_empty fact c cell new = go (slice_index numbers c) refl
    where
      go : (n : ℕ) → slice_index numbers c ≡ n → slice_index numbers c ≡ 0
      go zero e = e
      go (suc k) e =
          let (g, cell', at) = index.told c k e in
          let q : g ≡ fact = cell_fact width statements g fact c cell' cell in
          absurd (new k (at ∙ ap (λ (z : Fact). Some z) q))

  -- and where it has 0 there, no line has it
  pub empty_cell : (fact : Fact) (c : ℕ) → IsCell width statements fact c → slice_index numbers c ≡ 0 →
      (k : ℕ) → slice_get (facts_at lines) k ≡ Some fact → ⊥
  empty_cell fact c cell e k at =
      let (d, cell', f) = index.celled k fact at in
      let q : c ≡ d = cell_one width statements fact c d cell cell' in
      let z : slice_index numbers d ≡ 0 = rw q at e in
      absurd (omega arith)

  -- a number there is the line's, and one more
  pub full_cell : (fact : Fact) (c k : ℕ) → IsCell width statements fact c → slice_index numbers c ≡ suc k →
      slice_get (facts_at lines) k ≡ Some fact
  full_cell fact c k cell e =
      let (g, cell', at) = index.told c k e in
      at ∙ ap (λ (z : Fact). Some z) (cell_fact width statements g fact c cell' cell)

  -- what was read at the cell
  pub read_empty : (fact : Fact) (c v : ℕ) → IsCell width statements fact c → v ≡ get_or numbers c v → v ≡ 0 →
      (k : ℕ) → slice_get (facts_at lines) k ≡ Some fact → ⊥
  read_empty fact c v cell e z = empty_cell fact c cell (rw z at (sym e))

  pub read_full : (fact : Fact) (c v : ℕ) → IsCell width statements fact c → v ≡ get_or numbers c v → v ≢ 0 →
      slice_get (facts_at lines) (v - 1) ≡ Some fact
  read_full fact c v cell e ne =
      let inside : c < length numbers = rw index.sized (cell_in width statements fact c cell) in
      let d : get_or numbers c 0 ≡ v = get_or_default numbers c 0 v inside ∙ sym e in
      full_cell fact c (v - 1) cell (d ∙ omega arith)

  module _ (l : Line) (c : ℕ) (cell : IsCell width statements l.fact c)
      (new : (k : ℕ) → slice_get (facts_at lines) k ≡ Some l.fact → ⊥) where
    facts-more : facts_at (lines ++ l ∷ []) ≡ facts_at lines ++ l.fact ∷ []
    facts-more = map-append (λ (m : Line). m.fact) lines (l ∷ [])

    in_table : c < length numbers
    in_table = rw index.sized (cell_in width statements l.fact c cell)

    empty : slice_index numbers c ≡ 0
    empty = cell_empty l.fact c cell new

    pub room_less : sum_by vacancy (set numbers c (length lines + 1)) + 1 ≡ sum_by vacancy numbers
    room_less =
        let s : sum_by vacancy (set numbers c (length lines + 1)) + vacancy (get_or numbers c 0) ≡ sum_by vacancy numbers + vacancy (length lines + 1)
        = sum_by-set vacancy numbers c (length lines + 1) 0 in_table in
        let z : vacancy (get_or numbers c 0) ≡ 1 = ap vacancy empty in
        let o : vacancy (length lines + 1) ≡ 0 = ap vacancy (add-one (length lines)) in
        omega arith

    -- so a line more has a cell
    pub lines_less : length lines < length numbers
    lines_less = omega (arith, room_less, index.counted)

    counted_more : length (lines ++ l ∷ []) + sum_by vacancy (set numbers c (length lines + 1)) ≡ length (set numbers c (length lines + 1))
    counted_more =
        let a : length (lines ++ l ∷ []) ≡ length lines + 1 = length-append lines (l ∷ []) in
        let b : length (set numbers c (length lines + 1)) ≡ length numbers = length-set numbers c (length lines + 1) in
        let r : sum_by vacancy (set numbers c (length lines + 1)) + 1 ≡ sum_by vacancy numbers = room_less in
        let i : length lines + sum_by vacancy numbers ≡ length numbers = index.counted in
        omega arith

    facts_length : length (facts_at lines) ≡ length lines
    facts_length = length-map lines (λ (m : Line). m.fact)

    at_end : slice_get (facts_at (lines ++ l ∷ [])) (length lines) ≡ Some l.fact
    at_end = rw facts-more (slice_get-back (facts_at lines) (l.fact ∷ []) 0 (length lines) (omega (arith, facts_length)))

    celled_more : (k : ℕ) (fact : Fact) → slice_get (facts_at (lines ++ l ∷ [])) k ≡ Some fact →
        (d : ℕ) × IsCell width statements fact d × (slice_index (set numbers c (length lines + 1)) d ≡ suc k)
    celled_more k fact at = go (below_or_not k (length lines))
      where
        last : (m : ℕ) → k ≡ length lines + m → slice_get (l.fact ∷ []) m ≡ Some fact →
            (d : ℕ) × IsCell width statements fact d × (slice_index (set numbers c (length lines + 1)) d ≡ suc k)
        last zero e f =
            let q : l.fact ≡ fact = same_Some l.fact fact f in
            (c, subst (λ (g : Fact). IsCell width statements g c) q cell, get_or-set_same numbers c (length lines + 1) 0 in_table ∙ omega arith)
        last (suc m) e f = absurd (none-some fact f)

        go : (k < length lines) ⊎ ((m : ℕ) × (k ≡ length lines + m)) →
            (d : ℕ) × IsCell width statements fact d × (slice_index (set numbers c (length lines + 1)) d ≡ suc k)
        go (inl h) =
            let before : slice_get (facts_at lines) k ≡ Some fact
            = sym (slice_get-within (facts_at lines) (l.fact ∷ []) k (omega (arith, facts_length))) ∙ (rw facts-more at at) in
            let (d, cell', f) = index.celled k fact before in
            let ne : d ≢ c = (λ e. let z : slice_index numbers d ≡ 0 = rw e empty in omega arith) in
            (d, cell', get_or-set_other numbers c d (length lines + 1) 0 ne ∙ f)
        go (inr (m, e)) =
            last m e (sym (slice_get-back (facts_at lines) (l.fact ∷ []) m k (omega (arith, facts_length))) ∙ (rw facts-more at at))

    told_more : (d k : ℕ) → slice_index (set numbers c (length lines + 1)) d ≡ suc k →
        (fact : Fact) × IsCell width statements fact d × (slice_get (facts_at (lines ++ l ∷ [])) k ≡ Some fact)
    told_more d k e = go (same_or_not d c)
      where
        go : (d ≡ c) ⊎ (d ≢ c) → (fact : Fact) × IsCell width statements fact d × (slice_get (facts_at (lines ++ l ∷ [])) k ≡ Some fact)
        go (inl q) =
            let w : slice_index (set numbers c (length lines + 1)) c ≡ suc k = rw q at e in
            let v : slice_index (set numbers c (length lines + 1)) c ≡ length lines + 1 = get_or-set_same numbers c (length lines + 1) 0 in_table in
            let n : length lines ≡ k = omega arith in
            (l.fact, rw q cell, rw (← n) at_end)
        go (inr ne) =
            let w : slice_index numbers d ≡ suc k = sym (get_or-set_other numbers c d (length lines + 1) 0 ne) ∙ e in
            let (fact, cell', at) = index.told d k w in
            (fact, cell', rw facts-more (slice_get-front (facts_at lines) (l.fact ∷ []) k fact at))

    pub added : IsIndex width statements (set numbers c (length lines + 1)) (lines ++ l ∷ [])
    added = record {
      sized = length-set numbers c (length lines + 1) ∙ index.sized;
      fits = index.fits;
      rows_fit = index.rows_fit;
      counted = counted_more;
      celled = celled_more;
      told = told_more;
    }

-- what a row and a column hold
module _ (width : ℕ) (statements : List Pair) (numbers : List ℕ) (lines : List Line)
    (index : IsIndex width statements numbers lines) where
  pub set_cell : (k : ℕ) (fact : Fact) (c : ℕ) → slice_get (facts_at lines) k ≡ Some fact → IsCell width statements fact c → slice_index numbers c ≢ 0
  set_cell k fact c at cell e = empty_cell width statements numbers lines index fact c cell e k at

  pub cell_known : (fact : Fact) (c : ℕ) → IsCell width statements fact c → slice_index numbers c ≢ 0 → (k : ℕ) × (slice_get (facts_at lines) k ≡ Some fact)
  cell_known fact c cell ne = go (slice_index numbers c) refl
    where
      go : (n : ℕ) → slice_index numbers c ≡ n → (k : ℕ) × (slice_get (facts_at lines) k ≡ Some fact)
      go zero e = absurd (ne e)
      go (suc k) e = (k, full_cell width statements numbers lines index fact c k cell e)
