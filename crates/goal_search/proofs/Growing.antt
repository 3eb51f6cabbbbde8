-- A search with one number more in a row.
use Rattle.std.proofs.Common.{◌≡◌, ◌≢◌, ◌⊎◌, inl, inr, ℕ, ◌+◌, ◌*◌, ◌<◌, ◌≤◌, slice_index, length, sym, ◌∙◌, ap, arith, le_refl, refl}
use Rattle.std.proofs.lemmas.List.Elements.{All-weaker}
use Rattle.term_pool.proofs.Cells.{same_row}
use Rattle.term_pool.proofs.Orders.{same_or_not}
use Rattle.goal_search.specs.declared.cells.Cells.{Cells}
use Rattle.goal_search.specs.Cells.{AreCells, Fills, IsIn, IsInBefore, IsPlace, held_at, stamp_of, reason_of, room_in}
use Rattle.goal_search.specs.Reasons.{IsReason, itself, speaker, both, onward}
use Rattle.goal_search.specs.Searching.{Core, about, Has, HadBefore, IsNumber, IsRow, IsBegun, IsReady, IsFilled, IsGrown}
use Rattle.goal_search.proofs.Gaining.{reason_more, begun_more}

-- one cell more
module _ (s t : Cells) (row column reason : ℕ) (cells : AreCells s) (inside : IsPlace s row column)
    (empty : held_at s row column ≡ 0) (fills : Fills s t row column reason) where
  abbrev at : ℕ
  at = row * s.width + column

  -- the place of another row or column is another
  same_place : (r c : ℕ) → IsPlace s r c → r * s.width + c ≡ at → (r ≡ row) × (c ≡ column)
  same_place r c h e = same_row r row s.width c column h.1 inside.1 e

  same_width : (r c : ℕ) → r * t.width + c ≡ r * s.width + c
  same_width r c = ap (λ w. r * w + c) fills.width

  -- what another cell holds
  held_other : (r c : ℕ) → r * s.width + c ≢ at → held_at t r c ≡ held_at s r c
  held_other r c ne = ap (slice_index t.cells.items) (same_width r c) ∙ fills.others (r * s.width + c) ne

  -- what was filled before is another cell
  apart_from : (r c : ℕ) → IsIn s r c → r * s.width + c ≢ at
  apart_from r c h e = h.1 (ap (slice_index s.cells.items) e ∙ empty)

  pub held_still : (r c : ℕ) → IsIn s r c → held_at t r c ≡ held_at s r c
  held_still r c h = held_other r c (apart_from r c h)

  place_still : (r c : ℕ) → IsPlace s r c → IsPlace t r c
  place_still r c h = (rw fills.rows h.0, rw fills.width h.1)

  pub in_still : (r c : ℕ) → IsIn s r c → IsIn t r c
  in_still r c h = (place_still r c h.0, λ z. h.1 (sym (held_still r c h) ∙ z))

  pub in_here : IsIn t row column
  in_here = (place_still row column inside, fills.filled)

  pub before_still : (stamp r c : ℕ) → IsInBefore s stamp r c → IsInBefore t stamp r c
  before_still stamp r c h = (in_still r c h.0, rw (held_still r c h.0) h.1)

  -- all that was there was there before it
  pub before_here : (r c : ℕ) → IsIn s r c → IsInBefore t (s.count + 1) r c
  before_here r c h =
      let g : stamp_of (held_at s r c) ≤ s.count = (cells.stamped (r * s.width + c) h.1).1 in
      (in_still r c h, rw (held_still r c h) (omega (arith, g)))

  -- what is there was there, or is the new one
  pub in_cases : (r c : ℕ) → IsIn t r c → IsIn s r c ⊎ ((r ≡ row) × (c ≡ column))
  in_cases r c h = go (same_or_not (r * s.width + c) at)
    where
      place : IsPlace s r c
      place = (rw (← fills.rows) h.0.0, rw (← fills.width) h.0.1)

      go : (r * s.width + c ≡ at) ⊎ (r * s.width + c ≢ at) → IsIn s r c ⊎ ((r ≡ row) × (c ≡ column))
      go (inl e) = inr (same_place r c place e)
      go (inr ne) = inl (place, λ z. h.1 (held_other r c ne ∙ z))

-- the cell of a row and a number, and a reason's number
module _ (s : Core) (ready : IsReady s) where
  pub cell_place : (row number : ℕ) → IsRow s row → IsNumber s number → IsPlace s.cells row number
  cell_place row number row_in number_in = (omega (arith, row_in, ready.rows_are), omega (arith, number_in, ready.width_is))

  pub cell_empty : (row number : ℕ) → IsRow s row → IsNumber s number → (Has s row number → ⊥) → held_at s.cells row number ≡ 0
  cell_empty row number row_in number_in new = go (same_or_not (held_at s.cells row number) 0)
    where
      go : (held_at s.cells row number ≡ 0) ⊎ (held_at s.cells row number ≢ 0) → held_at s.cells row number ≡ 0
      go (inl e) = e
      go (inr ne) = absurd (new (cell_place row number row_in number_in, ne))

  pub reason_small : (row number reason : ℕ) → IsReason (about s) (Has s) row number reason → reason < 2048
  reason_small row number reason (itself h e w) = omega (arith, w)
  reason_small row number reason (speaker i k e f alike p n w) = omega (arith, w)
  reason_small row number reason (both e h k w) = omega (arith, w)
  reason_small row number reason (onward h k e) = omega (arith, h, ready.few_nodes)

-- a search with one cell more
module _ (s t : Core) (row number reason : ℕ) (ready : IsReady s) (row_in : IsRow s row) (number_in : IsNumber s number)
    (new : Has s row number → ⊥) (given : IsReason (about s) (Has s) row number reason) (fills : Fills s.cells t.cells row number reason)
    (nodes : t.nodes ≡ s.nodes) (anchors : t.anchors ≡ s.anchors) (links : t.links ≡ s.links) (cited : t.cited ≡ s.cited) (wanted : t.wanted ≡ s.wanted) where
  place : IsPlace s.cells row number
  place = cell_place s ready row number row_in number_in

  empty : held_at s.cells row number ≡ 0
  empty = cell_empty s ready row number row_in number_in new

  same_about : about t ≡ about s
  same_about k = record { nodes = nodes k; anchors = anchors k; cited = cited k }

  kept : (r c : ℕ) → Has s r c → Has t r c
  kept r c h = in_still s.cells t.cells row number reason ready.cells place empty fills r c h

  -- the reason of each number, by what is there now
  grounded : (r c : ℕ) → Has t r c → IsReason (about s) (HadBefore t (stamp_of (held_at t.cells r c))) r c (reason_of (held_at t.cells r c))
  grounded r c h = go (in_cases s.cells t.cells row number reason ready.cells place empty fills r c h)
    where
      go : Has s r c ⊎ ((r ≡ row) × (c ≡ number)) → IsReason (about s) (HadBefore t (stamp_of (held_at t.cells r c))) r c (reason_of (held_at t.cells r c))
      go (inl old) =
          let same : held_at t.cells r c ≡ held_at s.cells r c = held_still s.cells t.cells row number reason ready.cells place empty fills r c old in
          rw same
          (reason_more (about s) (HadBefore s (stamp_of (held_at s.cells r c))) (HadBefore t (stamp_of (held_at s.cells r c)))
          (λ x y k. before_still s.cells t.cells row number reason ready.cells place empty fills (stamp_of (held_at s.cells r c)) x y k)
          r c (reason_of (held_at s.cells r c)) (ready.grounded r c old))
      go (inr (er, ec)) =
          rw (er, ec, fills.stamp, fills.reason_is)
          (reason_more (about s) (Has s) (HadBefore t (s.cells.count + 1))
          (λ x y k. before_here s.cells t.cells row number reason ready.cells place empty fills x y k) row number reason given)

  ready_more : IsReady t
  ready_more = record {
    cells = fills.cells;
    width_is = fills.width ∙ (ready.width_is ∙ ap length (sym nodes));
    rows_are = omega (arith, fills.rows, ready.rows_are, ap length nodes, ap length cited);
    table = rw nodes ready.table;
    few_nodes = rw nodes ready.few_nodes;
    few_cited = rw cited ready.few_cited;
    cited_in = rw (nodes, cited) ready.cited_in;
    few_anchors = rw anchors ready.few_anchors;
    few_links = rw links ready.few_links;
    anchored = rw (nodes, anchors, links) ready.anchored;
    grounded = rw same_about grounded;
    wanted = rw (same_about, nodes, cited, wanted)
        (All-weaker (λ x. IsRow s x × IsBegun (about s) (Has s) x) (λ x. IsRow s x × IsBegun (about s) (Has t) x)
        (λ x h. (h.0, begun_more (about s) (Has s) (Has t) kept x h.1)) s.wanted ready.wanted);
    wanted_once = rw wanted ready.wanted_once;
  }

  pub filled_one : IsFilled s t
  filled_one = record {
    grown = record {
      ready = ready_more;
      about_is = same_about;
      links_are = links;
      nodes_count = ap length nodes;
      cited_count = ap length cited;
      links_count = ap length links;
      kept = kept;
      still_wanted = λ r h. rw wanted h;
      room_left = omega (arith, fills.less);
    };
    wanted_are = wanted;
  }

  pub there_now : Has t row number
  there_now = in_here s.cells t.cells row number reason ready.cells place empty fills

pub grown_then : (s t u : Core) → IsGrown s t → IsGrown t u → IsGrown s u
grown_then s t u f g = record {
  ready = g.ready;
  about_is = g.about_is ∙ f.about_is;
  links_are = g.links_are ∙ f.links_are;
  nodes_count = g.nodes_count ∙ f.nodes_count;
  cited_count = g.cited_count ∙ f.cited_count;
  links_count = g.links_count ∙ f.links_count;
  kept = λ r c h. g.kept r c (f.kept r c h);
  still_wanted = λ r h. g.still_wanted r (f.still_wanted r h);
  room_left = omega (arith, f.room_left, g.room_left);
}

pub filled_then : (s t u : Core) → IsFilled s t → IsFilled t u → IsFilled s u
filled_then s t u f g = record { grown = grown_then s t u f.grown g.grown; wanted_are = g.wanted_are ∙ f.wanted_are }

pub filled_none : (s : Core) → IsReady s → IsFilled s s
filled_none s ready = record {
  grown = record {
    ready = ready;
    about_is = refl;
    links_are = refl;
    nodes_count = refl;
    cited_count = refl;
    links_count = refl;
    kept = λ r c h. h;
    still_wanted = λ r h. h;
    room_left = le_refl (room_in s.cells);
  };
  wanted_are = refl;
}
