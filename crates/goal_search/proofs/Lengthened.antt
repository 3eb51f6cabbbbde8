-- A table of cells with one row more, which is empty.
use Rattle.std.proofs.Common.{◌≡◌, ◌≢◌, inl, inr, ℕ, zero, suc, ◌+◌, ◌*◌, ◌≤◌, List, [], ◌∷◌, ◌++◌, Bool, true, cond, take, ◌-◌, length, refl, sym, ap, ap₂, ◌∙◌, arith}
use Rattle.std.specs.Prelude.{replicate, slice_index, sum_by}
use Rattle.std.proofs.lemmas.Bool.{cases_lt}
use Rattle.std.proofs.lemmas.List.{get_or-replicate, length-append, length-replicate, take_all}
use Rattle.std.proofs.lemmas.List.Folds.{sum_by-replicate}
use Rattle.std.proofs.lemmas.List.Sums.{sum_by-append}
use Rattle.std.proofs.Math.ListN.{get_or-eq_default}
use Rattle.std.proofs.Math.Nat.{mul_comm, mul-one, mul-suc}
use Rattle.std.proofs.lemmas.Nat.{mul-le}
use Rattle.term_pool.specs.Finding.{vacancy}
use Rattle.goal_search.specs.declared.cells.Cells.{Cells}
use Rattle.goal_search.specs.Cells.{AreCells, held_at, IsIn, room_in}

zeros : (n i : ℕ) → slice_index (replicate n 0) i ≡ 0
zeros n i =
    elim (cases_lt i n) [
      | inl lt ↦ get_or-replicate {A = ℕ} n i 0 0 lt
      | inr le ↦ get_or-eq_default (replicate n 0) 0 (omega (arith, le, length-replicate {A = ℕ} n 0))
    ]

-- zeros behind a list of numbers change no read
pub padded : (xs : List ℕ) (n i : ℕ) → slice_index (xs ++ replicate n 0) i ≡ slice_index xs i
padded [] n i = zeros n i
padded (x ∷ xs) n zero = refl
padded (x ∷ xs) n (suc i) = padded xs n i

-- what a longer length leaves in place, and fills up
pub row_items : (xs ys : List ℕ) (w r len : ℕ) (ok : Bool) → ys ≡ cond ok (take (w * (r + 1)) xs ++ replicate (w * (r + 1) - len) 0) xs → ok ≡ true → length xs ≡ len → length xs ≡ w * r → ys ≡ xs ++ replicate w 0
row_items xs ys w r len ok is fine count sized =
    is ∙ ap (λ (b : Bool). cond b (take (w * (r + 1)) xs ++ replicate (w * (r + 1) - len) 0) xs) fine ∙
    ap₂ (λ (zs : List ℕ) (n : ℕ). zs ++ replicate n 0) (take_all (w * (r + 1)) xs (omega (arith, sized, wide))) (omega (arith, sized, wide, count))
  where
    next : (n : ℕ) → n + 1 ≡ suc n
    next n = omega arith

    wide : w * (r + 1) ≡ w * r + w
    wide = ap (λ (n : ℕ). w * n) (next r) ∙ mul-suc w r

module _ (s t : Cells) (cells : AreCells s) (width : t.width ≡ s.width) (rows : t.rows ≡ s.rows + 1) (count : t.count ≡ s.count)
    (items : t.cells.items ≡ s.cells.items ++ replicate s.width 0) (fits : s.width * (s.rows + 1) ≤ 1762560) where
  row_same : (place : ℕ) → slice_index t.cells.items place ≡ slice_index s.cells.items place
  row_same place = ap (λ (xs : List ℕ). slice_index xs place) items ∙ padded s.cells.items s.width place

  long : length t.cells.items ≡ length s.cells.items + s.width
  long = omega (arith, ap length items, length-append s.cells.items (replicate s.width 0), length-replicate {A = ℕ} s.width 0)

  wider : s.width * (s.rows + 1) ≡ s.width * s.rows + s.width
  wider = ap (λ (n : ℕ). s.width * n) (rows_next s.rows) ∙ mul-suc s.width s.rows
    where
      rows_next : (n : ℕ) → n + 1 ≡ suc n
      rows_next n = omega arith

  room : room_in t ≡ room_in s + s.width
  room = ap (sum_by vacancy) items ∙ sum_by-append vacancy s.cells.items (replicate s.width 0) ∙ ap (λ (n : ℕ). room_in s + n) (sum_by-replicate vacancy s.width 0 ∙ mul-one s.width)

  pub row_added : AreCells t
  row_added = record {
    sized = omega (arith, long, cells.sized, wider, ap (λ (n : ℕ). n * t.rows) width, ap (λ (n : ℕ). s.width * n) rows);
    few = omega (arith, long, cells.sized, wider, fits);
    counted = omega (arith, count, room, long, cells.counted);
    stamped = λ place ne. rw (row_same place, count) (cells.stamped place (λ z. ne (row_same place ∙ z)));
    apart = λ i j h k e. cells.apart i j (λ z. h (row_same i ∙ z)) (λ z. k (row_same j ∙ z)) (rw (row_same i, row_same j) at e);
  }

-- a number is in a row of the longer table where it was in that of the shorter one
module _ (s t : Cells) (width : t.width ≡ s.width) (rows : t.rows ≡ s.rows + 1) (same : (place : ℕ) → slice_index t.cells.items place ≡ slice_index s.cells.items place) where
  pub held_same : (r c : ℕ) → held_at t r c ≡ held_at s r c
  held_same r c = ap (λ (w : ℕ). slice_index t.cells.items (r * w + c)) width ∙ same (r * s.width + c)

  pub row_more : (r c : ℕ) → IsIn s r c → IsIn t r c
  row_more r c h = ((omega (arith, h.0.0, rows), omega (arith, h.0.1, width)), λ z. h.1 (sym (held_same r c) ∙ z))

-- and the other way round, since the new row is empty
module _ (s t : Cells) (cells : AreCells s) (width : t.width ≡ s.width) (rows : t.rows ≡ s.rows + 1) (same : (place : ℕ) → slice_index t.cells.items place ≡ slice_index s.cells.items place) where
  pub row_less : (r c : ℕ) → IsIn t r c → IsIn s r c
  row_less r c h = elim (cases_lt r s.rows) [ inl lt ↦ ((lt, omega (arith, h.0.1, width)), filled) | inr le ↦ absurd (filled (past le)) ]
    where
      filled : held_at s r c ≢ 0
      filled z = h.1 (held_same s t width rows same r c ∙ z)

      past : s.rows ≤ r → held_at s r c ≡ 0
      past le = get_or-eq_default s.cells.items 0 (omega (arith, cells.sized, mul-le s.width s.rows s.width r (omega arith) le, mul_comm s.width r))
