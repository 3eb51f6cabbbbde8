-- A fact has one cell at most, and a cell one fact.
use Rattle.std.proofs.Common.{◌≡◌, ◌⊎◌, inl, inr, ℕ, ◌+◌, ◌*◌, ◌/◌, ◌<◌, List, Some, slice_get, slice_index, length, sym, ◌∙◌, ap, arith}
use Rattle.std.proofs.lemmas.Nat.{div-mul-add, mul-add-lt}
use Rattle.std.proofs.lemmas.Option.{slice_get_within, same_Some}
use Rattle.taos_calculus.specs.declared.line.Fact.{Fact}
use Rattle.term_pool.specs.declared.found.Pair.{Pair}
use Rattle.term_pool.specs.declared.found.Found.{Found}
use Rattle.term_pool.specs.Finding.{IsCell, of_speaks, of_says, IsFirstOf, IsFound, facts_in, pair}

pub same_row : (a b w r s : ℕ) → r < w → s < w → a * w + r ≡ b * w + s → (a ≡ b) × (r ≡ s)
same_row a b w r s hr hs e =
    let q : a ≡ b = sym (div-mul-add a w r hr) ∙ (ap (λ n. n / w) e ∙ div-mul-add b w s hs) in
    (q, let f : a * w ≡ b * w = ap (λ n. n * w) q in omega arith)

one_first : (statements : List Pair) (l r i j : ℕ) → IsFirstOf statements l r i → IsFirstOf statements l r j → i ≡ j
one_first statements l r i j f g = go (omega_cases i j)
  where
    omega_cases : (i j : ℕ) → (i < j) ⊎ ((j < i) ⊎ (i ≡ j))
    omega_cases i j = grind arith

    go : (i < j) ⊎ ((j < i) ⊎ (i ≡ j)) → i ≡ j
    go (inl h) = absurd (g.first i h f.stands)
    go (inr (inl h)) = absurd (f.first j h g.stands)
    go (inr (inr e)) = e

module _ (width : ℕ) (statements : List Pair) where
  pub cell_one : (fact : Fact) (c d : ℕ) → IsCell width statements fact c → IsCell width statements fact d → c ≡ d
  cell_one fact c d (of_speaks h k e) (of_speaks h' k' e') = e ∙ sym e'
  cell_one fact c d (of_says {w} {l} {r} i h f e) (of_says j h' g e') =
      let q : i ≡ j = one_first statements l r i j f g in
      e ∙ (ap (λ n. (width + n) * width + w) q ∙ sym e')

  pub cell_fact : (f g : Fact) (c : ℕ) → IsCell width statements f c → IsCell width statements g c → f ≡ g
  cell_fact f g c (of_speaks {l} {r} h k e) (of_speaks {l = l'} {r = r'} h' k' e') =
      let (p, q) = same_row l l' width r r' k k' (sym e ∙ e') in cc
  cell_fact f g c (of_speaks {l} {r} h k e) (of_says {w} j h' first e') =
      let (p, q) = same_row l (width + j) width r w k h' (sym e ∙ e') in absurd (omega arith)
  cell_fact f g c (of_says {w} j h' first e') (of_speaks {l} {r} h k e) =
      let (p, q) = same_row l (width + j) width r w k h' (sym e ∙ e') in absurd (omega arith)
  cell_fact f g c (of_says {w} {l} {r} i h first e) (of_says {w = w'} {l = l'} {r = r'} j h' first' e') =
      let (p, q) = same_row (width + i) (width + j) width w w' h h' (sym e ∙ e') in
      let same_place : i ≡ j = omega arith in
      let same_pair : Some (pair l r) ≡ Some (pair l' r') = sym first.stands ∙ (ap (slice_get statements) same_place ∙ first'.stands) in
      let same : pair l r ≡ pair l' r' = same_Some (pair l r) (pair l' r') same_pair in
      let left_same : l ≡ l' = ap (λ (z : Pair). z.left) same in
      let right_same : r ≡ r' = ap (λ (z : Pair). z.right) same in
      cc

  pub cell_in : (f : Fact) (c : ℕ) → IsCell width statements f c → c < width * (width + length statements)
  cell_in f c (of_speaks {l} {r} h k e) = rw e (mul-add-lt l width r (width + length statements) (omega arith) k)
  cell_in f c (of_says {w} {l} {r} i h first e) =
      let s : i < length statements = slice_get_within statements i (pair l r) first.stands in
      rw e (mul-add-lt (width + i) width w (width + length statements) (omega arith) h)

-- no two lines have one fact
pub facts_apart : (s : Found) → IsFound s → (i j : ℕ) (f : Fact) → slice_get (facts_in s) i ≡ Some f → slice_get (facts_in s) j ≡ Some f → i ≡ j
facts_apart s found i j f e g =
    let (c, cell, at) = found.index.celled i f e in
    let (d, cell', at') = found.index.celled j f g in
    let q : c ≡ d = cell_one s.width s.statements.items f c d cell cell' in
    omega (arith, ap (λ n. slice_index s.numbers.items n) q)
