-- A table is the canonical one of its lines exactly where they lead through all its numbers in order.
use Rattle.std.proofs.Common.{◌≡◌, ◌↔◌, ℕ, ◌+◌, ◌<◌, ◌==◌, true, List, [], ◌∷◌, ◌++◌, length, map, take, drop, get_or, refl, sym, ap, ◌∙◌, subst, arith, All, lit<}
use Rattle.std.specs.List.{flat_map}
use Rattle.std.proofs.lemmas.List.{take_all, map-append, take_more, append-nil, take-append-drop}
use Rattle.std.proofs.lemmas.List.Concat.{flat_map-append}
use Rattle.std.proofs.lemmas.List.Elements.{All-nil, All-cons, All-append, All-head, All-tail}
use Rattle.std.proofs.lemmas.Bool.{eqb-true, eq-eqb}
use Rattle.prin_term.specs.Principal.{Principal}
use Rattle.taos_calculus.specs.declared.line.Node.{Node}
use Rattle.taos_calculus.specs.declared.line.Fact.{Fact}
use Rattle.taos_calculus.specs.declared.line.Line.{Line}
use Rattle.taos_calculus.specs.Tables.{IsNodeTable, IsBelow, principals_of, named, judgement, meaning, parts_of, lines_of}
use Rattle.stmt_codec.specs.Distinct.{first_of_each, met}
use Rattle.taos_calculus.specs.Canonical.{IsCanonical, post_order, terms_of, canonical_table}
use Rattle.taos_calculus.specs.Walking.{numbers_in, parts_under, Reaches, Strays}
use Rattle.taos_calculus.proofs.Induction.{All-two}
use Rattle.taos_calculus.proofs.Naming.{length-principals_of}
use Rattle.stmt_codec.proofs.Firsts.{first_of_each-met}
use Rattle.taos_calculus.proofs.Walks.{All-front, All-back, reaches_then, reaches_split, reaches_one, strays_then}

-- the numbers that lines name, in order
abbrev pub numbers_of : List Line → List ℕ
numbers_of lines = flat_map (λ l. numbers_in l.fact) lines

fact_numbers : (p : ℕ → Principal) (fact : Fact) → map p (numbers_in fact) ≡ terms_of (judgement p fact)
fact_numbers p (Fact.Speaks a b) = refl
fact_numbers p (Fact.Says a b c) = refl

pub map-numbers_of : (p : ℕ → Principal) (lines : List Line) → map p (numbers_of lines) ≡ flat_map (λ l. terms_of l.fact) (map (meaning p) lines)
map-numbers_of p [] = refl
map-numbers_of p (l ∷ lines) =
    map-append p (numbers_in l.fact) (numbers_of lines) ∙ ap (λ (ps : List Principal). ps ++ map p (numbers_of lines)) (fact_numbers p l.fact) ∙
    ap (λ (ps : List Principal). terms_of (judgement p l.fact) ++ ps) (map-numbers_of p lines)

fact_below : (n : ℕ) (fact : Fact) → IsBelow n fact → All (λ i. i < n) (numbers_in fact)
fact_below n (Fact.Speaks a b) h = All-two (λ i. i < n) a b h.0 h.1
fact_below n (Fact.Says a b c) h = All-cons (λ i. i < n) a (b ∷ c ∷ []) h.0 (All-two (λ i. i < n) b c h.1 h.2)

below_fact : (n : ℕ) (fact : Fact) → All (λ i. i < n) (numbers_in fact) → IsBelow n fact
below_fact n (Fact.Speaks a b) h = (h 0 a (lit< tt), h 1 a (lit< tt))
below_fact n (Fact.Says a b c) h = (h 0 a (lit< tt), h 1 a (lit< tt), h 2 a (lit< tt))

lines_below : (n : ℕ) (lines : List Line) → All (λ l. IsBelow n l.fact) lines → All (λ i. i < n) (numbers_of lines)
lines_below n [] h = All-nil (λ i. i < n)
lines_below n (l ∷ lines) h =
    All-append (λ i. i < n) (numbers_in l.fact) (numbers_of lines) (fact_below n l.fact (All-head (λ (m : Line). IsBelow n m.fact) l lines h))
    (lines_below n lines (All-tail (λ (m : Line). IsBelow n m.fact) l lines h))

below_lines : (n : ℕ) (lines : List Line) → All (λ i. i < n) (numbers_of lines) → All (λ l. IsBelow n l.fact) lines
below_lines n [] h = All-nil (λ (m : Line). IsBelow n m.fact)
below_lines n (l ∷ lines) h =
    All-cons (λ (m : Line). IsBelow n m.fact) l lines (below_fact n l.fact (All-front (λ i. i < n) (numbers_in l.fact) (numbers_of lines) h))
    (below_lines n lines (All-back (λ i. i < n) (numbers_in l.fact) (numbers_of lines) h))

module _ (nodes : List Node) (lines : List Line) where
  -- what lines lead to, from nothing
  met_lines : met [] (parts_under nodes (numbers_of lines)) ≡ canonical_table (lines_of (parts_of nodes lines))
  met_lines = first_of_each-met (parts_under nodes (numbers_of lines)) ∙ ap (λ (ps : List Principal). first_of_each (flat_map post_order ps)) (map-numbers_of (named nodes) lines)

  pub canonical_reaches : IsCanonical (parts_of nodes lines) → Reaches nodes 0 (numbers_of lines) (length nodes)
  canonical_reaches h = record {
    within = omega arith;
    below = lines_below (length nodes) lines h.within;
    front = met_lines ∙ sym h.table ∙ sym (take_all (length nodes) (principals_of nodes) (omega (arith, length-principals_of nodes)));
  }

  pub reaches_canonical : IsNodeTable nodes → Reaches nodes 0 (numbers_of lines) (length nodes) → IsCanonical (parts_of nodes lines)
  reaches_canonical table r = record {
    ordered = table.ordered;
    within = below_lines (length nodes) lines r.below;
    table = sym (take_all (length nodes) (principals_of nodes) (omega (arith, length-principals_of nodes))) ∙ sym r.front ∙ met_lines;
  }

  -- all lines lead to the number k
  pub canonical_answer : IsNodeTable nodes → (k : ℕ) → Reaches nodes 0 (numbers_of lines) k → ((k == length nodes) ≡ true) ↔ IsCanonical (parts_of nodes lines)
  canonical_answer table k r = (
    λ e. reaches_canonical table (subst (λ (n : ℕ). Reaches nodes 0 (numbers_of lines) n) (eqb-true k (length nodes) e) r),
    λ h. eq-eqb k (length nodes) (reaches_one nodes table 0 k (length nodes) (numbers_of lines) r (canonical_reaches h)),
  )

-- one line more
numbers_of-more : (lines : List Line) (i : ℕ) (d : Line) → i < length lines →
    numbers_of (take (i + 1) lines) ≡ numbers_of (take i lines) ++ numbers_in (get_or lines i d).fact
numbers_of-more lines i d h =
    ap numbers_of (take_more lines i d h) ∙ flat_map-append (λ (l : Line). numbers_in l.fact) (take i lines) (get_or lines i d ∷ []) ∙
    ap (λ (xs : List ℕ). numbers_of (take i lines) ++ xs) (append-nil (numbers_in (get_or lines i d).fact))

numbers_of-cut : (lines : List Line) (n : ℕ) → numbers_of lines ≡ numbers_of (take n lines) ++ numbers_of (drop n lines)
numbers_of-cut lines n = ap numbers_of (sym (take-append-drop n lines)) ∙ flat_map-append (λ (l : Line). numbers_in l.fact) (take n lines) (drop n lines)

module _ (nodes : List Node) (table : IsNodeTable nodes) (lines : List Line) (i due : ℕ) (d : Line) (inside : i < length lines)
    (so_far : Reaches nodes 0 (numbers_of (take i lines)) due) where
  pub line_reaches : (k : ℕ) → Reaches nodes due (numbers_in (get_or lines i d).fact) k → Reaches nodes 0 (numbers_of (take (i + 1) lines)) k
  line_reaches k r =
      subst (λ (xs : List ℕ). Reaches nodes 0 xs k) (sym (numbers_of-more lines i d inside))
      (reaches_then nodes table 0 due k (numbers_of (take i lines)) (numbers_in (get_or lines i d).fact) so_far r)

  pub line_strays : Strays nodes due (numbers_in (get_or lines i d).fact) → IsCanonical (parts_of nodes lines) → ⊥
  line_strays s h =
      let (j, front, back) = reaches_split nodes table 0 (length nodes) (numbers_of (take (i + 1) lines)) (numbers_of (drop (i + 1) lines))
      (subst (λ (xs : List ℕ). Reaches nodes 0 xs (length nodes)) (numbers_of-cut lines (i + 1)) (canonical_reaches nodes lines h)) in
      strays_then nodes table 0 due (numbers_of (take i lines)) (numbers_in (get_or lines i d).fact) so_far s j
      (subst (λ (xs : List ℕ). Reaches nodes 0 xs j) (numbers_of-more lines i d inside) front)
