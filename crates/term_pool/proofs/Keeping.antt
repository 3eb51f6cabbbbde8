-- One line more is looked at, and kept where it is marked.
use Rattle.std.proofs.Common.{◌≡◌, ◌⊎◌, inl, inr, ℕ, zero, suc, ◌+◌, ◌<◌, Bool, List, [], ◌∷◌, ◌++◌, Some, slice_get, slice_index, get_or, length, map, Contains, refl, sym, ◌∙◌, ap, subst, arith, append_assoc}
use Rattle.std.proofs.lemmas.List.{append-nil, get_or_append_left, length-append}
use Rattle.std.proofs.Math.Seq.{get_or-append_seam}
use Rattle.std.proofs.lemmas.Option.{same_Some, none-some, slice_get_within, slice_get-map, slice_get-get_or}
use Rattle.std.specs.Prelude.{option_map}
use Rattle.prin_term.specs.declared.term.Anchor.{Anchor}
use Rattle.taos_calculus.specs.declared.line.Node.{Node}
use Rattle.taos_calculus.specs.Rules.{Claim}
use Rattle.taos_calculus.specs.declared.line.Fact.{Fact}
use Rattle.taos_calculus.specs.declared.line.Step.{Step}
use Rattle.taos_calculus.specs.declared.line.Line.{Line}
use Rattle.taos_calculus.specs.Numbered.{facts_at, EachGives, Gives}
use Rattle.taos_calculus.specs.Tidy.{premises_of, moved}
use Rattle.term_pool.specs.Extract.{Marked, HasPremises, IsRenumbered, IsKept}
use Rattle.term_pool.proofs.Orders.{same_or_not, below_or_not}
use Rattle.taos_calculus.proofs.Building.{slice_get-front, slice_get-back}
use Rattle.taos_calculus.proofs.NumberedMoving.{gives_moved}

-- one line more that follows
module _ (nodes : List Node) (anchors : List Anchor) (claims : List Claim) where
  pub each_gives-more : (earlier : List Fact) (xs : List Line) (l : Line) → EachGives nodes anchors claims earlier xs →
      Gives nodes anchors claims (earlier ++ facts_at xs) l.fact l.step → EachGives nodes anchors claims earlier (xs ++ l ∷ [])
  each_gives-more e [] l f g = (rw append-nil at g, tt)
  each_gives-more e (x ∷ xs) l f g = (f.0, each_gives-more (e ++ x.fact ∷ []) xs l f.1 (rw append_assoc g))

premises_moved : (at : ℕ → ℕ) (step : Step) → premises_of (moved at (λ n. n) step) ≡ map at (premises_of step)
premises_moved at Step.Same = refl
premises_moved at step = refl

contains_map : (at : ℕ → ℕ) (xs : List ℕ) (i : ℕ) → Contains xs i → Contains (map at xs) (at i)
contains_map at [] i c = absurd (let h : c.0 < 0 = c.1 in omega arith)
contains_map at (x ∷ xs) i c = go c.0 c.1 c.2 (λ d. contains_map at xs i d)
  where
    go : (k : ℕ) → k < length (x ∷ xs) → get_or (x ∷ xs) k i ≡ i → (Contains xs i → Contains (map at xs) (at i)) → Contains (map at (x ∷ xs)) (at i)
    go zero h e below = (0, (let n : 0 < suc (length (map at xs)) = omega arith in n), ap at e)
    go (suc k) h e below = let d : Contains (map at xs) (at i) = below (k, omega arith, e) in (suc d.0, (let n : suc d.0 < suc (length (map at xs)) = omega (arith, d.1) in n), d.2)

-- the premises of a renumbered step
names_moved : (at : ℕ → ℕ) (step : Step) (i : ℕ) → Contains (premises_of step) i → Contains (premises_of (moved at (λ n. n) step)) (at i)
names_moved at step i c = rw premises_moved (contains_map at (premises_of step) i c)

-- the fact of a line
pub fact_stands : (lines : List Line) (i : ℕ) (l : Line) → slice_get lines i ≡ Some l → slice_get (facts_at lines) i ≡ Some l.fact
fact_stands lines i l e = slice_get-map (λ (m : Line). m.fact) lines i ∙ ap (option_map (λ (m : Line). m.fact)) e

pub line_stands : (lines : List Line) (i : ℕ) (f : Fact) → slice_get (facts_at lines) i ≡ Some f → (l : Line) × (slice_get lines i ≡ Some l) × (l.fact ≡ f)
line_stands [] i f e = absurd (none-some f e)
line_stands (x ∷ xs) zero f e = (x, refl, same_Some x.fact f e)
line_stands (x ∷ xs) (suc i) f e = line_stands xs i f e

-- each line follows from facts that stand before it in the list
pub gives_before : (nodes : List Node) (anchors : List Anchor) (claims : List Claim) (earlier : List Fact) (lines : List Line) (k : ℕ) (l : Line) →
    EachGives nodes anchors claims earlier lines → slice_get lines k ≡ Some l →
    (front : List Fact) × ((i : ℕ) (f : Fact) → slice_get front i ≡ Some f → (i < length earlier + k) × (slice_get (earlier ++ facts_at lines) i ≡ Some f)) × Gives nodes anchors claims front l.fact l.step
gives_before nodes anchors claims earlier [] k l g e = absurd (none-some l e)
gives_before nodes anchors claims earlier (x ∷ xs) zero l g e = (
  earlier,
  (λ i f h. (let w : i < length earlier = slice_get_within earlier i f h in omega arith, slice_get-front earlier (facts_at (x ∷ xs)) i f h)),
  let q : x ≡ l = same_Some x l e in subst (λ (m : Line). Gives nodes anchors claims earlier m.fact m.step) q g.0,
)
gives_before nodes anchors claims earlier (x ∷ xs) (suc k) l g e =
    let (front, stand, gives) = gives_before nodes anchors claims (earlier ++ x.fact ∷ []) xs k l g.1 e in (
      front,
      (λ i f h.
          let s : (i < length (earlier ++ x.fact ∷ []) + k) × (slice_get ((earlier ++ x.fact ∷ []) ++ facts_at xs) i ≡ Some f) = stand i f h in
          let n : length (earlier ++ x.fact ∷ []) ≡ length earlier + 1 = length-append earlier (x.fact ∷ []) in
          (omega (arith, s.0, n), rw append_assoc at s.1)),
      gives,
    )

module _ (lines : List Line) (marks : List Bool) (k : ℕ) (numbers : List ℕ) (out : List Line) (l : Line)
    (stands : slice_get lines k ≡ Some l)
    (ordered : (j i : ℕ) (m : Line) → slice_get lines j ≡ Some m → Contains (premises_of m.step) i → i < j)
    (closed : (j : ℕ) → Marked marks j → HasPremises lines marks j)
    (before : IsKept lines marks k numbers out) where
  -- the numbers with that of k
  abbrev more : List ℕ
  more = numbers ++ length out ∷ []

  old_number : (i : ℕ) → i < k → slice_index more i ≡ slice_index numbers i
  old_number i h = get_or_append_left numbers (length out ∷ []) 0 i (omega (arith, before.long))

  new_number : slice_index more k ≡ length out
  new_number = subst (λ n. slice_index (numbers ++ length out ∷ []) n ≡ length out) before.long (get_or-append_seam numbers (length out) [] 0)

  more_long : length more ≡ k + 1
  more_long = omega (arith, before.long, length-append numbers (length out ∷ []))

  renumbered_still : (i : ℕ) (x m : Line) → i < k → slice_get lines i ≡ Some x → IsRenumbered numbers x m → IsRenumbered more x m
  renumbered_still i x m h e r = record {
    fact_is = r.fact_is;
    names = λ j c. let below : j < i = ordered i j x e c in rw (old_number j (omega arith)) (r.names j c);
  }

  number_in : (i : ℕ) → i < k → Marked marks i → slice_get lines i ≡ Some (get_or lines i l) → slice_index numbers i < length out
  number_in i h n e = let (m, s, r) = before.kept i (get_or lines i l) h n e in slice_get_within out (slice_index numbers i) m s

  line_at : (i : ℕ) → i < k → slice_get lines i ≡ Some (get_or lines i l)
  line_at i h = slice_get-get_or lines i l (let w : k < length lines = slice_get_within lines k l stands in omega arith)

  -- where k is not marked
  module _ (unmarked : Marked marks k → ⊥) where
    kept_skip_kept : (i : ℕ) (x : Line) → i < k + 1 → Marked marks i → slice_get lines i ≡ Some x →
        (m : Line) × (slice_get out (slice_index more i) ≡ Some m) × IsRenumbered more x m
    kept_skip_kept i x h n e = go (same_or_not i k)
      where
        go : (i ≡ k) ⊎ (i ≡ k → ⊥) → (m : Line) × (slice_get out (slice_index more i) ≡ Some m) × IsRenumbered more x m
        go (inl q) = absurd (unmarked (rw q at n))
        go (inr ne) =
            let below : i < k = omega arith in
            let (m, s, r) = before.kept i x below n e in
            (m, rw (old_number i below) s, renumbered_still i x m below e r)

    kept_skip_rising : (i j : ℕ) → i < j → j < k + 1 → Marked marks i → slice_index more i < slice_index more j
    kept_skip_rising i j h hj n = go (same_or_not j k)
      where
        go : (j ≡ k) ⊎ (j ≡ k → ⊥) → slice_index more i < slice_index more j
        go (inl q) =
            let below : i < k = omega arith in
            omega (arith, old_number i below, number_in i below n (line_at i below), ap (λ n. slice_index more n) q ∙ new_number)
        go (inr ne) =
            let below : j < k = omega arith in
            omega (arith, old_number i (omega arith), old_number j below, before.rising i j h below n)

    pub kept_skip : IsKept lines marks (k + 1) more out
    kept_skip = record {
      long = more_long;
      kept = kept_skip_kept;
      from = λ j h. let (i, hi, n, e) = before.from j h in (i, omega arith, n, old_number i hi ∙ e);
      rising = kept_skip_rising;
      valid = before.valid;
    }

  -- where k is marked
  module _ (here : Marked marks k) where
    abbrev last_line : Line
    last_line = record { fact = l.fact; step = moved (λ i. slice_index more i) (λ n. n) l.step }

    new_at : (i : ℕ) (m : Line) → i < k → slice_get out (slice_index numbers i) ≡ Some m → slice_get (out ++ last_line ∷ []) (slice_index more i) ≡ Some m
    new_at i m h s = rw (old_number i h) (slice_get-front out (last_line ∷ []) (slice_index numbers i) m s)

    last_stands : slice_get (out ++ last_line ∷ []) (slice_index more k) ≡ Some last_line
    last_stands = slice_get-back out (last_line ∷ []) 0 (slice_index more k) (omega (arith, new_number))

    kept_more_kept : (i : ℕ) (x : Line) → i < k + 1 → Marked marks i → slice_get lines i ≡ Some x →
        (m : Line) × (slice_get (out ++ last_line ∷ []) (slice_index more i) ≡ Some m) × IsRenumbered more x m
    kept_more_kept i x h n e = go (same_or_not i k)
      where
        go : (i ≡ k) ⊎ (i ≡ k → ⊥) → (m : Line) × (slice_get (out ++ last_line ∷ []) (slice_index more i) ≡ Some m) × IsRenumbered more x m
        go (inl q) =
            let same : l ≡ x = same_Some l x (sym stands ∙ (ap (slice_get lines) (sym q) ∙ e)) in (
              last_line,
              ap (λ n. slice_get (out ++ last_line ∷ []) (slice_index more n)) q ∙ last_stands,
              subst (λ (y : Line). IsRenumbered more y last_line) same
                  record { fact_is = refl; names = λ j c. names_moved (λ i. slice_index more i) l.step j c },
            )
        go (inr ne) =
            let below : i < k = omega arith in
            let (m, s, r) = before.kept i x below n e in
            (m, new_at i m below s, renumbered_still i x m below e r)

    long_out : length (out ++ last_line ∷ []) ≡ length out + 1
    long_out = length-append out (last_line ∷ [])

    kept_more_from : (j : ℕ) → j < length (out ++ last_line ∷ []) → (i : ℕ) × (i < k + 1) × Marked marks i × (slice_index more i ≡ j)
    kept_more_from j h = go (below_or_not j (length out))
      where
        go : (j < length out) ⊎ ((m : ℕ) × (j ≡ length out + m)) → (i : ℕ) × (i < k + 1) × Marked marks i × (slice_index more i ≡ j)
        go (inl b) = let (i, hi, n, e) = before.from j b in (i, omega arith, n, old_number i hi ∙ e)
        go (inr (m, e)) = (k, omega arith, here, omega (arith, new_number, long_out))

    kept_more_rising : (i j : ℕ) → i < j → j < k + 1 → Marked marks i → slice_index more i < slice_index more j
    kept_more_rising i j h hj n = go (same_or_not j k)
      where
        go : (j ≡ k) ⊎ (j ≡ k → ⊥) → slice_index more i < slice_index more j
        go (inl q) =
            let below : i < k = omega arith in
            omega (arith, old_number i below, number_in i below n (line_at i below), ap (λ n. slice_index more n) q ∙ new_number)
        go (inr ne) =
            let below : j < k = omega arith in
            omega (arith, old_number i (omega arith), old_number j below, before.rising i j h below n)

    -- a premise stands at its number
    premise_stands : (i : ℕ) (f : Fact) → Contains (premises_of l.step) i → slice_get (facts_at lines) i ≡ Some f → slice_get (facts_at out) (slice_index more i) ≡ Some f
    premise_stands i f c e =
        let below : i < k = ordered k i l stands c in
        let (x, at, is) = line_stands lines i f e in
        let (m, s, r) = before.kept i x below (closed k here l i stands c) at in
        rw (old_number i below) (fact_stands out (slice_index numbers i) m s ∙ ap (λ (z : Fact). Some z) (r.fact_is ∙ is))

    kept_more_valid : (nodes : List Node) (anchors : List Anchor) (claims : List Claim) →
        EachGives nodes anchors claims [] lines → EachGives nodes anchors claims [] (out ++ last_line ∷ [])
    kept_more_valid nodes anchors claims each =
        let (front, stand, gives) = gives_before nodes anchors claims [] lines k l each stands in
        each_gives-more nodes anchors claims [] out last_line (before.valid nodes anchors claims each)
        (gives_moved nodes anchors claims claims front (facts_at out) (λ i. slice_index more i) (λ n. n) l.fact l.step
        (λ i c f e. premise_stands i f c (stand i f e).1) (λ i c x e. e) gives)

    pub kept_more : IsKept lines marks (k + 1) more (out ++ last_line ∷ [])
    kept_more = record {
      long = more_long;
      kept = kept_more_kept;
      from = kept_more_from;
      rising = kept_more_rising;
      valid = kept_more_valid;
    }
