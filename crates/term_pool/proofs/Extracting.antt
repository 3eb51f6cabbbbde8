-- What is kept of the marked lines is what the last one needs.
use Rattle.std.proofs.Common.{◌≡◌, ◌≢◌, ◌⊎◌, inl, inr, ℕ, ◌+◌, ◌-◌, ◌<◌, ◌≤◌, Bool, List, Some, slice_get, slice_index, get_or, length, Contains, sym, ◌∙◌, ap, arith}
use Rattle.std.specs.Prelude.{AllPairs}
use Rattle.std.proofs.lemmas.Option.{same_Some, slice_get_within, slice_get-get_or}
use Rattle.taos_calculus.specs.declared.line.Fact.{Fact}
use Rattle.taos_calculus.specs.declared.line.Step.{Step}
use Rattle.taos_calculus.specs.declared.line.Line.{Line}
use Rattle.taos_calculus.specs.Numbered.{facts_at}
use Rattle.taos_calculus.specs.Tidy.{premises_of}
use Rattle.term_pool.specs.Extract.{Marked, IsMarked, IsWanted, IsKept, IsExtract}
use Rattle.term_pool.proofs.Orders.{same_or_not}
use Rattle.term_pool.proofs.Keeping.{fact_stands}

no_line : Line
no_line = record { fact = Fact.Speaks 0 0; step = Step.Same }

module _ (lines : List Line) (last : ℕ) (marks : List Bool) (numbers : List ℕ) (out : List Line) (inside : last < length lines)
    (marked : IsMarked lines last marks) (kept : IsKept lines marks (last + 1) numbers out) where
  line_of : (i : ℕ) (d : Line) → i < last + 1 → slice_get lines i ≡ Some (get_or lines i d)
  line_of i d h = slice_get-get_or lines i d (omega arith)

  number_in : (i : ℕ) (x : Line) → i < last + 1 → Marked marks i → slice_get lines i ≡ Some x → slice_index numbers i < length out
  number_in i x h n e = let (m, s, r) = kept.kept i x h n e in slice_get_within out (slice_index numbers i) m s

  last_number : (l : Line) → slice_get lines last ≡ Some l → slice_index numbers last + 1 ≡ length out
  last_number l e =
      let below : slice_index numbers last < length out = number_in last l (omega arith) marked.goal e in
      let (i, h, n, at) = kept.from (length out - 1) (omega arith) in
      go i h n at below (same_or_not i last)
    where
      go : (i : ℕ) → i < last + 1 → Marked marks i → slice_index numbers i ≡ length out - 1 → slice_index numbers last < length out →
          (i ≡ last) ⊎ (i ≡ last → ⊥) → slice_index numbers last + 1 ≡ length out
      go i h n at below (inl q) = omega (arith, ap (λ k. slice_index numbers k) q)
      go i h n at below (inr ne) = absurd (omega (arith, kept.rising i last (omega arith) (omega arith) n))

  ends : (l : Line) → slice_get lines last ≡ Some l → (m : Line) × (0 < length out) × (slice_get out (length out - 1) ≡ Some m) × (m.fact ≡ l.fact)
  ends l e =
      let (m, s, r) = kept.kept last l (omega arith) marked.goal e in
      let n : slice_index numbers last + 1 ≡ length out = last_number l e in
      let at : slice_index numbers last ≡ length out - 1 = omega arith in
      (m, omega arith, rw at at s, r.fact_is)

  used : (j : ℕ) → j + 1 < length out → (i : ℕ) × (m : Line) × (j < i) × (slice_get out i ≡ Some m) × Contains (premises_of m.step) j
  used j h = let (i, hi, n, e) = kept.from j (omega arith) in go i hi n e (same_or_not i last)
    where
      go : (i : ℕ) → i < last + 1 → Marked marks i → slice_index numbers i ≡ j → (i ≡ last) ⊎ (i ≡ last → ⊥) →
          (i : ℕ) × (m : Line) × (j < i) × (slice_get out i ≡ Some m) × Contains (premises_of m.step) j
      go i hi n e (inl q) =
          let at_last : slice_index numbers last ≡ j = ap (λ k. slice_index numbers k) (sym q) ∙ e in
          absurd (omega (arith, last_number (get_or lines last no_line) (line_of last no_line (omega arith))))
      go i hi n e (inr ne) =
          let w : IsWanted lines last marks i = marked.wanted i (omega arith) n in
          let (m, s, r) = kept.kept w.by w.line (omega (arith, w.within)) w.marked w.stands in
          let higher : slice_index numbers i < slice_index numbers w.by = kept.rising i w.by w.later (omega (arith, w.within)) n in
          (slice_index numbers w.by, m, omega arith, s, rw e at (r.names i w.names))

  -- the old line of a new one
  old_fact : (a : ℕ) → a < length out → (i : ℕ) × (slice_index numbers i ≡ a) × ((m : Line) → slice_get out a ≡ Some m → slice_get (facts_at lines) i ≡ Some m.fact)
  old_fact a h =
      let (i, hi, n, e) = kept.from a h in
      let (m, s, r) = kept.kept i (get_or lines i no_line) hi n (line_of i no_line hi) in (
        i,
        e,
        λ x t.
            let same : m ≡ x = same_Some m x (sym (rw e at s) ∙ t) in
            fact_stands lines i (get_or lines i no_line) (line_of i no_line hi) ∙ ap (λ (z : Fact). Some z) (sym r.fact_is ∙ ap (λ (y : Line). y.fact) same),
      )

  distinct : ((i j : ℕ) (f : Fact) → slice_get (facts_at lines) i ≡ Some f → slice_get (facts_at lines) j ≡ Some f → i ≡ j) →
      AllPairs (λ l m. l.fact ≢ m.fact) out
  distinct apart a b d h hb same =
      let (i, ei, fi) = old_fact a (omega arith) in
      let (j, ej, fj) = old_fact b hb in
      let si : slice_get (facts_at lines) i ≡ Some (get_or out a d).fact = fi (get_or out a d) (slice_get-get_or out a d (omega arith)) in
      let sj : slice_get (facts_at lines) j ≡ Some (get_or out b d).fact = fj (get_or out b d) (slice_get-get_or out b d hb) in
      let q : i ≡ j = apart i j (get_or out a d).fact si (sj ∙ ap (λ (z : Fact). Some z) (sym same)) in
      omega (arith, ap (λ k. slice_index numbers k) q)

  pub is_extract : length out ≤ last + 1 → IsExtract lines last out
  is_extract small = record { valid = kept.valid; short = omega arith; from_line = λ k m e. (let (i, q, f) = old_fact k (slice_get_within out k m e) in (i, f m e)); ends = ends; used = used; distinct = distinct }
