-- The numbers that lines cite, one line more.
use Rattle.std.proofs.Common.{◌≡◌, ◌⊎◌, inl, inr, ℕ, ◌+◌, ◌<◌, ◌≤◌, Bool, List, Some, slice_get, length, Contains, sym, ◌∙◌, ap, arith}
use Rattle.std.proofs.lemmas.Option.{same_Some, slice_get_within}
use Rattle.taos_calculus.specs.declared.line.Line.{Line}
use Rattle.taos_calculus.specs.Tidy.{cites_of}
use Rattle.term_pool.specs.Citing.{IsCite, MarksCites}
use Rattle.term_pool.specs.Extract.{Marked}
use Rattle.term_pool.proofs.Orders.{same_or_not}

-- the numbers below n that the first i lines cite are marked, and none that no line cites
pub record MarksFirst (lines : List Line) (n i : ℕ) (marks : List Bool) : Type 0 where
  pub long : length marks ≡ n
  pub marked : (m k : ℕ) (x : Line) → m < i → slice_get lines m ≡ Some x → Contains (cites_of x.step) k → k < n → Marked marks k
  pub only : (k : ℕ) → Marked marks k → IsCite lines k

module _ (lines : List Line) (n i : ℕ) (old new : List Bool) (l : Line) (stands : slice_get lines i ≡ Some l)
    (same_length : length new ≡ length old) (kept : (k : ℕ) → Marked old k → Marked new k)
    (set : (k : ℕ) → Contains (cites_of l.step) k → k < length old → Marked new k)
    (only : (k : ℕ) → Marked new k → Marked old k ⊎ Contains (cites_of l.step) k)
    (before : MarksFirst lines n i old) where
  pub marks_next : MarksFirst lines n (i + 1) new
  marks_next = record {
    long = same_length ∙ before.long;
    marked = λ m k x h e c w. now m k x h e c w (same_or_not m i);
    only = λ k m. why k (only k m);
  }
    where
      now : (m k : ℕ) (x : Line) → m < i + 1 → slice_get lines m ≡ Some x → Contains (cites_of x.step) k → k < n →
          (m ≡ i) ⊎ (m ≡ i → ⊥) → Marked new k
      now m k x h e c w (inl q) =
          let same : x ≡ l = same_Some x l (sym e ∙ (ap (slice_get lines) q ∙ stands)) in
          set k (rw same at c) (omega (arith, before.long, w))
      now m k x h e c w (inr other) = kept k (before.marked m k x (omega arith) e c w)

      why : (k : ℕ) → Marked old k ⊎ Contains (cites_of l.step) k → IsCite lines k
      why k (inl o) = before.only k o
      why k (inr c) = record { at = i; line = l; stands = stands; names = c }

pub marks_all : (lines : List Line) (n i : ℕ) (marks : List Bool) → length lines ≤ i → MarksFirst lines n i marks → MarksCites lines n marks
marks_all lines n i marks h first = record {
  long = first.long;
  marked = λ k w c. first.marked c.at k c.line (omega (arith, slice_get_within lines c.at c.line c.stands)) c.stands c.names w;
  only = first.only;
}
