-- Where the chains are known that begin with a line that is no chain, all chains are known.
use Rattle.std.proofs.Common.{◌≡◌, ℕ, zero, suc, ◌<◌, List, [], Some, slice_get, length, sym, ◌∙◌, ap, subst, arith}
use Rattle.std.proofs.lemmas.Option.{same_Some, slice_get_within}
use Rattle.taos_calculus.specs.declared.line.Fact.{Fact}
use Rattle.taos_calculus.specs.declared.line.Step.{Step}
use Rattle.taos_calculus.specs.declared.line.Line.{Line}
use Rattle.taos_calculus.specs.Numbered.{Gives, chain}
use Rattle.taos_saturate.specs.declared.saturation.Saturation.{Saturation}
use Rattle.taos_saturate.specs.Saturating.{facts_of, claims_in, IsReady, IsSound, IsNumber, IsKnown, IsNoChain, ChainFull, LineFull}
use Rattle.term_pool.proofs.Keeping.{fact_stands, gives_before, line_stands}
use Rattle.taos_saturate.proofs.Steps.{speaks_in}

module _ (s : Saturation) (k : ℕ) (line : Line) (at : slice_get s.found.lines.items k ≡ Some line) where
  one_line : (other : Line) → slice_get s.found.lines.items k ≡ Some other → line ≡ other
  one_line other e = same_Some line other (sym at ∙ e)

  pub line_in : IsReady s → (l m : ℕ) → line.fact ≡ Fact.Speaks l m → IsNumber s l × IsNumber s m
  line_in ready l m is = speaks_in s ready k l m (fact_stands s.found.lines.items k line at ∙ ap (λ (f : Fact). Some f) is)

  pub full_by_chain : (a b : ℕ) → line.step ≡ Step.Chain a b → LineFull s k
  full_by_chain a b is other l m e fact free =
      absurd (subst IsNoChain (ap (λ (x : Line). x.step) (sym (one_line other e)) ∙ is) free)

  pub full_by_says : (w a b : ℕ) → line.fact ≡ Fact.Says w a b → LineFull s k
  full_by_says w a b is other l m e fact free =
      let q : Fact.Says w a b ≡ Fact.Speaks l m = sym is ∙ ap (λ (x : Line). x.fact) (one_line other e) ∙ fact in absurd (cc)

  pub full_by_speaks : (a b : ℕ) → line.fact ≡ Fact.Speaks a b → ChainFull s a b → LineFull s k
  full_by_speaks a b is full other l m e fact free =
      let q : Fact.Speaks a b ≡ Fact.Speaks l m = sym is ∙ ap (λ (x : Line). x.fact) (one_line other e) ∙ fact in
      let ql : a ≡ l = cc in
      let qm : b ≡ m = cc in
      rw (ql, qm) at full

module _ (s : Saturation) (sound : IsSound s) (base : (k : ℕ) → k < length s.found.lines.items → LineFull s k) where
  -- chains that begin with a fact before the number n are known
  abbrev Passes : ℕ → Type 0
  Passes n = (i j l m r : ℕ) → i < n → slice_get (facts_of s) i ≡ Some (Fact.Speaks l m) → slice_get (facts_of s) j ≡ Some (Fact.Speaks m r) → IsKnown s (Fact.Speaks l r)

  -- by what the step of a line rests on
  through : (n i j l m r : ℕ) (step : Step) (front : List Fact) → Passes n → i < suc n →
      ((k : ℕ) (x : Fact) → slice_get front k ≡ Some x → (k < i) × (slice_get (facts_of s) k ≡ Some x)) →
      Gives s.nodes.items s.anchors.items (claims_in s) front (Fact.Speaks l m) step → (IsNoChain step → ChainFull s l m) →
      slice_get (facts_of s) i ≡ Some (Fact.Speaks l m) → slice_get (facts_of s) j ≡ Some (Fact.Speaks m r) → IsKnown s (Fact.Speaks l r)
  through n i j l m r (Step.Chain a b) front before h stand (chain {b = k} p q) full e f =
      let (ha, fa) = stand a (Fact.Speaks l k) p in
      let (hb, fb) = stand b (Fact.Speaks k m) q in
      let (t, rest) = before b j k m r (omega (arith, hb, h)) fb f in
      before a t l k r (omega (arith, ha, h)) fa rest
  through n i j l m r step front before h stand g full e f = full tt i j r e f

  passes_more : (n : ℕ) → Passes n → Passes (suc n)
  passes_more n before i j l m r h e f =
      let (line, at, is) = line_stands s.found.lines.items i (Fact.Speaks l m) e in
      let (front, stand, gives) = gives_before s.nodes.items s.anchors.items (claims_in s) [] s.found.lines.items i line sound at in
      through n i j l m r line.step front before h (λ k x t. (omega (arith, (stand k x t).0), (stand k x t).1)) (subst (λ (x : Fact). Gives s.nodes.items s.anchors.items (claims_in s) front x line.step) is gives)
      (base i (slice_get_within s.found.lines.items i line at) line l m at is) e f

  passes : (n : ℕ) → Passes n
  passes zero i j l m r h e f = absurd (omega (arith, h))
  passes (suc n) i j l m r h e f = passes_more n (passes n) i j l m r h e f

  pub chains_all : (l m : ℕ) → ChainFull s l m
  chains_all l m i j r e f = passes (suc i) i j l m r (omega arith) e f
