-- Lines carried over, one line more.
use Rattle.std.proofs.Common.{◌≡◌, ◌⊎◌, inl, inr, ℕ, ◌<◌, ◌≤◌, List, [], ◌∷◌, ◌++◌, Some, slice_get, length, sym, ap, ap₂, subst, ◌∙◌, arith}
use Rattle.std.specs.List.{flat_map}
use Rattle.std.proofs.lemmas.List.{append-nil, length-append}
use Rattle.std.proofs.lemmas.List.Concat.{flat_map-append}
use Rattle.prin_term.specs.Principal.{Principal}
use Rattle.taos_calculus.specs.declared.line.Node.{Node}
use Rattle.taos_calculus.specs.declared.line.Fact.{Fact}
use Rattle.taos_calculus.specs.declared.line.Line.{Line}
use Rattle.taos_calculus.specs.declared.line.Step.{Step}
use Rattle.taos_calculus.specs.Rules.{SpeaksFor, Says}
use Rattle.taos_calculus.specs.Canonical.{post_order, terms_of}
use Rattle.stmt_codec.specs.Distinct.{met}
use Rattle.taos_calculus.specs.Tables.{IsBelow, judgement, named, principals_of}
use Rattle.taos_calculus.proofs.Building.{slice_get-front, slice_get-back}
use Rattle.stmt_codec.proofs.Firsts.{met-append}
use Rattle.term_pool.specs.Citing.{IsRecited}
use Rattle.term_pool.specs.Carrying.{CarriesFact, IsCarriedLine, CarriesLines}
use Rattle.term_pool.proofs.Interned.{pushed_at, met_length, met_named}

-- a table that has grown keeps what facts say
module _ (old new : List Node) (ps : List Principal) (e : principals_of new ≡ met (principals_of old) ps) where
  grown_length : length old ≤ length new
  grown_length = met_length old new ps e

  grown_named : (i : ℕ) → i < length old → named new i ≡ named old i
  grown_named i h = met_named old new ps e i h

  grown_below : (f : Fact) → IsBelow (length old) f → IsBelow (length new) f
  grown_below (Fact.Speaks a b) h = (omega (arith, h.0, grown_length), omega (arith, h.1, grown_length))
  grown_below (Fact.Says a b c) h = (omega (arith, h.0, grown_length), omega (arith, h.1, grown_length), omega (arith, h.2, grown_length))

  grown_says : (f : Fact) → IsBelow (length old) f → judgement (named new) f ≡ judgement (named old) f
  grown_says (Fact.Speaks a b) h = ap₂ SpeaksFor (grown_named a h.0) (grown_named b h.1)
  grown_says (Fact.Says a b c) h = (λ k. Says (grown_named a h.0 k) (grown_named b h.1 k) (grown_named c h.2 k))

module _ (nodes : List Node) (used : List ℕ) (lines : List Line) (new new' : List Node) (out : List Line) (l : Line) (f : Fact) (s : Step)
    (c : CarriesLines nodes used lines new out) (d : CarriesFact nodes new new' l.fact f) (r : IsRecited used l.step s) where
  abbrev ps : List Principal
  ps = flat_map post_order (terms_of (judgement (named nodes) l.fact))

  abbrev m : Line
  m = record { fact = f; step = s }

  abbrev terms : List Line → List Principal
  terms xs = flat_map (λ (x : Line). terms_of (judgement (named nodes) x.fact)) xs

  terms_more : flat_map post_order (terms (lines ++ l ∷ [])) ≡ flat_map post_order (terms lines) ++ ps
  terms_more =
      ap (flat_map post_order) (flat_map-append (λ (x : Line). terms_of (judgement (named nodes) x.fact)) lines (l ∷ []) ∙ ap (λ (t : List Principal). terms lines ++ t) (append-nil (terms_of (judgement (named nodes) l.fact)))) ∙
      flat_map-append post_order (terms lines) (terms_of (judgement (named nodes) l.fact))

  each_more : (i : ℕ) (x : Line) → slice_get (lines ++ l ∷ []) i ≡ Some x → (y : Line) × (slice_get (out ++ m ∷ []) i ≡ Some y) × IsCarriedLine nodes used new' x y
  each_more i x e = go (pushed_at lines l x i e)
    where
      go : (slice_get lines i ≡ Some x) ⊎ ((i ≡ length lines) × (l ≡ x)) → (y : Line) × (slice_get (out ++ m ∷ []) i ≡ Some y) × IsCarriedLine nodes used new' x y
      go (inl h) =
          let (y, at, is) = c.each i x h in (
            y,
            slice_get-front out (m ∷ []) i y at,
            record { below = grown_below new new' ps d.grown y.fact is.below; says = grown_says new new' ps d.grown y.fact is.below ∙ is.says; recited = is.recited },
          )
      go (inr (h, q)) = (
        m,
        slice_get-back out (m ∷ []) 0 i (omega (arith, h, c.long)),
        subst (λ (z : Line). IsCarriedLine nodes used new' z m) q record { below = d.below; says = d.says; recited = r },
      )

  pub carries_more : CarriesLines nodes used (lines ++ l ∷ []) new' (out ++ m ∷ [])
  carries_more = record {
    table = d.table;
    grown = d.grown ∙ ap (λ (t : List Principal). met t ps) c.grown ∙ sym (met-append [] (flat_map post_order (terms lines)) ps) ∙ ap (met []) (sym terms_more);
    long = omega (arith, c.long, length-append out (m ∷ []), length-append lines (l ∷ []));
    each = each_more;
  }
