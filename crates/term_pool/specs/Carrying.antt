-- Carrying facts over to the table of their own terms.
use Rattle.std.specs.Prelude.{◌≡◌, ◌≢◌, ℕ, ◌<◌, List, [], Some, slice_get, length}
use Rattle.std.specs.List.{flat_map}
use Rattle.taos_calculus.specs.declared.line.Node.{Node}
use Rattle.taos_calculus.specs.declared.line.Fact.{Fact}
use Rattle.taos_calculus.specs.Canonical.{post_order, terms_of}
use Rattle.stmt_codec.specs.Distinct.{met}
use Rattle.taos_calculus.specs.Tables.{IsNodeTable, IsBelow, judgement, named, principals_of}
use Rattle.taos_calculus.specs.declared.line.Line.{Line}
use Rattle.term_pool.specs.Citing.{IsRecited}
use Rattle.term_pool.specs.Interning.{Fits}

-- the new table is not too large with the fact's terms in it
abbrev pub FactFits : List Node → List Node → Fact → Type 0
FactFits nodes new fact = Fits new (flat_map post_order (terms_of (judgement (named nodes) fact)))

-- the numbers of the terms that were carried, by their old numbers; 65535 marks the others
pub record AreCarried (nodes new : List Node) (numbers : List ℕ) : Type 0 where
  pub long : length numbers ≡ length nodes
  -- each number but the mark is that of the same principal
  pub same : (i k : ℕ) → slice_get numbers i ≡ Some k → k ≢ 65535 →
      (k < length new) × (named new k ≡ named nodes i)

-- the new table has grown by the fact's terms, and the carried fact says the same
pub record CarriesFact (nodes old new : List Node) (fact carried : Fact) : Type 0 where
  pub table : IsNodeTable new
  pub grown :
      principals_of new ≡
      met (principals_of old) (flat_map post_order (terms_of (judgement (named nodes) fact)))
  pub below : IsBelow (length new) carried
  pub says : judgement (named new) carried ≡ judgement (named nodes) fact

-- the line m over the new table says what l says, with its certificate by the place in used
pub record IsCarriedLine (nodes : List Node) (used : List ℕ)
    (new : List Node) (l m : Line) : Type 0 where
  pub below : IsBelow (length new) m.fact
  pub says : judgement (named new) m.fact ≡ judgement (named nodes) l.fact
  pub recited : IsRecited used l.step m.step

-- out are the lines over the table of their own terms, with their certificates by the places in
-- used
pub record CarriesLines (nodes : List Node) (used : List ℕ)
    (lines : List Line) (new : List Node) (out : List Line) : Type 0 where
  pub table : IsNodeTable new
  pub grown :
      principals_of new ≡
      met [] (flat_map post_order
      (flat_map (λ (l : Line). terms_of (judgement (named nodes) l.fact)) lines))
  pub long : length out ≡ length lines
  pub each : (i : ℕ) (l : Line) → slice_get lines i ≡ Some l →
      (m : Line) × (slice_get out i ≡ Some m) × IsCarriedLine nodes used new l m
