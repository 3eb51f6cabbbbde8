-- A list of first places holds nothing twice, so a canonical table is a table of nodes.
use Rattle.std.proofs.Common.{◌≡◌, ◌≢◌, inl, inr, ℕ, zero, suc, ◌<◌, List, [], ◌∷◌, Some, slice_get, length, get_or, sym, ◌∙◌, arith}
use Rattle.std.proofs.lemmas.List.Elements.{All-get_or}
use Rattle.std.proofs.lemmas.Option.{slice_get_within}
use Rattle.std.proofs.lemmas.Bool.{cases_order}
use Rattle.std.specs.List.{flat_map}
use Rattle.prin_term.specs.Principal.{Principal, Key}
use Rattle.taos_calculus.specs.Tables.{Parts, shape, IsNodeTable, principals_of, named, lines_of}
use Rattle.taos_calculus.specs.Canonical.{IsCanonical, post_order, terms_of}
use Rattle.taos_calculus.proofs.Naming.{ordered_reads, length-principals_of}
use Rattle.stmt_codec.proofs.Counts.{Apart, Apart-first_of_each}

apart_at : (ps : List Principal) → Apart ps → (i j : ℕ) (d : Principal) → i < j → j < length ps → get_or ps j d ≢ get_or ps i d
apart_at [] a i j d h fits = absurd (omega arith)
apart_at (p ∷ ps) a i zero d h fits = absurd (omega arith)
apart_at (p ∷ ps) a zero (suc j) d h fits = All-get_or (λ q. q ≢ p) ps j d (omega arith) a.0
apart_at (p ∷ ps) a (suc i) (suc j) d h fits = apart_at ps a.1 i j d (omega arith) (omega arith)

pub canonical_nodes : (parts : Parts) → IsCanonical parts → IsNodeTable parts.nodes
canonical_nodes parts h = record {
  ordered = h.ordered;
  distinct = λ i j node e f.
      let reads : (k : ℕ) → slice_get parts.nodes k ≡ Some node → named parts.nodes k ≡ shape (named parts.nodes) node
      = λ k g. ordered_reads parts.nodes h.ordered k node g in
      let fits : (k : ℕ) → slice_get parts.nodes k ≡ Some node → k < length (principals_of parts.nodes)
      = λ k g. omega (arith, slice_get_within parts.nodes k node g, length-principals_of parts.nodes) in
      let apart : Apart (principals_of parts.nodes) = rw h.table (Apart-first_of_each (flat_map post_order (flat_map (λ l. terms_of l.fact) (lines_of parts)))) in
      elim (cases_order i j) [
        | inl same ↦ same
        | inr (inl below) ↦ absurd (apart_at (principals_of parts.nodes) apart i j (Key 0) below (fits j f) (reads j f ∙ sym (reads i e)))
        | inr (inr above) ↦ absurd (apart_at (principals_of parts.nodes) apart j i (Key 0) above (fits i e) (reads i e ∙ sym (reads j f)))
      ];
}
