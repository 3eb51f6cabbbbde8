-- What a region's calls mean for the pool that it is.
use Rattle.std.proofs.Common.{◌≡◌, ℕ, ◌<◌, List, Option, None, Some, slice_get, length, sym, ap, ◌∙◌, arith}
use Rattle.std.specs.Prelude.{MatchOption}
use Rattle.std.proofs.lemmas.Option.{slice_get-get_or, slice_get_within, get_or_from_slice_get}
use Rattle.prin_term.specs.Principal.{Principal, Key}
use Rattle.taos_calculus.specs.Canonical.{post_order}
use Rattle.taos_calculus.specs.declared.line.Node.{Node}
use Rattle.taos_calculus.specs.Tables.{named, principals_of}
use Rattle.taos_calculus.proofs.Naming.{named_apart, named_reads, length-principals_of}
use Rattle.term_pool.specs.declared.region.Region.{Region}
use Rattle.term_pool.specs.Filing.{IsRegion}
use Rattle.term_pool.specs.Interning.{TakesIn}
use Rattle.term_pool.specs.Pool.{HasNumber, Interns, IsNodeAt, pool_of}
use Rattle.term_pool.proofs.Sought.{Absent, IsAt}

module _ (r : Region) (region : IsRegion r) where
  abbrev nodes : List Node
  nodes = r.nodes.items

  pub terms_long : length (pool_of r).terms ≡ length r.nodes.items
  terms_long = length-principals_of nodes

  -- a number stands for one principal only
  pub has_number : (p : Principal) (id : ℕ) → id < length nodes → named nodes id ≡ p → HasNumber (pool_of r) p id
  has_number p id h e = record {
    stands = slice_get-get_or (principals_of nodes) id (Key 0) (omega (arith, h, length-principals_of nodes)) ∙ ap (λ (q : Principal). Some q) e;
    only = λ i at.
        let low : i < length nodes = omega (arith, slice_get_within (principals_of nodes) i p at, length-principals_of nodes) in
        named_apart nodes region.table i id low h (get_or_from_slice_get (principals_of nodes) i p (Key 0) at ∙ sym e);
  }

  pub finds : (p : Principal) (found : Option ℕ) → MatchOption found (Absent nodes region.table p) (IsAt nodes region.table p) →
      MatchOption found ((i : ℕ) → slice_get (pool_of r).terms i ≡ Some p → ⊥) (HasNumber (pool_of r) p)
  finds p (Some i) h = has_number p i h.0 h.1
  finds p None none = λ i at.
      none i (omega (arith, slice_get_within (principals_of nodes) i p at, length-principals_of nodes)) (get_or_from_slice_get (principals_of nodes) i p (Key 0) at)

  pub node_at : (id : ℕ) (node : Node) → slice_get nodes id ≡ Some node → IsNodeAt (pool_of r) id node
  node_at id node at = record {
    operands = region.table.ordered id node at;
    stands = slice_get-get_or (principals_of nodes) id (Key 0) (omega (arith, slice_get_within nodes id node at, length-principals_of nodes)) ∙
        ap (λ (q : Principal). Some q) (named_reads nodes region.table id node at);
  }

  pub interned : (old : Region) (p : Principal) (id : ℕ) → r.room ≡ old.room → TakesIn old.nodes.items nodes (post_order p) p id → Interns (pool_of old) (pool_of r) p id
  interned old p id room t = record { terms = t.grown; room = room; number = has_number p id t.within t.named_is }
