-- A pool of principals, as its callers see it.
use Rattle.std.specs.Prelude.{◌≡◌, ℕ, ◌≤◌, List, Some, slice_get, slice_index_or, length}
use Rattle.prin_term.specs.Principal.{Principal, Key}
use Rattle.stmt_codec.specs.Distinct.{met}
use Rattle.taos_calculus.specs.Canonical.{post_order}
use Rattle.taos_calculus.specs.Tables.{OperandsBelow, principals_of, shape}
use Rattle.taos_calculus.specs.declared.line.Node.{Node}
use Rattle.term_pool.specs.declared.region.Region.{Region}

-- the principals that are there, each at its number, and how many there may be
pub record Pooled : Type 0 where
  pub terms : List Principal
  pub room : ℕ

-- the pool that a region is
abbrev pub pool_of : Region → Pooled
pool_of r = record { terms = principals_of r.nodes.items; room = r.room }

-- p has this number, and no other
pub record HasNumber (pool : Pooled) (p : Principal) (id : ℕ) : Type 0 where
  pub stands : slice_get pool.terms id ≡ Some p
  pub only : (i : ℕ) → slice_get pool.terms i ≡ Some p → i ≡ id

-- there is room for what is not there yet of the principal and its parts
abbrev pub HasRoomFor : Pooled → Principal → Type 0
HasRoomFor pool p = length (met pool.terms (post_order p)) ≤ pool.room

-- the new pool has, behind the principals of the old one, each part of p that was not there,
-- operands first, and p has the number id in it
pub record Interns (old new : Pooled) (p : Principal) (id : ℕ) : Type 0 where
  pub terms : new.terms ≡ met old.terms (post_order p)
  pub room : new.room ≡ old.room
  pub number : HasNumber new p id

-- the node is what stands at this number, by the numbers of its operands
pub record IsNodeAt (pool : Pooled) (id : ℕ) (node : Node) : Type 0 where
  pub operands : OperandsBelow id node
  pub stands : slice_get pool.terms id
      ≡ Some (shape (λ i. slice_index_or pool.terms i (Key 0)) node)
