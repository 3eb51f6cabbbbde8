-- Taking a question into a pool of principals.
use Rattle.std.specs.Prelude.{◌≡◌, ℕ, ◌+◌, ◌≤◌, Bool, true, List, ◌++◌, Some, length, slice_get, slice_index_or}
use Rattle.prin_term.specs.declared.term.Anchor.{Anchor}
use Rattle.prin_term.specs.Principal.{Principal, Key}
use Rattle.taos_calculus.specs.declared.line.Node.{Node}
use Rattle.taos_calculus.specs.Rules.{Claim}
use Rattle.taos_calculus.specs.Tables.{IsNodeTable, principals_of}
use Rattle.term_pool.specs.Claims.{CitedIn, claim_by}
use Rattle.term_pool.specs.declared.cited.Cited.{Cited}
use Rattle.term_pool.specs.Pool.{Pooled}
use Rattle.goal_search.specs.declared.search.Anchored.{Anchored}
use Rattle.goal_search.specs.Searching.{AreAnchored}

-- the principal of a number
abbrev pub principal_at : Pooled → ℕ → Principal
principal_at pool i = slice_index_or pool.terms i (Key 0)

-- the new pool has the old one's principals in front, and at most n more
pub record Widens (old new : Pooled) (n : ℕ) : Type 0 where
  pub more : List Principal
  pub longer : new.terms ≡ old.terms ++ more
  pub few : length new.terms ≤ length old.terms + n
  pub room : new.room ≡ old.room

-- of the certificates that are held, those that are taken make the claims of their places, by the
-- numbers of the pool, and each has its place
pub record Holds (pool : Pooled) (held : List Cited) (claims : List Claim)
    (taken : List Bool) : Type 0 where
  pub held_in : (i : ℕ) (c : Cited) → slice_get held i ≡ Some c → slice_get taken i ≡ Some true →
      CitedIn (length pool.terms) c
  pub claims_are : (i : ℕ) (c : Cited) → slice_get held i ≡ Some c → slice_get taken i ≡ Some true →
      slice_get claims i ≡ Some (claim_by (principal_at pool) c)
  pub placed : (i : ℕ) (c : Cited) → slice_get held i ≡ Some c → c.place ≡ i

-- the table lacks the anchor's key, or its name
abbrev pub IsUnlinked : List Node → Anchor → Type 0
IsUnlinked nodes anchor =
    (key name : ℕ) → slice_get nodes key ≡ Some (Node.Key anchor.key) →
    slice_get nodes name ≡ Some (Node.Name anchor.name) → ⊥

-- these are the numbers of the anchor's key and of its name in the table
abbrev pub LinksOne : List Node → Anchor → Anchored → Type 0
LinksOne nodes anchor link =
    (slice_get nodes link.key ≡ Some (Node.Key anchor.key))
    × (slice_get nodes link.name ≡ Some (Node.Name anchor.name))

-- these are the anchors by number, in whatever table has the pool's principals
abbrev pub LinksAnchors : Pooled → List Anchor → List Anchored → Type 0
LinksAnchors pool anchors links =
    (nodes : List Node) → IsNodeTable nodes → principals_of nodes ≡ pool.terms →
    AreAnchored nodes anchors links
