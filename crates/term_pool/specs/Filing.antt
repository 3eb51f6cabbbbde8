-- Nodes in buckets by a hash, each bucket a chain from its last node to its first.
use Rattle.std.specs.Prelude.{◌≡◌, ℕ, suc, ◌+◌, ◌*◌, ◌%◌, ◌<◌, ◌≤◌, List, Some}
use Rattle.std.specs.Prelude.{slice_get, slice_index, length, vec_capacity}
use Rattle.taos_calculus.specs.declared.line.Node.{Node}
use Rattle.taos_calculus.specs.declared.proof.TheConstants.{MAX_NODES}
use Rattle.taos_calculus.specs.Tables.{IsNodeTable}
use Rattle.term_pool.specs.declared.region.Region.{Region}

-- the number of a node, which no other node has
abbrev pub mark_of : Node → ℕ
mark_of (Node.Key k) = k * 6
mark_of (Node.Name n) = n * 6 + 1
mark_of (Node.And a b) = (a * 65536 + b) * 6 + 2
mark_of (Node.Quote a b) = (a * 65536 + b) * 6 + 3
mark_of (Node.AsRole a r) = (a * 4294967296 + r) * 6 + 4
mark_of (Node.For a b) = (a * 65536 + b) * 6 + 5

-- the bucket of a node among so many
unfoldable pub bucket_of : ℕ → Node → ℕ
bucket_of count node = mark_of node % count

-- the node of number i is in the bucket
pub record IsInBucket (nodes : List Node) (count bucket i : ℕ) : Type 0 where
  pub node : Node
  pub stands : slice_get nodes i ≡ Some node
  pub bucket_is : bucket_of count node ≡ bucket

-- the link is one more than the number of the last node below n that is in the bucket, or 0 where
-- there is none
pub record LeadsTo (nodes : List Node) (count n bucket link : ℕ) : Type 0 where
  -- no node of the bucket comes after it
  pub last : (i : ℕ) → i < n → IsInBucket nodes count bucket i → i < link
  -- it is in the bucket
  pub there : (k : ℕ) → link ≡ suc k → (k < n) × IsInBucket nodes count bucket k

-- each bucket's head leads to its last node, and each node's link to the one before it in its bucket
pub record IsFiled (nodes : List Node) (links heads : List ℕ) : Type 0 where
  pub some_bucket : 0 < length heads
  pub long : length links ≡ length nodes
  -- each bucket's head leads to its last node
  pub heads_lead : (bucket : ℕ) → bucket < length heads →
      LeadsTo nodes (length heads) (length nodes) bucket (slice_index heads bucket)
  -- each node's link leads to the one before it in its bucket
  pub links_lead : (i : ℕ) (node : Node) → slice_get nodes i ≡ Some node →
      LeadsTo nodes (length heads) i (bucket_of (length heads) node) (slice_index links i)

-- the nodes are a table, each is filed, and there is room for as many as were asked for
pub record IsRegion (r : Region) : Type 0 where
  pub filed : IsFiled r.nodes.items r.links.items r.heads.items
  pub table : IsNodeTable r.nodes.items
  pub few : length r.nodes.items ≤ r.room
  pub small : r.room ≤ MAX_NODES
  pub node_room : r.room ≤ vec_capacity r.nodes
  pub link_room : r.room ≤ vec_capacity r.links
