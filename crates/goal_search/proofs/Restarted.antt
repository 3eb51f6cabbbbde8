-- A table with no row begun is ready.
use Rattle.std.proofs.Common.{◌≡◌, ℕ, ◌+◌, ◌*◌, ◌≤◌, [], slice_index, length, All, arith}
use Rattle.std.proofs.lemmas.List.Elements.{All-nil}
use Rattle.std.proofs.Math.Dec.{eqb}
use Rattle.std.proofs.lemmas.Map.Keys.{IsDistinct-from_apart}
use Rattle.std.proofs.lemmas.Nat.{mul-le}
use Rattle.taos_calculus.specs.Tables.{IsNodeTable}
use Rattle.term_pool.specs.Claims.{CitedIn}
use Rattle.goal_search.specs.Cells.{AreCells}
use Rattle.goal_search.specs.Searching.{about, AreAnchored, Core, Has, IsBegun, IsReady, IsRow}

-- the cells of the largest table
pub cells_fit : (n m : ℕ) → n ≤ 1296 → m ≤ 64 → n * (n + m) ≤ 1762560
cells_fit n m h k = omega (arith, mul-le n (n + m) 1296 1360 h (omega (arith, h, k)))

pub restarted : (s : Core) → AreCells s.cells → s.cells.width ≡ length s.nodes → s.cells.rows ≡ length s.nodes + length s.cited → IsNodeTable s.nodes → length s.nodes ≤ 1296 → length s.cited ≤ 64 →
    All (CitedIn (length s.nodes)) s.cited → length s.anchors ≤ 64 → length s.links ≤ 64 → AreAnchored s.nodes s.anchors s.links →
    ((place : ℕ) → slice_index s.cells.cells.items place ≡ 0) → s.wanted ≡ [] → IsReady s
restarted s cells width rows table nodes cited within anchors links anchored empty none = record {
  cells = cells;
  width_is = width;
  rows_are = rows;
  table = table;
  few_nodes = nodes;
  few_cited = cited;
  cited_in = within;
  few_anchors = anchors;
  few_links = links;
  anchored = anchored;
  grounded = λ row number h. absurd (h.1 (empty (row * s.cells.width + number)));
  wanted = rw none (All-nil (λ x. IsRow s x × IsBegun (about s) (Has s) x));
  wanted_once = rw none (IsDistinct-from_apart eqb [] (λ i j d h k. absurd (omega arith)));
}
