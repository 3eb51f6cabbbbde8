-- The lines of a held decider are found for its question.
use Rattle.std.proofs.Common.{◌≡◌, ℕ, Some, slice_get, length, refl}
use Rattle.taos_calculus.specs.declared.line.Fact.{Fact}
use Rattle.taos_calculus.specs.Tables.{IsBelow}
use Rattle.term_pool.specs.Taking.{Findings, AreFoundFor}
use Rattle.taos_saturate.specs.declared.held.Held.{Held}
use Rattle.taos_saturate.specs.declared.saturation.Saturation.{Saturation}
use Rattle.taos_saturate.specs.Held.{IsHeld, seen}
use Rattle.taos_saturate.specs.Saturating.{IsReady, facts_of}
use Rattle.term_pool.proofs.Cells.{facts_apart}
use Rattle.taos_saturate.proofs.Steps.{speaks_in, says_in}

module _ (s : Saturation) (ready : IsReady s) where
  fact_below : (n : ℕ) (f : Fact) → slice_get (facts_of s) n ≡ Some f → IsBelow (length s.nodes.items) f
  fact_below n (Fact.Speaks a b) e = speaks_in s ready n a b e
  fact_below n (Fact.Says w a b) e = says_in s ready n w a b e

-- what a held decider found
abbrev pub findings : Held → Findings
findings h = record { nodes = h.table.nodes.items; cited = h.table.cited.items; lines = h.table.found.lines.items }

pub found_for : (h : Held) → IsHeld h → AreFoundFor (seen h) (findings h)
found_for h held = record {
  table = held.good.ready.table;
  chosen_is = refl;
  places_apart = held.apart;
  follow = held.good.sound;
  below = fact_below h.table held.good.ready;
  distinct = facts_apart h.table.found held.good.ready.found;
}
