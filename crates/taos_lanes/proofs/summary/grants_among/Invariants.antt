use Rattle.std.proofs.Common.{◌≡◌, ◌≤◌, map, take}
use Rattle.std.specs.Prelude.{count_by}
use Rattle.object_core.specs.Objects.{ObjectEntry, is_grant}
use Rattle.object_core.specs.ObjectView.{object_entry}
use Rattle.taos_lanes.proofs.summary.grants_among.Given as goal

abbrev pub invariant-loop-entry : goal.invariant-loop-entry
invariant-loop-entry l = (l.count ≡ count_by (λ (e : ObjectEntry). is_grant e.ruling) (map object_entry (take l.entry-index l.fn.journal))) × (l.count ≤ l.entry-index)
