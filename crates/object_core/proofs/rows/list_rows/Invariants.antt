use Rattle.std.proofs.Common.{map, take}
use Rattle.object_core.specs.Numbered.{AreRowsOf}
use Rattle.object_core.specs.Shelving.{fixed_of, numbers_of}
use Rattle.object_core.proofs.rows.list_rows.Given as goal

abbrev pub invariant-loop-place : goal.invariant-loop-place
invariant-loop-place l = AreRowsOf (numbers_of (map fixed_of (take l.place l.objects))) l.rows.items
