use Rattle.std.proofs.Common.{◌≡◌, ◌≤◌, take}
use Rattle.std.specs.Prelude.{vec_capacity}
use Rattle.term_pool.proofs.anchors.keep_anchors.Given as goal

abbrev pub invariant-loop-i : goal.invariant-loop-i
invariant-loop-i l = record {
  kept : l.kept.items ≡ take l.i l.anchors;
  capacity : vec_capacity l.fn.kept ≤ vec_capacity l.kept;
}
