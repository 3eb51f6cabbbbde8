use Rattle.std.proofs.Common.{◌≤◌, take, length}
use Rattle.std.specs.Prelude.{vec_capacity}
use Rattle.goal_search.specs.Taking.{LinksAnchors}
use Rattle.goal_search.proofs.gather.link_anchors.Given as goal

abbrev pub invariant-loop-i : goal.invariant-loop-i
invariant-loop-i l = record {
  linked : LinksAnchors l.pool (take l.i l.anchors) l.links.items;
  few : length l.links.items ≤ l.i;
  capacity : vec_capacity l.fn.links ≤ vec_capacity l.links;
}
