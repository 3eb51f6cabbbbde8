use Rattle.std.proofs.Common.{refl}
use Rattle.std.proofs.lemmas.Option.{slice_get_within}
use Rattle.taos_calculus.specs.declared.line.Node.{Node}
use Rattle.goal_search.specs.Reasons.{both}
use Rattle.goal_search.specs.Searching.{core}
use Rattle.goal_search.proofs.Refusals.{never}
use Rattle.goal_search.proofs.Told.{node_below}
use Rattle.goal_search.proofs.search.Search.both_gap.Goals as goal

pub has-requires-clause-number_in : goal.has-requires-clause-number_in
has-requires-clause-number_in c = (node_below (core c.args.self.now) c.requires.ready c.args.whole (Node.And c.args.a c.args.b) c.requires.whole_in).0

pub has-requires-then-has-clause-number_in : goal.has-requires-then-has-clause-number_in
has-requires-then-has-clause-number_in c = (node_below (core c.args.self.now) c.requires.ready c.args.whole (Node.And c.args.a c.args.b) c.requires.whole_in).1

pub has-requires-then-has-2-clause-number_in : goal.has-requires-then-has-2-clause-number_in
has-requires-then-has-2-clause-number_in c = slice_get_within c.args.self.now.nodes.items c.args.whole (Node.And c.args.a c.args.b) c.requires.whole_in

pub returns-then-not-has : goal.returns-then-not-has
returns-then-not-has c = (
  c.requires.row_in,
  slice_get_within c.args.self.now.nodes.items c.args.whole (Node.And c.args.a c.args.b) c.requires.whole_in,
  λ h. never (c.if-not-has.ensures.1 h),
  both c.requires.whole_in (c.if-has.ensures.0 refl) (c.if-has-2.ensures.0 refl) refl,
)
