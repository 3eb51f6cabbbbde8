use Rattle.std.proofs.Common.{Some, sym, ◌∙◌, ap}
use Rattle.std.proofs.lemmas.Option.{slice_get-get_or}
use Rattle.taos_calculus.specs.declared.line.Node.{Node}
use Rattle.goal_search.specs.Searching.{core}
use Rattle.goal_search.proofs.Told.{node_below}
use Rattle.goal_search.proofs.search.Search.node.Goals as goal

-- operands come first
pub returns-clause-operands : goal.returns-clause-operands
returns-clause-operands c =
    node_below (core c.args.self.now) c.requires.ready c.args.id c.index.result.now
    (slice_get-get_or c.args.self.now.nodes.items c.args.id c.index.result.now c.requires.id_in ∙ ap (λ (n : Node). Some n) (sym c.index.ensures))
