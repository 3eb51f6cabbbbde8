use Rattle.taos_calculus.specs.declared.line.Node.{Node}
use Rattle.goal_search.proofs.Linked.{key_stands, name_stands, node_stands}
use Rattle.goal_search.proofs.gather.linked.Goals as goal

pub returns-in-Some-number_of_name : goal.returns-in-Some-number_of_name
returns-in-Some-number_of_name c = λ nodes table same. (
  key_stands nodes table c.args.pool.now.terms same c.in-Some.key c.args.anchor.key c.in-Some.ensures,
  name_stands nodes table c.args.pool.now.terms same c.in-Some-number_of_name.name c.args.anchor.name c.in-Some-number_of_name.ensures,
)

-- the name is not there
pub returns-in-None-number_of_name : goal.returns-in-None-number_of_name
returns-in-None-number_of_name c = λ nodes table same x y e f.
    c.in-None-number_of_name.ensures y (node_stands nodes table c.args.pool.now.terms same y (Node.Name c.args.anchor.name) f)

-- the key is not there
pub returns-in-None : goal.returns-in-None
returns-in-None c = λ nodes table same x y e f.
    c.in-None.ensures x (node_stands nodes table c.args.pool.now.terms same x (Node.Key c.args.anchor.key) e)
