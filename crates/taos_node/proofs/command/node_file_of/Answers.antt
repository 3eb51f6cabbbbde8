use Rattle.taos_node.proofs.command.node_file_of.Goals as goal

pub open_node-requires : goal.open_node-requires
open_node-requires g c = record { fits = c.in_ok-opening.ensures.fits; objects = c.in_ok-opening.ensures.whole.few_objects }

pub returns-clause-gives : goal.returns-clause-gives
returns-clause-gives g c =
    let gives = c.in_ok-opening.ensures.gives in
    (gives.0, gives.1, c.in_ok-node.ensures.opened gives.0 gives.2)
