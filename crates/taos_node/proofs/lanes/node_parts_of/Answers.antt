use Rattle.taos_node.proofs.lanes.node_parts_of.Goals as goal

pub returns-clause-gives : goal.returns-clause-gives
returns-clause-gives g c =
    let gives = c.in_ok-opening.ensures.gives in
    (gives.0, gives.1, c.in_ok-parts.ensures.is_node gives.0 gives.2)
