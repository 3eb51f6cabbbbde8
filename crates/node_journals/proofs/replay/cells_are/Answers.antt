use Rattle.node_journals.proofs.replay.cells_are.Goals as goal

pub returns : goal.returns
returns c = λ o r. c.cells_are_of.ensures c.args.node.now o r c.count-channels.ensures.sound c.count-objects.ensures.sound
