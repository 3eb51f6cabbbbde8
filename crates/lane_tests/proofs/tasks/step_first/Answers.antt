use Rattle.lane_tests.proofs.tasks.step_first.Goals as goal

pub step-requires-clause-meant : goal.step-requires-clause-meant
step-requires-clause-meant g c = λ plan at. c.requires.meant plan ((g.S.Shards.shown c.args.shards.now).seen 0)
