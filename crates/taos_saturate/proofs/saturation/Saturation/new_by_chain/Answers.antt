use Rattle.taos_saturate.proofs.Passing.{chain_covered, gap_known, gap_new}
use Rattle.taos_saturate.proofs.saturation.Saturation.new_by_chain.Goals as goal

pub returns-in-Some-speaks : goal.returns-in-Some-speaks
returns-in-Some-speaks c =
    gap_new c.args.self.now c.requires.ready c.args.left c.args.middle c.in-Some-gap.right c.in-Some.first c.in-Some-speaks.second
    c.requires.left_in c.in-Some-gap.ensures c.in-Some.ensures c.in-Some-speaks.ensures

pub returns-in_default-speaks : goal.returns-in_default-speaks
returns-in_default-speaks c =
    absurd (gap_known c.args.self.now c.requires.ready c.args.left c.args.middle c.in-Some-gap.right c.requires.middle_in c.in-Some-gap.ensures c.in_default-speaks.ensures)

pub returns-in_default-gap : goal.returns-in_default-gap
returns-in_default-gap c = chain_covered c.args.self.now c.requires.ready c.args.left c.args.middle c.requires.left_in c.in_default-gap.ensures
