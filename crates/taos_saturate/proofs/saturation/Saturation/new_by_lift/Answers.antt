use Rattle.taos_saturate.proofs.Passing.{lift_covered, says_gap_known, lift_new}
use Rattle.taos_saturate.proofs.saturation.Saturation.new_by_lift.Goals as goal

pub returns-in-Some-speaks : goal.returns-in-Some-speaks
returns-in-Some-speaks c =
    lift_new c.args.self.now c.requires.ready c.args.who c.in-Some-row.row c.in-Some-gap.other c.in-Some.says c.in-Some-speaks.speaks c.statement-statement.result
    c.in-Some-row.ensures c.in-Some-gap.ensures c.in-Some.ensures c.in-Some-speaks.ensures

pub returns-in_default-speaks : goal.returns-in_default-speaks
returns-in_default-speaks c =
    absurd (says_gap_known c.args.self.now c.requires.ready c.args.who c.in-Some-row.row c.in-Some-gap.other c.requires.who_in c.in-Some-gap.ensures c.in_default-speaks.ensures)

pub returns-in_default-gap : goal.returns-in_default-gap
returns-in_default-gap c =
    lift_covered c.args.self.now c.requires.ready c.args.who c.args.place c.in-Some-row.row c.statement-statement.result c.statement-statement.ensures c.in-Some-row.ensures c.in_default-gap.ensures
