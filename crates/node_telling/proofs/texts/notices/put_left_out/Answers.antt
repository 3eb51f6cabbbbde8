-- the members stand one after another
use Rattle.std.specs.Prelude.{codes}
use Rattle.node_telling.specs.Members.{counted, first_members}
use Rattle.node_telling.proofs.Appending.{appends_last}
use Rattle.node_telling.proofs.texts.notices.put_left_out.Goals as goal

pub returns-clause-put : goal.returns-clause-put
returns-clause-put c =
    let at_0 = c.args.out.now.tokens in
    let at_1 = c.put_first.new.out.tokens in
    let at_2 = c.put_number.new.out.tokens in
    let part_1 = first_members c.args.left_out.now.seconds (codes "warning") (codes "left-out") in
    let part_2 = counted (codes "lines") c.args.left_out.now.count in
    appends_last at_0 at_1 at_2 part_1 part_2 c.put_number.result c.in_ok-put_first.ensures.put c.put_number.ensures.put
