-- the members stand one after another
use Rattle.std.proofs.Common.{◌++◌}
use Rattle.std.specs.Prelude.{codes}
use Rattle.node_telling.specs.Members.{first_members}
use Rattle.node_telling.specs.Starts.{bound_members, address_members, served_members}
use Rattle.node_telling.proofs.Appending.{appends_both, appends_last}
use Rattle.node_telling.proofs.texts.start.put_started.Goals as goal

pub returns-clause-put : goal.returns-clause-put
returns-clause-put c =
    let s = c.args.started.now in
    let at_0 = c.args.out.now.tokens in
    let at_1 = c.put_first.new.out.tokens in
    let at_2 = c.put_served.new.out.tokens in
    let at_3 = c.put_bounds.new.out.tokens in
    let at_4 = c.put_addresses.new.out.tokens in
    let part_1 = first_members s.seconds (codes "info") (codes "started") in
    let part_2 = served_members s.served in
    let part_3 = bound_members s.bounds in
    let part_4 = address_members s.addresses in
    let by_2 = appends_both at_0 at_1 at_2 part_1 part_2 c.in_ok-put_first.ensures.put c.in_ok-put_served.ensures.put in
    let by_3 = appends_both at_0 at_2 at_3 (part_1 ++ part_2) part_3 by_2 c.in_ok-put_bounds.ensures.put in
    appends_last at_0 at_3 at_4 (part_1 ++ part_2 ++ part_3) part_4 c.put_addresses.result by_3 c.put_addresses.ensures.put
