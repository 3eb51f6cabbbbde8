-- the members stand one after another
use Rattle.std.proofs.Common.{◌++◌}
use Rattle.std.specs.Prelude.{codes}
use Rattle.node_telling.specs.Members.{counted, counted_if}
use Rattle.node_telling.proofs.Appending.{appends_both, appends_last}
use Rattle.node_telling.proofs.texts.start.put_bounds.Goals as goal

pub returns-clause-put : goal.returns-clause-put
returns-clause-put c =
    let b = c.args.bounds in
    let at_0 = c.args.out.now.tokens in
    let at_1 = c.put_number.new.out.tokens in
    let at_2 = c.put_short.new.out.tokens in
    let at_3 = c.put_some.new.out.tokens in
    let at_4 = c.put_some-2.new.out.tokens in
    let at_5 = c.put_some-3.new.out.tokens in
    let part_1 = counted (codes "lanes") b.lanes in
    let part_2 = counted_if (codes "clients") b.clients in
    let part_3 = counted_if (codes "connections") b.connections in
    let part_4 = counted_if (codes "frames") b.frames in
    let part_5 = counted_if (codes "idle") b.idle in
    let by_2 = appends_both at_0 at_1 at_2 part_1 part_2 c.in_ok-put_number.ensures.put c.in_ok-put_short.ensures.put in
    let by_3 = appends_both at_0 at_2 at_3 (part_1 ++ part_2) part_3 by_2 c.in_ok-put_some.ensures.put in
    let by_4 = appends_both at_0 at_3 at_4 (part_1 ++ part_2 ++ part_3) part_4 by_3 c.in_ok-put_some-2.ensures.put in
    appends_last at_0 at_4 at_5 (part_1 ++ part_2 ++ part_3 ++ part_4) part_5 c.put_some-3.result by_4 c.put_some-3.ensures.put
