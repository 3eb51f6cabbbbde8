-- the members stand one after another
use Rattle.std.proofs.Common.{ℕ, ◌++◌, ◌∙◌, ap}
use Rattle.std.specs.Prelude.{codes}
use Rattle.node_telling.specs.Members.{counted, counted_if}
use Rattle.node_telling.specs.NoticeLines.{link_members}
use Rattle.node_telling.proofs.Appending.{appends_both, appends_last}
use Rattle.node_telling.proofs.texts.notices.put_reply.Goals as goal

pub returns-clause-put : goal.returns-clause-put
returns-clause-put c =
    let front = c.args.front in
    let at_0 = c.args.out.now.tokens in
    let at_1 = c.put_short.new.out.tokens in
    let at_2 = c.put_number.new.out.tokens in
    let at_3 = c.put_link.new.out.tokens in
    let at_4 = c.put_byte.new.out.tokens in
    let at_5 = c.put_short-2.new.out.tokens in
    let at_6 = c.put_some.new.out.tokens in
    let part_1 = counted_if (codes "channel") front.head.unknown in
    let part_2 = counted (codes "status") front.head.status in
    let part_3 = link_members front.link in
    let part_4 = counted_if (codes "code") front.code in
    let part_5 = counted_if (codes "shard") front.head.shard in
    let part_6 = counted_if (codes "place") front.head.place in
    let by_2 = appends_both at_0 at_1 at_2 part_1 part_2 c.in_ok-put_short.ensures.put (c.in_ok-put_number.ensures.put ∙ ap (λ (n : ℕ). at_1 ++ counted (codes "status") n) c.from.ensures) in
    let by_3 = appends_both at_0 at_2 at_3 (part_1 ++ part_2) part_3 by_2 c.in_ok-put_link.ensures.put in
    let by_4 = appends_both at_0 at_3 at_4 (part_1 ++ part_2 ++ part_3) part_4 by_3 c.in_ok-put_byte.ensures.put in
    let by_5 = appends_both at_0 at_4 at_5 (part_1 ++ part_2 ++ part_3 ++ part_4) part_5 by_4 c.in_ok-put_short-2.ensures.put in
    appends_last at_0 at_5 at_6 (part_1 ++ part_2 ++ part_3 ++ part_4 ++ part_5) part_6 c.put_some.result by_5 c.put_some.ensures.put
