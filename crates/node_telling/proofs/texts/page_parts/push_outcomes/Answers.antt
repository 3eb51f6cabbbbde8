-- the parts stand one after another
use Rattle.std.proofs.Common.{◌++◌, string_bytes}
use Rattle.std.specs.Prelude.{codes}
use Rattle.node_telling.specs.Samples.{heading, rows}
use Rattle.node_telling.specs.Page.{answers, causes, statuses}
use Rattle.node_telling.proofs.Appending.{appends_both, appends_last}
use Rattle.node_telling.proofs.texts.page_parts.push_outcomes.Goals as goal

pub returns : goal.returns
returns c =
    let s = c.args.status.now in
    let at_0 = string_bytes c.args.out.now in
    let at_1 = string_bytes c.push_heading.new.out in
    let at_2 = string_bytes c.push_rows.new.out in
    let at_3 = string_bytes c.push_heading-2.new.out in
    let at_4 = string_bytes c.push_rows-2.new.out in
    let at_5 = string_bytes c.push_heading-3.new.out in
    let at_6 = string_bytes c.push_rows-3.new.out in
    let part_1 = heading (codes "taosd_broken_total") (codes "Connections that ended otherwise than well, by the cause.") (codes "counter") in
    let part_2 = rows (codes "taosd_broken_total") (codes "cause") causes s.broken in
    let part_3 = heading (codes "taosd_replies_total") (codes "Replies of the node, by their status.") (codes "counter") in
    let part_4 = rows (codes "taosd_replies_total") (codes "status") statuses s.replies in
    let part_5 = heading (codes "taosd_answers_total") (codes "Answers of the relay, by their code.") (codes "counter") in
    let part_6 = rows (codes "taosd_answers_total") (codes "code") answers s.answers in
    let by_2 = appends_both at_0 at_1 at_2 part_1 part_2 c.in_ok-push_heading.ensures c.in_ok-push_rows.ensures in
    let by_3 = appends_both at_0 at_2 at_3 (part_1 ++ part_2) part_3 by_2 c.in_ok-push_heading-2.ensures in
    let by_4 = appends_both at_0 at_3 at_4 (part_1 ++ part_2 ++ part_3) part_4 by_3 c.in_ok-push_rows-2.ensures in
    let by_5 = appends_both at_0 at_4 at_5 (part_1 ++ part_2 ++ part_3 ++ part_4) part_5 by_4 c.in_ok-push_heading-3.ensures in
    appends_last at_0 at_5 at_6 (part_1 ++ part_2 ++ part_3 ++ part_4 ++ part_5) part_6 c.push_rows-3.result by_5 c.push_rows-3.ensures
