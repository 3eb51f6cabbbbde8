-- the parts stand one after another
use Rattle.std.proofs.Common.{◌++◌, string_bytes}
use Rattle.node_telling.specs.Page.{faults_text, journals_text, outcomes_text, service_text, times_text}
use Rattle.node_telling.proofs.Appending.{appends_both, appends_last}
use Rattle.node_telling.proofs.texts.page.push_parts.Goals as goal

pub returns : goal.returns
returns c =
    let s = c.args.status.now in
    let at_0 = string_bytes c.args.out.now in
    let at_1 = string_bytes c.push_service.new.out in
    let at_2 = string_bytes c.push_outcomes.new.out in
    let at_3 = string_bytes c.push_times.new.out in
    let at_4 = string_bytes c.push_faults.new.out in
    let at_5 = string_bytes c.push_journals.new.out in
    let part_1 = service_text c.args.version.now s in
    let part_2 = outcomes_text s in
    let part_3 = times_text s in
    let part_4 = faults_text s in
    let part_5 = journals_text s in
    let by_2 = appends_both at_0 at_1 at_2 part_1 part_2 c.in_ok-push_service.ensures c.in_ok-push_outcomes.ensures in
    let by_3 = appends_both at_0 at_2 at_3 (part_1 ++ part_2) part_3 by_2 c.in_ok-push_times.ensures in
    let by_4 = appends_both at_0 at_3 at_4 (part_1 ++ part_2 ++ part_3) part_4 by_3 c.in_ok-push_faults.ensures in
    appends_last at_0 at_4 at_5 (part_1 ++ part_2 ++ part_3 ++ part_4) part_5 c.push_journals.result by_4 c.push_journals.ensures
