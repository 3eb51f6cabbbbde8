-- the parts stand one after another
use Rattle.std.proofs.Common.{◌++◌, string_bytes}
use Rattle.std.specs.Prelude.{codes}
use Rattle.node_telling.specs.Samples.{single}
use Rattle.node_telling.proofs.Appending.{appends_both, appends_last}
use Rattle.node_telling.proofs.texts.page_parts.push_outside.Goals as goal

pub returns : goal.returns
returns c =
    let s = c.args.status.now in
    let at_0 = string_bytes c.args.out.now in
    let at_1 = string_bytes c.push_single.new.out in
    let at_2 = string_bytes c.push_single-2.new.out in
    let at_3 = string_bytes c.push_single-3.new.out in
    let part_1 = single (codes "taosd_relay_calls_total") (codes "Calls of the link to the relay.") (codes "counter") s.relay_calls in
    let part_2 = single (codes "taosd_relay_faults_total") (codes "Calls of the link that failed.") (codes "counter") s.relay_faults in
    let part_3 = single (codes "taosd_clock_faults_total") (codes "Readings of the clock that failed or were not believed.") (codes "counter") s.clock_faults in
    let by_2 = appends_both at_0 at_1 at_2 part_1 part_2 c.in_ok-push_single.ensures c.in_ok-push_single-2.ensures in
    appends_last at_0 at_2 at_3 (part_1 ++ part_2) part_3 c.push_single-3.result by_2 c.push_single-3.ensures
