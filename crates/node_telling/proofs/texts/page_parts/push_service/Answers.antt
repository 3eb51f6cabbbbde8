-- the parts stand one after another
use Rattle.std.proofs.Common.{◌++◌, string_bytes}
use Rattle.std.specs.Prelude.{codes}
use Rattle.node_telling.specs.Samples.{heading, label, sample, single}
use Rattle.node_telling.proofs.Appending.{appends_both, appends_last}
use Rattle.node_telling.proofs.texts.page_parts.push_service.Goals as goal

pub returns : goal.returns
returns c =
    let s = c.args.status.now in
    let at_0 = string_bytes c.args.out.now in
    let at_1 = string_bytes c.push_heading.new.out in
    let at_2 = string_bytes c.push_row.new.out in
    let at_3 = string_bytes c.push_single.new.out in
    let at_4 = string_bytes c.push_single-2.new.out in
    let at_5 = string_bytes c.push_single-3.new.out in
    let part_1 = heading (codes "taosd_build_info") (codes "The program's version.") (codes "gauge") in
    let part_2 = sample (codes "taosd_build_info") (label (codes "version") c.args.version.now) 1 in
    let part_3 = single (codes "taosd_uptime_seconds") (codes "Seconds since it began to serve.") (codes "gauge") s.uptime in
    let part_4 = single (codes "taosd_connections_total") (codes "Connections that were taken.") (codes "counter") s.connections in
    let part_5 = single (codes "taosd_connections_open") (codes "Connections that are open.") (codes "gauge") s.open in
    let by_2 = appends_both at_0 at_1 at_2 part_1 part_2 c.in_ok-push_heading.ensures c.in_ok-push_row.ensures in
    let by_3 = appends_both at_0 at_2 at_3 (part_1 ++ part_2) part_3 by_2 c.in_ok-push_single.ensures in
    let by_4 = appends_both at_0 at_3 at_4 (part_1 ++ part_2 ++ part_3) part_4 by_3 c.in_ok-push_single-2.ensures in
    appends_last at_0 at_4 at_5 (part_1 ++ part_2 ++ part_3 ++ part_4) part_5 c.push_single-3.result by_4 c.push_single-3.ensures
