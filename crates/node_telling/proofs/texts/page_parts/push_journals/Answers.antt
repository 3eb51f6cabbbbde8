-- the parts stand one after another
use Rattle.std.proofs.Common.{List, ◌++◌, string_bytes, ◌≡◌, ◌∙◌, ap, OnOk, subst}
use Rattle.std.specs.Prelude.{codes}
use Rattle.node_telling.specs.Samples.{each_line, heading}
use Rattle.node_telling.specs.Page.{gauge_line}
use Rattle.node_telling.specs.declared.texts.journal.Gauge.{Gauge}
use Rattle.node_telling.proofs.Appending.{appends_both, appends_last}
use Rattle.node_telling.proofs.texts.page_parts.push_journals.Goals as goal

pub returns : goal.returns
returns c =
    let s = c.args.status.now in
    let at_0 = string_bytes c.args.out.now in
    let at_1 = string_bytes c.push_heading.new.out in
    let at_2 = string_bytes c.push_gauges.new.out in
    let at_3 = string_bytes c.push_heading-2.new.out in
    let at_4 = string_bytes c.push_gauges-2.new.out in
    let part_1 = heading (codes "taosd_shard_entries") (codes "Entries of a shard's journal, when last heard of.") (codes "gauge") in
    let part_2 = each_line (gauge_line (codes "taosd_shard_entries") (codes "shard")) s.shards.items in
    let part_3 = heading (codes "taosd_object_entries") (codes "Entries of an object's journal, when last heard of.") (codes "gauge") in
    let part_4 = each_line (gauge_line (codes "taosd_object_entries") (codes "object")) c.deref-2.result.now in
    let by_2 = appends_both at_0 at_1 at_2 part_1 part_2 c.in_ok-push_heading.ensures (c.in_ok-push_gauges.ensures ∙ ap (λ (l : List Gauge). at_1 ++ each_line (gauge_line (codes "taosd_shard_entries") (codes "shard")) l) c.deref.ensures.value) in
    let by_3 = appends_both at_0 at_2 at_3 (part_1 ++ part_2) part_3 by_2 c.in_ok-push_heading-2.ensures in
    subst (λ (l : List Gauge). OnOk c.push_gauges-2.result (at_4 ≡ at_0 ++ ((part_1 ++ part_2 ++ part_3) ++ each_line (gauge_line (codes "taosd_object_entries") (codes "object")) l))) c.deref-2.ensures.value (appends_last at_0 at_3 at_4 (part_1 ++ part_2 ++ part_3) part_4 c.push_gauges-2.result by_3 c.push_gauges-2.ensures)
