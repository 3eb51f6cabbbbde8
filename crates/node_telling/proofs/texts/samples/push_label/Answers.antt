-- the parts stand one after another
use Rattle.std.proofs.Common.{◌++◌, string_bytes}
use Rattle.std.specs.Prelude.{codes}
use Rattle.node_telling.proofs.Appending.{appends_both, appends_or_leaves}
use Rattle.node_telling.proofs.texts.samples.push_label.Goals as goal

pub returns : goal.returns
returns c =
    let at_0 = string_bytes c.args.out.now in
    let at_1 = string_bytes c.push_str.new.self in
    let at_2 = string_bytes c.push_str-2.new.self in
    let at_3 = string_bytes c.push_str-3.new.self in
    let at_4 = string_bytes c.push_str-4.new.self in
    let at_5 = string_bytes c.push_str-5.new.self in
    let part_1 = codes "{" in
    let part_2 = c.args.key.now in
    let part_3 = codes "=\"" in
    let part_4 = c.args.word.now in
    let part_5 = codes "\"}" in
    let by_2 = appends_both at_0 at_1 at_2 part_1 part_2 c.in_ok-push_str.ensures.bytes c.in_ok-push_str-2.ensures.bytes in
    let by_3 = appends_both at_0 at_2 at_3 (part_1 ++ part_2) part_3 by_2 c.in_ok-push_str-3.ensures.bytes in
    let by_4 = appends_both at_0 at_3 at_4 (part_1 ++ part_2 ++ part_3) part_4 by_3 c.in_ok-push_str-4.ensures.bytes in
    appends_or_leaves at_0 at_4 at_5 (part_1 ++ part_2 ++ part_3 ++ part_4) part_5 c.push_str-5.result by_4 c.push_str-5.ensures.bytes
