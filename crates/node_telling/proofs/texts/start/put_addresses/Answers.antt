-- the members stand one after another
use Rattle.std.proofs.Common.{◌++◌}
use Rattle.std.specs.Option.{option_map}
use Rattle.std.specs.Prelude.{codes}
use Rattle.node_telling.specs.Members.{worded_if}
use Rattle.node_telling.proofs.Appending.{appends_both, appends_last}
use Rattle.node_telling.proofs.texts.start.put_addresses.Goals as goal

pub returns-clause-put : goal.returns-clause-put
returns-clause-put c =
    let p = c.args.addresses.now in
    let at_0 = c.args.out.now.tokens in
    let at_1 = c.put_text_if.new.out.tokens in
    let at_2 = c.put_text_if-2.new.out.tokens in
    let at_3 = c.put_text_if-3.new.out.tokens in
    let at_4 = c.put_text_if-4.new.out.tokens in
    let part_1 = worded_if (codes "listen") (option_map (λ t. t.now) p.listen) in
    let part_2 = worded_if (codes "relay") (option_map (λ t. t.now) p.relay) in
    let part_3 = worded_if (codes "wallet") (option_map (λ t. t.now) p.wallet) in
    let part_4 = worded_if (codes "page") (option_map (λ t. t.now) p.page) in
    let by_2 = appends_both at_0 at_1 at_2 part_1 part_2 c.in_ok-put_text_if.ensures.put c.in_ok-put_text_if-2.ensures.put in
    let by_3 = appends_both at_0 at_2 at_3 (part_1 ++ part_2) part_3 by_2 c.in_ok-put_text_if-3.ensures.put in
    appends_last at_0 at_3 at_4 (part_1 ++ part_2 ++ part_3) part_4 c.put_text_if-4.result by_3 c.put_text_if-4.ensures.put
