-- the members stand one after another
use Rattle.std.proofs.Common.{ℕ, ◌++◌, ◌∙◌, ap}
use Rattle.std.specs.Prelude.{codes}
use Rattle.node_telling.specs.Members.{counted}
use Rattle.node_telling.proofs.Appending.{appends_both, appends_last}
use Rattle.node_telling.proofs.texts.start.put_node.Goals as goal

pub returns-clause-put : goal.returns-clause-put
returns-clause-put c =
    let at_0 = c.args.out.now.tokens in
    let at_1 = c.put_number.new.out.tokens in
    let at_2 = c.put_number-2.new.out.tokens in
    let at_3 = c.put_number-3.new.out.tokens in
    let at_4 = c.put_number-4.new.out.tokens in
    let at_5 = c.put_number-5.new.out.tokens in
    let part_1 = counted (codes "node") c.args.served.node in
    let part_2 = counted (codes "channels") c.args.served.channels in
    let part_3 = counted (codes "objects") c.args.served.objects in
    let part_4 = counted (codes "shards") c.args.served.shards in
    let part_5 = counted (codes "journal") c.args.served.journal in
    let by_2 = appends_both at_0 at_1 at_2 part_1 part_2 (c.in_ok-put_number.ensures.put ∙ ap (λ (n : ℕ). at_0 ++ counted (codes "node") n) c.from.ensures) c.in_ok-put_number-2.ensures.put in
    let by_3 = appends_both at_0 at_2 at_3 (part_1 ++ part_2) part_3 by_2 c.in_ok-put_number-3.ensures.put in
    let by_4 = appends_both at_0 at_3 at_4 (part_1 ++ part_2 ++ part_3) part_4 by_3 (c.in_ok-put_number-4.ensures.put ∙ ap (λ (n : ℕ). at_3 ++ counted (codes "shards") n) c.from-2.ensures) in
    appends_last at_0 at_4 at_5 (part_1 ++ part_2 ++ part_3 ++ part_4) part_5 c.put_number-5.result by_4 c.put_number-5.ensures.put
