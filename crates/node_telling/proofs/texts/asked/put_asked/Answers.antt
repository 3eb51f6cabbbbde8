-- the members stand one after another
use Rattle.std.proofs.Common.{ℕ, List, ◌++◌, ◌≡◌, ◌∙◌, ap, OnOk, subst}
use Rattle.std.specs.Prelude.{codes}
use Rattle.std.specs.Arc.{arc_value}
use Rattle.std.specs.Option.{option_map}
use Rattle.object_core.specs.Operation.{right_of}
use Rattle.object_core.specs.View.{operation}
use Rattle.object_core.specs.declared.operation.Op.{Op}
use Rattle.prin_term.specs.View.{principal}
use Rattle.node_telling.specs.Asked.{operation_word, quoted_members, right_word}
use Rattle.node_telling.specs.Members.{counted, worded}
use Rattle.node_telling.proofs.Appending.{appends_both, appends_last}
use Rattle.node_telling.proofs.texts.asked.put_asked.Goals as goal

pub returns-clause-put : goal.returns-clause-put
returns-clause-put c =
    let r = c.args.request.now in
    let op = operation (arc_value r.op) in
    let right : c.right_word_of.result.now ≡ right_word (right_of op) = c.right_word_of.ensures ∙ ap (λ (n : ℕ). right_word n) c.right_of.ensures ∙ ap (λ (o : Op). right_word (right_of (operation o))) c.deref-2.ensures in
    let at_0 = c.args.out.now.tokens in
    let at_1 = c.put_number.new.out.tokens in
    let at_2 = c.put_number-2.new.out.tokens in
    let at_3 = c.put_quoted.new.out.tokens in
    let at_4 = c.put_text.new.out.tokens in
    let at_5 = c.put_number-3.new.out.tokens in
    let at_6 = c.put_text-2.new.out.tokens in
    let part_1 = counted (codes "channel") r.channel in
    let part_2 = counted (codes "number") r.seq in
    let part_3 = quoted_members c.args.names.now (option_map principal r.quoted) in
    let part_4 = worded (codes "operation") (operation_word op) in
    let part_5 = counted (codes "object") r.object in
    let part_6 = worded (codes "right") c.right_word_of.result.now in
    let by_2 = appends_both at_0 at_1 at_2 part_1 part_2 (c.in_ok-put_number.ensures.put ∙ ap (λ (n : ℕ). at_0 ++ counted (codes "channel") n) c.from.ensures) c.in_ok-put_number-2.ensures.put in
    let by_3 = appends_both at_0 at_2 at_3 (part_1 ++ part_2) part_3 by_2 c.in_ok-put_quoted.ensures.put in
    let by_4 = appends_both at_0 at_3 at_4 (part_1 ++ part_2 ++ part_3) part_4 by_3 (c.in_ok-put_text.ensures.put ∙ ap (λ (w : List ℕ). at_3 ++ worded (codes "operation") w) c.operation_of.ensures ∙ ap (λ (o : Op). at_3 ++ worded (codes "operation") (operation_word (operation o))) c.deref.ensures) in
    let by_5 = appends_both at_0 at_4 at_5 (part_1 ++ part_2 ++ part_3 ++ part_4) part_5 by_4 (c.in_ok-put_number-3.ensures.put ∙ ap (λ (n : ℕ). at_4 ++ counted (codes "object") n) c.from-2.ensures) in
    subst (λ (w : List ℕ). OnOk c.put_text-2.result (at_6 ≡ at_0 ++ ((part_1 ++ part_2 ++ part_3 ++ part_4 ++ part_5) ++ worded (codes "right") w))) right (appends_last at_0 at_5 at_6 (part_1 ++ part_2 ++ part_3 ++ part_4 ++ part_5) part_6 c.put_text-2.result by_5 c.put_text-2.ensures.put)
