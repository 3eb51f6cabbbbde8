use Rattle.std.proofs.Common.{◌≡◌, ℕ, List, None, ap, subst, sym, ◌∙◌}
use Rattle.std.specs.BTreeMap.{UpdatesBy, insert_entry}
use Rattle.std.specs.Cmp.Lexicographic.{slice_cmp}
use Rattle.std.specs.Ordering.{nat_cmp}
use Rattle.prin_text.specs.Labels.{IsAscending, Rows, number_of, text_of}
use Rattle.prin_text.specs.Numbers.{IsIndexOf}
use Rattle.prin_text.proofs.ByMap.{put_in}
use Rattle.prin_text.proofs.Indexed.{index-insert, index-undone}
use Rattle.prin_text.proofs.table.Table.put.Goals as goal

-- the row was put in, and the number of its text
pub invariant_of-self-in-Ok : goal.invariant_of-self-in-Ok
invariant_of-self-in-Ok c =
    let rows = c.self.inside.rows.entries in
    let text = c.in_ok-key.key.items in
    let said : text ≡ c.args.text.now = c.in_ok-key.ensures.items ∙ c.as_bytes.ensures.value in
    let is_new : number_of rows text ≡ None = cc (c.requires.new_text, c.self.view_is, said) in
    let ascending : IsAscending rows = subst IsAscending (sym c.self.view_is) c.requires.ascending in
    let absent : text_of rows c.args.number ≡ None = ap (λ (l : Rows). text_of l c.args.number) c.self.view_is ∙ c.requires.new_number in
    let p = put_in rows c.args.number text ascending absent in
    let entered : c.insert-2.new.self.entries ≡ insert_entry nat_cmp rows c.args.number text =
    c.in-Ok.ensures.entries ∙ ap (λ (t : List ℕ). insert_entry nat_cmp rows c.args.number t) (c.in_ok-label.ensures ∙ sym said) in
    subst (λ (l : Rows). IsIndexOf c.insert.new.self l) (sym (entered ∙ p.put))
    (index-insert c.self.inside.numbers c.insert.new.self text c.args.number c.in_ok-insert.ensures.updates rows p.at is_new c.self.invariant)

-- the number of the text was put in and taken out again
pub invariant_of-self-in-Err : goal.invariant_of-self-in-Err
invariant_of-self-in-Err c =
    let rows = c.self.inside.rows.entries in
    let text = c.in_ok-key.key.items in
    let said : text ≡ c.args.text.now = c.in_ok-key.ensures.items ∙ c.as_bytes.ensures.value in
    let is_new : number_of rows text ≡ None = cc (c.requires.new_text, c.self.view_is, said) in
    let taken = subst (λ (t : List ℕ). UpdatesBy (λ x y. slice_cmp nat_cmp x.items y.items) (λ k. slice_cmp nat_cmp t k.items) c.insert.new.self c.remove.new.self None) (c.as_bytes-in-Err.ensures.value ∙ sym said) c.remove.ensures.updates in
    subst (λ (l : Rows). IsIndexOf c.remove.new.self l) (sym c.in-Err.ensures.err)
    (index-undone c.self.inside.numbers c.insert.new.self text c.args.number c.in_ok-insert.ensures.updates c.remove.new.self taken rows is_new c.self.invariant)
