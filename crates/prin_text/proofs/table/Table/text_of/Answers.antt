use Rattle.std.proofs.Common.{Some, sym, ap, ◌∙◌}
use Rattle.prin_text.specs.Labels.{Rows, text_of}
use Rattle.prin_text.proofs.ByMap.{text_of-get}
use Rattle.prin_text.proofs.table.Table.text_of.Goals as goal

-- the text is what the map has at the number
pub returns-in-Some : goal.returns-in-Some
returns-in-Some c =
    ap (λ t. Some t) c.text.ensures ∙ c.in-Some.ensures.value ∙ sym (text_of-get c.self.inside.rows.entries c.args.number)
    ∙ ap (λ (l : Rows). text_of l c.args.number) c.self.view_is

pub returns-in-None : goal.returns-in-None
returns-in-None c =
    c.in-None.ensures.value ∙ sym (text_of-get c.self.inside.rows.entries c.args.number)
    ∙ ap (λ (l : Rows). text_of l c.args.number) c.self.view_is
