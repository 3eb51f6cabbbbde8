use Rattle.std.proofs.Common.{◌++◌, ◌∷◌, [], ℕ, List, append_assoc, sym, ap, ◌∙◌}
use Rattle.std.specs.Prelude.{codes, string_bytes}
use Rattle.prin_text.specs.Labels.{Rows}
use Rattle.node_file.specs.FilePrinting.{ended, text_line}
use Rattle.node_file.proofs.PrintedLists.{last_line, next_line}
use Rattle.node_file.proofs.node_text.printing.push_roles.Goals as goal

pub loop-number-preserved : goal.loop-number-preserved
loop-number-preserved c =
    let so = c.loop-number.invariant in
    let row : ℕ × List ℕ = (c.in-Some.number.now, c.in-Some.label.now) in
    let here = ap (λ (t : List ℕ). string_bytes c.loop-number.out ++ ended (text_line (codes "role") (c.in-Some.number.now, t))) c.text.ensures in
    record {
      before = so.before ++ row ∷ [];
      split = append_assoc so.before (row ∷ []) c.next.new.self ∙ ap (λ (l : Rows). so.before ++ l) (sym c.in-Some.ensures.steps) ∙ so.split;
      printed = next_line (text_line (codes "role")) _ so.before row _ _ so.printed (c.in_ok-push_text.ensures ∙ here);
    }

pub returns : goal.returns
returns c = last_line (text_line (codes "role")) _ c.loop-number.invariant.before _ _ _ c.loop-number.invariant.split c.in-None.ensures.steps.0 c.loop-number.invariant.printed
