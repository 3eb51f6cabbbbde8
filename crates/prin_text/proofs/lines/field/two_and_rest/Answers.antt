use Rattle.std.proofs.Common.{◌≡◌, List, ℕ, true, ap, ◌∙◌}
use Rattle.prin_text.specs.Lines.{is_plain}
use Rattle.prin_text.proofs.Plain.{plain_rest, plain_utf8}
use Rattle.prin_text.proofs.lines.field.two_and_rest.Goals as goal

-- plain bytes are ASCII
pub returns-in-Err : goal.returns-in-Err
returns-in-Err c =
    let one : is_plain c.word_off.result.1.now ≡ true = ap (λ (w : List ℕ × List ℕ). is_plain w.1) c.word_off.ensures ∙ plain_rest c.args.rest.now c.requires in
    let two : is_plain c.word_off-2.result.1.now ≡ true = ap (λ (w : List ℕ × List ℕ). is_plain w.1) c.word_off-2.ensures ∙ plain_rest c.word_off.result.1.now one in
    absurd (c.in-Err.ensures.cases.0 (plain_utf8 c.word_off-2.result.1.now two))
