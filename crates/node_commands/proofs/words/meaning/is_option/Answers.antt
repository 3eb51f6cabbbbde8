-- the name behind two dashes, and then nothing or `=`
use Rattle.std.proofs.Common.{◌≡◌, List, ℕ, ◌++◌, None, Some, codes, refl, sym, ap, subst, ◌∙◌, arith}
use Rattle.std.proofs.lemmas.List.{take_rest}
use Rattle.node_commands.specs.Words.{IsValue}
use Rattle.std.proofs.lemmas.Bool.{false≢true}
use Rattle.std.proofs.lemmas.Bool.Decides.{Decides-eqb}
use Rattle.std.proofs.lemmas.Slice.Eq.{strip_prefix_is}
use Rattle.node_commands.proofs.Found.{ends_name, is_named, none_ends, not_named, value_ends}
use Rattle.node_commands.proofs.words.meaning.is_option.Goals as goal

pub returns-in-Some-empty : goal.returns-in-Some-empty
returns-in-Some-empty c =
    let word = c.args.word.now in
    let name = c.args.name.now in
    let text = c.in-Some.text.now in
    let rest = c.in-Some-empty.field-0.now in
    let dashed : word ≡ codes "--" ++ text = strip_prefix_is Decides-eqb word c.as_slice.result.now (Some c.in-Some.text) c.in-Some.ensures.cases ∙ ap (λ (p : List ℕ). p ++ text) c.as_slice.ensures in
    let named : text ≡ name ++ rest = strip_prefix_is Decides-eqb text name (Some c.in-Some-empty.field-0) c.in-Some-empty.ensures.cases in
    (λ _. is_named word text name rest dashed named (none_ends rest (omega (arith, c.in-Some-empty.len_below))), λ _. refl)

pub returns-then-first-eq61 : goal.returns-then-first-eq61
returns-then-first-eq61 c =
    let word = c.args.word.now in
    let name = c.args.name.now in
    let text = c.in-Some.text.now in
    let rest = c.in-Some-len1-up.field-0.now in
    let dashed : word ≡ codes "--" ++ text = strip_prefix_is Decides-eqb word c.as_slice.result.now (Some c.in-Some.text) c.in-Some.ensures.cases ∙ ap (λ (p : List ℕ). p ++ text) c.as_slice.ensures in
    let named : text ≡ name ++ rest = strip_prefix_is Decides-eqb text name (Some c.in-Some-len1-up.field-0) c.in-Some-len1-up.ensures.cases in
    let ends = value_ends rest (omega (arith, c.in-Some-len1-up.len_at_least)) c.if-first-eq61.true in
    let behind = take_rest rest 1 in
    (λ yes. is_named word text name rest dashed named (ends.0 (subst IsValue behind (c.is_value.ensures.0 yes))), λ o. c.is_value.ensures.1 (subst IsValue (sym behind) (ends.1 (ends_name word text name rest dashed named o))))

pub returns-in-None : goal.returns-in-None
returns-in-None c =
    let word = c.args.word.now in
    let text = c.in-Some.text.now in
    let dashed : word ≡ codes "--" ++ text = strip_prefix_is Decides-eqb word c.as_slice.result.now (Some c.in-Some.text) c.in-Some.ensures.cases ∙ ap (λ (p : List ℕ). p ++ text) c.as_slice.ensures in (
      λ no. absurd (false≢true no),
      λ o. absurd (not_named word text c.args.name.now dashed (strip_prefix_is Decides-eqb text c.args.name.now None c.in-None.ensures.cases) o),
    )
