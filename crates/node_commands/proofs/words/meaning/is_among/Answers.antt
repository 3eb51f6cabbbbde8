-- none of the options so far, or this one
use Rattle.std.proofs.Common.{refl, sym, ◌∙◌}
use Rattle.std.proofs.lemmas.Bool.{false≢true}
use Rattle.node_commands.proofs.Found.{among, none_at_all, none_more}
use Rattle.node_commands.proofs.words.meaning.is_among.Goals as goal

pub returns-then-is_option : goal.returns-then-is_option
returns-then-is_option c =
    let there = among c.args.names.now c.loop-name.name-index _ c.as_bytes.result.now c.loop-name-test.true c.as_bytes.ensures.value in
    (λ _. (c.as_bytes.result.now, there, c.is_option.ensures.0 c.if-is_option.true), λ _. refl)

pub loop-name-preserved : goal.loop-name-preserved
loop-name-preserved c =
    none_more c.args.word.now c.args.names.now c.loop-name.name-index _ c.as_bytes.result.now c.loop-name-test.true c.as_bytes.ensures.value c.loop-name.invariant
    (λ o. false≢true (sym c.if-is_option.false ∙ c.is_option.ensures.1 o))

pub returns : goal.returns
returns c = (λ no. absurd (false≢true no), λ o. absurd (none_at_all c.args.word.now c.args.names.now c.loop-name.name-index c.loop-name-test.false c.loop-name.invariant o))
