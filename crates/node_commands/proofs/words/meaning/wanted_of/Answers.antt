-- what `clap` takes means something, and it takes what does
use Rattle.std.proofs.Common.{◌∙◌}
use Rattle.std.proofs.lemmas.Bool.{false≢true}
use Rattle.node_commands.proofs.Found.{all_texts, all_words, found_meaning, refused_meaning}
use Rattle.node_commands.proofs.words.meaning.wanted_of.Goals as goal

pub returns-then-not-are_of_table : goal.returns-then-not-are_of_table
returns-then-not-are_of_table c = λ wanted is. false≢true (c.if-not-are_of_table.ensures.1 (all_words c.args.words.now wanted is))

pub returns-in-Ok : goal.returns-in-Ok
returns-in-Ok c =
    found_meaning c.args.words.now c.in-Ok.matches c.found_in.result (all_texts c.args.words.now (c.are_of_table.ensures.0 c.if-not-are_of_table.false)) c.in-Ok.ensures.faults c.in-Ok.ensures.matches
    c.found_in.ensures

pub returns : goal.returns
returns c = λ wanted is. refused_meaning c.args.words.now c.in-Err.error wanted c.in-Err.ensures.faults (λ e. c.in_default.not-OutOfMemory (c.kind.ensures ∙ e)) is
