-- a word that may be no value is one of the options
use Rattle.std.proofs.Common.{sym, ◌∙◌}
use Rattle.std.proofs.lemmas.Bool.{false≢true}
use Rattle.node_commands.proofs.Found.{of_known}
use Rattle.node_commands.proofs.words.meaning.is_of_table.Goals as goal

pub returns : goal.returns
returns c = of_known c.args.word.now c.is_known.result (λ is. false≢true (sym c.if-is_value.false ∙ c.is_value.ensures.1 is)) c.is_known.ensures
