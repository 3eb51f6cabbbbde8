-- the rows of the command are those that are read
use Rattle.std.proofs.Common.{List, Option, ap, option_map, subst, ◌∙◌}
use Rattle.std.proofs.lemmas.Option.{same_Some}
use Rattle.clap.specs.Words.{Row, Text, first_of, found_of, rows_of}
use Rattle.node_commands.specs.Words.{named}
use Rattle.node_commands.specs.Table.{IsReadAs}
use Rattle.node_commands.proofs.Found.{named_by_rows}
use Rattle.node_commands.proofs.words.meaning.found_in.Goals as goal

pub returns : goal.returns
returns c = λ command rows is.
    let name = same_Some c.in_ok-name.name.now (named command) (c.in_ok-name.ensures.name ∙ named_by_rows c.args.matches.now ∙ ap (λ (o : Option (Text × List Row)). option_map (λ p. p.0) o) is) in
    let same = same_Some (rows_of (found_of c.in_ok-name.options.now)) rows (c.in_ok-name.ensures.rows ∙ ap (λ (o : Option (Text × List Row)). option_map (λ p. p.1) o) is) in
    subst (λ (l : List Row). IsReadAs command (λ name. first_of name l) c.asked_of.result) same (c.asked_of.ensures command name)
