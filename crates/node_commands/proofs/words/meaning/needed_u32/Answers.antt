-- what is no number of 64 bits, or one of more than 32, is none of 32
use Rattle.std.proofs.Common.{option_map, subst, sym}
use Rattle.node_commands.specs.Table.{IsReadOf}
use Rattle.node_commands.specs.Words.{HasNumber}
use Rattle.node_commands.proofs.Found.{none_narrower, one_number}
use Rattle.node_commands.proofs.words.meaning.needed_u32.Goals as goal

pub returns-in_err-number : goal.returns-in_err-number
returns-in_err-number c =
    subst (λ r. IsReadOf (HasNumber 4294967296 (option_map (λ s. s.now) c.args.text)) r) (sym c.from_residual.ensures) (none_narrower (option_map (λ s. s.now) c.args.text) (λ n is. c.in_err-number.ensures n is))

pub returns-in-Err : goal.returns-in-Err
returns-in-Err c = λ n is. c.in-Err.ensures (one_number (option_map (λ s. s.now) c.args.text) c.in_ok-number.number n c.in_ok-number.ensures is).1
