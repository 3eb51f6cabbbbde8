-- a text is read exactly where it means a principal
use Rattle.std.proofs.Common.{inr, refl}
use Rattle.prin_term.specs.View.{principal}
use Rattle.prin_text.proofs.Whole.{read_is_meant}
use Rattle.node_commands.proofs.Minted.{bad_text}
use Rattle.node_commands.proofs.minting.principal_of.Goals as goal

pub returns-in-Ok-clause-read : goal.returns-in-Ok-clause-read
returns-in-Ok-clause-read c = read_is_meant c.args.names.now c.args.text.now (principal c.in-Ok.term) c.in-Ok.ensures.exact

pub returns-in-Err-Bad-clause-refused : goal.returns-in-Err-Bad-clause-refused
returns-in-Err-Bad-clause-refused c = inr (refl, bad_text c.args.names.now c.args.text.now c.in-Err-Bad.field-0 c.in-Err-Bad.field-0-0 c.in-Err-Bad.field-0-1 (cc c.in-Err-Bad.field-0-is) c.in-Err-Bad.ensures.exact)
