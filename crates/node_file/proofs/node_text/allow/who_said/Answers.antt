use Rattle.node_file.proofs.SamePrincipals.{who_large}
use Rattle.prin_term.specs.View.{principal}
use Rattle.node_file.proofs.node_text.allow.who_said.Goals as goal

-- it is no deeper than it has nodes
pub returns-else-fits : goal.returns-else-fits
returns-else-fits c = who_large c.args.names.now c.args.text.now (principal c.in-Ok.who) c.fits.result c.in-Ok.ensures.exact c.fits.ensures c.if-fits.false
