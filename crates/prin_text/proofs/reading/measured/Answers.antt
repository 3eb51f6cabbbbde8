use Rattle.std.proofs.Common.{sym}
use Rattle.prin_term.specs.View.{principal}
use Rattle.prin_text.proofs.Stops.{too_large}
use Rattle.prin_text.proofs.reading.measured.Goals as goal

-- it is no deeper than it has nodes
pub returns-else-fits : goal.returns-else-fits
returns-else-fits c =
    rw (c.bad-else-fits.ensures, c.in-Built.is) (sym (too_large c.args.nodes c.args.at c.in-Built.field-1 (principal c.in-Built.term) c.fits.result c.fits.ensures c.if-fits.false))
