-- what was written is a front of the line of what was made
use Rattle.std.proofs.Common.{ap, sym, ◌∙◌}
use Rattle.node_commands.specs.Minting.{minted_line}
use Rattle.node_commands.proofs.minting.mint.Goals as goal

pub returns-clause-mints : goal.returns-clause-mints
returns-clause-mints g c =
    let part = c.in-Err.ensures.part in
    let line = ap minted_line (sym c.deref.ensures.value) ∙ sym c.in-Ok-line_of.ensures ∙ sym c.deref-2.ensures.value in
    (c.in-Ok.bytes.items, c.in-Ok.ensures.minted, (part.0, part.1, line ∙ part.2, part.3, part.4))
