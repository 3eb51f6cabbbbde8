use Rattle.std.proofs.Common.{◌<◌, ◌^◌, ℕ, List, length, subst}
use Rattle.byte_fields.specs.Appends.{Appends}
use Rattle.taos_calculus.proofs.Spelled.{spelling_is}
use Rattle.taos_calculus.proofs.Short.{parts_short}
use Rattle.taos_calculus.proofs.writing.write_proof.Goals as goal

pub write_parts-requires-clause-nodes_fit : goal.write_parts-requires-clause-nodes_fit
write_parts-requires-clause-nodes_fit c = rw c.nodes.ensures.value c.nodes.ensures.kept.nodes_fit

pub write_parts-requires-clause-lines_fit : goal.write_parts-requires-clause-lines_fit
write_parts-requires-clause-lines_fit c = rw c.lines.ensures.value c.nodes.ensures.kept.lines_fit

-- the parts are those of the lines that they mean
pub returns-clause-appends : goal.returns-clause-appends
returns-clause-appends c =
    let e = spelling_is c.args.proof.now c.nodes.result.now c.lines.result.now c.nodes.ensures.kept.canonical c.nodes.ensures.value c.lines.ensures.value in
    subst (λ (bytes : List ℕ). Appends c.args.out.now c.write_parts.new.out bytes c.write_parts.result) e c.write_parts.ensures

pub returns-clause-short : goal.returns-clause-short
returns-clause-short c =
    let e = spelling_is c.args.proof.now c.nodes.result.now c.lines.result.now c.nodes.ensures.kept.canonical c.nodes.ensures.value c.lines.ensures.value in
    subst (λ (bytes : List ℕ). length bytes < 2 ^ 25) e (parts_short c.nodes.result.now c.lines.result.now (rw c.nodes.ensures.value c.nodes.ensures.kept.nodes_fit) (rw c.lines.ensures.value c.nodes.ensures.kept.lines_fit))
