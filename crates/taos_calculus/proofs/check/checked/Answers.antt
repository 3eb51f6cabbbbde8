use Rattle.std.proofs.Common.{All, length}
use Rattle.taos_calculus.specs.Checking.{said_by}
use Rattle.taos_calculus.specs.declared.line.Line.{Line}
use Rattle.taos_calculus.specs.Tables.{IsBelow, IsNodeTable}
use Rattle.taos_calculus.proofs.Checks.{bad_line, bad_end, good_end}
use Rattle.taos_calculus.proofs.Distinct.{canonical_nodes}
use Rattle.taos_calculus.proofs.check.checked.Goals as goal

pub first_bad-bad-requires-clause-table : goal.first_bad-bad-requires-clause-table
first_bad-bad-requires-clause-table c = rw c.nodes-nodes.ensures.value (canonical_nodes c.args.proof.now c.nodes-nodes.ensures.kept.canonical)

pub returns-then-bad-lines : goal.returns-then-bad-lines
returns-then-bad-lines c =
    let kept = c.nodes-nodes.ensures.kept.canonical in
    let table : IsNodeTable c.nodes-nodes.result.now = rw c.nodes-nodes.ensures.value (canonical_nodes c.args.proof.now kept) in
    let below : All (λ (l : Line). IsBelow (length c.nodes-nodes.result.now) l.fact) c.lines-lines.result.now
    = rw (c.nodes-nodes.ensures.value, c.lines-lines.ensures.value) kept.within in
    rw (← c.nodes-nodes.ensures.value, ← c.lines-lines.ensures.value)
    (bad_line c.nodes-nodes.result.now table c.args.anchors.now (said_by c.args.cites.now) c.lines-lines.result.now below
    c.first_bad-bad.result c.if-bad-lines.true c.first_bad-bad.ensures.before c.first_bad-bad.ensures.here)

pub returns-in-Some : goal.returns-in-Some
returns-in-Some c =
    let kept = c.nodes-nodes.ensures.kept.canonical in
    let table : IsNodeTable c.nodes-nodes.result.now = rw c.nodes-nodes.ensures.value (canonical_nodes c.args.proof.now kept) in
    let below : All (λ (l : Line). IsBelow (length c.nodes-nodes.result.now) l.fact) c.lines-lines.result.now
    = rw (c.nodes-nodes.ensures.value, c.lines-lines.ensures.value) kept.within in
    rw (← c.nodes-nodes.ensures.value, ← c.lines-lines.ensures.value)
    (good_end c.nodes-nodes.result.now table c.args.anchors.now (said_by c.args.cites.now) c.lines-lines.result.now below
    c.first_bad-bad.result c.if-bad-lines.false c.first_bad-bad.ensures.before c.in-Some.conclusion.left c.in-Some.conclusion.right c.in-Some.ensures)

pub returns-in-None : goal.returns-in-None
returns-in-None c =
    let kept = c.nodes-nodes.ensures.kept.canonical in
    let table : IsNodeTable c.nodes-nodes.result.now = rw c.nodes-nodes.ensures.value (canonical_nodes c.args.proof.now kept) in
    let below : All (λ (l : Line). IsBelow (length c.nodes-nodes.result.now) l.fact) c.lines-lines.result.now
    = rw (c.nodes-nodes.ensures.value, c.lines-lines.ensures.value) kept.within in
    rw (← c.nodes-nodes.ensures.value, ← c.lines-lines.ensures.value)
    (bad_end c.nodes-nodes.result.now table c.args.anchors.now (said_by c.args.cites.now) c.lines-lines.result.now below
    c.first_bad-bad.result c.if-bad-lines.false c.first_bad-bad.ensures.within c.first_bad-bad.ensures.before c.in-None.ensures)
