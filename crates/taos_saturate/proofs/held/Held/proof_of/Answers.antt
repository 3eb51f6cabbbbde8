use Rattle.std.proofs.lemmas.Option.{slice_get_within}
use Rattle.std.proofs.lemmas.Result.{IfOk-weaker}
use Rattle.taos_calculus.specs.Question.{IsProofOf}
use Rattle.taos_calculus.specs.Tables.{lines_of, named}
use Rattle.taos_calculus.specs.declared.line.Fact.{Fact}
use Rattle.term_pool.specs.Taking.{ProvesGoal}
use Rattle.term_pool.proofs.Keeping.{line_stands}
use Rattle.taos_saturate.specs.Held.{seen}
use Rattle.taos_saturate.proofs.Taking.{findings, found_for}
use Rattle.taos_saturate.proofs.held.Held.proof_of.Goals as goal

pub take_proof-requires-clause-found : goal.take_proof-requires-clause-found
take_proof-requires-clause-found c =
    rw (c.deref.ensures.value, c.deref-2.ensures.value, c.deref-3.ensures.value) (seen c.args.self.now, found_for c.args.self.now c.requires.held)

pub take_proof-requires-clause-goal_in : goal.take_proof-requires-clause-goal_in
take_proof-requires-clause-goal_in c =
    let lines = c.args.self.now.table.found.lines.items in
    let (l, at, is) = line_stands lines c.args.number (Fact.Speaks c.args.left c.args.right) c.requires.stands in
    rw c.deref-3.ensures.value (slice_get_within lines c.args.number l at)

pub returns : goal.returns
returns c =
    let p = rw (c.deref.ensures.value, c.deref-2.ensures.value, c.deref-3.ensures.value) at c.take_proof.ensures in
    let h = c.args.self.now in
    IfOk-weaker c.take_proof.result (λ t. ProvesGoal (findings h) c.args.number (lines_of t.proof) t.cites.items)
    (λ t. IsProofOf (seen h) (named h.table.nodes.items c.args.left) (named h.table.nodes.items c.args.right) (lines_of t.proof) t.cites.items)
    (λ t proves. proves (seen h) c.args.left c.args.right (found_for h c.requires.held) c.requires.stands) p
