use Rattle.std.proofs.Common.{◌≡◌, ◌/◌, ℕ, Some, slice_get, length, ap, arith, refl, sym, subst}
use Rattle.goal_search.specs.Cells.{held_at, stamp_of}
use Rattle.std.proofs.lemmas.Option.{slice_get_within}
use Rattle.std.proofs.lemmas.Result.{IfOk-weaker}
use Rattle.taos_calculus.specs.Question.{Question, IsProofOf}
use Rattle.taos_calculus.specs.Tables.{lines_of, named}
use Rattle.taos_calculus.specs.declared.line.Fact.{Fact}
use Rattle.term_pool.specs.Finding.{facts_in}
use Rattle.term_pool.specs.Taking.{ProvesGoal}
use Rattle.term_pool.proofs.Keeping.{line_stands}
use Rattle.term_pool.proofs.Picking.{some_if}
use Rattle.goal_search.specs.Replaying.{IsOrder, IsQuestionOf}
use Rattle.goal_search.specs.Searching.{core}
use Rattle.goal_search.specs.Telling.{IsTold, of_number}
use Rattle.goal_search.proofs.Replayed.{few_lines, found_for, some_cells}
use Rattle.goal_search.proofs.replay.replay.Goals as goal

pub order_of-requires-clause-some : goal.order_of-requires-clause-some
order_of-requires-clause-some c = some_cells (core c.args.search.now) c.requires.ready c.args.left c.args.right c.requires.known

pub tell_all-requires-clause-order : goal.tell_all-requires-clause-order
tell_all-requires-clause-order c =
    rw c.deref.ensures.value
    (subst (λ (n : ℕ). IsOrder c.args.search.now.cells n c.in_ok-order.order.items (length c.args.search.now.cells.cells.items)) (sym c.in_ok-order.ensures.long) c.in_ok-order.ensures)

-- the goal's cell has the last stamp, so it is told
pub unwrap-goal-requires : goal.unwrap-goal-requires
unwrap-goal-requires c =
    let s = core c.args.search.now in
    let told = rw c.deref.ensures.value at c.tell_all.ensures.told in
    let stamp : c.held-last.result / 2048 ≡ stamp_of (held_at s.cells c.args.left c.args.right) = ap (λ (x : ℕ). x / 2048) c.held-last.ensures in
    some_if c.speaks_line.result (IsTold c.tell_all.new.found (Fact.Speaks c.args.left c.args.right) → ⊥)
    (λ (k : ℕ). slice_get (facts_in c.tell_all.new.found) k ≡ Some (Fact.Speaks c.args.left c.args.right)) c.speaks_line.ensures
    (λ none.
    none
    (told c.args.left c.args.right (Fact.Speaks c.args.left c.args.right) c.requires.known (omega (arith, c.in_ok-order.ensures.long, stamp)) (of_number c.requires.left_in refl)))

pub take_proof-requires-clause-found : goal.take_proof-requires-clause-found
take_proof-requires-clause-found c =
    let (q, asked) = c.requires.asked in
    rw (c.deref-2.ensures.value, c.deref-3.ensures.value, c.deref-4.ensures.value)
    (q, found_for (core c.args.search.now) c.requires.ready c.tell_all.new.found c.tell_all.ensures.telling q asked)

pub take_proof-requires-clause-few_lines : goal.take_proof-requires-clause-few_lines
take_proof-requires-clause-few_lines c =
    rw c.deref-4.ensures.value (few_lines (core c.args.search.now) c.requires.ready c.tell_all.new.found c.tell_all.ensures.telling)

pub take_proof-requires-clause-goal_in : goal.take_proof-requires-clause-goal_in
take_proof-requires-clause-goal_in c =
    let stands = rw c.unwrap-goal.ensures at c.speaks_line.ensures in
    let (l, at, is) = line_stands c.tell_all.new.found.lines.items c.unwrap-goal.result (Fact.Speaks c.args.left c.args.right) stands in
    rw c.deref-4.ensures.value (slice_get_within c.tell_all.new.found.lines.items c.unwrap-goal.result l at)

pub returns : goal.returns
returns c =
    let s = core c.args.search.now in
    let f = c.tell_all.new.found in
    let stands = rw c.unwrap-goal.ensures at c.speaks_line.ensures in
    let p = rw (c.deref-2.ensures.value, c.deref-3.ensures.value, c.deref-4.ensures.value) at c.take_proof.ensures in
    IfOk-weaker c.take_proof.result (λ t. ProvesGoal (record { nodes = s.nodes; cited = s.cited; lines = f.lines.items }) c.unwrap-goal.result (lines_of t.proof) t.cites.items)
    (λ t. (q : Question) → IsQuestionOf s q → IsProofOf q (named s.nodes c.args.left) (named s.nodes c.args.right) (lines_of t.proof) t.cites.items)
    (λ t proves q asked. proves q c.args.left c.args.right (found_for s c.requires.ready f c.tell_all.ensures.telling q asked) stands) p
