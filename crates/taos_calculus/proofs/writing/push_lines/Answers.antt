use Rattle.std.proofs.lemmas.Result.{err_from_is_err_and}
use Rattle.taos_calculus.specs.Spelling.{line_bytes}
use Rattle.taos_calculus.proofs.Written.{not_all}
use Rattle.taos_calculus.proofs.writing.push_lines.Goals as goal

pub returns-in_err-push_line : goal.returns-in_err-push_line
returns-in_err-push_line c =
    let p = err_from_is_err_and c.from_residual.result c.from_residual.ensures.1 in
    rw p.1 (not_all line_bytes c.args.lines.now c.loop-line.line-index _ c.args.out.now c.loop-line.out c.push_line.new.out _ _
    c.loop-line-test.true c.loop-line.invariant.so_far c.loop-line.invariant.capacity c.in_err-push_line.ensures)
