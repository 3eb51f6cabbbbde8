use Rattle.std.proofs.Common.{List, [], inr, sym}
use Rattle.std.proofs.lemmas.Result.{err_from_is_err_and}
use Rattle.byte_fields.specs.Readers.{items_behind}
use Rattle.byte_fields.proofs.Loops.{goes_on, stops, is_done}
use Rattle.byte_fields.specs.declared.fault.FormatFault.TheVariants.{NoMemory}
use Rattle.taos_calculus.specs.declared.line.Line.{Line}
use Rattle.taos_calculus.specs.ProofReading.{line_at}
use Rattle.taos_calculus.proofs.reading_lines.some_lines.Goals as goal

pub loop-preserved : goal.loop-preserved
loop-preserved c =
    let item = λ (_ : List Line). line_at c.args.bytes.now c.args.nodes in
    record {
      so_far = rw c.in_ok-push.ensures.items (goes_on item c.args.count c.loop.counter c.loop.lines.items c.loop.next (items_behind item c.args.count [] c.args.at) c.in_ok-line.line c.in_ok-line.after c.loop-test.true (sym c.in_ok-line.ensures.value) c.loop.invariant.so_far);
      within = c.in_ok-line.ensures.within;
    }

pub returns-in_err-line-clause-value : goal.returns-in_err-line-clause-value
returns-in_err-line-clause-value c =
    let p = err_from_is_err_and c.from_residual-in_err-line.result c.from_residual-in_err-line.ensures.1 in
    let item = λ (_ : List Line). line_at c.args.bytes.now c.args.nodes in
    rw (p.1, p.2) (stops item c.args.count c.loop.counter c.loop.lines.items c.loop.next (items_behind item c.args.count [] c.args.at) NoMemory c.in_err-line.field-0.0 c.loop-test.true (inr (sym c.in_err-line.ensures.value)) c.loop.invariant.so_far)

pub returns-clause-value : goal.returns-clause-value
returns-clause-value c =
    let item = λ (_ : List Line). line_at c.args.bytes.now c.args.nodes in
    is_done item c.args.count c.loop.counter c.loop.lines.items c.loop.next (items_behind item c.args.count [] c.args.at) c.loop-test.false c.loop.invariant.so_far
