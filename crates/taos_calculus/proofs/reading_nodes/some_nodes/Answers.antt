use Rattle.std.proofs.Common.{◌≡◌, ℕ, List, [], length, Ok, Err, inr, sym, ap, ◌∙◌, arith}
use Rattle.std.proofs.lemmas.Result.{err_from_is_err_and}
use Rattle.byte_fields.specs.Readers.{items_behind}
use Rattle.byte_fields.proofs.Loops.{goes_on, stops, is_done}
use Rattle.byte_fields.specs.declared.fault.FormatFault.TheVariants.{NoMemory}
use Rattle.taos_calculus.specs.declared.line.Node.{Node}
use Rattle.taos_calculus.specs.ProofReading.{node_at}
use Rattle.taos_calculus.proofs.reading_nodes.some_nodes.Goals as goal

pub loop-preserved : goal.loop-preserved
loop-preserved c =
    let item = λ (before : List Node). node_at c.args.bytes.now (length before) in
    let count : c.len.result ≡ length c.loop.nodes.items = omega (arith, c.len.ensures, c.loop.nodes.ok.0) in
    let read : node_at c.args.bytes.now (length c.loop.nodes.items) c.loop.next ≡ Ok (c.in_ok-node.node, c.in_ok-node.after)
    = ap (λ (n : ℕ). node_at c.args.bytes.now n c.loop.next) (sym count) ∙ sym c.in_ok-node.ensures.value in
    record {
      so_far = rw c.in_ok-push.ensures.items (goes_on item c.args.count c.loop.counter c.loop.nodes.items c.loop.next (items_behind item c.args.count [] c.args.at) c.in_ok-node.node c.in_ok-node.after c.loop-test.true read c.loop.invariant.so_far);
      within = c.in_ok-node.ensures.within;
    }

pub returns-in_err-node-clause-value : goal.returns-in_err-node-clause-value
returns-in_err-node-clause-value c =
    let p = err_from_is_err_and c.from_residual-in_err-node.result c.from_residual-in_err-node.ensures.1 in
    let item = λ (before : List Node). node_at c.args.bytes.now (length before) in
    let count : c.len.result ≡ length c.loop.nodes.items = omega (arith, c.len.ensures, c.loop.nodes.ok.0) in
    let read : node_at c.args.bytes.now (length c.loop.nodes.items) c.loop.next ≡ Err c.in_err-node.field-0.0
    = ap (λ (n : ℕ). node_at c.args.bytes.now n c.loop.next) (sym count) ∙ sym c.in_err-node.ensures.value in
    rw (p.1, p.2) (stops item c.args.count c.loop.counter c.loop.nodes.items c.loop.next (items_behind item c.args.count [] c.args.at) NoMemory c.in_err-node.field-0.0 c.loop-test.true (inr read) c.loop.invariant.so_far)

pub returns-clause-value : goal.returns-clause-value
returns-clause-value c =
    let item = λ (before : List Node). node_at c.args.bytes.now (length before) in
    is_done item c.args.count c.loop.counter c.loop.nodes.items c.loop.next (items_behind item c.args.count [] c.args.at) c.loop-test.false c.loop.invariant.so_far
