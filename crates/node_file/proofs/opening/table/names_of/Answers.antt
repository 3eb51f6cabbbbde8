use Rattle.std.proofs.Common.{◌≡◌, [], Err, Ok, sym, ap, ◌∙◌, inr}
use Rattle.std.proofs.lemmas.Result.{err_from_is_err_and}
use Rattle.byte_fields.specs.declared.fault.FormatFault.TheVariants.{NoMemory}
use Rattle.node_file.specs.OpeningReading.{anchor_at}
use Rattle.byte_fields.specs.Readers.{items_behind}
use Rattle.byte_fields.proofs.Loops.{goes_on, stops, is_done}
use Rattle.node_file.proofs.opening.table.names_of.Goals as goal

pub returns-in_err-anchor-clause-value : goal.returns-in_err-anchor-clause-value
returns-in_err-anchor-clause-value c =
    let p = err_from_is_err_and c.from_residual-in_err-anchor.result c.from_residual-in_err-anchor.ensures.1 in
    let item = anchor_at c.args.bytes.now in
    let read : item c.loop.anchors.items c.loop.next ≡ Err c.in_err-anchor.field-0.0 = ap (λ l. item l c.loop.next) (sym c.deref.ensures.value) ∙ sym c.in_err-anchor.ensures.value in
    rw (p.1, p.2) (stops item c.args.count c.loop.counter c.loop.anchors.items c.loop.next (items_behind item c.args.count [] c.args.at) NoMemory c.in_err-anchor.field-0.0 c.loop-test.true (inr read) c.loop.invariant.so_far)

pub loop-preserved : goal.loop-preserved
loop-preserved c =
    let item = anchor_at c.args.bytes.now in
    let read : item c.loop.anchors.items c.loop.next ≡ Ok (c.in_ok-anchor.anchor, c.in_ok-anchor.after) = ap (λ l. item l c.loop.next) (sym c.deref.ensures.value) ∙ sym c.in_ok-anchor.ensures.value in
    record {
      so_far = rw c.in_ok-push.ensures.items (goes_on item c.args.count c.loop.counter c.loop.anchors.items c.loop.next (items_behind item c.args.count [] c.args.at) c.in_ok-anchor.anchor c.in_ok-anchor.after c.loop-test.true read c.loop.invariant.so_far);
      within = c.in_ok-anchor.ensures.within;
    }

pub returns-clause-value : goal.returns-clause-value
returns-clause-value c =
    let item = anchor_at c.args.bytes.now in
    is_done item c.args.count c.loop.counter c.loop.anchors.items c.loop.next (items_behind item c.args.count [] c.args.at) c.loop-test.false c.loop.invariant.so_far
