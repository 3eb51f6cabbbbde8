use Rattle.std.proofs.Common.{◌++◌, ◌∷◌, [], refl, ap, length}
use Rattle.std.proofs.lemmas.Result.{err_from_is_err_and}
use Rattle.byte_fields.specs.declared.fault.FormatFault.TheVariants.{NoMemory}
use Rattle.object_core.specs.Objects.{object_of}
use Rattle.node_file.specs.OpeningReading.{object_at}
use Rattle.node_file.specs.Plans.{drafted}
use Rattle.byte_fields.specs.Readers.{items_behind}
use Rattle.node_file.proofs.Lookups.{adds_plan}
use Rattle.byte_fields.proofs.Loops.{begins, goes_on, stops, is_done}
use Rattle.node_file.proofs.opening.object.plans_of.Goals as goal

pub loop-init : goal.loop-init
loop-init c = record {
  before = [];
  held = record { each = λ n. ap (λ l. object_of l n) c.new-plans.ensures; count = ap length c.new-plans.ensures };
  so_far = begins (object_at c.args.bytes.now) c.args.count c.args.at;
  within = c.requires;
}

pub returns-in_err-number-clause-value : goal.returns-in_err-number-clause-value
returns-in_err-number-clause-value c =
    let p = err_from_is_err_and c.from_residual.result c.from_residual.ensures.1 in
    let item = object_at c.args.bytes.now in
    let so = c.loop.invariant in
    rw (p.1, p.2) (stops item c.args.count c.loop.counter so.before c.loop.next (items_behind item c.args.count [] c.args.at) NoMemory c.in_err-number.field-0.0 c.loop-test.true (c.in_err-number.ensures.value so.before so.held) so.so_far)

pub loop-preserved : goal.loop-preserved
loop-preserved c =
    let item = object_at c.args.bytes.now in
    let so = c.loop.invariant in
    let p = drafted (c.in_ok-number.number, c.in_ok-number.object) in
    record {
      before = so.before ++ p ∷ [];
      held = adds_plan c.loop.plans c.add.new.self so.before p so.held c.in_ok-number.ensures.is_new c.in_ok-add.ensures;
      so_far = goes_on item c.args.count c.loop.counter so.before c.loop.next (items_behind item c.args.count [] c.args.at) p c.in_ok-number.after c.loop-test.true (c.in_ok-number.ensures.value so.before so.held) so.so_far;
      within = c.in_ok-number.ensures.within;
    }

pub returns-clause-value : goal.returns-clause-value
returns-clause-value c =
    let item = object_at c.args.bytes.now in
    let so = c.loop.invariant in
    ((so.before, c.loop.next), is_done item c.args.count c.loop.counter so.before c.loop.next (items_behind item c.args.count [] c.args.at) c.loop-test.false so.so_far, (so.held, refl))
