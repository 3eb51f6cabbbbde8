use Rattle.std.proofs.Common.{◌+◌, ◌++◌, ◌∷◌, [], length, refl, ap, ◌∙◌, arith}
use Rattle.std.proofs.lemmas.Result.{err_from_is_err_and}
use Rattle.keyed_seal.specs.Keys.{AddsKey, Keys, key_of}
use Rattle.byte_fields.specs.declared.fault.FormatFault.TheVariants.{NoMemory}
use Rattle.node_file.specs.OpeningReading.{channel_at}
use Rattle.byte_fields.specs.Readers.{items_behind}
use Rattle.prin_text.proofs.KeyLookups.{adds_key}
use Rattle.byte_fields.proofs.Loops.{begins, goes_on, stops, is_done}
use Rattle.node_file.proofs.opening.table.keys_of.Goals as goal

pub loop-init : goal.loop-init
loop-init c = record {
  before = [];
  held = record { each = λ n. ap (λ l. key_of l n) (ap (λ (t : Keys). t.entries) c.new-table.ensures); count = ap length (ap (λ (t : Keys). t.entries) c.new-table.ensures) };
  so_far = begins (channel_at c.args.bytes.now) c.args.count c.args.at;
  within = c.requires;
  filled = ap length (ap (λ (t : Keys). t.entries) c.new-table.ensures);
  room = (ap (λ (t : Keys). t.room) c.new-table.ensures);
}

pub returns-in_err-number-clause-value : goal.returns-in_err-number-clause-value
returns-in_err-number-clause-value c =
    let p = err_from_is_err_and c.from_residual.result c.from_residual.ensures.1 in
    let item = channel_at c.args.bytes.now in
    let so = c.loop.invariant in
    rw (p.1, p.2) (stops item c.args.count c.loop.counter so.before c.loop.next (items_behind item c.args.count [] c.args.at) NoMemory c.in_err-number.field-0.0 c.loop-test.true (c.in_err-number.ensures.value so.before so.held) so.so_far)

pub add-requires : goal.add-requires
add-requires c = record { is_new = c.in_ok-number.ensures.is_new; room_left = omega (arith, c.loop.invariant.filled, c.loop.invariant.room, c.loop-test.true) }

pub loop-preserved : goal.loop-preserved
loop-preserved c =
    let item = channel_at c.args.bytes.now in
    let so = c.loop.invariant in
    let number = c.in_ok-number.number in
    let key = c.in_ok-number.key in
    let adds : AddsKey c.loop.table c.add.new.self number key = c.in_ok-add.ensures.added in
    record {
      before = so.before ++ (number, key) ∷ [];
      held = adds_key c.loop.table c.add.new.self so.before number key so.held c.in_ok-number.ensures.is_new adds;
      so_far = goes_on item c.args.count c.loop.counter so.before c.loop.next (items_behind item c.args.count [] c.args.at) (number, key) c.in_ok-number.after c.loop-test.true (c.in_ok-number.ensures.value so.before so.held) so.so_far;
      within = c.in_ok-number.ensures.within;
      filled = adds.count ∙ ap (λ k. k + 1) so.filled;
      room = adds.room ∙ so.room;
    }

pub returns-clause-value : goal.returns-clause-value
returns-clause-value c =
    let item = channel_at c.args.bytes.now in
    let so = c.loop.invariant in
    ((so.before, c.loop.next), is_done item c.args.count c.loop.counter so.before c.loop.next (items_behind item c.args.count [] c.args.at) c.loop-test.false so.so_far, (so.held, refl))
