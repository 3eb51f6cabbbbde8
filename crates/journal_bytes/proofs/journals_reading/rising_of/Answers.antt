use Rattle.std.proofs.Common.{◌≡◌, ◌+◌, ◌++◌, ◌∷◌, [], map, subst, sym, ◌∙◌}
use Rattle.std.proofs.lemmas.Result.{err_from_is_err_and}
use Rattle.std.proofs.lemmas.List.{map_push}
use Rattle.byte_fields.specs.Readers.{items_behind}
use Rattle.byte_fields.specs.declared.fault.FormatFault.TheVariants.{NoMemory}
use Rattle.byte_fields.proofs.Loops.{goes_on, stops, is_done}
use Rattle.journal_bytes.specs.JournalsReading.{object_at, IsLeastAbove}
use Rattle.journal_bytes.specs.View.{object_seen}
use Rattle.journal_bytes.proofs.Rising.{by_least, least_next, refused_by_least}
use Rattle.journal_bytes.proofs.journals_reading.rising_of.Goals as goal

pub returns-in_err-object-clause-value : goal.returns-in_err-object-clause-value
returns-in_err-object-clause-value c =
    let p = err_from_is_err_and c.from_residual.result c.from_residual.ensures.1 in
    let item = object_at c.args.bytes.now in
    let before = map object_seen c.loop.objects.items in
    rw (p.1, p.2) (stops item c.args.count c.loop.counter before c.loop.next (items_behind item c.args.count [] c.args.at) NoMemory c.in_err-object.field-0.0 c.loop-test.true (refused_by_least c.loop.least before c.loop.invariant.least c.args.bytes.now c.loop.next NoMemory c.in_err-object.field-0.0 c.in_err-object.ensures.value) c.loop.invariant.so_far)

pub loop-preserved : goal.loop-preserved
loop-preserved c =
    let item = object_at c.args.bytes.now in
    let object = c.in_ok-object.object in
    let before = map object_seen c.loop.objects.items in
    let pushed : map object_seen c.push.new.self.items ≡ before ++ object_seen object ∷ [] = rw c.in_ok-push.ensures.items (map_push _ c.loop.objects.items object) in
    record {
      so_far = rw pushed (goes_on item c.args.count c.loop.counter before c.loop.next (items_behind item c.args.count [] c.args.at) (object_seen object) c.in_ok-object.after c.loop-test.true (by_least c.loop.least before c.loop.invariant.least c.args.bytes.now c.loop.next ∙ c.in_ok-object.ensures.value) c.loop.invariant.so_far);
      least = subst (IsLeastAbove (object.number + 1)) (sym pushed) (least_next c.loop.least before (object_seen object) c.loop.invariant.least c.in_ok-object.ensures.from);
      within = c.in_ok-object.ensures.within;
    }

pub returns-clause-value : goal.returns-clause-value
returns-clause-value c =
    let item = object_at c.args.bytes.now in
    is_done item c.args.count c.loop.counter (map object_seen c.loop.objects.items) c.loop.next (items_behind item c.args.count [] c.args.at) c.loop-test.false c.loop.invariant.so_far
