use Rattle.std.proofs.Common.{◌≡◌, ◌++◌, ◌∷◌, List, [], map}
use Rattle.std.proofs.lemmas.Result.{err_from_is_err_and}
use Rattle.std.proofs.lemmas.List.{map_push}
use Rattle.byte_fields.specs.Readers.{items_behind}
use Rattle.prin_term.specs.View.{Grant, grant}
use Rattle.byte_fields.proofs.Loops.{goes_on, stops, is_done}
use Rattle.byte_fields.specs.declared.fault.FormatFault.TheVariants.{NoMemory}
use Rattle.object_core.specs.Reading.{entry_at}
use Rattle.object_core.proofs.reading.entries_of.Goals as goal

pub returns-in_err-entry-clause-value : goal.returns-in_err-entry-clause-value
returns-in_err-entry-clause-value c =
    let p = err_from_is_err_and c.from_residual-in_err-entry.result c.from_residual-in_err-entry.ensures.1 in
    let item = λ (_ : List Grant). entry_at c.args.bytes.now in
    rw (p.1, p.2) (stops item c.args.count c.loop.counter (map grant c.loop.list.items) c.loop.next (items_behind item c.args.count [] c.args.at) NoMemory c.in_err-entry.field-0.0 c.loop-test.true c.in_err-entry.ensures.value c.loop.invariant.so_far)

pub loop-preserved : goal.loop-preserved
loop-preserved c =
    let item = λ (_ : List Grant). entry_at c.args.bytes.now in
    let entry = c.in_ok-entry.entry in
    let pushed : map grant c.push.new.self.items ≡ map grant c.loop.list.items ++ grant entry ∷ [] = rw c.in_ok-push.ensures.items (map_push _ c.loop.list.items entry) in
    record {
      so_far = rw pushed (goes_on item c.args.count c.loop.counter (map grant c.loop.list.items) c.loop.next (items_behind item c.args.count [] c.args.at) (grant entry) c.in_ok-entry.after c.loop-test.true c.in_ok-entry.ensures.value c.loop.invariant.so_far);
      within = c.in_ok-entry.ensures.within;
    }

pub returns-clause-value : goal.returns-clause-value
returns-clause-value c =
    let item = λ (_ : List Grant). entry_at c.args.bytes.now in
    is_done item c.args.count c.loop.counter (map grant c.loop.list.items) c.loop.next (items_behind item c.args.count [] c.args.at) c.loop-test.false c.loop.invariant.so_far
