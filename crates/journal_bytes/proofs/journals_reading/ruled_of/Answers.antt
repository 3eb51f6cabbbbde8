use Rattle.std.proofs.Common.{◌≡◌, ◌++◌, ◌∷◌, List, [], map}
use Rattle.std.proofs.lemmas.Result.{err_from_is_err_and}
use Rattle.std.proofs.lemmas.List.{map_push}
use Rattle.byte_fields.specs.Readers.{items_behind}
use Rattle.byte_fields.specs.declared.fault.FormatFault.TheVariants.{NoMemory}
use Rattle.byte_fields.proofs.Loops.{goes_on, stops, is_done}
use Rattle.object_core.specs.Objects.{ObjectEntry}
use Rattle.object_core.specs.ObjectView.{object_entry}
use Rattle.journal_bytes.specs.Reading.{ruled_at}
use Rattle.journal_bytes.proofs.journals_reading.ruled_of.Goals as goal

pub returns-in_err-entry-clause-value : goal.returns-in_err-entry-clause-value
returns-in_err-entry-clause-value c =
    let p = err_from_is_err_and c.from_residual.result c.from_residual.ensures.1 in
    let item = λ (_ : List ObjectEntry). ruled_at c.args.bytes.now in
    rw (p.1, p.2) (stops item c.args.count c.loop.counter (map object_entry c.loop.entries.items) c.loop.next (items_behind item c.args.count [] c.args.at) NoMemory c.in_err-entry.field-0.0 c.loop-test.true c.in_err-entry.ensures.exact c.loop.invariant.so_far)

pub loop-preserved : goal.loop-preserved
loop-preserved c =
    let item = λ (_ : List ObjectEntry). ruled_at c.args.bytes.now in
    let entry = c.in_ok-entry.entry in
    let pushed : map object_entry c.push.new.self.items ≡ map object_entry c.loop.entries.items ++ object_entry entry ∷ [] = rw c.in_ok-push.ensures.items (map_push _ c.loop.entries.items entry) in
    record {
      so_far = rw pushed (goes_on item c.args.count c.loop.counter (map object_entry c.loop.entries.items) c.loop.next (items_behind item c.args.count [] c.args.at) (object_entry entry) c.in_ok-entry.after c.loop-test.true c.in_ok-entry.ensures.exact c.loop.invariant.so_far);
      within = c.in_ok-entry.ensures.within;
    }

pub returns-clause-value : goal.returns-clause-value
returns-clause-value c =
    let item = λ (_ : List ObjectEntry). ruled_at c.args.bytes.now in
    is_done item c.args.count c.loop.counter (map object_entry c.loop.entries.items) c.loop.next (items_behind item c.args.count [] c.args.at) c.loop-test.false c.loop.invariant.so_far
