-- the line of this entry stands after those before
use Rattle.std.proofs.Common.{arith}
use Rattle.std.specs.Prelude.{string_bytes}
use Rattle.object_core.specs.ObjectView.{object_entry}
use Rattle.audit_text.specs.ObjectLines.{object_line}
use Rattle.audit_text.proofs.Numbering.{told_then}
use Rattle.audit_text.proofs.object.push_journal.Goals as goal

pub loop-place-preserved : goal.loop-place-preserved
loop-place-preserved c =
    told_then (object_line c.args.number) object_entry c.args.journal.now c.loop-place.place c.index-journal-place.result
    (string_bytes c.args.out.now) (string_bytes c.loop-place.out) (string_bytes c.push_entry.new.out)
    (omega arith) c.index-journal-place.is c.loop-place.invariant c.in_ok-push_entry.ensures
