use Rattle.std.proofs.Common.{sym}
use Rattle.audit_replay.proofs.ObjectsComing.{object_passes}
use Rattle.audit_replay.proofs.skipping.skip_object.Goals as goal

pub returns-clause-value : goal.returns-clause-value
returns-clause-value c =
    object_passes c.args.bytes.now c.args.at c.in_ok-number.number c.in_ok-number.next c.in_ok-next.next c.args.least (sym c.in_ok-number.ensures.value) c.in_ok-number.ensures.from c.in_ok-next.ensures.value
