use Rattle.std.proofs.Common.{arith}
use Rattle.shard_core.specs.Cells.{cells_of}
use Rattle.audit_replay.proofs.AllComing.{was_judged, was_malformed}
use Rattle.audit_replay.proofs.replaying.replay.Goals as goal

pub returns-in-Ok : goal.returns-in-Ok
returns-in-Ok g c = was_judged (cells_of c.args.node.now) c.args.bytes.now (λ i. omega (arith, c.type_inv.bytes i)) c.in-Ok.replayed c.in-Ok.ensures

pub returns-in-Err-Malformed : goal.returns-in-Err-Malformed
returns-in-Err-Malformed g c =
    let made = rw c.in-Err-Malformed.field-0-is at c.in-Err-Malformed.ensures in
    was_malformed (cells_of c.args.node.now) c.args.bytes.now c.in-Err-Malformed.offset made
