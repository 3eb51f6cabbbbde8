use Rattle.std.proofs.Common.{arith}
use Rattle.byte_fields.proofs.FormatPlaces.{fault_within}
use Rattle.taos_wire.specs.ReplyReading.{reply_of}
use Rattle.taos_wire.proofs.ReplyLaws.{seen, is_found, is_only}
use Rattle.taos_wire.proofs.ReplyForms.{reply_refused}
use Rattle.taos_wire.proofs.reply_reading.read_reply.Goals as goal

pub returns-clause-found : goal.returns-clause-found
returns-clause-found c = is_found c.args.bytes.now c.all_of.result (λ i. omega (arith, c.type_inv.bytes i)) c.all_of.ensures

pub returns-clause-only : goal.returns-clause-only
returns-clause-only c = is_only c.args.bytes.now c.all_of.result c.all_of.ensures

pub returns-clause-place : goal.returns-clause-place
returns-clause-place c =
    fault_within seen c.args.bytes.now c.all_of.result (reply_of c.args.bytes.now) c.all_of.ensures (λ f e. reply_refused c.args.bytes.now (λ i. omega (arith, c.type_inv.bytes i)) f e)
