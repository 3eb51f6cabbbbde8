use Rattle.std.proofs.Common.{arith}
use Rattle.taos_wire.proofs.RequestLaws.{is_found, is_only}
use Rattle.byte_fields.proofs.FormatPlaces.{fault_within}
use Rattle.taos_wire.specs.RequestReading.{request_of}
use Rattle.taos_wire.specs.View.{request}
use Rattle.taos_wire.proofs.RequestForms.{request_refused}
use Rattle.taos_wire.proofs.reading.read_request.Goals as goal

pub returns-clause-found : goal.returns-clause-found
returns-clause-found c = is_found c.args.bytes.now c.all_of.result (λ i. omega (arith, c.type_inv.bytes i)) c.all_of.ensures

pub returns-clause-only : goal.returns-clause-only
returns-clause-only c = is_only c.args.bytes.now c.all_of.result c.all_of.ensures

pub returns-clause-place : goal.returns-clause-place
returns-clause-place c =
    fault_within request c.args.bytes.now c.all_of.result (request_of c.args.bytes.now) c.all_of.ensures (λ f e. request_refused c.args.bytes.now (λ i. omega (arith, c.type_inv.bytes i)) f e)
