-- What is no request under its channel's seal, and why.
use Rattle.std.proofs.Common.{sym}
use Rattle.taos_wire.specs.View.{request as request_of}
use Rattle.taos_monitor.specs.Arriving.{node_of}
use Rattle.request_course.specs.Course.{unknown_channel, unread}
use Rattle.taos_monitor.proofs.Payloads.{is_malformed, has_bad_seal}
use Rattle.taos_monitor.proofs.answering.asked_of.Goals as goal

pub returns-in-Err-Malformed-clause-refused : goal.returns-in-Err-Malformed-clause-refused
returns-in-Err-Malformed-clause-refused c = λ plans objects past J.
    is_malformed (node_of c.args.keys.now plans objects) past J c.args.payload.now c.in-Err-Malformed.offset c.in-Err-Malformed.field-0 c.in-Err-Malformed.field-0-is c.in-Err-Malformed.ensures.only c.in-Err-Malformed.ensures.exact

pub returns-in-Err-NoMemory-clause-refused : goal.returns-in-Err-NoMemory-clause-refused
returns-in-Err-NoMemory-clause-refused c = λ plans objects past J. unread

pub returns-in_default-clause-refused : goal.returns-in_default-clause-refused
returns-in_default-clause-refused c = λ plans objects past J. unknown_channel (request_of c.in-Ok.asked) c.in-Ok.ensures.found (sym c.in_default.ensures)

pub returns-then-not-sealed_with-clause-refused : goal.returns-then-not-sealed_with-clause-refused
returns-then-not-sealed_with-clause-refused c = λ plans objects past J.
    has_bad_seal (node_of c.args.keys.now plans objects) past J c.args.payload.now (request_of c.in-Ok.asked) c.in-Some.sealer.now c.sealed_with.result c.in-Ok.ensures.found c.in-Some.ensures c.sealed_with.ensures.1 c.if-not-sealed_with.true

pub returns-clause-asked : goal.returns-clause-asked
returns-clause-asked c = record {
  key = c.in-Some.sealer.now;
  asked = record { spelled = c.in-Ok.ensures.found; keyed = sym c.in-Some.ensures; seal = c.sealed_with.ensures.0 c.if-not-sealed_with.false };
}
