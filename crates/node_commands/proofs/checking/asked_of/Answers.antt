use Rattle.std.proofs.Common.{ap, sym}
use Rattle.std.specs.Prelude.{option_copied}
use Rattle.taos_wire.specs.View.{request as request_is}
use Rattle.node_file.specs.Meaning.{opening}
use Rattle.node_commands.specs.Checking.{no_channel}
use Rattle.node_commands.proofs.Looked.{absent_request, unspelled_request, unsealed_request}
use Rattle.node_commands.proofs.checking.asked_of.Goals as goal

pub returns-in_default-clause-stops : goal.returns-in_default-clause-stops
returns-in_default-clause-stops c = λ p. absent_request (opening c.args.node.now) (option_copied c.args.frame) p (ap option_copied c.in_default.is)

pub returns-in-Err-Malformed-clause-stops : goal.returns-in-Err-Malformed-clause-stops
returns-in-Err-Malformed-clause-stops c = λ p.
    unspelled_request (opening c.args.node.now) (option_copied c.args.frame) p c.in-Some.payload.now c.in-Err-Malformed.field-0 c.in-Err-Malformed.field-0-0 (ap option_copied c.in-Some.is) c.in-Err-Malformed.field-0-is c.in-Err-Malformed.ensures.only

pub returns-in_default-sealer-clause-stops : goal.returns-in_default-sealer-clause-stops
returns-in_default-sealer-clause-stops c = λ p. no_channel c.in-Some.payload.now (request_is c.in-Ok.asked) (ap option_copied c.in-Some.is) c.in-Ok.ensures.found (sym c.in_default-sealer.ensures)

pub returns-then-not-sealed_with-clause-stops : goal.returns-then-not-sealed_with-clause-stops
returns-then-not-sealed_with-clause-stops c = λ p.
    unsealed_request (opening c.args.node.now) (option_copied c.args.frame) p c.in-Some.payload.now (request_is c.in-Ok.asked) c.in-Some-sealer.sealer.now c.sealed_with.result (ap option_copied c.in-Some.is) c.in-Ok.ensures.found c.in-Some-sealer.ensures
    c.sealed_with.ensures.1 c.if-not-sealed_with.true
