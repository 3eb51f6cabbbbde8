use Rattle.std.proofs.Common.{ap}
use Rattle.std.specs.Prelude.{option_copied}
use Rattle.taos_wire.specs.View.{request as request_is, reply as reply_is}
use Rattle.node_commands.proofs.Looked.{absent_reply, unspelled_reply, unechoed, unsealed_reply, is_believed}
use Rattle.node_commands.proofs.checking.replied_of.Goals as goal

pub returns-in_default-clause-stops : goal.returns-in_default-clause-stops
returns-in_default-clause-stops c = λ o q asked. absent_reply o q (option_copied c.args.frame) (request_is c.args.asked.now) c.args.sealer.now asked (ap option_copied c.in_default.is)

pub returns-in-Err-Malformed-clause-stops : goal.returns-in-Err-Malformed-clause-stops
returns-in-Err-Malformed-clause-stops c = λ o q asked.
    unspelled_reply o q (option_copied c.args.frame) (request_is c.args.asked.now) c.args.sealer.now c.in-Some.bytes.now c.in-Err-Malformed.field-0 c.in-Err-Malformed.field-0-0 asked (ap option_copied c.in-Some.is) c.in-Err-Malformed.field-0-is c.in-Err-Malformed.ensures.only

pub returns-then-not-echoes-clause-stops : goal.returns-then-not-echoes-clause-stops
returns-then-not-echoes-clause-stops c = λ o q asked.
    unechoed o q (option_copied c.args.frame) (request_is c.args.asked.now) c.args.sealer.now c.in-Some.bytes.now c.in-Ok.read.0 c.in-Ok.read.1 (reply_is c.in-Ok.read.2) c.echoes.result asked (ap option_copied c.in-Some.is) c.in-Ok.ensures.found
    c.echoes.ensures.1 c.if-not-echoes.true

pub returns-then-not-sealed_with-clause-stops : goal.returns-then-not-sealed_with-clause-stops
returns-then-not-sealed_with-clause-stops c = λ o q asked.
    unsealed_reply o q (option_copied c.args.frame) (request_is c.args.asked.now) c.args.sealer.now c.in-Some.bytes.now c.in-Ok.read.0 c.in-Ok.read.1 (reply_is c.in-Ok.read.2) c.sealed_with.result asked (ap option_copied c.in-Some.is) c.in-Ok.ensures.found
    (c.echoes.ensures.0 c.if-not-echoes.false) c.sealed_with.ensures.1 c.if-not-sealed_with.true

pub returns-clause-believed : goal.returns-clause-believed
returns-clause-believed c = λ o q asked.
    is_believed o q (option_copied c.args.frame) (request_is c.args.asked.now) c.args.sealer.now c.in-Some.bytes.now c.in-Ok.read.0 c.in-Ok.read.1 (reply_is c.in-Ok.read.2) asked (ap option_copied c.in-Some.is) c.in-Ok.ensures.found
    (c.echoes.ensures.0 c.if-not-echoes.false) (c.sealed_with.ensures.0 c.if-not-sealed_with.false)
