use Rattle.std.proofs.Common.{arith}
use Rattle.relay_core.proofs.Asking.{replies}
use Rattle.relay_core.proofs.replying.reply_to.Goals as goal

-- the reply spells the answer to what was read
pub returns-clause-reply : goal.returns-clause-reply
returns-clause-reply c =
    replies c.args.table.now.issuers.entries c.args.table.now.nodes.entries c.args.payload.now c.lay_reply.new.reply.items c.answer_to-answer.result c.answer_to-answer.new.out.items
    (λ i. omega (arith, c.type_inv.payload i)) (cc (c.lay_reply.ensures, c.as_slice.ensures.value)) c.answer_to-answer.ensures
