-- the head says the most, and the bytes the rest
use Rattle.std.proofs.Common.{◌≡◌, Some, ap, ◌∙◌, arith}
use Rattle.taos_wire.specs.Heads.{head_of}
use Rattle.taos_wire.specs.declared.reply_head.ReplyHead.{ReplyHead}
use Rattle.node_telling.specs.Replies.{front_with}
use Rattle.node_telling.specs.declared.texts.reply.ReplyFront.{ReplyFront}
use Rattle.node_telling.proofs.ReplyFronts.{front_said}
use Rattle.node_telling.proofs.texts.reply.reply_at.Goals as goal

pub returns-in-Some-clause-said : goal.returns-in-Some-clause-said
returns-in-Some-clause-said c = λ channel seq r more is enough.
    let said = c.in-Some.ensures.said channel seq r more is (omega (arith, enough)) in
    let same : c.in-Some.head ≡ head_of channel seq r = cc (said) in
    ap (λ (f : ReplyFront). Some f) (c.front_of.ensures ∙ ap (λ (h : ReplyHead). front_with c.args.front.now h) same ∙ front_said channel seq c.args.front.now more r is enough)

pub returns-in-None-clause-said : goal.returns-in-None-clause-said
returns-in-None-clause-said c = λ channel seq r more is enough.
    let said = c.in-None.ensures.said channel seq r more is (omega (arith, enough)) in
    cc (said)
