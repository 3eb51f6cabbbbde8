-- what was read is what the reply says
use Rattle.std.proofs.Common.{◌≡◌, ap, ◌∙◌}
use Rattle.node_telling.specs.Replies.{front_by, is_named}
use Rattle.node_telling.specs.declared.texts.reply.ReplyFront.{ReplyFront}
use Rattle.node_telling.proofs.texts.reply.shows_seal.Goals as goal

pub returns-in-Some : goal.returns-in-Some
returns-in-Some c = λ channel seq r more is enough.
    let said = c.in-Some.ensures.said channel seq r more is enough in
    let same : c.in-Some.front ≡ front_by channel seq r = cc (said) in
    c.names_request.ensures ∙ ap (λ (f : ReplyFront). is_named f.head) same

pub returns-in-None : goal.returns-in-None
returns-in-None c = λ channel seq r more is enough.
    let said = c.in-None.ensures.said channel seq r more is enough in
    cc (said)
