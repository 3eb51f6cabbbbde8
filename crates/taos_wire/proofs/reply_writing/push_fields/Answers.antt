use Rattle.std.proofs.Common.{ap, map, subst}
use Rattle.std.proofs.lemmas.Result.{on_ok_weaker}
use Rattle.byte_fields.specs.Appends.{Pushes}
use Rattle.taos_calculus.specs.Tables.{lines_of}
use Rattle.taos_wire.specs.Reply.{Reply, fields_of}
use Rattle.taos_wire.specs.View.{cited, reply, link}
use Rattle.taos_wire.proofs.ReplyPieces.{granted_same}
use Rattle.taos_wire.proofs.ShortReplies.{denied_short}
use Rattle.taos_wire.proofs.reply_writing.push_fields.Goals as goal

pub returns-in-Granted-clause-pushes : goal.returns-in-Granted-clause-pushes
returns-in-Granted-clause-pushes c =
    let g = c.in-Granted in
    let same = granted_same g.kept g.entry g.shard g.place _ _ _ _ _ _ (reply c.args.answer.now) (ap lines_of c.deref.ensures) (ap (λ certs. map cited certs) c.deref-in-Granted.ensures.value) c.deref-in-Granted-2.ensures.value (ap reply g.is) in
    subst (λ (r : Reply). Pushes {A = Unit {0}} c.args.out.now c.push_granted.new.out (fields_of r) c.push_granted.result) same c.push_granted.ensures.pushes

pub returns-in-Denied-clause-short : goal.returns-in-Denied-clause-short
returns-in-Denied-clause-short c =
    on_ok_weaker c.push_denied.result
    (λ last. denied_short (reply c.args.answer.now) c.in-Denied.shard c.in-Denied.place (link c.in-Denied.link) (ap reply c.in-Denied.is) c.requires.limits)
    c.push_denied.ensures.ok
