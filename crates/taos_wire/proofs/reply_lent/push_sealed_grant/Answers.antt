use Rattle.std.proofs.Common.{◌≡◌, length, rules}
use Rattle.std.specs.Option.{option_copied}
use Rattle.std.proofs.lemmas.Result.{on_ok_weaker}
use Rattle.taos_wire.specs.Reply.{reply_text, seal_of}
use Rattle.taos_wire.specs.View.{lent_grant}
use Rattle.taos_wire.proofs.Seals.{sealed_pushes}
use Rattle.taos_wire.proofs.ShortReplies.{spelling_short}
use Rattle.taos_wire.proofs.reply_lent.push_sealed_grant.Goals as goal

pub returns-clause-pushes : goal.returns-clause-pushes
returns-clause-pushes c =
    let text = reply_text c.args.channel c.args.seq (lent_grant c.args.grant.now) in
    let place : c.len-start.result ≡ length c.args.out.now.items = search rules in
    sealed_pushes (seal_of (option_copied c.args.sealer)) c.args.out.now c.push_grant_text.new.out c.push_seal.new.out text c.len-start.result _ c.push_seal.result place c.in_ok-push_grant_text.ensures.pushes c.push_seal.ensures

pub returns-clause-short : goal.returns-clause-short
returns-clause-short c =
    on_ok_weaker c.push_seal.result
    (λ last. spelling_short (option_copied c.args.sealer) c.args.channel c.args.seq (lent_grant c.args.grant.now) c.in_ok-push_grant_text.ensures.short)
    c.push_seal.ensures.ok
