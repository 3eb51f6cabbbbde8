use Rattle.std.proofs.Common.{◌≡◌, length, rules}
use Rattle.std.specs.Option.{option_copied}
use Rattle.taos_wire.specs.Reply.{reply_text, seal_of}
use Rattle.taos_wire.specs.View.{lent_part}
use Rattle.taos_wire.proofs.Seals.{sealed_pushes}
use Rattle.taos_wire.proofs.reply_lent.push_sealed_part.Goals as goal

pub returns : goal.returns
returns c =
    let text = reply_text c.args.channel c.args.seq (lent_part c.args.denial.now) in
    let place : c.len-start.result ≡ length c.args.out.now.items = search rules in
    sealed_pushes (seal_of (option_copied c.args.sealer)) c.args.out.now c.push_part_text.new.out c.push_seal.new.out text c.len-start.result _ c.push_seal.result place c.in_ok-push_part_text.ensures c.push_seal.ensures
