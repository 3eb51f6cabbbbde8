use Rattle.std.proofs.Common.{◌≡◌, length, rules}
use Rattle.keyed_seal.specs.Tag.{tag_of}
use Rattle.taos_wire.specs.Request.{request_text}
use Rattle.taos_wire.specs.View.{request}
use Rattle.taos_wire.proofs.Seals.{sealed_pushes}
use Rattle.taos_wire.proofs.writing.push_sealed.Goals as goal

pub returns : goal.returns
returns c =
    let place : c.len-start.result ≡ length c.args.out.now.items = search rules in
    sealed_pushes (tag_of c.args.key.now) c.args.out.now c.push_text.new.out c.push_tag.new.out (request_text (request c.args.asked.now)) c.len-start.result _ c.push_tag.result place c.in_ok-push_text.ensures c.push_tag.ensures
