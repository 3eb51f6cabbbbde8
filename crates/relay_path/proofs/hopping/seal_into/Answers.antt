use Rattle.stmt_codec.specs.Certificates.{certificate}
use Rattle.relay_path.proofs.Short.{has_room}
use Rattle.relay_path.proofs.hopping.seal_into.Goals as goal

pub unwrap-requires : goal.unwrap-requires
unwrap-requires c =
    c.try_extend_from_slice.ensures.variant.1
    (has_room c.args.front.now c.args.sealer.now c.args.out.now.items c.deref.result.now (certificate c.args.body.now) c.requires.limits c.requires.short c.requires.empty (cc (c.deref.ensures.value, c.in-Ok.ensures)))
