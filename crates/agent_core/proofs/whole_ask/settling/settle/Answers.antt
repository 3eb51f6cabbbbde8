-- the certificate that the first link names is there
use Rattle.std.proofs.Common.{map, sym, subst}
use Rattle.prin_term.specs.View.{grant, principal}
use Rattle.stmt_codec.specs.View.{certificates}
use Rattle.agent_core.specs.Settling.{IsPlaceIn}
use Rattle.agent_core.proofs.LinkPlaces.{link_within}
use Rattle.agent_core.proofs.whole_ask.settling.settle.Goals as goal

pub denial_of-requires : goal.denial_of-requires
denial_of-requires g c =
    subst (λ cs. IsPlaceIn (certificates cs) c.in-Denied.link) (sym c.deref.ensures.value)
    (link_within c.args.anchors.now (certificates c.args.snapshot.now.certs.items) c.args.snapshot.now.moment (principal c.args.asked.now.subject)
    (map grant c.args.asked.now.list.value.items) c.args.asked.now.right c.in-Denied.link c.in-Denied.ensures.verdict.1)
