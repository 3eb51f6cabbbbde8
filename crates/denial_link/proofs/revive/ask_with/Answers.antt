use Rattle.std.proofs.Common.{map, sym}
use Rattle.prin_term.specs.View.{grant, principal}
use Rattle.stmt_codec.specs.View.{certificates}
use Rattle.denial_link.proofs.Places.{certificate_count}
use Rattle.denial_link.proofs.Reviving.{asks_by_marks}
use Rattle.denial_link.proofs.revive.ask_with.Goals as goal

pub returns : goal.returns
returns g c =
    asks_by_marks _ c.args.anchors.now (certificates c.args.these.now.certs.now) c.args.these.now.moment c.args.these.now.places.now _ c.marks_of-marks.result.items c.deref.result.now
    (principal c.args.subject.now) (map grant c.args.list.now) c.begin.ensures c.deref.ensures.0 (sym (certificate_count c.args.these.now.certs.now)) c.marks_of-marks.ensures
