use Rattle.std.proofs.Common.{map}
use Rattle.prin_term.specs.View.{grant, principal}
use Rattle.stmt_codec.specs.View.{certificates}
use Rattle.goal_search.proofs.Answered.{seen_about, still_about}
use Rattle.goal_search.proofs.asked.Asked.begin.Goals as goal

pub returns-clause-seen_is : goal.returns-clause-seen_is
returns-clause-seen_is c =
    let a = c.prepare.new.self in
    let b = c.choose_all.new.self in
    let same = c.choose_all.ensures.same in
    seen_about b c.args.anchors.now (certificates c.args.certs.now) c.args.chosen.now (principal c.args.subject.now) (map grant c.args.list.now)
    (still_about a b _ _ _ _ same c.prepare.ensures.about) (rw same.taken_are c.prepare.ensures.taken) c.choose_all.ensures.marks
