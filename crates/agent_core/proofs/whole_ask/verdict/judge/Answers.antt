-- no entry has the right
use Rattle.std.proofs.Common.{map}
use Rattle.prin_term.specs.View.{Grant, grant}
use Rattle.stmt_codec.specs.View.{certificates}
use Rattle.denial_link.specs.Links.{NoEntryWith}
use Rattle.agent_core.specs.Views.{ask_of}
use Rattle.agent_core.proofs.Marks.{no_right}
use Rattle.agent_core.proofs.whole_ask.verdict.judge.Goals as goal

pub returns-in_default-clause-verdict : goal.returns-in_default-clause-verdict
returns-in_default-clause-verdict g c =
    let found : NoEntryWith (map grant c.deref-2.result.now) c.args.asked.now.right (λ (e : Grant). Unit {0}) = c.in_default.ensures in
    let none : NoEntryWith (map grant c.args.asked.now.list.value.items) c.args.asked.now.right (λ (e : Grant). Unit {0}) = rw (c.deref-2.ensures.value, c.deref.ensures) at found in
    no_right c.args.anchors.now (certificates c.args.snapshot.now.certs.items) c.args.snapshot.now.moment (ask_of c.args.asked.now) none
