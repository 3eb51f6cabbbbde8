-- the ask that is made stands for what came
use Rattle.std.proofs.Common.{refl, inl, map}
use Rattle.std.specs.Arc.{arc_value}
use Rattle.prin_term.specs.View.{grant}
use Rattle.agent_core.specs.Asked.{LacksMemory}
use Rattle.agent_core.specs.Shards.{home_of}
use Rattle.agent_core.proofs.Asks.{on_err, standing}
use Rattle.taos_monitor.specs.Ruling.{ask_came}
use Rattle.taos_monitor.proofs.AtHome.{ended_at_home, lacked_at_home, not_yet}
use Rattle.taos_monitor.proofs.deciding.ask_at_home.Goals as goal

pub returns-in_err-made-clause-lacked : goal.returns-in_err-made-clause-lacked
returns-in_err-made-clause-lacked g c =
    let before = g.S.Shards.shown c.args.shards.now in
    let h = home_of before c.args.came.asked.now.channel in
    let (plan, planned) = standing before.plans h c.requires.there in
    let a = ask_came c.args.came (map grant (arc_value c.args.list.now).items) in
    on_err c.from_residual.result
    (not_yet before h plan (λ p journal own. LacksMemory p (before.seen h) journal a own) c.requires.legal planned (record { unanswered = inl refl; room = λ _. inl refl }))

pub returns-clause-ended : goal.returns-clause-ended
returns-clause-ended g c =
    ended_at_home (g.S.Shards.shown c.args.shards.now) (g.S.Shards.shown c.ask.new.shards) c.requires.legal
    (ask_came c.args.came (map grant (arc_value c.args.list.now).items)) c.requires.there c.in_ok-made.ensures c.ask.ensures.rest c.ask.result c.ask.ensures.asked

pub returns-clause-lacked : goal.returns-clause-lacked
returns-clause-lacked g c =
    lacked_at_home (g.S.Shards.shown c.args.shards.now) (g.S.Shards.shown c.ask.new.shards) c.requires.legal
    (ask_came c.args.came (map grant (arc_value c.args.list.now).items)) c.requires.there c.in_ok-made.ensures c.ask.ensures.rest c.ask.result c.ask.ensures.unanswered
