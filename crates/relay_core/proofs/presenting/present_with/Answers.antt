use Rattle.std.specs.Arc.{arc_value}
use Rattle.stmt_codec.specs.Certificates.{certificate}
use Rattle.relay_core.proofs.Coming.{on_ok, on_err, comes_uncalled, stops_uncalled}
use Rattle.relay_core.proofs.presenting.present_with.Goals as goal

pub returns-else-is_issued-clause-came : goal.returns-else-is_issued-clause-came
returns-else-is_issued-clause-came g c =
    on_ok c.open_one.result
    (λ cert opens. comes_uncalled c.args.node c.args.opened.now c.args.text.now (g.R.RelayLink.shown c.args.link.now) (certificate (arc_value cert).body) opens)
    c.open_one.ensures.opens

pub returns-else-is_issued-clause-stopped : goal.returns-else-is_issued-clause-stopped
returns-else-is_issued-clause-stopped g c =
    on_err c.open_one.result (λ f why. stops_uncalled c.args.node c.args.opened.now c.args.text.now (g.R.RelayLink.shown c.args.link.now) f why) c.open_one.ensures.refused
