use Rattle.std.proofs.Common.{map, take, ◌≡◌}
use Rattle.taos_wire.specs.View.{text_of, cited as shared}
use Rattle.taos_monitor.specs.Presenting.{AllCome}
use Rattle.taos_monitor.specs.Reaching.{UsesLink, link_by}
use Rattle.taos_monitor.proofs.presented.open_all.Given as goal

abbrev pub invariant-loop-place : goal.invariant-loop-place
invariant-loop-place g l =
    AllCome l.initial.opened (link_by l.node (g.X.Reach.shown l.initial.outside) (g.X.Reach.shown l.outside)) (map text_of (take l.place l.texts)) (map shared l.certs.items)
    × (l.opened ≡ l.initial.opened) × UsesLink (g.X.Reach.shown l.initial.outside) (g.X.Reach.shown l.outside)
