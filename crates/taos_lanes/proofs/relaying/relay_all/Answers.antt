use denote.Exit.{no}
use denote.Param.Send.{arg_send, param_send}
use mir.Syntax.{named}
use Rattle.std.proofs.Common.{get_or, subst}
use Rattle.taos_lanes.specs.Relaying.{RelaysLane}
use Rattle.taos_lanes.specs.Telling.{told_by}
use Rattle.taos_lanes.proofs.Crossing.{relay_sync}
use Rattle.taos_lanes.proofs.Rows.{each_place}
use Rattle.taos_lanes.proofs.relaying.relay_all.Goals as goal

pub for_each_mut-requires-send-T : goal.for_each_mut-requires-send-T
for_each_mut-requires-send-T g c κs within = c.type_bounds.send-L

pub for_each_mut-requires-sync-F : goal.for_each_mut-requires-sync-F
for_each_mut-requires-sync-F g c κs within = record { shared = λ x b o ℓ. (((λ q. tt, (relay_sync (record { mir = named 0; lft = κs.1.1.1.1.1.1.1.0 })).shared x.0.now x.0.ref_ptr.0 x.0.ref_ptr.1 κs.1.1.1.1.1.1.0), tt), λ q. tt) }

pub for_each_mut-requires-clause-accepts : goal.for_each_mut-requires-clause-accepts
for_each_mut-requires-clause-accepts g c κs within = λ i p lt is.
    let by = c.type_bounds in (
      param_send 0 _ (arg_send _ no _ by.send-L),
      param_send 1 _ (arg_send _ no _ by.send-L-In),
      param_send 2 _ (arg_send _ no _ by.send-L-Out),
    )

pub returns : goal.returns
returns g c =
    let serves = RelaysLane (told_by g.L.In.Source.shown g.L.Out.Sink.shown) c.args.relay.now.table.now c.args.relay.now.limits in
    each_place serves g.L.Worker.shown _ _ c.for_each_mut.auto.s
    (λ k d lt. let at = (c.for_each_mut.ensures k d lt).1 in subst (λ x. serves (g.L.Worker.shown (get_or c.args.lanes.now k d)) (g.L.Worker.shown x)) at.left (subst (λ x. serves (g.L.Worker.shown x) (g.L.Worker.shown at.after_call.now)) at.argument_is at.call))
