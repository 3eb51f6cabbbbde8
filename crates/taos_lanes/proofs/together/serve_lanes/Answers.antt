use denote.Exit.{no}
use denote.Param.Send.{arg_send, arg_sync, param_send, param_sync}
use mir.Syntax.{named}
use Rattle.std.proofs.Common.{get_or, subst, sym}
use Rattle.taos_lanes.specs.Stocked.{IsStocked, ServesLane, cells_of}
use Rattle.taos_lanes.specs.Telling.{told_by}
use Rattle.taos_lanes.proofs.Crossing.{shared_sync}
use Rattle.taos_lanes.proofs.Rows.{each_place}
use Rattle.taos_lanes.proofs.together.serve_lanes.Goals as goal

pub for_each_mut-requires-send-T : goal.for_each_mut-requires-send-T
for_each_mut-requires-send-T g c κs within = param_send 1 _ c.type_bounds.send-L

pub for_each_mut-requires-sync-F : goal.for_each_mut-requires-sync-F
for_each_mut-requires-sync-F g c κs within = record { shared = λ x b o ℓ. (((λ q. tt, (shared_sync (record { mir = named 0; lft = κs.1.1.1.1.1.1.1.0 }) _ _ _ c.type_bounds.sync-W c.type_bounds.sync-A c.type_bounds.sync-R).shared x.0.now x.0.ref_ptr.0 x.0.ref_ptr.1 κs.1.1.1.1.1.1.0), tt), λ q. tt) }

pub for_each_mut-requires-clause-accepts : goal.for_each_mut-requires-clause-accepts
for_each_mut-requires-clause-accepts g c κs within = λ i p lt is.
    let by = c.type_bounds in
    let asks = c.requires in
    let stocked = subst (λ lane. IsStocked (cells_of c.args.shared.now.agent.now c.args.shared.now.rack.now) g.A.OfAgent.shares g.R.OfRack.shares (g.L.Worker.shown lane).work) (sym is) (asks.stocked i p.now lt) in (
      asks.planned,
      (
        asks.agent,
        (
          asks.rack,
          (
            stocked,
            (
              param_send 1 _ (arg_send _ no _ by.send-A),
              param_send 2 _ (arg_send _ no _ by.send-R),
              param_send 3 _ (arg_send _ no _ by.send-L),
              param_send 4 _ (arg_send _ no _ by.send-L-In),
              param_send 5 _ (arg_send _ no _ by.send-L-Out),
              param_sync 0 _ (arg_sync _ no _ by.sync-W),
              param_sync 1 _ (arg_sync _ no _ by.sync-A),
              param_sync 2 _ (arg_sync _ no _ by.sync-R),
            ),
          ),
        ),
      ),
    )

pub returns : goal.returns
returns g c =
    let serves = ServesLane (told_by g.L.In.Source.shown g.L.Out.Sink.shown) c.args.shared.now.keys.now (cells_of c.args.shared.now.agent.now c.args.shared.now.rack.now) c.args.shared.now.pulls c.args.shared.now.limits in
    each_place serves g.L.Worker.shown _ _ c.for_each_mut.auto.s
    (λ k d lt. let at = (c.for_each_mut.ensures k d lt).1 in subst (λ x. serves (g.L.Worker.shown (get_or c.args.lanes.now k d)) (g.L.Worker.shown x)) at.left (subst (λ x. serves (g.L.Worker.shown x) (g.L.Worker.shown at.after_call.now)) at.argument_is at.call))
