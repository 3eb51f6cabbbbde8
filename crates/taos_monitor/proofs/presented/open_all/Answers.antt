-- One certificate more, or the first that comes to none.
use Rattle.std.proofs.Common.{◌+◌, List, [], length, map, take, refl, sym, ap, subst, ◌∙◌, arith}
use Rattle.std.specs.declared.alloc.Global.{Global}
use Rattle.std.specs.declared.sync.Arc.{Arc}
use Rattle.std.proofs.lemmas.List.{get_or-map, length-map}
use Rattle.std.proofs.lemmas.Result.{err_from_is_err_and}
use Rattle.stmt_codec.specs.declared.cert.Cert.{Cert}
use Rattle.taos_wire.specs.View.{text_of, cited as shared}
use Rattle.request_course.specs.Credentials.{link_use, none_more}
use Rattle.taos_monitor.specs.Presenting.{AllCome, AllStop}
use Rattle.taos_monitor.proofs.Presenting.{none_called, stopped_here, interrupted_here, comes_here}
use Rattle.taos_monitor.proofs.presented.open_all.Goals as goal

pub loop-place-init : goal.loop-place-init
loop-place-init g c =
    rw c.new-certs.ensures.items
    (record { calls = []; opened = none_more; quiet = none_called c.args.node (g.X.Reach.shown c.args.outside.now).outside.link }, refl, record { clock = refl; fetch = refl; lent = refl })

pub present-requires : goal.present-requires
present-requires g c =
    let texts = c.args.texts.now in
    let d = c.index-texts-place.result in
    let lt = c.loop-place-test.true in
    let within = c.requires.short c.loop-place.place [] (omega (arith, lt, length-map texts text_of)) in
    let text = get_or-map text_of texts c.loop-place.place d [] lt ∙ ap text_of (sym c.index-texts-place.is) ∙ sym c.deref.ensures.value in
    record { short = omega (arith, within, ap length text) }

-- the text at the place is the one that was presented
pub returns-in-Err-clause-stopped : goal.returns-in-Err-clause-stopped
returns-in-Err-clause-stopped g c =
    let n = (g.X.Reach.shown c.args.outside.now).outside.link in
    let middle = (g.X.Reach.shown c.loop-place.outside).outside.link in
    let now = (g.X.Reach.shown c.present.new.self).outside.link in
    let read = c.deref.ensures.value ∙ ap text_of c.index-texts-place.is in
    subst (AllStop c.args.opened.now (link_use c.args.node n now) (map text_of c.args.texts.now)) (sym c.refused_at.ensures)
    (stopped_here c.args.opened.now c.args.texts.now c.loop-place.place c.index-texts-place.result c.loop-place-test.true c.args.node n middle now
    c.loop-place.invariant.1 read (map shared c.loop-place.certs.items) c.in-Err.why c.loop-place.invariant.0 c.in-Err.ensures.stopped)

pub returns-in_err-push-in-Ok-clause-stopped : goal.returns-in_err-push-in-Ok-clause-stopped
returns-in_err-push-in-Ok-clause-stopped g c =
    let p = err_from_is_err_and c.from_residual.result c.from_residual.ensures.1 in
    let n = (g.X.Reach.shown c.args.outside.now).outside.link in
    let middle = (g.X.Reach.shown c.loop-place.outside).outside.link in
    let now = (g.X.Reach.shown c.present.new.self).outside.link in
    let read = c.deref.ensures.value ∙ ap text_of c.index-texts-place.is in
    rw (p.1, p.2)
    (interrupted_here c.args.opened.now c.args.texts.now c.loop-place.place c.index-texts-place.result c.loop-place-test.true c.args.node n middle now
    c.loop-place.invariant.1 read (map shared c.loop-place.certs.items) (shared c.in-Ok.cert) c.loop-place.invariant.0 c.in-Ok.ensures.came)

pub loop-place-preserved : goal.loop-place-preserved
loop-place-preserved g c =
    let key = c.args.opened.now in
    let texts = c.args.texts.now in
    let place = c.loop-place.place in
    let n = (g.X.Reach.shown c.args.outside.now).outside.link in
    let middle = (g.X.Reach.shown c.loop-place.outside).outside.link in
    let now = (g.X.Reach.shown c.present.new.self).outside.link in
    let read = c.deref.ensures.value ∙ ap text_of c.index-texts-place.is in (
      subst (λ (l : List (Arc Cert Global)). AllCome key (link_use c.args.node n now) (map text_of (take (place + 1) texts)) (map shared l)) (sym c.in_ok-push-in-Ok.ensures.items)
          (comes_here key texts place c.index-texts-place.result c.loop-place-test.true c.args.node n middle now c.loop-place.invariant.1 read
          c.loop-place.certs.items c.in-Ok.cert c.loop-place.invariant.0 c.in-Ok.ensures.came),
      c.present.ensures.key ∙ c.loop-place.invariant.1,
      record {
        clock = c.present.ensures.rest.clock ∙ c.loop-place.invariant.2.clock;
        fetch = c.present.ensures.rest.fetch ∙ c.loop-place.invariant.2.fetch;
        lent = c.present.ensures.rest.lent ∙ c.loop-place.invariant.2.lent;
      },
    )
