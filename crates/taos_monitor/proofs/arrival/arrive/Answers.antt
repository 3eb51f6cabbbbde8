-- What a sealed request comes to.
use Rattle.std.proofs.Common.{List, ℕ, arith, map, refl, ap, subst, ◌∙◌, Global}
use Rattle.std.proofs.lemmas.Bool.{false≢true}
use Rattle.std.specs.Prelude.{Vec}
use Rattle.std.proofs.lemmas.List.{length-map}
use Rattle.std.proofs.lemmas.Result.{err_from_is_err_and}
use Rattle.object_core.specs.Operation.{right_of}
use Rattle.object_core.specs.View.{operation}
use Rattle.object_core.specs.Shelving.{fixed_at}
use Rattle.taos_wire.specs.View.{request, text_of, cited as shared}
use Rattle.taos_monitor.specs.Arriving.{node_of}
use Rattle.request_course.specs.Credentials.{at_end, link_use}
use Rattle.request_course.specs.Course.{unknown_object, unopened}
use Rattle.taos_monitor.specs.Presenting.{AllCome, AllStop}
use Rattle.taos_monitor.proofs.Presenting.{quiet_linked}
use Rattle.taos_monitor.proofs.Arriving.{not_opened, none_of, some_of}
use Rattle.request_course.proofs.CertWalks.{opened_count}
use Rattle.taos_monitor.proofs.arrival.arrive.Goals as goal

pub returns-in_err-certs-clause-refused : goal.returns-in_err-certs-clause-refused
returns-in_err-certs-clause-refused g c =
    let p = err_from_is_err_and c.from_residual.result c.from_residual.ensures.1 in
    let r = request c.args.asked.now in
    let f = c.in_err-certs.field-0.0 in
    let stops = subst (λ (k : List ℕ). AllStop k (link_use c.args.keys.now.node (g.X.Reach.shown c.args.outside.now).outside.link (g.X.Reach.shown c.open_all.new.outside).outside.link) (map text_of c.args.asked.now.certs.items) f) c.requires.key (subst (λ (l : List (Vec ℕ Global)). AllStop c.args.opened.now (link_use c.args.keys.now.node (g.X.Reach.shown c.args.outside.now).outside.link (g.X.Reach.shown c.open_all.new.outside).outside.link) (map text_of l) f) c.deref.ensures.value c.in_err-certs.ensures.stopped) in
    rw (p.1, p.2) (record {
      calls = stops.calls;
      linked = stops.linked;
      course = λ plans past J payload key asked. not_opened (node_of c.args.keys.now plans (g.H.Shelf.shown c.args.shelf.now).objects) past J r stops.calls f stops.stops payload key asked;
    })

pub returns-then-not-has-clause-refused : goal.returns-then-not-has-clause-refused
returns-then-not-has-clause-refused g c =
    let r = request c.args.asked.now in
    let came = subst (λ (k : List ℕ). AllCome k (link_use c.args.keys.now.node (g.X.Reach.shown c.args.outside.now).outside.link (g.X.Reach.shown c.open_all.new.outside).outside.link) (map text_of c.args.asked.now.certs.items) (map shared c.in_ok-certs.certs.items)) c.requires.key (subst (λ (l : List (Vec ℕ Global)). AllCome c.args.opened.now
    (link_use c.args.keys.now.node (g.X.Reach.shown c.args.outside.now).outside.link (g.X.Reach.shown c.open_all.new.outside).outside.link) (map text_of l)
    (map shared c.in_ok-certs.certs.items)) c.deref.ensures.value c.in_ok-certs.ensures.came) in
    record {
      calls = came.calls;
      linked = quiet_linked c.args.keys.now.node (g.X.Reach.shown c.args.outside.now).outside.link (g.X.Reach.shown c.open_all.new.outside).outside.link came.calls came.quiet;
      course = λ plans past J payload key asked.
          unknown_object (record { asked = asked; opened = came.opened }) (none_of (fixed_at (g.H.Shelf.shown c.args.shelf.now).objects r.object) (λ is. false≢true (c.if-not-has.ensures.1 is)));
    }

pub returns-in_err-speaker_of-clause-refused : goal.returns-in_err-speaker_of-clause-refused
returns-in_err-speaker_of-clause-refused g c =
    let p = err_from_is_err_and c.from_residual-in_err-speaker_of.result c.from_residual-in_err-speaker_of.ensures.1 in
    let r = request c.args.asked.now in
    let came = subst (λ (k : List ℕ). AllCome k (link_use c.args.keys.now.node (g.X.Reach.shown c.args.outside.now).outside.link (g.X.Reach.shown c.open_all.new.outside).outside.link) (map text_of c.args.asked.now.certs.items) (map shared c.in_ok-certs.certs.items)) c.requires.key (subst (λ (l : List (Vec ℕ Global)). AllCome c.args.opened.now
    (link_use c.args.keys.now.node (g.X.Reach.shown c.args.outside.now).outside.link (g.X.Reach.shown c.open_all.new.outside).outside.link) (map text_of l)
    (map shared c.in_ok-certs.certs.items)) c.deref.ensures.value c.in_ok-certs.ensures.came) in
    rw (p.1, p.2) (record {
      calls = came.calls;
      linked = quiet_linked c.args.keys.now.node (g.X.Reach.shown c.args.outside.now).outside.link (g.X.Reach.shown c.open_all.new.outside).outside.link came.calls came.quiet;
      course = λ plans past J payload key asked. unopened asked (at_end came.opened);
    })

pub returns-clause-arrived : goal.returns-clause-arrived
returns-clause-arrived g c =
    let r = request c.args.asked.now in
    let came = subst (λ (k : List ℕ). AllCome k (link_use c.args.keys.now.node (g.X.Reach.shown c.args.outside.now).outside.link (g.X.Reach.shown c.open_all.new.outside).outside.link) (map text_of c.args.asked.now.certs.items) (map shared c.in_ok-certs.certs.items)) c.requires.key (subst (λ (l : List (Vec ℕ Global)). AllCome c.args.opened.now
    (link_use c.args.keys.now.node (g.X.Reach.shown c.args.outside.now).outside.link (g.X.Reach.shown c.open_all.new.outside).outside.link) (map text_of l)
    (map shared c.in_ok-certs.certs.items)) c.deref.ensures.value c.in_ok-certs.ensures.came) in
    let object = some_of (fixed_at (g.H.Shelf.shown c.args.shelf.now).objects r.object) (c.if-not-has.ensures.0 refl) in
    record {
      calls = came.calls;
      linked = quiet_linked c.args.keys.now.node (g.X.Reach.shown c.args.outside.now).outside.link (g.X.Reach.shown c.open_all.new.outside).outside.link came.calls came.quiet;
      object = object.0;
      there = object.1;
      arrived = λ plans payload key asked. record {
        presented = record { asked = asked; opened = came.opened };
        there = object.1;
      };
      stands = record {
        subject = c.in_ok-speaker_of.ensures;
        right = c.right_of.ensures ∙ ap (λ x. right_of (operation x)) c.deref-2.ensures;
        few_certs = omega (arith, c.requires.limits.few_certs, opened_count c.args.keys.now.relay_key r.certs came.calls (map shared c.in_ok-certs.certs.items) came.opened, length-map c.in_ok-certs.certs.items shared);
      };
    }
