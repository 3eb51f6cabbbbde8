use Rattle.std.proofs.Common.{ℕ, List, ◌++◌, ◌∙◌, ap, length, arith, subst, Err}
use Rattle.std.proofs.lemmas.Result.{err_from_is_err_and}
use Rattle.std.specs.Int.{w16}
use Rattle.byte_fields.specs.Appends.{Pushes}
use Rattle.byte_fields.specs.Steps.{counted}
use Rattle.byte_fields.proofs.Pieces.{one_more, not_all, this_one}
use Rattle.taos_wire.specs.Request.{IsCertText}
use Rattle.taos_wire.specs.View.{text_of}
use Rattle.taos_wire.proofs.writing.push_texts.Goals as goal

pub push_counted-requires : goal.push_counted-requires
push_counted-requires c =
    let fits = this_one IsCertText text_of c.args.certs.now c.loop-cert.cert-index c.cert-item.result c.loop-cert-test.true c.cert-item.is c.requires.short in
    record { short = omega (arith, fits.0, ap length c.deref.ensures.value) }

pub returns-in_err-push_counted : goal.returns-in_err-push_counted
returns-in_err-push_counted c =
    let p = err_from_is_err_and c.from_residual.result c.from_residual.ensures.1 in
    let failed = subst (λ (t : List ℕ). Pushes {A = Unit {0}} c.loop-cert.out c.push_counted.new.out (counted w16 t) (Err c.in_err-push_counted.field-0.0)) c.deref.ensures.value c.in_err-push_counted.ensures in
    rw p.1 (not_all (counted w16) text_of c.args.certs.now c.loop-cert.cert-index c.cert-item.result c.args.out.now c.loop-cert.out c.push_counted.new.out _ _
    c.loop-cert-test.true c.cert-item.is c.loop-cert.invariant.written c.loop-cert.invariant.capacity failed)

pub loop-cert-preserved : goal.loop-cert-preserved
loop-cert-preserved c =
    let so_far = c.loop-cert.invariant.written in
    let appended = c.in_ok-push_counted.ensures.ok ∙ ap (λ (t : List ℕ). c.loop-cert.out.items ++ counted w16 t) c.deref.ensures.value in
    record {
      written = one_more (counted w16) text_of c.args.certs.now c.loop-cert.cert-index c.args.out.now.items c.loop-cert.out.items c.cert-item.result c.loop-cert-test.true c.cert-item.is so_far c.push_counted.new.out.items appended;
      capacity = omega (arith, c.loop-cert.invariant.capacity, c.in_ok-push_counted.ensures.capacity);
    }
