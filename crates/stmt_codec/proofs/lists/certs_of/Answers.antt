use Rattle.std.proofs.Common.{◌≡◌, ◌++◌, ◌∷◌, List, [], map}
use Rattle.stmt_codec.specs.Certificates.{Certificate}
use Rattle.std.proofs.lemmas.Result.{err_from_is_err_and}
use Rattle.std.proofs.lemmas.List.{map_push}
use Rattle.byte_fields.specs.Readers.{items_behind}
use Rattle.stmt_codec.specs.View.{certificate_of}
use Rattle.byte_fields.proofs.Loops.{goes_on, stops, is_done}
use Rattle.byte_fields.specs.declared.fault.FormatFault.TheVariants.{NoMemory}
use Rattle.stmt_codec.specs.Lists.{cert_at}
use Rattle.stmt_codec.proofs.lists.certs_of.Goals as goal

pub returns-in_err-cert-clause-value : goal.returns-in_err-cert-clause-value
returns-in_err-cert-clause-value c =
    let p = err_from_is_err_and c.from_residual-in_err-cert.result c.from_residual-in_err-cert.ensures.1 in
    let item = λ (_ : List Certificate). cert_at c.args.bytes.now in
    rw (p.1, p.2) (stops item c.args.count c.loop.counter (map certificate_of c.loop.certs.items) c.loop.next (items_behind item c.args.count [] c.args.at) NoMemory c.in_err-cert.field-0.0 c.loop-test.true c.in_err-cert.ensures.value c.loop.invariant.so_far)

pub loop-preserved : goal.loop-preserved
loop-preserved c =
    let item = λ (_ : List Certificate). cert_at c.args.bytes.now in
    let cert = c.in_ok-cert.cert in
    let pushed : map certificate_of c.push.new.self.items ≡ map certificate_of c.loop.certs.items ++ certificate_of cert ∷ [] = rw c.in_ok-push.ensures.items (map_push _ c.loop.certs.items cert) in
    record {
      so_far = rw pushed (goes_on item c.args.count c.loop.counter (map certificate_of c.loop.certs.items) c.loop.next (items_behind item c.args.count [] c.args.at) (certificate_of cert) c.in_ok-cert.after c.loop-test.true c.in_ok-cert.ensures.value c.loop.invariant.so_far);
      within = c.in_ok-cert.ensures.within;
    }

pub returns-clause-value : goal.returns-clause-value
returns-clause-value c =
    let item = λ (_ : List Certificate). cert_at c.args.bytes.now in
    is_done item c.args.count c.loop.counter (map certificate_of c.loop.certs.items) c.loop.next (items_behind item c.args.count [] c.args.at) c.loop-test.false c.loop.invariant.so_far
