use Rattle.std.proofs.Common.{◌≡◌, ◌⊎◌, ◌++◌, ◌∷◌, List, [], map, Ok, Err, ap, sym, subst, ◌∙◌}
use Rattle.std.specs.declared.alloc.Global.{Global}
use Rattle.std.specs.declared.sync.Arc.{Arc}
use Rattle.std.proofs.lemmas.Result.{err_from_is_err_and}
use Rattle.std.proofs.lemmas.List.{map_push}
use Rattle.stmt_codec.specs.declared.cert.Cert.{Cert}
use Rattle.byte_fields.specs.declared.fault.FormatFault.TheVariants.{NoMemory}
use Rattle.node_file.specs.OpeningReading.{common_at}
use Rattle.node_file.specs.OpeningView.{common}
use Rattle.byte_fields.specs.Readers.{items_behind}
use Rattle.byte_fields.proofs.Loops.{goes_on, stops, is_done}
use Rattle.node_file.proofs.opening.common.certs_of.Goals as goal

pub returns-in_err-cert-clause-value : goal.returns-in_err-cert-clause-value
returns-in_err-cert-clause-value c =
    let p = err_from_is_err_and c.from_residual-in_err-cert.result c.from_residual-in_err-cert.ensures.1 in
    let item = common_at c.args.bytes.now c.args.sealer.now in
    let before = map common c.loop.commons.items in
    let f = c.in_err-cert.field-0.0 in
    let read : (f ≡ NoMemory) ⊎ (item before c.loop.next ≡ Err f) =
    subst (λ (l : List (Arc Cert Global)). (f ≡ NoMemory) ⊎ (item (map common l) c.loop.next ≡ Err f)) c.deref.ensures.value c.in_err-cert.ensures.value
    in
    rw (p.1, p.2) (stops item c.args.count c.loop.counter before c.loop.next (items_behind item c.args.count [] c.args.at) NoMemory c.in_err-cert.field-0.0 c.loop-test.true read c.loop.invariant.so_far)

pub loop-preserved : goal.loop-preserved
loop-preserved c =
    let item = common_at c.args.bytes.now c.args.sealer.now in
    let before = map common c.loop.commons.items in
    let cert = c.in_ok-cert.cert in
    let read : item before c.loop.next ≡ Ok (common cert, c.in_ok-cert.after) =
    ap (λ (l : List (Arc Cert Global)). item (map common l) c.loop.next) (sym c.deref.ensures.value) ∙ c.in_ok-cert.ensures.value
    in
    let pushed : map common c.push.new.self.items ≡ before ++ common cert ∷ [] = rw c.in_ok-push.ensures.items (map_push _ c.loop.commons.items cert) in
    record {
      so_far = rw pushed (goes_on item c.args.count c.loop.counter before c.loop.next (items_behind item c.args.count [] c.args.at) (common cert) c.in_ok-cert.after c.loop-test.true read c.loop.invariant.so_far);
      within = c.in_ok-cert.ensures.within;
    }

pub returns-clause-value : goal.returns-clause-value
returns-clause-value c =
    let item = common_at c.args.bytes.now c.args.sealer.now in
    is_done item c.args.count c.loop.counter (map common c.loop.commons.items) c.loop.next (items_behind item c.args.count [] c.args.at) c.loop-test.false c.loop.invariant.so_far
