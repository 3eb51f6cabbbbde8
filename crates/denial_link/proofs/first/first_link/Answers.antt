-- what is asked about all is what the marks of all say
use Rattle.std.proofs.Common.{◌<◌, length, true, map, arith, sym, subst, ◌∙◌}
use Rattle.std.proofs.lemmas.Bool.{false≢true}
use Rattle.std.proofs.lemmas.List.{length-map, take-replicate}
use Rattle.std.proofs.lemmas.Option.{slice_get_within}
use Rattle.prin_term.specs.View.{grant, principal}
use Rattle.denial_link.specs.Links.{early, expired, no_entry}
use Rattle.stmt_codec.specs.declared.cert.Cert.{Cert}
use Rattle.stmt_codec.specs.Certificates.{certificate, IsDead}
use Rattle.stmt_codec.specs.View.{certificates}
use Rattle.denial_link.proofs.Places.{certificate_at, certificate_count, entry_in}
use Rattle.denial_link.proofs.Reviving.{needed_dead, needed_early, needed_there}
use Rattle.denial_link.proofs.Entries.{part_of_subject, part_of_entry, link_missing, small_entry}
use Rattle.denial_link.proofs.first.first_link.Goals as goal

pub returns-in_default : goal.returns-in_default
returns-in_default g c = no_entry c.in_default.ensures

pub bounds-list-first : goal.bounds-list-first
bounds-list-first g c =
    let f = c.in-Some.ensures in
    omega (arith, slice_get_within (map grant c.args.list.now) c.in-Some.first f.0 f.1.stands, length-map c.args.list.now grant)

pub lacking-node-requires-clause-asking : goal.lacking-node-requires-clause-asking
lacking-node-requires-clause-asking g c =
    part_of_subject c.args.anchors.now (certificates c.args.certs.now) (principal c.args.subject.now) (map grant c.args.list.now) _ _ c.begin.ensures

pub lacking-node-requires-clause-asked : goal.lacking-node-requires-clause-asked
lacking-node-requires-clause-asked g c =
    let f = c.in-Some.ensures in
    let within = slice_get_within (map grant c.args.list.now) c.in-Some.first f.0 f.1.stands in
    let at = entry_in c.args.list.now c.in-Some.first c.index-list-first.result (omega (arith, within, length-map c.args.list.now grant)) in
    part_of_entry c.args.anchors.now (certificates c.args.certs.now) (principal c.args.subject.now) (map grant c.args.list.now) _ _ c.begin.ensures c.in-Some.first _ at

pub lacking-node-requires-clause-small : goal.lacking-node-requires-clause-small
lacking-node-requires-clause-small g c =
    let f = c.in-Some.ensures in
    let within = slice_get_within (map grant c.args.list.now) c.in-Some.first f.0 f.1.stands in
    let at = entry_in c.args.list.now c.in-Some.first c.index-list-first.result (omega (arith, within, length-map c.args.list.now grant)) in
    small_entry (map grant c.args.list.now) c.in-Some.first _ c.requires.askable.entries_fit at

pub bounds-certs-cert : goal.bounds-certs-cert
bounds-certs-cert g c = omega (arith, needed_there c.in-Some-first_revived.ensures.needed, certificate_count c.args.certs.now)

pub returns-then-is_dead : goal.returns-then-is_dead
returns-then-is_dead g c =
    let r = c.in-Some-first_revived.ensures in
    let within : c.in-Some-first_revived.field-0.cert < length c.args.certs.now = omega (arith, needed_there r.needed, certificate_count c.args.certs.now) in
    let at = certificate_at c.args.certs.now c.in-Some-first_revived.field-0.cert c.index-certs-cert.result c.index-certs-cert.is within in
    let dead = subst (λ (x : Cert). IsDead c.args.moment (certificate x.body)) c.deref.ensures (c.is_dead.ensures.dead.0 c.if-is_dead.true) in
    expired r.entry r.first r.needed (needed_dead r.needed (certificate c.index-certs-cert.result.value.body) at dead)

pub returns-else-is_dead : goal.returns-else-is_dead
returns-else-is_dead g c =
    let r = c.in-Some-first_revived.ensures in
    let within : c.in-Some-first_revived.field-0.cert < length c.args.certs.now = omega (arith, needed_there r.needed, certificate_count c.args.certs.now) in
    let at = certificate_at c.args.certs.now c.in-Some-first_revived.field-0.cert c.index-certs-cert.result c.index-certs-cert.is within in
    let not_dead : IsDead c.args.moment (certificate c.index-certs-cert.result.value.body) → ⊥ =
    λ dead. false≢true (sym c.if-is_dead.false ∙ c.is_dead.ensures.dead.1 (subst (λ (x : Cert). IsDead c.args.moment (certificate x.body)) (sym c.deref.ensures) dead)) in
    early r.entry r.first r.needed (needed_early r.needed (certificate c.index-certs-cert.result.value.body) at not_dead)

pub returns : goal.returns
returns g c =
    let f = c.in-Some.ensures in
    let within = slice_get_within (map grant c.args.list.now) c.in-Some.first f.0 f.1.stands in
    let at = entry_in c.args.list.now c.in-Some.first c.index-list-first.result (omega (arith, within, length-map c.args.list.now grant)) in
    let count = certificate_count c.args.certs.now in
    link_missing c.args.anchors.now (certificates c.args.certs.now) (principal c.args.subject.now) (map grant c.args.list.now) _ (length c.args.certs.now) _
    c.begin.ensures (take-replicate (length c.args.certs.now) 64 true (omega (arith, c.requires.askable.certs_fit, count))) (sym count)
    c.args.right c.in-Some.first f.0 _ at c.args.moment _ f.1 c.in_default-first_revived.ensures c.lacking-node.ensures.lacks
