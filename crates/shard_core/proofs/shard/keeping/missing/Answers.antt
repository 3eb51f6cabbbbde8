-- the first that is not held is found
use Rattle.std.proofs.Common.{◌≡◌, ◌++◌, true, false, not, List, Some, sym, ap, ◌∙◌, arith}
use Rattle.std.specs.Option.{option_map}
use Rattle.stmt_codec.specs.declared.cert.Cert.{Cert}
use Rattle.stmt_codec.specs.Certificates.{Certificate, certificate, digest_of}
use Rattle.stmt_codec.specs.View.{certificates}
use Rattle.agent_core.specs.Held.{among}
use Rattle.shard_core.specs.Kept.{certs_staying}
use Rattle.shard_core.specs.Names.{certs_named}
use Rattle.shard_core.proofs.Firsts.{first_found, none_found, none_passes_more}
use Rattle.denial_link.proofs.Places.{certificate_at, certificate_count}
use Rattle.shard_core.proofs.shard.keeping.missing.Goals as goal

pub returns-then-not-is_held : goal.returns-then-not-is_held
returns-then-not-is_held c =
    let held : List Certificate = certs_staying c.args.book.now c.args.due.now c.args.own.now.items ++ certs_named c.args.book.now c.args.shared.now.items in
    let cert : Certificate = certificate c.index-cites-place.result.value.body in
    let here = certificate_at c.args.cites.now c.loop-place.place c.index-cites-place.result c.index-cites-place.is (omega arith) in
    let test : not (among held cert) ≡ true = ap not (ap (λ (x : Cert). among held (certificate x.body)) (sym c.deref.ensures) ∙ sym c.is_held.ensures ∙ c.if-not-is_held.true) in
    let found = first_found (λ x. not (among held x)) (certificates c.args.cites.now) c.loop-place.place cert c.loop-place.invariant here test in
    ap Some (c.deref-then-not-is_held.result.now.digested ∙ ap (λ (x : Cert). digest_of (certificate x.body)) c.deref-then-not-is_held.ensures) ∙ sym (ap (option_map digest_of) found)

pub loop-place-preserved : goal.loop-place-preserved
loop-place-preserved c =
    let held : List Certificate = certs_staying c.args.book.now c.args.due.now c.args.own.now.items ++ certs_named c.args.book.now c.args.shared.now.items in
    let cert : Certificate = certificate c.index-cites-place.result.value.body in
    let here = certificate_at c.args.cites.now c.loop-place.place c.index-cites-place.result c.index-cites-place.is (omega arith) in
    let test : not (among held cert) ≡ false = ap not (ap (λ (x : Cert). among held (certificate x.body)) (sym c.deref.ensures) ∙ sym c.is_held.ensures ∙ c.if-not-is_held.false) in
    none_passes_more (λ x. not (among held x)) (certificates c.args.cites.now) c.loop-place.place cert c.loop-place.invariant here test

pub returns : goal.returns
returns c =
    let held : List Certificate = certs_staying c.args.book.now c.args.due.now c.args.own.now.items ++ certs_named c.args.book.now c.args.shared.now.items in
    sym (ap (option_map digest_of) (none_found (λ x. not (among held x)) (certificates c.args.cites.now) c.loop-place.place (omega (arith, certificate_count c.args.cites.now)) c.loop-place.invariant))
