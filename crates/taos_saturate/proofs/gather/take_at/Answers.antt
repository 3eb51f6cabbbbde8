use Rattle.std.proofs.Common.{◌≡◌, ◌∷◌, ◌++◌, [], List, Bool, cond, true, false, Some, ap, ◌∙◌, arith}
use Rattle.std.proofs.Common.{Global}
use Rattle.std.specs.declared.sync.Arc.{Arc}
use Rattle.stmt_codec.specs.declared.cert.Cert.{Cert}
use Rattle.stmt_codec.specs.Certificates.{certificate}
use Rattle.taos_calculus.specs.Question.{claim_of}
use Rattle.std.specs.Prelude.{is_ok}
use Rattle.std.proofs.lemmas.Option.{slice_get-get_or}
use Rattle.term_pool.specs.declared.cited.Cited.{Cited}
use Rattle.term_pool.proofs.Picking.{mapped_at}
use Rattle.taos_saturate.proofs.Gathered.{gathers_skip, gathers_step}
use Rattle.taos_saturate.proofs.gather.take_at.Goals as goal

longer : (ok : Bool) (xs ys zs : List Cited) → ys ≡ cond ok xs zs → ok ≡ true → ys ≡ xs
longer ok xs ys zs e t = rw t at e

pub returns-else-chosen-place-clause-gathers : goal.returns-else-chosen-place-clause-gathers
returns-else-chosen-place-clause-gathers c =
    gathers_skip c.args.nodes.now.items c.args.cited.now.items _ c.args.chosen.now c.args.place
    (slice_get-get_or c.args.chosen.now c.args.place false (omega (arith, c.requires.place_in, c.requires.same_length)) ∙ ap (λ (b : Bool). Some b) c.if-chosen-place.false)
    c.requires.gathers

pub returns-then-chosen-place-clause-gathers : goal.returns-then-chosen-place-clause-gathers
returns-then-chosen-place-clause-gathers c =
    let items = longer (is_ok c.push.result) (c.args.cited.now.items ++ c.take_cert-it.result ∷ []) c.push.new.self.items c.args.cited.now.items c.push.ensures.items (ap is_ok c.unwrap.ensures) in
    let marked = slice_get-get_or c.args.chosen.now c.args.place false (omega (arith, c.requires.place_in, c.requires.same_length)) ∙ ap (λ (b : Bool). Some b) c.if-chosen-place.true in
    rw items
    (gathers_step c.args.nodes.now.items c.take_cert-it.new.nodes.items 16 c.args.cited.now.items _ c.args.chosen.now c.args.place c.take_cert-it.result _ c.take_cert-it.ensures.widens
    (mapped_at _ c.args.certs.now c.args.place c.index-certs-place.result c.requires.place_in) marked
    c.take_cert-it.ensures.within c.take_cert-it.ensures.place
    (c.take_cert-it.ensures.claim ∙ ap (λ (x : Cert). claim_of (certificate x.body)) (c.deref.ensures ∙ ap (λ (a : Arc Cert Global). a.value) c.index-certs-place.is)) c.requires.gathers)
