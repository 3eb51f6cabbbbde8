use Rattle.std.proofs.Common.{◌≡◌, ◌∷◌, ◌++◌, [], Bool, true, false, Some, slice_get, sym, ap, ◌∙◌, arith, Global}
use Rattle.std.specs.declared.sync.Arc.{Arc}
use Rattle.std.specs.Prelude.{is_ok}
use Rattle.std.proofs.lemmas.Option.{same_Some, slice_get-get_or}
use Rattle.stmt_codec.specs.declared.cert.Cert.{Cert}
use Rattle.stmt_codec.specs.Certificates.{certificate}
use Rattle.taos_calculus.specs.Question.{claim_of}
use Rattle.taos_calculus.specs.Rules.{Claim}
use Rattle.term_pool.proofs.Picking.{mapped_at}
use Rattle.term_pool.proofs.Pushing.{longer}
use Rattle.goal_search.proofs.Gathered.{holds_more, widens_none}
use Rattle.goal_search.proofs.gather.take_at.Goals as goal

pub returns-else-taken-place-clause-holds : goal.returns-else-taken-place-clause-holds
returns-else-taken-place-clause-holds c =
    let held = c.args.held.now.items in
    let items = longer (is_ok c.push-else-taken-place.result) (held ++ c.untaken.result ∷ []) c.push-else-taken-place.new.self.items held c.push-else-taken-place.ensures.items (ap is_ok c.unwrap-else-taken-place.ensures) in
    let marked = slice_get-get_or c.args.taken.now c.args.place false (omega (arith, c.requires.place_in, c.requires.same_length)) ∙ ap (λ (b : Bool). Some b) c.if-taken-place.false in
    let at = ap (slice_get c.args.taken.now) c.requires.count ∙ marked in
    rw items (holds_more c.args.pool.now c.args.pool.now 0 held _ c.args.taken.now c.untaken.result (widens_none c.args.pool.now 0) (c.untaken.ensures ∙ sym c.requires.count)
    (λ t. let q : false ≡ true = same_Some false true (sym at ∙ t) in absurd (cc)) c.requires.holds)

pub returns-then-taken-place-clause-holds : goal.returns-then-taken-place-clause-holds
returns-then-taken-place-clause-holds c =
    let held = c.args.held.now.items in
    let items = longer (is_ok c.push.result) (held ++ c.take_cert-it.result ∷ []) c.push.new.self.items held c.push.ensures.items (ap is_ok c.unwrap.ensures) in
    let claim = mapped_at _ c.args.certs.now c.args.place c.index-certs-place.result c.requires.place_in in
    let says = c.take_cert-it.ensures.claim ∙ ap (λ (x : Cert). claim_of (certificate x.body)) (c.deref.ensures ∙ ap (λ (a : Arc Cert Global). a.value) c.index-certs-place.is) in
    rw items (holds_more c.args.pool.now c.take_cert-it.new.pool 16 held _ c.args.taken.now c.take_cert-it.result c.take_cert-it.ensures.widens (c.take_cert-it.ensures.place ∙ sym c.requires.count)
    (λ t. (c.take_cert-it.ensures.within, ap (slice_get _) c.requires.count ∙ claim ∙ ap (λ (x : Claim). Some x) (sym says))) c.requires.holds)

pub returns-else-taken-place-clause-widens : goal.returns-else-taken-place-clause-widens
returns-else-taken-place-clause-widens c = widens_none c.args.pool.now 16
