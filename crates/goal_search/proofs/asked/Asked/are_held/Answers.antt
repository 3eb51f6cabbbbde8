use Rattle.std.proofs.Common.{◌≡◌, inl, inr, ℕ, Bool, true, false, Some, slice_get, length, map, refl, sym, ap, ◌∙◌, arith, Global}
use Rattle.std.specs.declared.sync.Arc.{Arc}
use Rattle.std.proofs.lemmas.List.{length-map}
use Rattle.std.proofs.lemmas.Option.{get_or_from_slice_get, slice_get_within}
use Rattle.stmt_codec.specs.declared.cert.Cert.{Cert}
use Rattle.stmt_codec.specs.Certificates.{certificate}
use Rattle.stmt_codec.specs.View.{certificates}
use Rattle.taos_calculus.specs.Question.{claim_of}
use Rattle.taos_calculus.specs.Tables.{named}
use Rattle.term_pool.specs.Claims.{claim_by}
use Rattle.term_pool.specs.declared.cited.Cited.{Cited}
use Rattle.term_pool.proofs.Orders.{same_or_not}
use Rattle.term_pool.proofs.Picking.{mapped_at}
use Rattle.goal_search.proofs.asked.Asked.are_held.Goals as goal
use Rattle.goal_search.proofs.asked.Asked.are_held.Goals.{else-index-via-then-index+else-not-is_cert, else-index-via-else-index}

pub loop-i-preserved : goal.loop-i-preserved
loop-i-preserved c k x lt e t =
    let i : ℕ = c.loop-i.i in
    let a = c.args.self.now in
    elim (same_or_not k i) [
      | inl at ↦
          let there : slice_get a.held.items i ≡ Some x = ap (slice_get a.held.items) (sym at) ∙ e in
          let taken : slice_get a.taken.items i ≡ Some true = ap (slice_get a.taken.items) (sym at) ∙ t in
          elim c.else-index.branch [
            | else-index-via-then-index+else-not-is_cert w ↦
                let it : Cited = w.index-then-index.result.now in
                let is : it ≡ x = w.index-then-index.ensures ∙ get_or_from_slice_get a.held.items i x it there in
                let says = w.if-not-is_cert.ensures refl in
                let same = ap (λ (y : Cert). claim_of (certificate y.body)) (w.deref.ensures ∙ ap (λ (h : Arc Cert Global). h.value) w.index-certs-i.is) in
                let claim = mapped_at (λ (h : Arc Cert Global). certificate h.value.body) c.args.certs.now i w.index-certs-i.result (omega arith) in
                ap (slice_get (map claim_of (certificates c.args.certs.now))) at ∙ claim ∙ ap Some (sym (ap (claim_by (named a.search.nodes.items)) (sym is) ∙ says ∙ same))
            | else-index-via-else-index w ↦
                let b : Bool = c.index.result.now in
                let q : false ≡ true = sym w.if-index.false ∙ c.index.ensures ∙ get_or_from_slice_get a.taken.items i true b taken in
                absurd (cc)
          ]
      | inr ne ↦ c.loop-i.invariant k x (omega (arith, lt, ne)) e t
    ]

pub returns : goal.returns
returns c t =
    let held = c.args.self.now.held.items in
    let count : length held ≡ length (map claim_of (certificates c.args.certs.now)) =
    omega (arith, length-map (certificates c.args.certs.now) claim_of, length-map c.args.certs.now (λ (h : Arc Cert Global). certificate h.value.body)) in
    record {
      count = count;
      claims_are = λ i x e m. c.loop-i.invariant i x (omega (arith, slice_get_within held i x e)) e m;
    }
