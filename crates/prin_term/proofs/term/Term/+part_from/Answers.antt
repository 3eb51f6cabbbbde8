use Rattle.std.proofs.Common.{◌≡◌, ◌+◌, ◌-◌, ap, arith, inl, inr, ◌∙◌, sym}
use Rattle.std.specs.Prelude.{slice_get}
use Rattle.std.proofs.lemmas.Result.{IfOk-weaker}
use Rattle.prin_term.specs.Principal.{subterms, node_count}
use Rattle.prin_term.specs.Kind.{Kind, And, Quoting, For, pair}
use Rattle.prin_term.specs.View.{principal}
use Rattle.prin_term.proofs.Parts.{first_part, part_in_first, part_in_second}
use Rattle.prin_term.proofs.term.Term.+part_from.Goals as goal

pub returns-then-place-eq0-clause-found : goal.returns-then-place-eq0-clause-found
returns-then-place-eq0-clause-found t c = first_part (principal c.args.self.now) c.args.place c.if-place-eq0.true

pub returns-in-Ok-clause-found : goal.returns-in-Ok-clause-found
returns-in-Ok-clause-found t c =
    let which : (kind : Kind) × (principal c.args.self.now ≡ pair kind (principal c.in-And.left.value) (principal c.in-And.right.value)) =
    elim c.in-And.is [ inl e ↦ (And, ap principal e) | inr r ↦ elim r [ inl e ↦ (Quoting, ap principal e) | inr e ↦ (For, ap principal e) ] ] in
    let deref = ap principal c.deref-in-And.ensures in
    let found = ap (λ v. slice_get (subterms v) (c.args.place - 1)) (sym deref) ∙ c.in-Ok.ensures.found in
    ap (λ v. slice_get (subterms v) c.args.place) which.1
    ∙ part_in_first which.0 (principal c.in-And.left.value) (principal c.in-And.right.value) (principal c.in-Ok.part.now) c.args.place (c.args.place - 1) (omega arith) found

pub returns-in-Err-clause-found : goal.returns-in-Err-clause-found
returns-in-Err-clause-found t c =
    let which : (kind : Kind) × (principal c.args.self.now ≡ pair kind (principal c.in-And.left.value) (principal c.in-And.right.value)) =
    elim c.in-And.is [ inl e ↦ (And, ap principal e) | inr r ↦ elim r [ inl e ↦ (Quoting, ap principal e) | inr e ↦ (For, ap principal e) ] ] in
    let count : c.in-Err.place + node_count (principal c.in-And.left.value) ≡ c.args.place - 1 = rw (← ap principal c.deref-in-And.ensures) c.in-Err.ensures.behind in
    let second = ap principal c.deref-in-Err.ensures in
    IfOk-weaker c.part_from-in-Err.result _ _
    (λ part found. ap (λ v. slice_get (subterms v) c.args.place) which.1
    ∙ part_in_second which.0 (principal c.in-And.left.value) (principal c.in-And.right.value) (principal part.now) c.args.place c.in-Err.place (omega (arith, count)) (ap (λ v. slice_get (subterms v) c.in-Err.place) (sym second) ∙ found))
    c.part_from-in-Err.ensures.found
