use Rattle.std.proofs.Common.{◌≡◌, true, Decides, nat_eq, sym, ap, ◌∙◌, arith}
use Rattle.std.specs.Prelude.{◌&&◌}
use Rattle.std.proofs.lemmas.Bool.Decides.{nat_tests}
use Rattle.std.proofs.lemmas.Slice.Eq.{slice_eq-Decides}
use Rattle.prin_term.specs.declared.term.Anchor.{Anchor}
use Rattle.goal_search.proofs.asked.Asked.are_anchors.Goals as goal

-- anchors are equal where their keys and names are
alike_decides : (a b : Anchor) → Decides (nat_eq a.key b.key && nat_eq a.name b.name) (a ≡ b)
alike_decides a b = (λ t. (λ k. record { key = (both t).0 k; name = (both t).1 k }), λ e. same e)
  where
    both : (nat_eq a.key b.key && nat_eq a.name b.name) ≡ true → (a.key ≡ b.key) × (a.name ≡ b.name)
    both t = (grind (arith, nat_tests), grind (arith, nat_tests))

    same : a ≡ b → (nat_eq a.key b.key && nat_eq a.name b.name) ≡ true
    same e =
        let key = ap (λ (x : Anchor). x.key) e in
        let name = ap (λ (x : Anchor). x.name) e in
        grind (arith, nat_tests)

pub returns : goal.returns
returns c t = sym c.as_slice.ensures.value ∙ (slice_eq-Decides {A = Anchor} {E = λ (a b : Anchor). nat_eq a.key b.key && nat_eq a.name b.name} alike_decides c.as_slice.result.now c.args.anchors.now c.eq.result c.eq.ensures).0 t
