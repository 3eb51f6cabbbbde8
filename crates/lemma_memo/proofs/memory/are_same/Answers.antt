use Rattle.std.proofs.Common.{◌≡◌, ◌==◌, ap, ap₂}
use Rattle.std.specs.Prelude.{◌&&◌}
use Rattle.std.specs.Bool.{Decides}
use Rattle.std.proofs.lemmas.Bool.Decides.{Decides-and, Decides-eqb}
use Rattle.std.proofs.lemmas.Slice.Eq.{slice_eq-Decides}
use Rattle.prin_term.specs.declared.term.Anchor.{Anchor}
use Rattle.lemma_memo.proofs.memory.are_same.Goals as goal

anchor_decides : (a b : Anchor) → Decides ((a.key == b.key) && (a.name == b.name)) (a ≡ b)
anchor_decides a b =
    let both = Decides-and (a.key == b.key) (a.name == b.name) (Decides-eqb a.key b.key) (Decides-eqb a.name b.name) in (
      (λ t. let q = both.0 t in ap₂ (λ k n. record { key = k; name = n }) q.0 q.1),
      (λ e. both.1 (ap (λ (x : Anchor). x.key) e, ap (λ (x : Anchor). x.name) e)),
    )

pub returns : goal.returns
returns c = slice_eq-Decides anchor_decides c.args.anchors.now c.args.others.now c.eq.result c.eq.ensures
