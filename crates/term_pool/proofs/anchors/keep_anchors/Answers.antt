use Rattle.std.proofs.Common.{◌<◌, ◌∷◌, ◌++◌, [], List, length, get_or, ap, sym, ◌∙◌, arith}
use Rattle.std.specs.Prelude.{is_ok}
use Rattle.std.proofs.lemmas.List.{take_more}
use Rattle.prin_term.specs.declared.term.Anchor.{Anchor}
use Rattle.term_pool.proofs.Pushing.{longer}
use Rattle.term_pool.proofs.anchors.keep_anchors.Goals as goal

pub loop-i-preserved : goal.loop-i-preserved
loop-i-preserved c =
    let inside : c.loop-i.i < length c.args.anchors.now = omega arith in
    let a : Anchor = get_or c.args.anchors.now c.loop-i.i (record { key = 0; name = 0 }) in
    let items = longer (is_ok c.push.result) _ c.push.new.self.items c.loop-i.kept.items c.push.ensures.items (ap is_ok c.unwrap.ensures) in
    record {
      kept = items ∙ ap (λ (xs : List Anchor). xs ++ a ∷ []) c.loop-i.invariant.kept ∙ sym (take_more c.args.anchors.now c.loop-i.i (record { key = 0; name = 0 }) inside);
      capacity = omega (arith, c.loop-i.invariant.capacity, c.push.ensures.capacity);
    }
