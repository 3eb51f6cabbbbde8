use Rattle.std.proofs.Common.{◌<◌, ◌∷◌, ◌++◌, [], Bool, false, List, length, get_or, ap, sym, ◌∙◌, arith}
use Rattle.std.specs.Prelude.{is_ok}
use Rattle.std.proofs.lemmas.List.{take_more}
use Rattle.term_pool.proofs.Pushing.{longer}
use Rattle.goal_search.proofs.gather.keep_marks.Goals as goal

pub loop-i-preserved : goal.loop-i-preserved
loop-i-preserved c =
    let inside : c.loop-i.i < length c.args.marks.now = omega arith in
    let a : Bool = get_or c.args.marks.now c.loop-i.i false in
    let items = longer (is_ok c.push.result) _ c.push.new.self.items c.loop-i.kept.items c.push.ensures.items (ap is_ok c.unwrap.ensures) in
    record {
      kept = items ∙ ap (λ (xs : List Bool). xs ++ a ∷ []) c.loop-i.invariant.kept ∙ sym (take_more c.args.marks.now c.loop-i.i false inside);
      capacity = omega (arith, c.loop-i.invariant.capacity, c.push.ensures.capacity);
    }
