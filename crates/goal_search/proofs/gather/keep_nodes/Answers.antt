use Rattle.std.proofs.Common.{◌<◌, ◌∷◌, ◌++◌, [], List, length, get_or, ap, sym, ◌∙◌, arith}
use Rattle.std.specs.Prelude.{is_ok}
use Rattle.std.proofs.lemmas.List.{take_more}
use Rattle.taos_calculus.specs.declared.line.Node.{Node}
use Rattle.term_pool.proofs.Pushing.{longer}
use Rattle.goal_search.proofs.gather.keep_nodes.Goals as goal

pub loop-i-preserved : goal.loop-i-preserved
loop-i-preserved c =
    let inside : c.loop-i.i < length c.args.nodes.now = omega arith in
    let a : Node = get_or c.args.nodes.now c.loop-i.i (Node.Key 0) in
    let items = longer (is_ok c.push.result) _ c.push.new.self.items c.loop-i.kept.items c.push.ensures.items (ap is_ok c.unwrap.ensures) in
    record {
      kept = items ∙ ap (λ (xs : List Node). xs ++ a ∷ []) c.loop-i.invariant.kept ∙ sym (take_more c.args.nodes.now c.loop-i.i (Node.Key 0) inside);
      capacity = omega (arith, c.loop-i.invariant.capacity, c.push.ensures.capacity);
    }
