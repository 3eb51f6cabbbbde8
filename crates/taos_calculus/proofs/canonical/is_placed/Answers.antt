use Rattle.std.proofs.lemmas.Bool.{both_ways, not-true, not_from_false, false_from_ne_true}
use Rattle.std.proofs.lemmas.Option.{slice_get-get_or}
use Rattle.taos_calculus.specs.declared.line.Node.{Node}
use Rattle.taos_calculus.proofs.canonical.is_placed.Goals as goal

pub returns-then-has_operands_below : goal.returns-then-has_operands_below
returns-then-has_operands_below c =
    let e = slice_get-get_or c.args.nodes.now c.args.i (Node.Key 0) c.requires in
    rw e (
      λ t. record {
        ordered = c.has_operands_below.ensures.0 c.if-has_operands_below.true;
        first = λ h. both_ways c.contains.result (not-true c.contains.result t) (c.contains.ensures.1 h);
      },
      λ p. not_from_false c.contains.result (false_from_ne_true c.contains.result (λ t. p.first (c.contains.ensures.0 t))),
    )

pub returns-else-has_operands_below : goal.returns-else-has_operands_below
returns-else-has_operands_below c =
    let e = slice_get-get_or c.args.nodes.now c.args.i (Node.Key 0) c.requires in
    rw e (λ t. absurd (both_ways c.has_operands_below.result c.if-has_operands_below.false t), λ p. c.has_operands_below.ensures.1 p.ordered)
