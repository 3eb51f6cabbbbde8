use Rattle.std.proofs.Common.{refl, ap, ◌∙◌}
use Rattle.prin_term.specs.View.{principal}
use Rattle.denial_link.proofs.Reaching.{part_itself, operands_of_pair, operands_of_role, only_operand, first_operand, second_operand, falls_to, still_term, terms_below, reached_by_itself, reached_by_one, reached_by_first, reached_by_second, reached_same}
use Rattle.denial_link.proofs.part.+is_reached.Goals as goal

pub derives-requires-clause-left : goal.derives-requires-clause-left
derives-requires-clause-left g t c = c.requires.asking _ (part_itself (principal c.args.subject.now))

pub returns-then-derives-clause-reached : goal.returns-then-derives-clause-reached
returns-then-derives-clause-reached g t c =
    reached_by_itself (g.D.Decide.question c.args.bench.now) (principal c.args.subject.now) (principal c.args.part.now) c.derives.result c.derives.ensures.answer c.if-derives.true

pub is_reached-requires : goal.is_reached-requires
is_reached-requires g t c κs within =
    let q = g.D.Decide.question c.args.bench.now in
    let whole = principal c.args.subject.now in
    let a = only_operand whole (principal c.in-AsRole.a.value) (operands_of_role c.args.subject.now c.in-AsRole.a c.in-AsRole.field-1 c.in-AsRole.is) in
    let e = ap principal c.deref.ensures in
    (falls_to whole _ _ t a e c.decreases, (within, (terms_below q _ whole _ _ a e c.derives.ensures.same c.requires.asking, still_term q _ _ c.derives.ensures.same c.requires.asked)))

pub is_reached-requires-in-And : goal.is_reached-requires-in-And
is_reached-requires-in-And g t c κs within =
    let q = g.D.Decide.question c.args.bench.now in
    let whole = principal c.args.subject.now in
    let a = first_operand whole _ _ (operands_of_pair c.args.subject.now c.in-And.a c.in-And.b c.in-And.is) in
    let e = ap principal c.deref-in-And.ensures in
    (falls_to whole _ _ t a e c.decreases, (within, (terms_below q _ whole _ _ a e c.derives.ensures.same c.requires.asking, still_term q _ _ c.derives.ensures.same c.requires.asked)))

pub is_reached-requires-else-is_reached : goal.is_reached-requires-else-is_reached
is_reached-requires-else-is_reached g t c κs within =
    let q = g.D.Decide.question c.args.bench.now in
    let whole = principal c.args.subject.now in
    let b = second_operand whole _ _ (operands_of_pair c.args.subject.now c.in-And.a c.in-And.b c.in-And.is) in
    let e = ap principal c.deref-else-is_reached.ensures in
    let same = c.is_reached-in-And.ensures.same ∙ c.derives.ensures.same in
    (falls_to whole _ _ t b e c.decreases, (within, (terms_below q _ whole _ _ b e same c.requires.asking, still_term q _ _ same c.requires.asked)))

pub returns-in-AsRole-clause-reached : goal.returns-in-AsRole-clause-reached
returns-in-AsRole-clause-reached g t c =
    let q = g.D.Decide.question c.args.bench.now in
    let whole = principal c.args.subject.now in
    let part = principal c.args.part.now in
    reached_by_one q whole (principal c.in-AsRole.a.value) part c.derives.result c.is_reached.result
    (operands_of_role c.args.subject.now c.in-AsRole.a c.in-AsRole.field-1 c.in-AsRole.is) c.derives.ensures.answer c.if-derives.false
    (reached_same q _ _ _ part part c.is_reached.result c.derives.ensures.same (ap principal c.deref.ensures) refl c.is_reached.ensures.reached)

pub returns-then-is_reached-clause-reached : goal.returns-then-is_reached-clause-reached
returns-then-is_reached-clause-reached g t c =
    let q = g.D.Decide.question c.args.bench.now in
    let whole = principal c.args.subject.now in
    let part = principal c.args.part.now in
    reached_by_first q whole (principal c.in-And.a.value) (principal c.in-And.b.value) part c.is_reached-in-And.result
    (operands_of_pair c.args.subject.now c.in-And.a c.in-And.b c.in-And.is)
    (reached_same q _ _ _ part part c.is_reached-in-And.result c.derives.ensures.same (ap principal c.deref-in-And.ensures) refl c.is_reached-in-And.ensures.reached)
    c.if-is_reached.true

pub returns-else-is_reached-clause-reached : goal.returns-else-is_reached-clause-reached
returns-else-is_reached-clause-reached g t c =
    let q = g.D.Decide.question c.args.bench.now in
    let whole = principal c.args.subject.now in
    let part = principal c.args.part.now in
    reached_by_second q whole (principal c.in-And.a.value) (principal c.in-And.b.value) part c.derives.result c.is_reached-in-And.result c.is_reached-else-is_reached.result
    (operands_of_pair c.args.subject.now c.in-And.a c.in-And.b c.in-And.is) c.derives.ensures.answer c.if-derives.false
    (reached_same q _ _ _ part part c.is_reached-in-And.result c.derives.ensures.same (ap principal c.deref-in-And.ensures) refl c.is_reached-in-And.ensures.reached)
    c.if-is_reached.false
    (reached_same q _ _ _ part part c.is_reached-else-is_reached.result (c.is_reached-in-And.ensures.same ∙ c.derives.ensures.same) (ap principal c.deref-else-is_reached.ensures) refl c.is_reached-else-is_reached.ensures.reached)
