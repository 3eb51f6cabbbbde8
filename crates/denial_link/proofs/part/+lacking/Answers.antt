use Rattle.std.proofs.Common.{◌≡◌, ◌+◌, refl, ap, ◌∙◌, arith}
use Rattle.prin_term.specs.Principal.{node_count}
use Rattle.prin_term.specs.View.{principal}
use Rattle.denial_link.proofs.Reaching.{operands_of_leaf, operands_of_pair, operands_of_role, only_operand, first_operand, second_operand, falls_to}
use Rattle.denial_link.proofs.Reaching.{still_terms, operand_is_term, terms_below, Reaches, reached_same}
use Rattle.denial_link.proofs.Reaching.{lacks_leaf, lacks_none_of_one, lacks_none_of_two, lacks_first, lacks_second, lacks_same}
use Rattle.denial_link.proofs.part.+lacking.Goals as goal

pub is_reached-requires-clause-asked : goal.is_reached-requires-clause-asked
is_reached-requires-clause-asked g t c =
    let q = g.D.Decide.question c.args.bench.now in
    let whole = principal c.args.part.now in
    let a = only_operand whole (principal c.in-AsRole.a.value) (operands_of_role c.args.part.now c.in-AsRole.a c.in-AsRole.field-1 c.in-AsRole.is) in
    operand_is_term q q whole _ _ a (ap principal c.deref.ensures) refl c.requires.asked

pub lacking-requires : goal.lacking-requires
lacking-requires g t c κs within =
    let q = g.D.Decide.question c.args.bench.now in
    let whole = principal c.args.part.now in
    let a = only_operand whole (principal c.in-AsRole.a.value) (operands_of_role c.args.part.now c.in-AsRole.a c.in-AsRole.field-1 c.in-AsRole.is) in
    let e = ap principal c.deref-else-is_reached.ensures in
    let same = c.is_reached.ensures.same in
    let small = falls_to whole _ _ _ a e refl in
    (falls_to whole _ _ t a e c.decreases, (within, (still_terms q _ (principal c.args.subject.now) same c.requires.asking, (terms_below q _ whole _ _ a e same c.requires.asked, omega (arith, small, c.requires.small)))))

pub is_reached-requires-in-And-clause-asked : goal.is_reached-requires-in-And-clause-asked
is_reached-requires-in-And-clause-asked g t c =
    let q = g.D.Decide.question c.args.bench.now in
    let whole = principal c.args.part.now in
    let a = first_operand whole _ _ (operands_of_pair c.args.part.now c.in-And.a c.in-And.b c.in-And.is) in
    operand_is_term q q whole _ _ a (ap principal c.deref-in-And.ensures) refl c.requires.asked

pub lacking-requires-then-not-is_reached : goal.lacking-requires-then-not-is_reached
lacking-requires-then-not-is_reached g t c κs within =
    let q = g.D.Decide.question c.args.bench.now in
    let whole = principal c.args.part.now in
    let a = first_operand whole _ _ (operands_of_pair c.args.part.now c.in-And.a c.in-And.b c.in-And.is) in
    let e = ap principal c.deref-then-not-is_reached.ensures in
    let same = c.is_reached-in-And.ensures.same in
    let small = falls_to whole _ _ _ a e refl in
    (falls_to whole _ _ t a e c.decreases, (within, (still_terms q _ (principal c.args.subject.now) same c.requires.asking, (terms_below q _ whole _ _ a e same c.requires.asked, omega (arith, small, c.requires.small)))))

pub is_reached-requires-else-not-is_reached-clause-asking :
    goal.is_reached-requires-else-not-is_reached-clause-asking
is_reached-requires-else-not-is_reached-clause-asking g t c =
    still_terms (g.D.Decide.question c.args.bench.now) _ (principal c.args.subject.now) c.is_reached-in-And.ensures.same c.requires.asking

pub is_reached-requires-else-not-is_reached-clause-asked : goal.is_reached-requires-else-not-is_reached-clause-asked
is_reached-requires-else-not-is_reached-clause-asked g t c =
    let q = g.D.Decide.question c.args.bench.now in
    let whole = principal c.args.part.now in
    let b = second_operand whole _ _ (operands_of_pair c.args.part.now c.in-And.a c.in-And.b c.in-And.is) in
    operand_is_term q _ whole _ _ b (ap principal c.deref-else-not-is_reached.ensures) c.is_reached-in-And.ensures.same c.requires.asked

pub lacking-requires-then-not-is_reached-2 : goal.lacking-requires-then-not-is_reached-2
lacking-requires-then-not-is_reached-2 g t c κs within =
    let q = g.D.Decide.question c.args.bench.now in
    let whole = principal c.args.part.now in
    let b = second_operand whole _ _ (operands_of_pair c.args.part.now c.in-And.a c.in-And.b c.in-And.is) in
    let e = ap principal c.deref-then-not-is_reached-2-2.ensures in
    let same = c.is_reached-else-not-is_reached.ensures.same ∙ c.is_reached-in-And.ensures.same in
    let small = falls_to whole _ _ _ b e refl in
    (falls_to whole _ _ t b e c.decreases, (within, (still_terms q _ (principal c.args.subject.now) same c.requires.asking, (terms_below q _ whole _ _ b e same c.requires.asked, omega (arith, small, c.requires.small)))))

pub returns-then-is_reached-clause-lacks : goal.returns-then-is_reached-clause-lacks
returns-then-is_reached-clause-lacks g t c =
    let q = g.D.Decide.question c.args.bench.now in
    let subject = principal c.args.subject.now in
    lacks_none_of_one (Reaches q subject) (principal c.args.part.now) (principal c.in-AsRole.a.value) c.is_reached.result
    (operands_of_role c.args.part.now c.in-AsRole.a c.in-AsRole.field-1 c.in-AsRole.is)
    (reached_same q q subject subject _ _ c.is_reached.result refl refl (ap principal c.deref.ensures) c.is_reached.ensures.reached) c.if-is_reached.true

pub returns-else-is_reached-clause-lacks : goal.returns-else-is_reached-clause-lacks
returns-else-is_reached-clause-lacks g t c =
    let q = g.D.Decide.question c.args.bench.now in
    let subject = principal c.args.subject.now in
    lacks_first (Reaches q subject) (principal c.args.part.now) (principal c.in-AsRole.a.value) _ c.is_reached.result c.lacking.result _
    (operands_of_role c.args.part.now c.in-AsRole.a c.in-AsRole.field-1 c.in-AsRole.is)
    (reached_same q q subject subject _ _ c.is_reached.result refl refl (ap principal c.deref.ensures) c.is_reached.ensures.reached) c.if-is_reached.false
    (lacks_same q _ subject _ _ c.lacking.result c.is_reached.ensures.same (ap principal c.deref-else-is_reached.ensures) c.lacking.ensures.lacks) refl

pub returns-in-Key-clause-lacks : goal.returns-in-Key-clause-lacks
returns-in-Key-clause-lacks g t c = lacks_leaf _ (principal c.args.part.now) (operands_of_leaf c.args.part.now c.in-Key.is)

pub returns-in-Key-2-clause-lacks : goal.returns-in-Key-2-clause-lacks
returns-in-Key-2-clause-lacks g t c = lacks_leaf _ (principal c.args.part.now) (operands_of_leaf c.args.part.now c.in-Key.is)

pub returns-then-not-is_reached-clause-lacks : goal.returns-then-not-is_reached-clause-lacks
returns-then-not-is_reached-clause-lacks g t c =
    let q = g.D.Decide.question c.args.bench.now in
    let subject = principal c.args.subject.now in
    lacks_first (Reaches q subject) (principal c.args.part.now) (principal c.in-And.a.value) _ c.is_reached-in-And.result c.lacking-then-not-is_reached.result _
    (operands_of_pair c.args.part.now c.in-And.a c.in-And.b c.in-And.is)
    (reached_same q q subject subject _ _ c.is_reached-in-And.result refl refl (ap principal c.deref-in-And.ensures) c.is_reached-in-And.ensures.reached) c.if-not-is_reached.true
    (lacks_same q _ subject _ _ c.lacking-then-not-is_reached.result c.is_reached-in-And.ensures.same (ap principal c.deref-then-not-is_reached.ensures) c.lacking-then-not-is_reached.ensures.lacks) refl

pub returns-then-not-is_reached-2-clause-lacks : goal.returns-then-not-is_reached-2-clause-lacks
returns-then-not-is_reached-2-clause-lacks g t c =
    let q = g.D.Decide.question c.args.bench.now in
    let subject = principal c.args.subject.now in
    let a = principal c.in-And.a.value in
    let count : c.count_of.result ≡ node_count a = c.count_of.ensures ∙ ap (λ x. node_count (principal x)) c.deref-then-not-is_reached-2.ensures in
    lacks_second (Reaches q subject) (principal c.args.part.now) a (principal c.in-And.b.value) c.is_reached-in-And.result c.is_reached-else-not-is_reached.result c.lacking-then-not-is_reached-2.result _
    (operands_of_pair c.args.part.now c.in-And.a c.in-And.b c.in-And.is)
    (reached_same q q subject subject _ _ c.is_reached-in-And.result refl refl (ap principal c.deref-in-And.ensures) c.is_reached-in-And.ensures.reached) c.if-not-is_reached.false
    (reached_same q _ subject subject _ _ c.is_reached-else-not-is_reached.result c.is_reached-in-And.ensures.same refl (ap principal c.deref-else-not-is_reached.ensures) c.is_reached-else-not-is_reached.ensures.reached) c.if-not-is_reached-2.true
    (lacks_same q _ subject _ _ c.lacking-then-not-is_reached-2.result (c.is_reached-else-not-is_reached.ensures.same ∙ c.is_reached-in-And.ensures.same) (ap principal c.deref-then-not-is_reached-2-2.ensures) c.lacking-then-not-is_reached-2.ensures.lacks)
    (ap (λ n. 1 + n + c.lacking-then-not-is_reached-2.result) count)

pub returns-else-not-is_reached-2-clause-lacks : goal.returns-else-not-is_reached-2-clause-lacks
returns-else-not-is_reached-2-clause-lacks g t c =
    let q = g.D.Decide.question c.args.bench.now in
    let subject = principal c.args.subject.now in
    lacks_none_of_two (Reaches q subject) (principal c.args.part.now) (principal c.in-And.a.value) (principal c.in-And.b.value) c.is_reached-in-And.result c.is_reached-else-not-is_reached.result
    (operands_of_pair c.args.part.now c.in-And.a c.in-And.b c.in-And.is)
    (reached_same q q subject subject _ _ c.is_reached-in-And.result refl refl (ap principal c.deref-in-And.ensures) c.is_reached-in-And.ensures.reached) c.if-not-is_reached.false
    (reached_same q _ subject subject _ _ c.is_reached-else-not-is_reached.result c.is_reached-in-And.ensures.same refl (ap principal c.deref-else-not-is_reached.ensures) c.is_reached-else-not-is_reached.ensures.reached) c.if-not-is_reached-2.false
