use Rattle.std.proofs.Common.{◌++◌, ◌∙◌, ap}
use Rattle.prin_term.specs.View.{principal}
use Rattle.prin_term.specs.Principal.{subterms}
use Rattle.stmt_codec.specs.Distinct.{met}
use Rattle.stmt_codec.specs.Seen.{principals}
use Rattle.stmt_codec.proofs.Few.{few-met, few-over-false, length-principals}
use Rattle.stmt_codec.proofs.distinct.are_few.Goals as goal

pub returns-then-meet_all : goal.returns-then-meet_all
returns-then-meet_all c =
    let first = c.if-meet_all.ensures.added ∙ ap (λ t. met t (subterms (principal c.args.key.now))) c.none-seen.ensures in
    few-met c.meet_both.result (principals c.meet_all.new.self) (principals c.meet_both.new.self) (subterms (principal c.args.key.now)) (subterms (principal c.args.left.now) ++ subterms (principal c.args.right.now))
    first (length-principals c.meet_both.new.self) c.meet_both.ensures.added c.meet_both.ensures.full

pub returns-else-meet_all : goal.returns-else-meet_all
returns-else-meet_all c =
    few-over-false c.meet_all.result (principals c.none-seen.result) (subterms (principal c.args.key.now)) (subterms (principal c.args.left.now) ++ subterms (principal c.args.right.now)) c.none-seen.ensures c.if-meet_all.false c.meet_all.ensures.full
