use Rattle.std.proofs.Common.{◌≡◌, ◌++◌, ◌∙◌, [], ap, arith}
use Rattle.std.proofs.lemmas.Bool.{lt-ltb}
use Rattle.prin_term.specs.View.{principal}
use Rattle.prin_term.specs.Principal.{Quoting, subterms}
use Rattle.stmt_codec.specs.Distinct.{met, first_of_each}
use Rattle.stmt_codec.specs.Seen.{principals}
use Rattle.stmt_codec.proofs.Counts.{met-twice}
use Rattle.stmt_codec.proofs.Few.{few-front-over, few-front-later, few-room, few-full, length-principals}
use Rattle.stmt_codec.proofs.distinct.are_few_quoting.Goals as goal

pub returns-then-not-meet_both : goal.returns-then-not-meet_both
returns-then-not-meet_both c =
    let key = principal c.args.key.now in
    let quoted = principal c.args.quoted.now in
    few-front-over (Quoting key quoted) (principals c.none-seen.result) (subterms key ++ subterms quoted) (subterms (principal c.args.left.now) ++ subterms (principal c.args.right.now)) c.none-seen.ensures c.if-not-meet_both.ensures.full

pub returns-then-not-meet_both-2 : goal.returns-then-not-meet_both-2
returns-then-not-meet_both-2 c =
    let key = principal c.args.key.now in
    let quoted = principal c.args.quoted.now in
    let xs = subterms key ++ subterms quoted in
    let first : principals c.meet_both.new.self ≡ met [] xs = c.if-not-meet_both.ensures.added ∙ ap (λ t. met t xs) c.none-seen.ensures in
    few-front-later (Quoting key quoted) (principals c.meet_both.new.self) xs (subterms (principal c.args.left.now) ++ subterms (principal c.args.right.now)) first c.if-not-meet_both-2.ensures.full

pub returns-then-len-lt-MAX_DISTINCT : goal.returns-then-len-lt-MAX_DISTINCT
returns-then-len-lt-MAX_DISTINCT c =
    let key = principal c.args.key.now in
    let quoted = principal c.args.quoted.now in
    let xs = subterms key ++ subterms quoted in
    let ys = subterms (principal c.args.left.now) ++ subterms (principal c.args.right.now) in
    let first : principals c.meet_both.new.self ≡ met [] xs = c.if-not-meet_both.ensures.added ∙ ap (λ t. met t xs) c.none-seen.ensures in
    let is : principals c.meet_both-2.new.self ≡ first_of_each (xs ++ ys) = c.if-not-meet_both-2.ensures.added ∙ met-twice (principals c.meet_both.new.self) xs ys first in
    lt-ltb c.len.result 16 c.if-len-lt-MAX_DISTINCT.true ∙ few-room (Quoting key quoted) (principals c.meet_both-2.new.self) (xs ++ ys) is (omega (arith, c.len.ensures, c.if-len-lt-MAX_DISTINCT.true))

pub returns-else-len-lt-MAX_DISTINCT : goal.returns-else-len-lt-MAX_DISTINCT
returns-else-len-lt-MAX_DISTINCT c =
    let key = principal c.args.key.now in
    let quoted = principal c.args.quoted.now in
    let xs = subterms key ++ subterms quoted in
    let ys = subterms (principal c.args.left.now) ++ subterms (principal c.args.right.now) in
    let first : principals c.meet_both.new.self ≡ met [] xs = c.if-not-meet_both.ensures.added ∙ ap (λ t. met t xs) c.none-seen.ensures in
    let is : principals c.meet_both-2.new.self ≡ first_of_each (xs ++ ys) = c.if-not-meet_both-2.ensures.added ∙ met-twice (principals c.meet_both.new.self) xs ys first in
    few-full c.has_quoting.result (Quoting key quoted) (principals c.meet_both-2.new.self) (xs ++ ys) is (omega (arith, c.len.ensures, c.if-len-lt-MAX_DISTINCT.false, length-principals c.meet_both-2.new.self)) c.has_quoting.ensures
