use Rattle.std.proofs.Common.{◌≡◌, List, subst, length, ◌<◌}
use Rattle.std.specs.Bool.{OnTrue, OnFalse}
use Rattle.prin_term.specs.View.{principal}
use Rattle.prin_term.specs.Principal.{Principal, subterms}
use Rattle.stmt_codec.specs.Seen.{principals}
use Rattle.stmt_codec.proofs.Tables.{met-both, over_more, OnFalse-weaker}
use Rattle.stmt_codec.proofs.distinct.Seen.meet_both.Goals as goal

pub returns-then-meet_all-clause-added : goal.returns-then-meet_all-clause-added
returns-then-meet_all-clause-added c =
    let both = met-both (principals c.args.self.now) (principals c.meet_all.new.self) (subterms (principal c.args.first.now)) (subterms (principal c.args.second.now)) c.if-meet_all.ensures.added in
    subst (λ (l : List Principal). OnTrue c.meet_all-then-meet_all.result (principals c.meet_all-then-meet_all.new.self ≡ l)) both c.meet_all-then-meet_all.ensures.added

pub returns-then-meet_all-clause-full : goal.returns-then-meet_all-clause-full
returns-then-meet_all-clause-full c =
    let both = met-both (principals c.args.self.now) (principals c.meet_all.new.self) (subterms (principal c.args.first.now)) (subterms (principal c.args.second.now)) c.if-meet_all.ensures.added in
    subst (λ (l : List Principal). OnFalse c.meet_all-then-meet_all.result (16 < length l)) both c.meet_all-then-meet_all.ensures.full

pub returns-else-meet_all-clause-full : goal.returns-else-meet_all-clause-full
returns-else-meet_all-clause-full c =
    OnFalse-weaker c.meet_all.result _ _ (over_more (principals c.args.self.now) (subterms (principal c.args.first.now)) (subterms (principal c.args.second.now))) c.meet_all.ensures.full
