use Rattle.std.proofs.Common.{◌≡◌, List, inl, inr, ap, ◌∙◌, subst, length, ◌<◌}
use Rattle.std.specs.Bool.{OnTrue, OnFalse}
use Rattle.prin_term.specs.View.{principal}
use Rattle.prin_term.specs.Principal.{Principal, subterms}
use Rattle.prin_term.specs.Kind.{Kind, And, Quoting, For, pair}
use Rattle.stmt_codec.specs.Distinct.{met}
use Rattle.stmt_codec.specs.Seen.{principals}
use Rattle.stmt_codec.proofs.Tables.{over_first, met-pair, over-pair, OnFalse-weaker}
use Rattle.stmt_codec.proofs.distinct.Seen.+meet_all.Goals as goal

pub returns-then-not-meet-clause-full : goal.returns-then-not-meet-clause-full
returns-then-not-meet-clause-full t c = over_first (principals c.args.self.now) (principal c.args.term.now) c.if-not-meet.ensures.full

pub returns-then-meet_all-clause-added : goal.returns-then-meet_all-clause-added
returns-then-meet_all-clause-added t c =
    let which : (kind : Kind) × (principal c.args.term.now ≡ pair kind (principal c.in-And.left.value) (principal c.in-And.right.value)) =
    elim c.in-And.is [ inl e ↦ (And, ap principal e) | inr r ↦ elim r [ inl e ↦ (Quoting, ap principal e) | inr e ↦ (For, ap principal e) ] ] in
    let two = c.if-meet_all.ensures.added ∙ ap (λ t. met (principals c.meet.new.self) (subterms (principal t))) c.deref-in-And.ensures in
    let is = ap (λ t. met (principals c.meet_all-in-And.new.self) (subterms (principal t))) c.deref-then-meet_all.ensures ∙ met-pair _ _ _ (principal c.args.term.now) which.0 _ _ which.1 c.if-not-meet.ensures.added two in
    subst (λ (l : List Principal). OnTrue c.meet_all-then-meet_all.result (principals c.meet_all-then-meet_all.new.self ≡ l)) is c.meet_all-then-meet_all.ensures.added

pub returns-then-meet_all-clause-full : goal.returns-then-meet_all-clause-full
returns-then-meet_all-clause-full t c =
    let which : (kind : Kind) × (principal c.args.term.now ≡ pair kind (principal c.in-And.left.value) (principal c.in-And.right.value)) =
    elim c.in-And.is [ inl e ↦ (And, ap principal e) | inr r ↦ elim r [ inl e ↦ (Quoting, ap principal e) | inr e ↦ (For, ap principal e) ] ] in
    let two = c.if-meet_all.ensures.added ∙ ap (λ t. met (principals c.meet.new.self) (subterms (principal t))) c.deref-in-And.ensures in
    let is = ap (λ t. met (principals c.meet_all-in-And.new.self) (subterms (principal t))) c.deref-then-meet_all.ensures ∙ met-pair _ _ _ (principal c.args.term.now) which.0 _ _ which.1 c.if-not-meet.ensures.added two in
    subst (λ (l : List Principal). OnFalse c.meet_all-then-meet_all.result (16 < length l)) is c.meet_all-then-meet_all.ensures.full

pub returns-else-meet_all-clause-full : goal.returns-else-meet_all-clause-full
returns-else-meet_all-clause-full t c =
    let which : (kind : Kind) × (principal c.args.term.now ≡ pair kind (principal c.in-And.left.value) (principal c.in-And.right.value)) =
    elim c.in-And.is [ inl e ↦ (And, ap principal e) | inr r ↦ elim r [ inl e ↦ (Quoting, ap principal e) | inr e ↦ (For, ap principal e) ] ] in
    let one = c.if-not-meet.ensures.added in
    let left = ap principal c.deref-in-And.ensures in
    OnFalse-weaker c.meet_all-in-And.result _ _
    (λ over. over-pair _ _ (principal c.args.term.now) which.0 (principal c.in-And.left.value) (principal c.in-And.right.value) which.1 one (subst (λ (p : Principal). 16 < length (met (principals c.meet.new.self) (subterms p))) left over))
    c.meet_all-in-And.ensures.full
