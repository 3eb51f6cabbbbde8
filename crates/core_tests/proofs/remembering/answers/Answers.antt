use Rattle.std.proofs.Common.{[], ◌++◌, inl, inr, ◌≡◌, refl, subst, Contains, lit<}
use Rattle.prin_term.specs.Principal.{Principal, Key, Name, And, Quoting, InRole, For, subterms}
use Rattle.prin_term.specs.View.{principal}
use Rattle.stmt_codec.proofs.Members.{here}
use Rattle.core_tests.proofs.remembering.answers.Goals as goal

itself : (p : Principal) → Contains (subterms p) p
itself (Key k) = here (Key k) []
itself (Name n) = here (Name n) []
itself (And a b) = here (And a b) (subterms a ++ subterms b)
itself (Quoting a b) = here (Quoting a b) (subterms a ++ subterms b)
itself (InRole a r) = here (InRole a r) (subterms a)
itself (For a b) = here (For a b) (subterms a ++ subterms b)

-- who is asked about is the entry
listed : (p q : Principal) → q ≡ p → Contains (subterms q) p
listed p q e = subst (λ (r : Principal). Contains (subterms q) r) e (itself q)

pub derives-requires-clause-left : goal.derives-requires-clause-left
derives-requires-clause-left g c = rw c.begin.ensures (inl (itself (principal c.args.subject.now)))

pub derives-requires-clause-right : goal.derives-requires-clause-right
derives-requires-clause-right g c =
    rw c.begin.ensures (inr (0, principal c.in_ok-copied.copied, lit< tt, refl, listed (principal c.args.who.now) (principal c.in_ok-copied.copied) c.in_ok-copied.ensures))

pub take_proof-requires-clause-left : goal.take_proof-requires-clause-left
take_proof-requires-clause-left g c = rw (c.derives.ensures.same, c.begin.ensures) (inl (itself (principal c.args.subject.now)))

pub take_proof-requires-clause-right : goal.take_proof-requires-clause-right
take_proof-requires-clause-right g c =
    rw (c.derives.ensures.same, c.begin.ensures)
    (inr (0, principal c.in_ok-copied.copied, lit< tt, refl, listed (principal c.args.who.now) (principal c.in_ok-copied.copied) c.in_ok-copied.ensures))
