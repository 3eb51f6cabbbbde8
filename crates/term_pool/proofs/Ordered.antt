-- The premises of a line that follows stand before it.
use Rattle.std.proofs.Common.{◌≡◌, ℕ, zero, suc, ◌<◌, List, [], ◌∷◌, Some, slice_get, get_or, Contains, subst, arith}
use Rattle.prin_term.specs.declared.term.Anchor.{Anchor}
use Rattle.taos_calculus.specs.declared.line.Node.{Node}
use Rattle.taos_calculus.specs.Rules.{Claim}
use Rattle.taos_calculus.specs.declared.line.Fact.{Fact}
use Rattle.taos_calculus.specs.declared.line.Step.{Step}
use Rattle.taos_calculus.specs.declared.line.Line.{Line}
use Rattle.taos_calculus.specs.Numbered.{EachGives, Gives, same, chain, left, right, both, quoting, for_both, role, role_under, anchored, said, lift, join, hand_off, delegate}
use Rattle.taos_calculus.specs.Tidy.{premises_of}
use Rattle.term_pool.proofs.Keeping.{gives_before}

-- a number of a list of one or of two
one_of : (P : ℕ → Type 0) (x i : ℕ) → P x → Contains (x ∷ []) i → P i
one_of P x i p c = go c.0 c.1 c.2
  where
    go : (k : ℕ) → k < 1 → get_or (x ∷ []) k i ≡ i → P i
    go zero h e = subst P e p
    go (suc k) h e = absurd (omega arith)

two_of : (P : ℕ → Type 0) (x y i : ℕ) → P x → P y → Contains (x ∷ y ∷ []) i → P i
two_of P x y i p q c = go c.0 c.1 c.2
  where
    go : (k : ℕ) → k < 2 → get_or (x ∷ y ∷ []) k i ≡ i → P i
    go zero h e = subst P e p
    go (suc zero) h e = subst P e q
    go (suc (suc k)) h e = absurd (omega arith)

none_of : (P : ℕ → Type 0) (i : ℕ) → Contains [] i → P i
none_of P i c = absurd (let h : c.0 < 0 = c.1 in omega arith)

-- some fact stands at the number
abbrev HasFact : List Fact → ℕ → Type 0
HasFact earlier i = (f : Fact) × (slice_get earlier i ≡ Some f)

premise_has_fact : (nodes : List Node) (anchors : List Anchor) (claims : List Claim) (earlier : List Fact) (fact : Fact) (step : Step) (i : ℕ) →
    Gives nodes anchors claims earlier fact step → Contains (premises_of step) i → HasFact earlier i
premise_has_fact nodes anchors claims e0 fact step i same q = none_of (HasFact e0) i q
premise_has_fact nodes anchors claims e0 fact step i (chain {a} {b} {c} {i = x} {j = y} e f) q = two_of (HasFact e0) x y i (Fact.Speaks a b, e) (Fact.Speaks b c, f) q
premise_has_fact nodes anchors claims e0 fact step i (left n) q = none_of (HasFact e0) i q
premise_has_fact nodes anchors claims e0 fact step i (right n) q = none_of (HasFact e0) i q
premise_has_fact nodes anchors claims e0 fact step i (both {a} {b} {c} {d} {i = x} {j = y} n e f) q = two_of (HasFact e0) x y i (Fact.Speaks c a, e) (Fact.Speaks c b, f) q
premise_has_fact nodes anchors claims e0 fact step i (quoting {a} {a'} {b} {b'} {c} {d} {i = x} {j = y} n m e f) q = two_of (HasFact e0) x y i (Fact.Speaks a a', e) (Fact.Speaks b b', f) q
premise_has_fact nodes anchors claims e0 fact step i (for_both {a} {a'} {b} {b'} {c} {d} {i = x} {j = y} n m e f) q = two_of (HasFact e0) x y i (Fact.Speaks a a', e) (Fact.Speaks b b', f) q
premise_has_fact nodes anchors claims e0 fact step i (role n) q = none_of (HasFact e0) i q
premise_has_fact nodes anchors claims e0 fact step i (role_under {a} {b} {r} {c} {d} {i = x} n m e) q = one_of (HasFact e0) x i (Fact.Speaks a b, e) q
premise_has_fact nodes anchors claims e0 fact step i (anchored n m p) q = none_of (HasFact e0) i q
premise_has_fact nodes anchors claims e0 fact step i (said n pw pl pr) q = none_of (HasFact e0) i q
premise_has_fact nodes anchors claims e0 fact step i (lift {a} {b} {l} {r} {i = x} {j = y} e f) q = two_of (HasFact e0) x y i (Fact.Says a l r, e) (Fact.Speaks a b, f) q
premise_has_fact nodes anchors claims e0 fact step i (join {a} {b} {c} {l} {r} {i = x} {j = y} n e f) q = two_of (HasFact e0) x y i (Fact.Says a l r, e) (Fact.Says b l r, f) q
premise_has_fact nodes anchors claims e0 fact step i (hand_off {l} {t} {i = x} e) q = one_of (HasFact e0) x i (Fact.Says t l t, e) q
premise_has_fact nodes anchors claims e0 fact step i (delegate {a} {b} {c} {d} {i = x} n m e) q = one_of (HasFact e0) x i (Fact.Says a c d, e) q

pub in_order : (nodes : List Node) (anchors : List Anchor) (claims : List Claim) (lines : List Line) → EachGives nodes anchors claims [] lines →
    (k i : ℕ) (l : Line) → slice_get lines k ≡ Some l → Contains (premises_of l.step) i → i < k
in_order nodes anchors claims lines each k i l e c =
    let (front, stand, gives) = gives_before nodes anchors claims [] lines k l each e in
    let (f, at) = premise_has_fact nodes anchors claims front l.fact l.step i gives c in
    omega (arith, (stand i f at).0)
