-- A step that gives a numbered fact still gives it where its premises and its certificate stand at other places.
use Rattle.std.proofs.Common.{ℕ, List, refl, lit<, Contains}
use Rattle.prin_term.specs.declared.term.Anchor.{Anchor}
use Rattle.taos_calculus.specs.declared.line.Step.{Step}
use Rattle.taos_calculus.specs.declared.line.Node.{Node}
use Rattle.taos_calculus.specs.declared.line.Fact.{Fact}
use Rattle.taos_calculus.specs.Rules.{Claim}
use Rattle.taos_calculus.specs.Tidy.{premises_of, cites_of, moved}
use Rattle.taos_calculus.specs.Numbered
use Rattle.taos_calculus.specs.Numbered.{Gives}
use Rattle.taos_calculus.proofs.Moving.{Stands}

pub gives_moved : (nodes : List Node) (anchors : List Anchor) (claims claims' : List Claim) (earlier earlier' : List Fact) (at cite : ℕ → ℕ) (fact : Fact) (step : Step) →
    ((i : ℕ) → Contains (premises_of step) i → Stands earlier earlier' at i) →
    ((i : ℕ) → Contains (cites_of step) i → Stands claims claims' cite i) →
    Gives nodes anchors claims earlier fact step → Gives nodes anchors claims' earlier' fact (moved at cite step)
gives_moved nodes anchors c0 c1 e0 e1 at cite fact step st ct Numbered.same = Numbered.same
gives_moved nodes anchors c0 c1 e0 e1 at cite fact step st ct (Numbered.chain {a} {b} {c} {i} {j} e f) =
    Numbered.chain (st i (0, lit< tt, refl) (Fact.Speaks a b) e) (st j (1, lit< tt, refl) (Fact.Speaks b c) f)
gives_moved nodes anchors c0 c1 e0 e1 at cite fact step st ct (Numbered.left e) = Numbered.left e
gives_moved nodes anchors c0 c1 e0 e1 at cite fact step st ct (Numbered.right e) = Numbered.right e
gives_moved nodes anchors c0 c1 e0 e1 at cite fact step st ct (Numbered.both {a} {b} {c} {d} {i} {j} n e f) =
    Numbered.both n (st i (0, lit< tt, refl) (Fact.Speaks c a) e) (st j (1, lit< tt, refl) (Fact.Speaks c b) f)
gives_moved nodes anchors c0 c1 e0 e1 at cite fact step st ct (Numbered.quoting {a} {a'} {b} {b'} {c} {d} {i} {j} n m e f) =
    Numbered.quoting n m (st i (0, lit< tt, refl) (Fact.Speaks a a') e) (st j (1, lit< tt, refl) (Fact.Speaks b b') f)
gives_moved nodes anchors c0 c1 e0 e1 at cite fact step st ct (Numbered.for_both {a} {a'} {b} {b'} {c} {d} {i} {j} n m e f) =
    Numbered.for_both n m (st i (0, lit< tt, refl) (Fact.Speaks a a') e) (st j (1, lit< tt, refl) (Fact.Speaks b b') f)
gives_moved nodes anchors c0 c1 e0 e1 at cite fact step st ct (Numbered.role e) = Numbered.role e
gives_moved nodes anchors c0 c1 e0 e1 at cite fact step st ct (Numbered.role_under {a} {b} {r} {c} {d} {i} n m e) = Numbered.role_under n m (st i (0, lit< tt, refl) (Fact.Speaks a b) e)
gives_moved nodes anchors c0 c1 e0 e1 at cite fact step st ct (Numbered.anchored e n m) = Numbered.anchored e n m
gives_moved nodes anchors c0 c1 e0 e1 at cite fact step st ct (Numbered.said {claim} {w} {l} {r} {i} e pw pl pr) = Numbered.said (ct i (0, lit< tt, refl) claim e) pw pl pr
gives_moved nodes anchors c0 c1 e0 e1 at cite fact step st ct (Numbered.lift {a} {b} {l} {r} {i} {j} e f) =
    Numbered.lift (st i (0, lit< tt, refl) (Fact.Says a l r) e) (st j (1, lit< tt, refl) (Fact.Speaks a b) f)
gives_moved nodes anchors c0 c1 e0 e1 at cite fact step st ct (Numbered.join {a} {b} {c} {l} {r} {i} {j} n e f) =
    Numbered.join n (st i (0, lit< tt, refl) (Fact.Says a l r) e) (st j (1, lit< tt, refl) (Fact.Says b l r) f)
gives_moved nodes anchors c0 c1 e0 e1 at cite fact step st ct (Numbered.hand_off {l} {t} {i} e) = Numbered.hand_off (st i (0, lit< tt, refl) (Fact.Says t l t) e)
gives_moved nodes anchors c0 c1 e0 e1 at cite fact step st ct (Numbered.delegate {a} {b} {c} {d} {i} n m e) = Numbered.delegate n m (st i (0, lit< tt, refl) (Fact.Says a c d) e)
