-- A line that follows still follows where its premises and its certificate stand at other places.
use Rattle.std.proofs.Common.{◌≡◌, ℕ, List, slice_get, Some, All, lit<}
use Rattle.prin_term.specs.declared.term.Anchor.{Anchor}
use Rattle.prin_term.specs.Principal.{Quoting, For}
use Rattle.taos_calculus.specs.Rules.{Claim, Judgement, SpeaksFor, Says, Line, line, Follows, same, chain, left, right, both, quoting, for_both, role, role_under, anchored, said, lift, join, hand_off, delegate}
use Rattle.taos_calculus.specs.Tidy.{premises_of, cites_of, moved}

-- what stands at i in xs stands at `at i` in ys
abbrev pub Stands : {X : Type 0} → List X → List X → (ℕ → ℕ) → ℕ → Type 0
Stands {X} xs ys at i = (x : X) → slice_get xs i ≡ Some x → slice_get ys (at i) ≡ Some x

pub follows_moved : (anchors : List Anchor) (claims claims' : List Claim) (earlier earlier' : List Judgement) (at cite : ℕ → ℕ) (l : Line) →
    All (Stands earlier earlier' at) (premises_of l.step) → All (Stands claims claims' cite) (cites_of l.step) →
    Follows anchors claims earlier l → Follows anchors claims' earlier' (line l.fact (moved at cite l.step))
follows_moved anchors claims claims' e e' at cite l ps cs same = same
follows_moved anchors claims claims' e e' at cite l ps cs (chain {a} {b} {c} {i} {j} p q) =
    chain (ps 0 i (lit< tt) (SpeaksFor a b) p) (ps 1 i (lit< tt) (SpeaksFor b c) q)
follows_moved anchors claims claims' e e' at cite l ps cs left = left
follows_moved anchors claims claims' e e' at cite l ps cs right = right
follows_moved anchors claims claims' e e' at cite l ps cs (both {a} {b} {c} {i} {j} p q) =
    both (ps 0 i (lit< tt) (SpeaksFor c a) p) (ps 1 i (lit< tt) (SpeaksFor c b) q)
follows_moved anchors claims claims' e e' at cite l ps cs (quoting {a} {a'} {b} {b'} {i} {j} p q) =
    quoting (ps 0 i (lit< tt) (SpeaksFor a a') p) (ps 1 i (lit< tt) (SpeaksFor b b') q)
follows_moved anchors claims claims' e e' at cite l ps cs (for_both {a} {a'} {b} {b'} {i} {j} p q) =
    for_both (ps 0 i (lit< tt) (SpeaksFor a a') p) (ps 1 i (lit< tt) (SpeaksFor b b') q)
follows_moved anchors claims claims' e e' at cite l ps cs role = role
follows_moved anchors claims claims' e e' at cite l ps cs (role_under {a} {b} {r} {i} p) = role_under (ps 0 i (lit< tt) (SpeaksFor a b) p)
follows_moved anchors claims claims' e e' at cite l ps cs (anchored f) = anchored f
follows_moved anchors claims claims' e e' at cite l ps cs (said {claim} {i} f) = said (cs 0 i (lit< tt) claim f)
follows_moved anchors claims claims' e e' at cite l ps cs (lift {a} {b} {l = m} {r} {i} {j} p q) =
    lift (ps 0 i (lit< tt) (Says a m r) p) (ps 1 i (lit< tt) (SpeaksFor a b) q)
follows_moved anchors claims claims' e e' at cite l ps cs (join {a} {b} {l = m} {r} {i} {j} p q) =
    join (ps 0 i (lit< tt) (Says a m r) p) (ps 1 i (lit< tt) (Says b m r) q)
follows_moved anchors claims claims' e e' at cite l ps cs (hand_off {l = m} {t} {i} p) = hand_off (ps 0 i (lit< tt) (Says t m t) p)
follows_moved anchors claims claims' e e' at cite l ps cs (delegate {a} {b} {i} p) = delegate (ps 0 i (lit< tt) (Says a (Quoting b a) (For b a)) p)
