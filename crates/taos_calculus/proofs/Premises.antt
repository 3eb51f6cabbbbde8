-- What stands at the numbers of a step makes it give its fact, and nothing else does.
use Rattle.std.proofs.Common.{◌≡◌, ◌↔◌, ℕ, List, Option, Some, None, slice_get, refl, ap, ◌∙◌}
use Rattle.prin_term.specs.declared.term.Anchor.{Anchor}
use Rattle.taos_calculus.specs.declared.line.Step.{Step}
use Rattle.taos_calculus.specs.declared.line.Node.{Node}
use Rattle.taos_calculus.specs.declared.line.Fact.{Fact}
use Rattle.taos_calculus.specs.Rules.{Claim}
use Rattle.taos_calculus.specs.Tables.{named}
use Rattle.taos_calculus.specs.Numbered
use Rattle.taos_calculus.specs.Numbered.{Gives}
use Rattle.taos_calculus.specs.Premises.{Chains, IsLeftOf, IsRightOf, ReachBoth, Quotes, ActsFor, IsRoleOf, UnderRole, IsAnchored, IsClaimed, Lifts, JoinIn, HandsOff, Delegates, Asks}

module _ (nodes : List Node) (anchors : List Anchor) (claims : List Claim) (earlier : List Fact) where
  abbrev Given : Fact → Step → Type 0
  Given fact step = Gives nodes anchors claims earlier fact step

  abbrev At : ℕ → Option Node
  At c = slice_get nodes c

  abbrev Said : ℕ → Option Fact
  Said i = slice_get earlier i

  -- ---- from what stands there

  chain_gives : (i j l r : ℕ) → Chains (Said i) (Said j) l r → Given (Fact.Speaks l r) (Step.Chain i j)
  chain_gives i j l r h = go (Said j) refl h
    where
      go : (o : Option Fact) → Said j ≡ o → Chains (Said i) o l r → Given (Fact.Speaks l r) (Step.Chain i j)
      go (Some (Fact.Speaks b c)) e h = Numbered.chain {b = b} h.0 (e ∙ ap (λ (k : ℕ). Some (Fact.Speaks b k)) h.1)
      go (Some (Fact.Says a b c)) e h = absurd h
      go None e h = absurd h

  left_gives : (l r : ℕ) → IsLeftOf (At l) r → Given (Fact.Speaks l r) Step.Left
  left_gives l r h = go (At l) refl h
    where
      go : (o : Option Node) → At l ≡ o → IsLeftOf o r → Given (Fact.Speaks l r) Step.Left
      go (Some (Node.And a b)) e h = Numbered.left {b = b} (e ∙ ap (λ (k : ℕ). Some (Node.And k b)) h)
      go (Some (Node.Key k)) e h = absurd h
      go (Some (Node.Name k)) e h = absurd h
      go (Some (Node.Quote a b)) e h = absurd h
      go (Some (Node.AsRole a b)) e h = absurd h
      go (Some (Node.For a b)) e h = absurd h
      go None e h = absurd h

  right_gives : (l r : ℕ) → IsRightOf (At l) r → Given (Fact.Speaks l r) Step.Right
  right_gives l r h = go (At l) refl h
    where
      go : (o : Option Node) → At l ≡ o → IsRightOf o r → Given (Fact.Speaks l r) Step.Right
      go (Some (Node.And a b)) e h = Numbered.right {a = a} (e ∙ ap (λ (k : ℕ). Some (Node.And a k)) h)
      go (Some (Node.Key k)) e h = absurd h
      go (Some (Node.Name k)) e h = absurd h
      go (Some (Node.Quote a b)) e h = absurd h
      go (Some (Node.AsRole a b)) e h = absurd h
      go (Some (Node.For a b)) e h = absurd h
      go None e h = absurd h

  both_gives : (l r i j : ℕ) → ReachBoth (At r) (Said i) (Said j) l → Given (Fact.Speaks l r) (Step.Both i j)
  both_gives l r i j h = go (At r) refl h
    where
      go : (o : Option Node) → At r ≡ o → ReachBoth o (Said i) (Said j) l → Given (Fact.Speaks l r) (Step.Both i j)
      go (Some (Node.And a b)) e h = Numbered.both {a = a} {b = b} e h.0 h.1
      go (Some (Node.Key k)) e h = absurd h
      go (Some (Node.Name k)) e h = absurd h
      go (Some (Node.Quote a b)) e h = absurd h
      go (Some (Node.AsRole a b)) e h = absurd h
      go (Some (Node.For a b)) e h = absurd h
      go None e h = absurd h

  quote_gives : (l r i j : ℕ) → Quotes (At l) (At r) (Said i) (Said j) → Given (Fact.Speaks l r) (Step.Quote i j)
  quote_gives l r i j h = go (At l) (At r) refl refl h
    where
      go : (o q : Option Node) → At l ≡ o → At r ≡ q → Quotes o q (Said i) (Said j) → Given (Fact.Speaks l r) (Step.Quote i j)
      go (Some (Node.Quote a b)) (Some (Node.Quote c d)) e f h = Numbered.quoting {a = a} {a' = c} {b = b} {b' = d} e f h.0 h.1
      go _ _ e f h = absurd h

  for_gives : (l r i j : ℕ) → ActsFor (At l) (At r) (Said i) (Said j) → Given (Fact.Speaks l r) (Step.For i j)
  for_gives l r i j h = go (At l) (At r) refl refl h
    where
      go : (o q : Option Node) → At l ≡ o → At r ≡ q → ActsFor o q (Said i) (Said j) → Given (Fact.Speaks l r) (Step.For i j)
      go (Some (Node.For a b)) (Some (Node.For c d)) e f h = Numbered.for_both {a = a} {a' = c} {b = b} {b' = d} e f h.0 h.1
      go _ _ e f h = absurd h

  role_gives : (l r : ℕ) → IsRoleOf (At r) l → Given (Fact.Speaks l r) Step.Role
  role_gives l r h = go (At r) refl h
    where
      go : (o : Option Node) → At r ≡ o → IsRoleOf o l → Given (Fact.Speaks l r) Step.Role
      go (Some (Node.AsRole a s)) e h = Numbered.role {r = s} (e ∙ ap (λ (k : ℕ). Some (Node.AsRole k s)) h)
      go _ e h = absurd h

  role_under_gives : (l r i : ℕ) → UnderRole (At l) (At r) (Said i) → Given (Fact.Speaks l r) (Step.RoleUnder i)
  role_under_gives l r i h = go (At l) (At r) refl refl h
    where
      go : (o q : Option Node) → At l ≡ o → At r ≡ q → UnderRole o q (Said i) → Given (Fact.Speaks l r) (Step.RoleUnder i)
      go (Some (Node.AsRole a s)) (Some (Node.AsRole b t)) e f h =
          Numbered.role_under {a = a} {b = b} {r = t} (e ∙ ap (λ (k : ℕ). Some (Node.AsRole a k)) h.0) f h.1
      go _ _ e f h = absurd h

  anchor_gives : (l r i : ℕ) → IsAnchored (slice_get anchors i) (At l) (At r) → Given (Fact.Speaks l r) (Step.Anchor i)
  anchor_gives l r i h = go (slice_get anchors i) refl h
    where
      go : (o : Option Anchor) → slice_get anchors i ≡ o → IsAnchored o (At l) (At r) → Given (Fact.Speaks l r) (Step.Anchor i)
      go (Some anchor) e h = Numbered.anchored e h.0 h.1
      go None e h = absurd h

  hand_off_gives : (l r i : ℕ) → HandsOff (Said i) l r → Given (Fact.Speaks l r) (Step.HandOff i)
  hand_off_gives l r i h = Numbered.hand_off h

  delegate_gives : (l r i : ℕ) → Delegates (At l) (At r) (Said i) l r → Given (Fact.Speaks l r) (Step.Delegate i)
  delegate_gives l r i h = go (At l) refl h
    where
      go : (o : Option Node) → At l ≡ o → Delegates o (At r) (Said i) l r → Given (Fact.Speaks l r) (Step.Delegate i)
      go (Some (Node.Quote b a)) e h = Numbered.delegate {a = a} {b = b} e h.0 h.1
      go _ e h = absurd h

  said_gives : (w l r i : ℕ) → IsClaimed (named nodes) (slice_get claims i) w l r → Given (Fact.Says w l r) (Step.Said i)
  said_gives w l r i h = go (slice_get claims i) refl h
    where
      go : (o : Option Claim) → slice_get claims i ≡ o → IsClaimed (named nodes) o w l r → Given (Fact.Says w l r) (Step.Said i)
      go (Some claim) e h = Numbered.said e h.0 h.1 h.2
      go None e h = absurd h

  lift_gives : (w l r i j : ℕ) → Lifts (Said i) (Said j) w l r → Given (Fact.Says w l r) (Step.Lift i j)
  lift_gives w l r i j h = go (Said i) refl h
    where
      go : (o : Option Fact) → Said i ≡ o → Lifts o (Said j) w l r → Given (Fact.Says w l r) (Step.Lift i j)
      go (Some (Fact.Says a b c)) e h = Numbered.lift {a = a} (e ∙ ap (λ (k : ℕ). Some (Fact.Says a k c)) h.0 ∙ ap (λ (k : ℕ). Some (Fact.Says a l k)) h.1) h.2
      go _ e h = absurd h

  join_gives : (w l r i j : ℕ) → JoinIn (At w) (Said i) (Said j) l r → Given (Fact.Says w l r) (Step.Join i j)
  join_gives w l r i j h = go (At w) refl h
    where
      go : (o : Option Node) → At w ≡ o → JoinIn o (Said i) (Said j) l r → Given (Fact.Says w l r) (Step.Join i j)
      go (Some (Node.And a b)) e h = Numbered.join {a = a} {b = b} e h.0 h.1
      go _ e h = absurd h

  -- ---- to what stands there

  abbrev Needs : Fact → Step → Type 0
  Needs fact step = Asks nodes anchors claims earlier fact step

  given_asks : (fact : Fact) (step : Step) → Given fact step → Needs fact step
  given_asks fact step Numbered.same = refl
  given_asks fact step (Numbered.chain {a} {b} {c} {i} {j} e f) = rw f (e, refl)
  given_asks fact step (Numbered.left {a} {b} {c} e) = rw e refl
  given_asks fact step (Numbered.right {a} {b} {c} e) = rw e refl
  given_asks fact step (Numbered.both e f g) = rw e (f, g)
  given_asks fact step (Numbered.quoting e f g h) = rw (e, f) (g, h)
  given_asks fact step (Numbered.for_both e f g h) = rw (e, f) (g, h)
  given_asks fact step (Numbered.role e) = rw e refl
  given_asks fact step (Numbered.role_under e f g) = rw (e, f) (refl, g)
  given_asks fact step (Numbered.anchored e f g) = rw e (f, g)
  given_asks fact step (Numbered.said e w l r) = rw e (w, l, r)
  given_asks fact step (Numbered.lift e f) = rw e (refl, refl, f)
  given_asks fact step (Numbered.join e f g) = rw e (f, g)
  given_asks fact step (Numbered.hand_off e) = e
  given_asks fact step (Numbered.delegate e f g) = rw e (f, g)

  asks_given : (fact : Fact) (step : Step) → Needs fact step → Given fact step
  asks_given (Fact.Speaks l r) Step.Same h = rw h Numbered.same
  asks_given (Fact.Speaks l r) (Step.Chain i j) h = chain_gives i j l r h
  asks_given (Fact.Speaks l r) Step.Left h = left_gives l r h
  asks_given (Fact.Speaks l r) Step.Right h = right_gives l r h
  asks_given (Fact.Speaks l r) (Step.Both i j) h = both_gives l r i j h
  asks_given (Fact.Speaks l r) (Step.Quote i j) h = quote_gives l r i j h
  asks_given (Fact.Speaks l r) (Step.For i j) h = for_gives l r i j h
  asks_given (Fact.Speaks l r) Step.Role h = role_gives l r h
  asks_given (Fact.Speaks l r) (Step.RoleUnder i) h = role_under_gives l r i h
  asks_given (Fact.Speaks l r) (Step.Anchor i) h = anchor_gives l r i h
  asks_given (Fact.Speaks l r) (Step.HandOff i) h = hand_off_gives l r i h
  asks_given (Fact.Speaks l r) (Step.Delegate i) h = delegate_gives l r i h
  asks_given (Fact.Says w l r) (Step.Said i) h = said_gives w l r i h
  asks_given (Fact.Says w l r) (Step.Lift i j) h = lift_gives w l r i j h
  asks_given (Fact.Says w l r) (Step.Join i j) h = join_gives w l r i j h
  asks_given _ _ h = absurd h

  -- a test of what a step asks is one of what it gives
  pub asked_gives : (fact : Fact) (step : Step) → Gives nodes anchors claims earlier fact step ↔ Asks nodes anchors claims earlier fact step
  asked_gives fact step = (given_asks fact step, asks_given fact step)
