-- Edges by their forms, and by what is believed.
use Rattle.std.proofs.Common.{◌≡◌, ℕ, ◌<◌, Some, slice_get, length, refl, sym, subst}
use Rattle.std.proofs.lemmas.Option.{slice_get_within}
use Rattle.taos_calculus.specs.declared.line.Node.{Node}
use Rattle.term_pool.specs.declared.cited.Cited.{Cited}
use Rattle.goal_search.specs.declared.search.Anchored.{Anchored}
use Rattle.goal_search.specs.Edges.{IsDelegation}
use Rattle.goal_search.specs.Reasons.{About, IsEdge, IsSaid, left, right, role, anchored, role_under, hand_off, delegate, IsPassed}
use Rattle.goal_search.specs.Searching.{Core, about, Has, IsReady}
use Rattle.goal_search.proofs.Told.{same_cited}

module _ (s : About) (Had : ℕ → ℕ → Type 0) where
  pub edge_left : (from to a b : ℕ) → slice_get s.nodes from ≡ Some (Node.And a b) → a ≡ to → IsEdge s Had from to
  edge_left from to a b e q = left {b = b} (subst (λ (x : ℕ). slice_get s.nodes from ≡ Some (Node.And x b)) q e)

  pub edge_right : (from to a b : ℕ) → slice_get s.nodes from ≡ Some (Node.And a b) → b ≡ to → IsEdge s Had from to
  edge_right from to a b e q = right {a = a} (subst (λ (x : ℕ). slice_get s.nodes from ≡ Some (Node.And a x)) q e)

  pub edge_role : (from to a r : ℕ) → slice_get s.nodes to ≡ Some (Node.AsRole a r) → a ≡ from → IsEdge s Had from to
  edge_role from to a r e q = role {r = r} (subst (λ (x : ℕ). slice_get s.nodes to ≡ Some (Node.AsRole x r)) q e)

  pub edge_under : (from to a c r m : ℕ) → slice_get s.nodes from ≡ Some (Node.AsRole a r) → slice_get s.nodes to ≡ Some (Node.AsRole c m) → r ≡ m → IsPassed Had a c → IsEdge s Had from to
  edge_under from to a c r m e f q p = role_under e (subst (λ (x : ℕ). slice_get s.nodes to ≡ Some (Node.AsRole c x)) (sym q) f) p

module _ (s : Core) (ready : IsReady s) where
  -- an anchor by its numbers
  pub link_below : (k : ℕ) (link : Anchored) → slice_get s.links k ≡ Some link → (link.key < length s.nodes) × (link.name < length s.nodes)
  link_below k link e =
      let is = ready.anchored.sound k link e in
      (slice_get_within s.nodes link.key (Node.Key is.anchor.key) is.key_is, slice_get_within s.nodes link.name (Node.Name is.anchor.name) is.name_is)

  pub link_edge : (k : ℕ) (link : Anchored) → slice_get s.links k ≡ Some link → IsEdge (about s) (Has s) link.key link.name
  link_edge k link e = let is = ready.anchored.sound k link e in anchored {anchor = is.anchor} is.place is.stands is.key_is is.name_is

-- what a certificate hands off, by what is said
pub heard_by_right : (s : Core) (i : ℕ) (it c : Cited) → slice_get s.cited i ≡ Some it → slice_get s.cited i ≡ Some c → IsSaid (about s) (Has s) i it it.right → IsEdge (about s) (Has s) c.left c.right
heard_by_right s i it c e f said =
    subst (λ (x : Cited). IsEdge (about s) (Has s) x.left x.right) (same_cited s i it c e f) (hand_off {c = it} i e refl refl said)

-- and what it delegates
pub heard_by_delegator : (s : Core) (i a b : ℕ) (it c : Cited) → slice_get s.cited i ≡ Some it → slice_get s.cited i ≡ Some c → IsDelegation s i a b →
    IsSaid (about s) (Has s) i it a → IsEdge (about s) (Has s) c.left c.right
heard_by_delegator s i a b it c e f d said =
    let same : d.cited ≡ it = same_cited s i d.cited it d.stands e in
    subst (λ (x : Cited). IsEdge (about s) (Has s) x.left x.right) (same_cited s i it c e f)
    (delegate {a = a} {b = b} {c = it} i e refl refl (subst (λ (x : Cited). slice_get s.nodes x.left ≡ Some (Node.Quote b a)) same d.left_is)
    (subst (λ (x : Cited). slice_get s.nodes x.right ≡ Some (Node.For b a)) same d.right_is) said)
