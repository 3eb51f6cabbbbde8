-- An edge is told by forms and anchors, or else by certificates.
use Rattle.std.proofs.Common.{ℕ, ◌<◌, length}
use Rattle.std.proofs.lemmas.Option.{slice_get_within}
use Rattle.taos_calculus.specs.declared.line.Fact.{Fact}
use Rattle.term_pool.specs.declared.found.Found.{Found}
use Rattle.goal_search.specs.Reasons.{IsEdge, left, right, role, anchored, quoting, for_both, role_under, hand_off, delegate}
use Rattle.goal_search.specs.Searching.{Core, about}
use Rattle.goal_search.specs.Telling.{IsTold, TellsMore, TellsOf, TellsHeard, TellsFormed}
use Rattle.goal_search.proofs.Told.{said_kept}

module _ (s : Core) (f g h : Found) (from to : ℕ) (since : TellsMore s f g) (more : TellsMore s g h)
    (formed : TellsFormed s f g from to) (heard : (i : ℕ) → i < length s.cited → TellsHeard s g h from to i) where
  still : IsTold g (Fact.Speaks from to) → IsTold h (Fact.Speaks from to)
  still k = more.kept (Fact.Speaks from to) k

  pub edge_told : IsEdge (about s) (TellsOf s f) from to → IsTold h (Fact.Speaks from to)
  edge_told (left {b} e) = still (formed.left b e)
  edge_told (right {a} e) = still (formed.right a e)
  edge_told (role {r} e) = still (formed.role r e)
  edge_told (anchored {anchor} i e p q) = still (formed.anchored i anchor e p q)
  edge_told (quoting {a} {b} {c} {d} e p q r) = still (formed.quoting a b c d e p q r)
  edge_told (for_both {a} {b} {c} {d} e p q r) = still (formed.for_both a b c d e p q r)
  edge_told (role_under {a} {c} {r} e p q) = still (formed.role_under a c r e p q)
  edge_told (hand_off {c} i e p q t) =
      (heard i (slice_get_within s.cited i c e)).handed c e p q (said_kept s f g since i c to t)
  edge_told (delegate {a} {b} {c} i e p q l r t) =
      (heard i (slice_get_within s.cited i c e)).delegated c a b e p q l r (said_kept s f g since i c a t)
