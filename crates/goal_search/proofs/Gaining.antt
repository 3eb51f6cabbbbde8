-- What holds by the numbers that rows have, holds by more.
use Rattle.std.proofs.Common.{inl, inr, ℕ, ◌+◌, length}
use Rattle.term_pool.specs.declared.cited.Cited.{Cited}
use Rattle.goal_search.specs.Reasons.{About, IsPassed, IsSaid, IsEdge, IsReason, left, right, role, anchored, quoting, for_both, role_under, hand_off, delegate, itself, speaker, both, onward}
use Rattle.goal_search.specs.Searching.{IsBegun, from_itself, from_speakers}

module _ (a : About) (Had Has : ℕ → ℕ → Type 0) (more : (row number : ℕ) → Had row number → Has row number) where
  pub passed_more : (x y : ℕ) → IsPassed Had x y → IsPassed Has x y
  passed_more x y (inl e) = inl e
  passed_more x y (inr h) = inr (more x y h)

  pub said_more : (i : ℕ) (c : Cited) (t : ℕ) → IsSaid a Had i c t → IsSaid a Has i c t
  said_more i c t (inl h) = inl (more (length a.nodes + i) t h)
  said_more i c t (inr h) = inr (more c.speaker t h)

  pub edge_more : (from to : ℕ) → IsEdge a Had from to → IsEdge a Has from to
  edge_more from to (left e) = left e
  edge_more from to (right e) = right e
  edge_more from to (role e) = role e
  edge_more from to (anchored i s e f) = anchored i s e f
  edge_more from to (quoting {a = x} {b = y} {c = z} {d = w} e f p q) = quoting e f (passed_more x z p) (passed_more y w q)
  edge_more from to (for_both {a = x} {b = y} {c = z} {d = w} e f p q) = for_both e f (passed_more x z p) (passed_more y w q)
  edge_more from to (role_under {a = x} {c = z} e f p) = role_under e f (passed_more x z p)
  edge_more from to (hand_off {c} i e l r s) = hand_off i e l r (said_more i c to s)
  edge_more from to (delegate {a = x} {c = c} i e l r p q s) = delegate i e l r p q (said_more i c x s)

  pub reason_more : (row number reason : ℕ) → IsReason a Had row number reason → IsReason a Has row number reason
  reason_more row number reason (itself h e w) = itself h e w
  reason_more row number reason (speaker i k e f alike p n w) = speaker i k e f alike p n w
  reason_more row number reason (both {a = x} {b = y} e h k w) = both e (more row x h) (more row y k) w
  reason_more row number reason (onward h k e) = onward h (more row reason k) (edge_more reason number e)

  pub begun_more : (row : ℕ) → IsBegun a Had row → IsBegun a Has row
  begun_more row (from_itself h k) = from_itself h (more row row k)
  begun_more row (from_speakers k e p all) = from_speakers k e p (λ i c s alike. more row c.speaker (all i c s alike))
