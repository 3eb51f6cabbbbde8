-- What a held decider knows of the terms of its question.
use Rattle.std.proofs.Common.{◌≡◌, ◌↔◌, inl, inr, ℕ, ◌<◌, length, refl, subst, All}
use Rattle.std.proofs.lemmas.List.Elements.{All-weaker, All-map, All-contains}
use Rattle.prin_term.specs.Principal.{Principal, subterms}
use Rattle.taos_calculus.specs.declared.line.Fact.{Fact}
use Rattle.taos_calculus.specs.Question.{Question, claims_of, IsTermOf, MayAnswer}
use Rattle.taos_calculus.specs.Tables.{named}
use Rattle.taos_calculus.proofs.Numbers.{Numbered}
use Rattle.taos_saturate.specs.declared.held.Held.{Held}
use Rattle.taos_saturate.specs.Held.{IsHeld, seen}
use Rattle.taos_saturate.specs.Saturating.{IsNumber, IsKnown, claims_in}
use Rattle.taos_saturate.proofs.Deciding.{good_decides}
use Rattle.term_pool.proofs.Fitting.{parts_have}
use Rattle.term_pool.proofs.Picking.{claims-map}

pub claims_seen : (h : Held) → claims_of (seen h) ≡ claims_in h.table
claims_seen h = claims-map (named h.table.nodes.items) h.table.cited.items

module _ (h : Held) (held : IsHeld h) where
  abbrev Has : Principal → Type 0
  Has q = Numbered h.table.nodes.items held.good.ready.table h.table.anchors.items (claims_in h.table) q

  parts_in : (q : Principal) → Has q → All Has (subterms q)
  parts_in q u = parts_have h.table.nodes.items held.good.ready.table h.table.anchors.items (claims_in h.table) q u

  entries_have : All Has (seen h).list
  entries_have =
      All-map Has (named h.table.nodes.items) h.list.items
      (All-weaker (λ i. i < length h.table.nodes.items) (λ i. Has (named h.table.nodes.items i)) (λ i b. (i, b, refl)) h.list.items held.list_in)

  has_term : (p : Principal) → IsTermOf (seen h) p → Has p
  has_term p (inl c) = All-contains Has (subterms (seen h).subject) p (parts_in (seen h).subject (h.subject, held.subject_in, refl)) c
  has_term p (inr (k, x, b, e, c)) =
      All-contains Has (subterms x) p (parts_in x (subst Has e (entries_have k x b))) c

  -- the same, as it is seen from outside
  module _ (q : Question) (view : q ≡ seen h) where
    pub has_number : (p : Principal) → IsTermOf q p → ((i : ℕ) → i < length h.table.nodes.items → named h.table.nodes.items i ≡ p → ⊥) → ⊥
    has_number p t none = let (i, b, e) = has_term p (rw view at t) in none i b e

    pub seen_decides : (l r : Principal) (i j : ℕ) → IsNumber h.table i → IsNumber h.table j → named h.table.nodes.items i ≡ l → named h.table.nodes.items j ≡ r →
        IsKnown h.table (Fact.Speaks i j) ↔ MayAnswer q l r
    seen_decides l r i j hi hj ei ej = rw (view, claims_seen h, ← ei, ← ej) (good_decides h.table held.good i j hi hj)
