-- Without certificates, the anchors alone decide what is derivable about keys and names.
use Rattle.std.proofs.Common.{◌≡◌, ℕ, List, [], ◌∷◌, Some, slice_get, All, Contains, refl, ◌∙◌, subst}
use Rattle.std.proofs.lemmas.List.Elements.{All-nil}
use Rattle.std.proofs.lemmas.Option.{none-some, slice_get_within, get_or_from_slice_get, slice_get-get_or}
use Rattle.prin_term.specs.declared.term.Anchor.{Anchor}
use Rattle.prin_term.specs.Principal.{Principal, Key, Name, And, Quoting, InRole, For, operands}
use Rattle.taos_calculus.specs.Rules.{Judgement, SpeaksFor, Says, line, Follows, same, chain, left, right, both, quoting, for_both, role, role_under, anchored, said, lift, join, hand_off, delegate, Derivable}
use Rattle.taos_calculus.specs.declared.line.Step.{Step}
use Rattle.taos_calculus.specs.Saturation.{IsTable, IsSaturated}
use Rattle.taos_calculus.specs.Atoms.{IsAtom, anchor_of, IsAnchoredTo, AtomIsDecided}
use Rattle.taos_calculus.proofs.Induction.{All-at}
use Rattle.taos_calculus.proofs.Completeness.{complete}

-- what the anchors alone say of one atom and another
abbrev pub AnchorsSay : List Anchor → Principal → Principal → Type 0
AnchorsSay anchors (Key k) w = IsAnchoredTo anchors k w
AnchorsSay anchors (Name m) (Name n) = m ≡ n
AnchorsSay anchors _ _ = ⊥

abbrev pub AnchorsKnow : List Anchor → Judgement → Type 0
AnchorsKnow anchors (SpeaksFor a b) = AnchorsSay anchors a b
AnchorsKnow anchors (Says a l r) = ⊥

pub Contains-at : {X : Type 0} (xs : List X) (i : ℕ) (x : X) → slice_get xs i ≡ Some x → Contains xs x
Contains-at xs i x e = (i, slice_get_within xs i x e, get_or_from_slice_get xs i x x e)

pub at-Contains : {X : Type 0} (xs : List X) (x : X) → Contains xs x → (i : ℕ) × (slice_get xs i ≡ Some x)
at-Contains xs x c = (c.0, slice_get-get_or xs c.0 x c.1 ∙ (let e = c.2 in cc))

module _ (anchors : List Anchor) where
  atoms_are_a_table : IsTable IsAtom []
  atoms_are_a_table = record {
    operands_in = operands_in;
    claims_in = λ i claim e. absurd (none-some claim e);
  }
    where
      operands_in : (p : Principal) → IsAtom p → All IsAtom (operands p)
      operands_in (Key k) u = All-nil IsAtom
      operands_in (Name n) u = All-nil IsAtom
      operands_in (And a b) u = absurd u
      operands_in (Quoting a b) u = absurd u
      operands_in (InRole a r) u = absurd u
      operands_in (For a b) u = absurd u

  says_same : (a : Principal) → IsAtom a → AnchorsSay anchors a a
  says_same (Key k) u = refl
  says_same (Name n) u = refl
  says_same (And a b) u = absurd u
  says_same (Quoting a b) u = absurd u
  says_same (InRole a r) u = absurd u
  says_same (For a b) u = absurd u

  says_chain : (a b c : Principal) → AnchorsSay anchors a b → AnchorsSay anchors b c → AnchorsSay anchors a c
  says_chain (Key k) (Key j) c p q = subst (λ (i : ℕ). IsAnchoredTo anchors i c) p q
  says_chain (Key k) (Name m) (Name n) p q = subst (λ (i : ℕ). Contains anchors (anchor_of k i)) q p
  says_chain (Key k) (Name m) _ p q = absurd q
  says_chain (Key k) _ c p q = absurd p
  says_chain (Name l) (Name m) (Name n) p q = p ∙ q
  says_chain (Name l) (Name m) _ p q = absurd q
  says_chain (Name l) _ c p q = absurd p
  says_chain _ b c p q = absurd p

  anchors_are_saturated : IsSaturated IsAtom (AnchorsKnow anchors) anchors []
  anchors_are_saturated earlier l all (same {a}) w = says_same a w.0
  anchors_are_saturated earlier l all (chain {a} {b} {c} {i} {j} p q) w =
      says_chain a b c (All-at (AnchorsKnow anchors) earlier i (SpeaksFor a b) all p) (All-at (AnchorsKnow anchors) earlier j (SpeaksFor b c) all q)
  anchors_are_saturated earlier l all left w = absurd w.0
  anchors_are_saturated earlier l all right w = absurd w.0
  anchors_are_saturated earlier l all (both p q) w = absurd w.1
  anchors_are_saturated earlier l all (quoting p q) w = absurd w.0
  anchors_are_saturated earlier l all (for_both p q) w = absurd w.0
  anchors_are_saturated earlier l all role w = absurd w.1
  anchors_are_saturated earlier l all (role_under p) w = absurd w.0
  anchors_are_saturated earlier l all (anchored {anchor} {i} e) w = Contains-at anchors i anchor e
  anchors_are_saturated earlier l all (said {claim} {i} e) w = absurd (none-some claim e)
  anchors_are_saturated earlier l all (lift {a} {b} {l = m} {r} {i} {j} p q) w = absurd (All-at (AnchorsKnow anchors) earlier i (Says a m r) all p)
  anchors_are_saturated earlier l all (join {a} {b} {l = m} {r} {i} {j} p q) w = absurd (All-at (AnchorsKnow anchors) earlier i (Says a m r) all p)
  anchors_are_saturated earlier l all (hand_off {l = m} {t} {i} p) w = absurd (All-at (AnchorsKnow anchors) earlier i (Says t m t) all p)
  anchors_are_saturated earlier l all (delegate p) w = absurd w.0

  -- one line, without premises
  one_line : (fact : Judgement) (step : Step) → Follows anchors [] [] (line fact step) → Derivable anchors [] fact
  one_line fact step f = record { lines = line fact step ∷ []; proves = record { follow = (f, tt); last = refl } }

  pub anchored_derivable : (k : ℕ) (w : Principal) → IsAnchoredTo anchors k w → Derivable anchors [] (SpeaksFor (Key k) w)
  anchored_derivable k (Key j) e = one_line (SpeaksFor (Key k) (Key j)) Step.Same (subst (λ (i : ℕ). Follows anchors [] [] (line (SpeaksFor (Key i) (Key j)) Step.Same)) e same)
  anchored_derivable k (Name n) c =
      let (i, e) = at-Contains anchors (anchor_of k n) c in
      one_line (SpeaksFor (Key k) (Name n)) (Step.Anchor i) (anchored {anchor = anchor_of k n} e)
  anchored_derivable k (And a b) e = absurd e
  anchored_derivable k (Quoting a b) e = absurd e
  anchored_derivable k (InRole a r) e = absurd e
  anchored_derivable k (For a b) e = absurd e

  pub derivable_anchored : (k : ℕ) (w : Principal) → IsAtom w → Derivable anchors [] (SpeaksFor (Key k) w) → IsAnchoredTo anchors k w
  derivable_anchored k w u d =
      complete IsAtom (AnchorsKnow anchors) anchors [] atoms_are_a_table anchors_are_saturated (SpeaksFor (Key k) w) (tt, u) d

pub atom_is_decided : (anchors : List Anchor) (k : ℕ) (w : Principal) → AtomIsDecided anchors k w
atom_is_decided anchors k w u = (λ d. derivable_anchored anchors k w u d, λ a. anchored_derivable anchors k w a)
