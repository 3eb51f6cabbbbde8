-- A saturation that is full knows what is derivable, and no more.
use Rattle.std.proofs.Common.{◌≡◌, ◌↔◌, ℕ, List, [], ◌∷◌, ◌++◌, Some, slice_get, length, map, ◌∙◌, ap, All, Contains, get_or}
use Rattle.std.proofs.lemmas.List.Elements.{All-nil, All-cons, All-push, All-map}
use Rattle.std.proofs.lemmas.Option.{slice_get_within, get_or_from_slice_get, slice_get-get_or}
use Rattle.prin_term.specs.Principal.{Principal}
use Rattle.taos_calculus.specs.declared.line.Step.{Step}
use Rattle.taos_calculus.specs.declared.line.Fact.{Fact}
use Rattle.taos_calculus.specs.declared.line.Line.{Line}
use Rattle.taos_calculus.specs.Rules.{Claim, SpeaksFor, line, Derivable}
use Rattle.taos_calculus.specs.Tables.{IsBelow, judgement, named, principals_of}
use Rattle.taos_calculus.specs.Tidy.{DerivableWithin}
use Rattle.taos_calculus.specs.Numbered.{Gives, EachGives, IsClosed, facts_at, chain, lift}
use Rattle.taos_saturate.specs.declared.saturation.Saturation.{Saturation}
use Rattle.term_pool.specs.Finding.{pair}
use Rattle.taos_saturate.specs.Saturating.{IsReady, IsSound, IsFull, IsGood, IsNumber, IsKnown, GivesIn, facts_of, claims_in}
use Rattle.taos_calculus.proofs.Induction.{All-at}
use Rattle.taos_calculus.proofs.Building.{within_saturated}
use Rattle.taos_calculus.proofs.Staying.{Any, within_any}
use Rattle.taos_calculus.proofs.Numbers.{gives-follows, closed_complete, HoldsAll, number_member}
use Rattle.taos_saturate.proofs.Steps.{speaks_in, says_in, says_stated, claim_at}

module _ (s : Saturation) (ready : IsReady s) (full : IsFull s) where
  known_contained : (fact : Fact) → IsKnown s fact → Contains (facts_of s) fact
  known_contained fact (k, e) = (k, slice_get_within (facts_of s) k fact e, get_or_from_slice_get (facts_of s) k fact fact e)

  contained_known : (fact : Fact) → Contains (facts_of s) fact → IsKnown s fact
  contained_known fact (k, h, e) = (k, slice_get-get_or (facts_of s) k fact h ∙ ap (λ (f : Fact). Some f) e)

  below : All (IsBelow (length s.nodes.items)) (facts_of s)
  below k d h = go (get_or (facts_of s) k d) (slice_get-get_or (facts_of s) k d h)
    where
      go : (f : Fact) → slice_get (facts_of s) k ≡ Some f → IsBelow (length s.nodes.items) f
      go (Fact.Speaks a b) e = speaks_in s ready k a b e
      go (Fact.Says w l r) e = says_in s ready k w l r e

  speaks_known : (l r : ℕ) (step : Step) → IsNumber s l → IsNumber s r → GivesIn s (Fact.Speaks l r) step → IsKnown s (Fact.Speaks l r)
  speaks_known l r (Step.Chain i j) hl hr (chain {b} e f) = full.chains l b hl (speaks_in s ready i l b e).1 i j r e f
  speaks_known l r step hl hr g = full.speaks l r hl hr step tt g

  says_known : (k w l r : ℕ) (step : Step) → slice_get s.found.statements.items k ≡ Some (pair l r) → IsNumber s w → GivesIn s (Fact.Says w l r) step → IsKnown s (Fact.Says w l r)
  says_known k w l r (Step.Lift i j) e hw (lift {a} f g) = full.lifts k a (pair l r) e (says_in s ready i a l r f).0 i j w f g
  says_known k w l r step e hw g = full.says k w (pair l r) e hw step tt g

  closed : IsClosed s.nodes.items s.anchors.items (claims_in s) (facts_of s)
  closed (Fact.Speaks a b) step h g = known_contained (Fact.Speaks a b) (speaks_known a b step h.0 h.1 g)
  closed (Fact.Says w l r) step h g =
      let (k, e) = says_stated s ready w l r step h.0 h.1 h.2 g in
      known_contained (Fact.Says w l r) (says_known k w l r step e h.0 g)

module _ (s : Saturation) (ready : IsReady s) where
  Sound : Fact → Type 0
  Sound f = DerivableWithin Any s.anchors.items (claims_in s) (judgement (named s.nodes.items) f)

  sound_next : (earlier : List Fact) (l : Line) → All Sound earlier → Gives s.nodes.items s.anchors.items (claims_in s) earlier l.fact l.step → Sound l.fact
  unfolding Sound
  sound_next earlier l all g =
      within_saturated s.anchors.items (claims_in s) Any (map (judgement (named s.nodes.items)) earlier) (line (judgement (named s.nodes.items) l.fact) l.step)
      (All-map (DerivableWithin Any s.anchors.items (claims_in s)) (judgement (named s.nodes.items)) earlier all)
      (gives-follows s.nodes.items ready.table s.anchors.items (claims_in s) earlier g)
      (within_any (judgement (named s.nodes.items) l.fact))

  each_sound : (earlier : List Fact) (xs : List Line) → All Sound earlier → EachGives s.nodes.items s.anchors.items (claims_in s) earlier xs → All Sound (facts_at xs)
  each_sound earlier [] all f = All-nil Sound
  each_sound earlier (x ∷ xs) all f =
      let one : Sound x.fact = sound_next earlier x all f.0 in
      All-cons Sound x.fact (facts_at xs) one (each_sound (earlier ++ x.fact ∷ []) xs (All-push Sound earlier x.fact all one) f.1)

  known_derivable : IsSound s → (i j : ℕ) → IsKnown s (Fact.Speaks i j) → Derivable s.anchors.items (claims_in s) (SpeaksFor (named s.nodes.items i) (named s.nodes.items j))
  unfolding Sound
  known_derivable sound i j (k, e) =
      let d : DerivableWithin Any s.anchors.items (claims_in s) (SpeaksFor (named s.nodes.items i) (named s.nodes.items j))
      = All-at Sound (facts_of s) k (Fact.Speaks i j) (each_sound [] s.found.lines.items (All-nil Sound) sound) e in
      record { lines = d.lines; proves = d.proves }

-- a number's principal is a member
member : (s : Saturation) (i : ℕ) (q : Principal) → IsReady s → IsNumber s i → named s.nodes.items i ≡ q → Contains (principals_of s.nodes.items) q
member s i q ready h e = number_member s.nodes.items ready.table s.anchors.items (claims_in s) q (i, h, e)

module _ (s : Saturation) (good : IsGood s) where
  claimed : (i : ℕ) (claim : Claim) → slice_get (claims_in s) i ≡ Some claim →
      Contains (principals_of s.nodes.items) claim.speaker × Contains (principals_of s.nodes.items) claim.left × Contains (principals_of s.nodes.items) claim.right
  claimed i claim e =
      let (c, at, is) = claim_at s good.ready i claim e in
      let (who, (m, stated)) = good.ready.cited_in i c at in
      let sides : IsNumber s c.left × IsNumber s c.right = good.ready.statements_in m (pair c.left c.right) stated in (
        member s c.speaker claim.speaker good.ready who (ap (λ (x : Claim). x.speaker) is),
        member s c.left claim.left good.ready sides.0 (ap (λ (x : Claim). x.left) is),
        member s c.right claim.right good.ready sides.1 (ap (λ (x : Claim). x.right) is),
      )

  holds_all : HoldsAll s.nodes.items good.ready.table s.anchors.items (claims_in s)
  holds_all = record {
    speakers_in = λ i claim e. (claimed i claim e).0;
    lefts_in = λ i claim e. (claimed i claim e).1;
    rights_in = λ i claim e. (claimed i claim e).2;
  }

pub good_decides : (s : Saturation) → IsGood s → (i j : ℕ) → IsNumber s i → IsNumber s j →
    IsKnown s (Fact.Speaks i j) ↔ Derivable s.anchors.items (claims_in s) (SpeaksFor (named s.nodes.items i) (named s.nodes.items j))
good_decides s good i j hi hj = (
  known_derivable s good.ready good.sound i j,
  λ d. contained_known s good.ready good.full (Fact.Speaks i j)
      (closed_complete s.nodes.items good.ready.table s.anchors.items (claims_in s) (facts_of s) (below s good.ready good.full) (closed s good.ready good.full) (holds_all s good) i j hi hj d),
)
