-- What may be added to sound rows is an answer.
use Rattle.std.proofs.Common.{◌≡◌, List, [], ◌∷◌, refl, sym, subst, All, Contains}
use Rattle.std.proofs.lemmas.List.Elements.{All-nil}
use Rattle.prin_term.specs.declared.term.Anchor.{Anchor}
use Rattle.prin_term.specs.Principal.{Principal, Key, Name, And, Quoting, InRole, For}
use Rattle.taos_calculus.specs.declared.line.Step.{Step}
use Rattle.taos_calculus.specs.Rules.{Claim, Judgement, SpeaksFor, Says, Line, line, Follows, Derivable}
use Rattle.taos_calculus.specs.Rules
use Rattle.taos_calculus.specs.Saturation.{IsWithin}
use Rattle.taos_calculus.specs.Tidy.{DerivableWithin}
use Rattle.taos_calculus.proofs.Induction.{All-one, All-two}
use Rattle.taos_calculus.proofs.Building.{All-of, within_saturated}
use Rattle.taos_calculus.proofs.Staying.{Any, within_any}
use Rattle.goal_search.specs.Goals.{Goal, ForWhom, WhoSays, IsAnswer, Begins, IsSound}
use Rattle.goal_search.specs.Demands.{IsClosed}
use Rattle.goal_search.specs.Adding.{Adds, itself, speaker, left, right, both, role, anchored, quoting, for_both, role_under, hand_off, delegate, onward}
use Rattle.goal_search.specs.Decided.{AddingKeepsSound, AnswersAreClosed, IsInRow}

module _ (anchors : List Anchor) (claims : List Claim) where
  abbrev Free : Judgement → Type 0
  Free fact = DerivableWithin Any anchors claims fact

  abbrev Got : Judgement → Type 0
  Got fact = Derivable anchors claims fact

  free : (fact : Judgement) → Got fact → Free fact
  free fact d = record { lines = d.lines; proves = d.proves; within = All-of (λ (l : Line). IsWithin Any l.fact) d.lines (λ l. within_any l.fact) }

  derive : (earlier : List Judgement) (fact : Judgement) (step : Step) → All Free earlier → Follows anchors claims earlier (line fact step) → Got fact
  derive earlier fact step all f =
      let w : Free fact = within_saturated anchors claims Any earlier (line fact step) all f (within_any fact) in
      record { lines = w.lines; proves = w.proves }

  derive_0 : (fact : Judgement) (step : Step) → Follows anchors claims [] (line fact step) → Got fact
  derive_0 fact step f = derive [] fact step (All-nil Free) f

  derive_1 : (p fact : Judgement) (step : Step) → Got p → Follows anchors claims (p ∷ []) (line fact step) → Got fact
  derive_1 p fact step d f = derive (p ∷ []) fact step (All-one Free p (free p d)) f

  derive_2 : (p q fact : Judgement) (step : Step) → Got p → Got q → Follows anchors claims (p ∷ q ∷ []) (line fact step) → Got fact
  derive_2 p q fact step d e f = derive (p ∷ q ∷ []) fact step (All-two Free p q (free p d) (free q e)) f

  -- what an answer speaks for is an answer too
  pub passes : (goal : Goal Principal) (u v : Principal) → IsAnswer anchors claims goal u → Got (SpeaksFor u v) → IsAnswer anchors claims goal v
  passes (ForWhom a) u v d e = derive_2 (SpeaksFor a u) (SpeaksFor u v) (SpeaksFor a v) (Step.Chain 0 1) d e (Rules.chain refl refl)
  passes (WhoSays l r) u v d e = derive_2 (Says u l r) (SpeaksFor u v) (Says v l r) (Step.Lift 0 1) d e (Rules.lift refl refl)

  pub joins : (goal : Goal Principal) (a b : Principal) → IsAnswer anchors claims goal a → IsAnswer anchors claims goal b → IsAnswer anchors claims goal (And a b)
  joins (ForWhom c) a b d e = derive_2 (SpeaksFor c a) (SpeaksFor c b) (SpeaksFor c (And a b)) (Step.Both 0 1) d e (Rules.both refl refl)
  joins (WhoSays l r) a b d e = derive_2 (Says a l r) (Says b l r) (Says (And a b) l r) (Step.Join 0 1) d e (Rules.join refl refl)

  module _ (Has : Goal Principal → Principal → Type 0) (sound : (goal : Goal Principal) → IsSound anchors claims goal (Has goal)) where
    pub added : (goal : Goal Principal) (p : Principal) → Adds anchors claims Has goal p → IsAnswer anchors claims goal p
    added goal p (itself {a} e) = subst (λ (g : Goal Principal). IsAnswer anchors claims g a) (sym e) (derive_0 (SpeaksFor a a) Step.Same Rules.same)
    added goal p (speaker {claim} i e q) =
        subst (λ (g : Goal Principal). IsAnswer anchors claims g claim.speaker) (sym q)
        (derive_0 (Says claim.speaker claim.left claim.right) (Step.Said i) (Rules.said e))
    added goal p (left {a} {b} k) =
        passes goal (And a b) a (sound goal (And a b) k) (derive_0 (SpeaksFor (And a b) a) Step.Left Rules.left)
    added goal p (right {a} {b} k) =
        passes goal (And a b) b (sound goal (And a b) k) (derive_0 (SpeaksFor (And a b) b) Step.Right Rules.right)
    added goal p (both {a} {b} k m) = joins goal a b (sound goal a k) (sound goal b m)
    added goal p (role {a} {r} k) = passes goal a (InRole a r) (sound goal a k) (derive_0 (SpeaksFor a (InRole a r)) Step.Role Rules.role)
    added goal p (anchored {anchor} i e k) =
        passes goal (Key anchor.key) (Name anchor.name) (sound goal (Key anchor.key) k)
        (derive_0 (SpeaksFor (Key anchor.key) (Name anchor.name)) (Step.Anchor i) (Rules.anchored e))
    added goal p (quoting {a} {b} {c} {d} k m n) =
        passes goal (Quoting a b) (Quoting c d) (sound goal (Quoting a b) k)
        (derive_2 (SpeaksFor a c) (SpeaksFor b d) (SpeaksFor (Quoting a b) (Quoting c d)) (Step.Quote 0 1) (sound (ForWhom a) c m) (sound (ForWhom b) d n) (Rules.quoting refl refl))
    added goal p (for_both {a} {b} {c} {d} k m n) =
        passes goal (For a b) (For c d) (sound goal (For a b) k)
        (derive_2 (SpeaksFor a c) (SpeaksFor b d) (SpeaksFor (For a b) (For c d)) (Step.For 0 1) (sound (ForWhom a) c m) (sound (ForWhom b) d n) (Rules.for_both refl refl))
    added goal p (role_under {a} {c} {r} k m) =
        passes goal (InRole a r) (InRole c r) (sound goal (InRole a r) k)
        (derive_1 (SpeaksFor a c) (SpeaksFor (InRole a r) (InRole c r)) (Step.RoleUnder 0) (sound (ForWhom a) c m) (Rules.role_under refl))
    added goal p (hand_off {l} {t} k m) =
        passes goal l t (sound goal l k) (derive_1 (Says t l t) (SpeaksFor l t) (Step.HandOff 0) (sound (WhoSays l t) t m) (Rules.hand_off refl))
    added goal p (delegate {a} {b} k m) =
        passes goal (Quoting b a) (For b a) (sound goal (Quoting b a) k)
        (derive_1 (Says a (Quoting b a) (For b a)) (SpeaksFor (Quoting b a) (For b a)) (Step.Delegate 0) (sound (WhoSays (Quoting b a) (For b a)) a m) (Rules.delegate refl))
    added goal p (onward {u} {v} k m) = passes goal u v (sound goal u k) (sound (ForWhom u) v m)

  -- what may be added to answers is an answer
  pub answer_added : (goal : Goal Principal) (p : Principal) → Adds anchors claims (IsAnswer anchors claims) goal p → IsAnswer anchors claims goal p
  answer_added goal p a = added (IsAnswer anchors claims) (λ g q d. d) goal p a

pub adding_keeps_sound : (anchors : List Anchor) (claims : List Claim) (row : Goal Principal → List Principal) → AddingKeepsSound anchors claims row
adding_keeps_sound anchors claims row sound goal p a = added anchors claims (IsInRow row) sound goal p a

module _ (anchors : List Anchor) (claims : List Claim) where
  abbrev Told : Goal Principal → Principal → Type 0
  Told goal p = IsAnswer anchors claims goal p

  give : (goal : Goal Principal) (p : Principal) → Adds anchors claims Told goal p → Told goal p
  give goal p a = answer_added anchors claims goal p a

  told_begins : (goal : Goal Principal) → Begins Told claims goal goal
  told_begins (ForWhom a) = give (ForWhom a) a (itself refl)
  told_begins (WhoSays l r) = λ i claim e p q. give (WhoSays l r) claim.speaker (speaker {claim = claim} i e (cc))

  told_delegate : (goal : Goal Principal) (l r a b : Principal) → l ≡ Quoting b a → r ≡ For b a → Told goal l → Told (WhoSays l r) a → Told goal r
  told_delegate goal l r a b p q k m =
      subst (Told goal) (sym q)
      (give goal (For b a) (delegate (subst (Told goal) p k)
      (subst (λ r. Told (WhoSays (Quoting b a) r) a) q (subst (λ l. Told (WhoSays l r) a) p m))))

  told_closed : (U : Principal → Type 0) (goal : Goal Principal) → IsClosed U anchors claims Told goal
  told_closed U goal = record {
    begins = told_begins goal;
    left = λ a b k. give goal a (left {b = b} k);
    right = λ a b k. give goal b (right {a = a} k);
    both = λ a b k m u. give goal (And a b) (both k m);
    role = λ a r k u. give goal (InRole a r) (role k);
    anchored = λ i anchor e k u. give goal (Name anchor.name) (anchored {anchor = anchor} i e k);
    quoting = λ a b c d k u m n. give goal (Quoting c d) (quoting {a = a} {b = b} k m n);
    for_both = λ a b c d k u m n. give goal (For c d) (for_both {a = a} {b = b} k m n);
    role_under = λ a c r k u m. give goal (InRole c r) (role_under {a = a} k m);
    hand_off = λ i claim e k m. give goal claim.right (hand_off {l = claim.left} k m);
    delegate = λ i claim a b e p q k m. told_delegate goal claim.left claim.right a b p q k m;
  }

pub answers_are_closed : (anchors : List Anchor) (claims : List Claim) (table : List Principal) → AnswersAreClosed anchors claims table
answers_are_closed anchors claims table goal = told_closed anchors claims (Contains table) goal
