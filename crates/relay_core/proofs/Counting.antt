-- What a link is counted by: calls that did not fail, and more of them.
use Rattle.std.proofs.Common.{◌≡◌, ◌≢◌, ℕ, List, [], ◌∷◌, ◌++◌, length, All, Option, refl, sym, subst, ◌∙◌, length-append}
use Rattle.std.proofs.lemmas.List.Elements.{All-nil, All-cons, All-append, All-head, All-tail}
use Rattle.frame_link.specs.Plan.{HasCounted}
use Rattle.frame_link.specs.Relay.{Link, Said}
use Rattle.frame_link.proofs.Counted.{counted_none, counted_both}
use Rattle.relay_core.specs.Credentials.{LinkAnswer, Resealed, Refused, Lacked, LinkCall, Failed, IsToldAs, CountsAs, FailedAs, WasCalled, IsLinked, IsQuiet}

abbrev NoneFailed : List LinkCall → Type 0
NoneFailed calls = All (λ (c : LinkCall). c.answer ≢ Failed) calls

answered_as : (n : ℕ) (answer : LinkAnswer) → answer ≢ Failed → CountsAs n n answer
answered_as n (Resealed new) answered = refl
answered_as n (Refused code) answered = refl
answered_as n Lacked answered = refl
answered_as n Failed answered = absurd (answered refl)

-- calls, and more of them
pub failed_both : (before middle now : ℕ) (first later : List LinkCall) → FailedAs before middle first → FailedAs middle now later → FailedAs before now (first ++ later)
failed_both before middle now [] later f g = subst (λ (m : ℕ). FailedAs m now later) f g
failed_both before middle now (c ∷ first) later f g = (f.0, f.1, failed_both f.0 middle now first later f.2 g)

none_failed : (before now : ℕ) (calls : List LinkCall) → now ≡ before → NoneFailed calls → FailedAs before now calls
none_failed before now [] steady none = steady
none_failed before now (c ∷ calls) steady none =
    (before, answered_as before c.answer (All-head (λ (d : LinkCall). d.answer ≢ Failed) c calls none), none_failed before now calls steady (All-tail (λ (d : LinkCall). d.answer ≢ Failed) c calls none))

-- links that were called for these, and for more
pub called_both : (before middle now : Link) (first later : List LinkCall) → WasCalled before middle first → WasCalled middle now later → WasCalled before now (first ++ later)
called_both before middle now first later w x = record {
  made = subst (λ (n : ℕ). HasCounted n before.calls now.calls) (sym (length-append first later)) (counted_both (length first) (length later) before.calls middle.calls now.calls w.made x.made);
  says = x.says ∙ w.says;
}

-- what is told of later calls is what the first link tells
told_by : (node : ℕ) (before middle : Link) (calls : List LinkCall) → middle.says ≡ before.says → All (IsToldAs middle.says node) calls → All (IsToldAs before.says node) calls
told_by node before middle calls same told = subst (λ (s : Option (ℕ → List ℕ → Said)). All (IsToldAs s node) calls) same told

module _ (node : ℕ) where
  pub quiet_linked : (before now : Link) (calls : List LinkCall) → IsQuiet node before now calls → IsLinked node before now calls
  quiet_linked before now calls q = record { called = q.called; told = q.told; failed = none_failed before.faults now.faults calls q.steady q.none }

  pub none_called : (l : Link) → IsQuiet node l l []
  none_called l = record {
    called = record { made = counted_none l.calls; says = refl };
    told = All-nil (IsToldAs l.says node);
    steady = refl;
    none = All-nil (λ (c : LinkCall). c.answer ≢ Failed);
  }

  pub called_once : (before now : Link) (c : LinkCall) → WasCalled before now (c ∷ []) → IsToldAs before.says node c → c.answer ≢ Failed → now.faults ≡ before.faults → IsQuiet node before now (c ∷ [])
  called_once before now c called told answered steady = record {
    called = called;
    told = All-cons (IsToldAs before.says node) c [] told (All-nil (IsToldAs before.says node));
    steady = steady;
    none = All-cons (λ (d : LinkCall). d.answer ≢ Failed) c [] answered (All-nil (λ (d : LinkCall). d.answer ≢ Failed));
  }

  pub linked_both : (before middle now : Link) (first later : List LinkCall) → IsLinked node before middle first → IsLinked node middle now later → IsLinked node before now (first ++ later)
  linked_both before middle now first later l m = record {
    called = called_both before middle now first later l.called m.called;
    told = All-append (IsToldAs before.says node) first later l.told (told_by node before middle later l.called.says m.told);
    failed = failed_both before.faults middle.faults now.faults first later l.failed m.failed;
  }

  -- calls after which no count of failures had risen, and more
  pub linked_on : (n middle now : Link) (before later : List LinkCall) → IsQuiet node n middle before → IsLinked node middle now later → IsLinked node n now (before ++ later)
  linked_on n middle now before later q l = linked_both n middle now before later (quiet_linked n middle before q) l

  pub quiet_on : (n middle now : Link) (before later : List LinkCall) → IsQuiet node n middle before → IsQuiet node middle now later → IsQuiet node n now (before ++ later)
  quiet_on n middle now before later q l = record {
    called = called_both n middle now before later q.called l.called;
    told = All-append (IsToldAs n.says node) before later q.told (told_by node n middle later q.called.says l.told);
    steady = l.steady ∙ q.steady;
    none = All-append (λ (c : LinkCall). c.answer ≢ Failed) before later q.none l.none;
  }
