-- One certificate that comes, by the node or by the relay, and why one comes to none.
use Rattle.std.proofs.Common.{◌≡◌, ◌≢◌, ℕ, ◌≤◌, List, [], ◌∷◌, All, Option, None, Some, Result, Ok, Err, IfOk, IfErr, refl, sym, ap, subst, inl, inr}
use Rattle.std.proofs.lemmas.List.Elements.{All-nil, All-cons}
use Rattle.stmt_codec.specs.Certificates.{Certificate}
use Rattle.frame_link.specs.Faults.{Rose}
use Rattle.frame_link.specs.declared.outside.RelayAnswer.{RelayAnswer}
use Rattle.frame_link.specs.Relay.{Link, Said, Gave, Refuses, IsSaid, AnswersAs, Reseals}
use Rattle.frame_link.proofs.Counted.{counted_one}
use Rattle.sealed_cert.specs.Seals.{Opens}
use Rattle.relay_core.specs.declared.presenting.Unpresented.{Unpresented}
use Rattle.relay_core.specs.declared.presenting.Unpresented.TheVariants as reasons
use Rattle.relay_core.specs.Credentials.{LinkAnswer, Resealed, Refused, Lacked, link_use, call, Failed, IsIssued, IsResealed, by_node, by_relay, IsRefused, bad_reseal, IsToldAs, WasCalled}
use Rattle.relay_core.specs.Presenting.{IsOneRefused, IsNoReseal, IsOneStopped, OneComes, OneStops}
use Rattle.relay_core.proofs.Counting.{quiet_linked, none_called, called_once}

module _ (node : ℕ) where
  pub comes_uncalled : (key text : List ℕ) (l : Link) (c : Certificate) → Opens key text c → OneComes key (link_use node l l) text c
  comes_uncalled key text l c opens = record { calls = []; comes = by_node opens; quiet = none_called node l }

  pub comes_by_relay : (key text new : List ℕ) (before now : Link) (c : Certificate) → WasCalled before now (call text (Resealed new) ∷ []) → IsToldAs before.says node (call text (Resealed new)) → now.faults ≡ before.faults → IsResealed key text new c → OneComes key (link_use node before now) text c
  comes_by_relay key text new before now c called told steady is = record {
    calls = call text (Resealed new) ∷ [];
    comes = by_relay is;
    quiet = called_once node before now (call text (Resealed new)) called told (λ e. cc) steady;
  }

  pub stops_uncalled : (key text : List ℕ) (l : Link) (f : Unpresented) → IsOneRefused key text f → OneStops key (link_use node l l) text f
  stops_uncalled key text l f why = record { calls = []; stops = alone f why; linked = quiet_linked node l l [] (none_called node l) }
    where
      alone : (f : Unpresented) → IsOneRefused key text f → IsOneStopped key text [] f
      alone (reasons.Refused code) h = h
      alone reasons.NoMemory h = inl refl
      alone reasons.LinkFailed h = absurd h

  -- after a call that did not fail
  pub stops_called : (key text : List ℕ) (before now : Link) (answer : LinkAnswer) (f : Unpresented) → WasCalled before now (call text answer ∷ []) → IsToldAs before.says node (call text answer) → answer ≢ Failed → now.faults ≡ before.faults →
      IsOneStopped key text (call text answer ∷ []) f → OneStops key (link_use node before now) text f
  stops_called key text before now answer f called told answered steady why = record {
    calls = call text answer ∷ [];
    stops = why;
    linked = quiet_linked node before now (call text answer ∷ []) (called_once node before now (call text answer) called told answered steady);
  }

  -- new bytes that do not carry what was presented
  no_reseal : (key text new : List ℕ) (f : Unpresented) → IsIssued text → IsNoReseal key text new f → IsOneStopped key text (call text (Resealed new) ∷ []) f
  no_reseal key text new (reasons.Refused code) issued (bad, none) = subst (IsRefused key text (call text (Resealed new) ∷ [])) (sym bad) (bad_reseal issued none)
  no_reseal key text new reasons.NoMemory issued h = inr (issued, (Resealed new, (λ e. cc), refl))
  no_reseal key text new reasons.LinkFailed issued h = absurd h

  pub stops_resealed : (key text new : List ℕ) (before now : Link) (f : Unpresented) → IsIssued text → WasCalled before now (call text (Resealed new) ∷ []) → IsToldAs before.says node (call text (Resealed new)) → now.faults ≡ before.faults → IsNoReseal key text new f →
      OneStops key (link_use node before now) text f
  stops_resealed key text new before now f issued called told steady why = stops_called key text before now (Resealed new) f called told (λ e. cc) steady (no_reseal key text new f issued why)

  pub stops_failed : (key text : List ℕ) (before now : Link) → IsIssued text → WasCalled before now (call text Failed ∷ []) → before.faults ≤ now.faults → Rose before.faults now.faults → OneStops key (link_use node before now) text reasons.LinkFailed
  stops_failed key text before now issued called grew rose = record {
    calls = call text Failed ∷ [];
    stops = (issued, refl);
    linked = record {
      called = called;
      told = All-cons (IsToldAs before.says node) (call text Failed) [] (fails before.says) (All-nil (IsToldAs before.says node));
      failed = (now.faults, (grew, rose), refl);
    };
  }
    where
      fails : (s : Option (ℕ → List ℕ → Said)) → IsToldAs s node (call text Failed)
      fails None = tt
      fails (Some f) = tt

-- one call of a link
pub one_call : {E : Type 0} (before now : Link) (node : ℕ) (text out : List ℕ) (r : Result RelayAnswer E) (answer : LinkAnswer) → Reseals before now node text r out → WasCalled before now (call text answer ∷ [])
one_call before now node text out r answer reseals = record { made = counted_one before.calls now.calls reseals.calls; says = reseals.says }

-- whatever a link says, it may lack memory
pub told_lacked : (says : Option (ℕ → List ℕ → Said)) (node : ℕ) (text : List ℕ) → IsToldAs says node (call text Lacked)
told_lacked None node text = tt
told_lacked (Some f) node text = tt

-- what a link said is what its answer is told as
pub said_new : (E : Type 0) (says : Option (ℕ → List ℕ → Said)) (node : ℕ) (text new : List ℕ) → AnswersAs {E = E} says node text (Ok RelayAnswer.Resealed) new → IsToldAs says node (call text (Resealed new))
said_new E None node text new h = tt
said_new E (Some f) node text new h = given (f node text) h
  where
    given : (s : Said) → IsSaid s RelayAnswer.Resealed new → s ≡ Gave new
    given (Gave bytes) e = ap Gave (sym e)
    given (Refuses code) e = absurd e

pub said_code : (E : Type 0) (says : Option (ℕ → List ℕ → Said)) (node code : ℕ) (text new : List ℕ) → AnswersAs {E = E} says node text (Ok (RelayAnswer.Refused code)) new → IsToldAs says node (call text (Refused code))
said_code E None node code text new h = tt
said_code E (Some f) node code text new h = given (f node text) h
  where
    given : (s : Said) → IsSaid s (RelayAnswer.Refused code) new → s ≡ Refuses code
    given (Gave bytes) e = absurd e
    given (Refuses other) e = ap Refuses (sym e.0)

pub on_ok : {A E : Type 0} {P Q : A → Type 0} (r : Result A E) → ((a : A) → P a → Q a) → IfOk r P → IfOk r Q
on_ok (Ok a) f h = f a h
on_ok (Err e) f h = h

pub on_err : {A E : Type 0} {P Q : E → Type 0} (r : Result A E) → ((e : E) → P e → Q e) → IfErr r P → IfErr r Q
on_err (Ok a) f h = h
on_err (Err e) f h = f e h
