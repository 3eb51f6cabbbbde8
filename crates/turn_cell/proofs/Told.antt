-- What a few steps in a row tell.
use Rattle.std.proofs.Common.{◌≡◌, ℕ, ◌+◌, ◌%◌, ◌^◌, ◌<◌, ◌≤◌, true, List, [], ◌∷◌, ◌++◌, length, sym, ap, ◌∙◌, subst, arith, Option, Some, None, length-append}
use mathlib.Core.Option.{none, some, some-injective}
use lib.ListN.{get_elem?}
use Rattle.std.proofs.Math.ListN.{replicate}
use Rattle.std.specs.Option.{is_some}
use Rattle.atomic_table.specs.Table.{Me, step, rest, opening, Allows, Final, Seen}
use Rattle.turn_cell.specs.declared.shares.TheConstants.{ALL_SHARES}
use Rattle.turn_cell.specs.declared.steps.TheConstants.{WORDS}
use Rattle.turn_cell.specs.declared.view.Stage.TheVariants.{Idle, Waiting, Joined}
use Rattle.turn_cell.specs.declared.view.View.{View}
use Rattle.turn_cell.specs.Journal.{Grows, MayLeave, HasEach, times, once_within}
use Rattle.turn_cell.specs.Rule.{first_view, IsInvariant}
use Rattle.turn_cell.specs.Steps.{at_stage, gone_home, both, Turns, Calls, GoesHome, TakesHome, MayCall, Settles, entered_of, ticket_of, IsAtTurn, IsIdle, IsResting, IsOut, IsTaken, IsPut, TookOut, IsJoinOf, added}
use mathlib.Core.List.{append-nil}
use Rattle.turn_cell.proofs.Journals.{added_none, added_one}
use Rattle.turn_cell.proofs.Sums.{times-append}
use Rattle.turn_cell.proofs.Keeps.{calls, opens, closes}

-- what the first of the slots holds, or x where there is none
abbrev held_or : {S : Type 0} → S → List (ℕ × S) → S
held_or x [] = x
held_or x (y ∷ ys) = y.1

some_is : {X : Type 0} (x y : X) → Some x ≡ Some y → x ≡ y
some_is x y e = cc

-- a slot behind which there is nothing
pub slot_rest : {X : Type 0} (l : List (ℕ × X)) (x : X) → l ≡ (4, x) ∷ [] → l ≡ (4, x) ∷ rest l
slot_rest {X} l x e = e ∙ ap (λ (z : List (ℕ × X)). (4, x) ∷ rest z) (sym e)

pub slot_found : {X : Type 0} (l : List (ℕ × Option X)) (value : X) (found : Option X) → l ≡ (4, Some value) ∷ [] → l ≡ (4, found) ∷ rest l → found ≡ Some value
slot_found l value found e was = ap (held_or None) (sym was ∙ e)

pub taken_now : {V F E : Type 0} (m n : Me (Option V) (View F E)) (had : V) (found : Option V) (value : V) → m.1 ≡ (4, Some had) ∷ [] → m.1 ≡ (4, found) ∷ rest m.1 → n ≡ (m.0, (4, None) ∷ rest m.1) → found ≡ Some value → IsTaken value m n
taken_now {V} {F} {E} m n had found value e was now is = record {
  hand = e ∙ ap (λ (z : Option V). let l : List (ℕ × Option V) = (4, z) ∷ [] in l) (sym (slot_found m.1 had found e was) ∙ is);
  after = now ∙ ap (λ (l : List (ℕ × Option V)). let x : Me (Option V) (View F E) = (m.0, (4, None) ∷ rest l) in x) e;
}

module _ {V F E : Type 0} (fixed : V → F) (journal : V → List E) (allows : F → List E → E → Type 0) where
  pub has_slot : (t : ℕ) (m n : Me (Option V) (View F E)) (h : Turns fixed journal allows t m n) → m.1 ≡ [] → n.1 ≡ (4, Some h.value) ∷ []
  has_slot t m n h empty = ap (λ (x : Me (Option V) (View F E)). x.1) h.after ∙ ap (λ (l : List (ℕ × Option V)). (4, Some h.value) ∷ l) empty

  pub took : (t : ℕ) (m n n' : Me (Option V) (View F E)) (value : V) → Turns fixed journal allows t m n → m.1 ≡ [] → IsTaken value n n' → TookOut fixed journal allows t value m n'
  took t m n n' value h empty taken = let same : h.value ≡ value = some_is h.value value (ap (held_or None) (sym (has_slot t m n h empty) ∙ taken.hand)) in
      subst (λ (x : V). TookOut fixed journal allows t x m n') same (record {
        after = taken.after ∙ ap (λ (x : Me (Option V) (View F E)). let y : Me (Option V) (View F E) = (x.0, (4, None) ∷ []) in y) h.after;
        its_fixed = h.its_fixed;
        grows = h.grows;
      })

  pub may_call : (opening : V) (slots id : ℕ) (m : Me (Option V) (View F E)) → MayCall fixed journal allows m → Allows (IsInvariant fixed journal allows opening) slots id m 9 (λ x. (x + 1) % 2 ^ 64) (Calls journal (step slots 9 1 0 none) m)
  may_call opening slots id m p = calls fixed journal allows opening slots id p.ticket m p.entered p.value p.stage p.slot p.live p.its_fixed p.may

  pub called_home : (slots found : ℕ) (m n : Me (Option V) (View F E)) → MayCall fixed journal allows m → Calls journal (step slots 9 1 0 none) m found n → TakesHome journal m n
  called_home slots found m n p told value slot = (told p.ticket p.entered value p.stage slot).1

  pub called_ticket : (slots found : ℕ) (m n : Me (Option V) (View F E)) → MayCall fixed journal allows m → Calls journal (step slots 9 1 0 none) m found n → found ≡ ticket_of m.0.stage
  called_ticket slots found m n p told = (told p.ticket p.entered p.value p.stage p.slot).0 ∙ sym (ap ticket_of p.stage)

  -- the value was put, so the next may be called
  pub ready : (m n : Me (Option V) (View F E)) (value : V) → IsAtTurn m → 0 < m.0.shares → IsPut value m n → m.0.fixed ≡ Some (fixed value) → MayLeave allows (fixed value) (entered_of m.0.stage) (journal value) → MayCall fixed journal allows n
  ready m n value turn has now own_fixed may = record {
    ticket = turn.0;
    entered = turn.1;
    value = value;
    stage = ap (λ (x : Me (Option V) (View F E)). x.0.stage) now ∙ turn.2;
    slot = ap (λ (x : Me (Option V) (View F E)). x.1) now;
    live = let e : n.0.shares ≡ m.0.shares = ap (λ (x : Me (Option V) (View F E)). x.0.shares) now in omega arith;
    its_fixed = ap (λ (x : Me (Option V) (View F E)). x.0.fixed) now ∙ own_fixed;
    may = subst (λ (l : List E). MayLeave allows (fixed value) l (journal value)) (ap entered_of turn.2) may;
  }

  pub joins_to : (k m n : Me (Option V) (View F E)) (w : View F E) → m ≡ (both k.0 w, []) → Settles allows k.0.seen w.seen m n → IsJoinOf allows w k n
  joins_to k m n w now s = let v = k.0 in record {
    after = s.after ∙ ap (λ (x : Me (Option V) (View F E)). let y : Me (Option V) (View F E) = (at_stage Idle x.0, x.1) in y) now;
    grows = λ f e. subst (λ (x : Me (Option V) (View F E)). Grows allows f v.seen x.0.seen × Grows allows f w.seen x.0.seen) now (s.grows f (ap (λ (x : Me (Option V) (View F E)). x.0.fixed) now ∙ e));
    few = let f : m.0.shares ≤ ALL_SHARES = s.few in let e : m.0.shares ≡ v.shares + w.shares = ap (λ (x : Me (Option V) (View F E)). x.0.shares) now in omega arith;
    distinct = λ place. let d : times place m.0.own ≤ 1 = s.distinct place in let e : times place m.0.own ≡ times place (v.own ++ w.own) = ap (λ (x : Me (Option V) (View F E)). times place x.0.own) now in let a = times-append place v.own w.own in omega arith;
    whole = λ all. subst (λ (x : Me (Option V) (View F E)). HasEach x.0.start (length x.0.seen) x.0.own) now (s.whole (ap (λ (x : Me (Option V) (View F E)). x.0.shares) now ∙ all));
  }

  -- a seat that drew, waited and took is out with the value, and has the shares that it had
  pub out_after : (r t : ℕ) (m d l n : Me (Option V) (View F E)) (value : V) (shares : ℕ) → IsResting shares m → d ≡ (at_stage (Waiting r) m.0, []) → l ≡ d → TookOut fixed journal allows t value l n → IsOut shares n
  out_after r t m d l n value shares rests e e' h = record {
    at_turn = (t, journal value, ap (λ (x : Me (Option V) (View F E)). x.0.stage) h.after, ap (λ (x : Me (Option V) (View F E)). x.1) h.after);
    counted = ap (λ (x : Me (Option V) (View F E)). x.0.shares) h.after ∙ (ap (λ (x : Me (Option V) (View F E)). x.0.shares) (e' ∙ e) ∙ rests.counted);
    least = rests.least;
    most = rests.most;
  }

-- a put changes no view, so the call goes home from where the value was put
pub home_after : {V F E : Type 0} (journal : V → List E) (m n n' : Me (Option V) (View F E)) (value : V) → IsPut value m n → TakesHome journal n n' → GoesHome journal value m n'
home_after {V} {F} {E} journal m n n' value now called = let h = called value (ap (λ (x : Me (Option V) (View F E)). x.1) now) in let e : n.0 ≡ m.0 = ap (λ (x : Me (Option V) (View F E)). x.0) now in record {
  after = h.after ∙ ap (λ (v : View F E). let x : Me (Option V) (View F E) = (gone_home (entered_of v.stage) (journal value) v, []) in x) e;
  whole = λ all. subst (λ (v : View F E). HasEach v.start (length (journal value)) (v.own ++ added (entered_of v.stage) (journal value))) e (h.whole (ap (λ (v : View F E). v.shares) e ∙ all));
}

-- the seat of a pass after each call
pub rests_home : {V F E : Type 0} (journal : V → List E) (value : V) (m n : Me (Option V) (View F E)) (shares : ℕ) → m.0.shares ≡ shares → 1 ≤ shares → shares ≤ ALL_SHARES → GoesHome journal value m n → IsResting shares n
rests_home {V} {F} {E} journal value m n shares counted least most h = record {
  no_slot = ap (λ (x : Me (Option V) (View F E)). x.1) h.after;
  idle = ap (λ (x : Me (Option V) (View F E)). x.0.stage) h.after;
  counted = ap (λ (x : Me (Option V) (View F E)). x.0.shares) h.after ∙ counted;
  least = least;
  most = most;
  whole = λ all. subst (λ (x : Me (Option V) (View F E)). HasEach x.0.start (length x.0.seen) x.0.own) (sym h.after) (h.whole (counted ∙ all));
}

pub rests_joined : {V F E : Type 0} (allows : F → List E → E → Type 0) (m w n : Me (Option V) (View F E)) (shares more : ℕ) → IsResting shares m → IsResting more w → IsJoinOf allows w.0 m n → IsResting (shares + more) n
rests_joined {V} {F} {E} allows m w n shares more a b h = let s = a.counted in let t = b.counted in record {
  no_slot = ap (λ (x : Me (Option V) (View F E)). x.1) h.after;
  idle = ap (λ (x : Me (Option V) (View F E)). x.0.stage) h.after;
  counted = ap (λ (x : Me (Option V) (View F E)). x.0.shares) h.after ∙ (λ i. s i + t i);
  least = let l = a.least in omega arith;
  most = let f = h.few in omega arith;
  whole = λ all. subst (λ (x : Me (Option V) (View F E)). HasEach x.0.start (length x.0.seen) x.0.own) (sym h.after) (h.whole (omega arith));
}

pub joined_now : {V F E : Type 0} (m n : Me (Option V) (View F E)) (w : View F E) → IsIdle m → n ≡ (both m.0 w, m.1) → (n ≡ (both m.0 w, [])) × (n.0.stage ≡ Joined m.0.seen w.seen) × (0 < n.0.shares)
joined_now {V} {F} {E} m n w idle now = let e : n ≡ (both m.0 w, []) = now ∙ ap (λ (l : List (ℕ × Option V)). let x : Me (Option V) (View F E) = (both m.0 w, l) in x) idle.2 in
    (e, ap (λ (x : Me (Option V) (View F E)). x.0.stage) e, let s : n.0.shares ≡ m.0.shares + w.shares = ap (λ (x : Me (Option V) (View F E)). x.0.shares) e in let h = idle.1 in omega arith)

pub opens_at : {V F E : Type 0} (fixed : V → F) (journal : V → List E) (allows : F → List E → E → Type 0) (o value : V) (items : List (Option V)) → o ≡ value → items ≡ None ∷ None ∷ None ∷ None ∷ Some value ∷ None ∷ None ∷ None ∷ None ∷ []
    → IsInvariant fixed journal allows o (opening (replicate WORDS 0) items (first_view fixed journal o))
opens_at {V} {F} {E} fixed journal allows o value items same are = subst (λ (z : List (Option V)). IsInvariant fixed journal allows o (opening (replicate WORDS 0) z (first_view fixed journal o))) (ap (λ (x : V). None ∷ None ∷ None ∷ None ∷ Some x ∷ None ∷ None ∷ None ∷ None ∷ []) same ∙ sym are) (opens fixed journal allows o)

-- what was found in the slot at the end
pub record HasClosed {V F E : Type 0} (fixed : V → F) (journal : V → List E) (o : V) (v : View F E) (found : Option V) : Type 0 where
  pub some_there : is_some found ≡ true
  pub its_fixed : (value : V) → found ≡ Some value → fixed value ≡ fixed o
  pub its_journal : (value : V) → found ≡ Some value → journal value ≡ v.seen
  pub its_own : (place : ℕ) → times place v.own ≡ once_within (length (journal o)) (length v.seen) place

pub closes_to : {V F E : Type 0} (fixed : V → F) (journal : V → List E) (allows : F → List E → E → Type 0) (o : V) (id : ℕ) (m : Me (Option V) (View F E)) (shares : ℕ) (words : List ℕ) (slots : List (Option V)) (found : Option V)
    → m.0.stage ≡ Idle → m.0.shares ≡ shares → shares ≡ ALL_SHARES → Final (Seen (IsInvariant fixed journal allows o) id m.0) words slots → get_elem? slots 4 ≡ some found → HasClosed fixed journal o m.0 found
closes_to {V} {F} {E} fixed journal allows o id m shares words slots found idle has all f at = let t = closes fixed journal allows o id m.0 words slots (has ∙ all) idle f in
    let is : found ≡ Some t.0 = some-injective found (Some t.0) (sym at ∙ t.1) in
    let same : (value : V) → found ≡ Some value → t.0 ≡ value = λ value e. some_is t.0 value (sym is ∙ e) in record {
      some_there = ap is_some is;
      its_fixed = λ value e. ap fixed (sym (same value e)) ∙ t.2;
      its_journal = λ value e. ap journal (sym (same value e)) ∙ t.3;
      its_own = t.4;
    }

module _ {V F E : Type 0} (m n : Me (Option V) (View F E)) (entered j : List E) (own : List ℕ) (home : n ≡ (gone_home (entered_of m.0.stage) j m.0, [])) (stage : entered_of m.0.stage ≡ entered) (its_own : m.0.own ≡ own) where
  now_own : n.0.own ≡ own ++ added entered j
  now_own = ap (λ (x : Me (Option V) (View F E)). x.0.own) home ∙ (λ i. its_own i ++ added (stage i) j)

  pub own_kept : j ≡ entered → n.0.own ≡ own
  own_kept e = now_own ∙ (ap (λ (l : List ℕ). own ++ l) (added_none entered j (omega (arith, ap length e))) ∙ append-nil own)

  pub own_added : (x : E) → j ≡ entered ++ x ∷ [] → n.0.own ≡ own ++ length entered ∷ []
  own_added x e = now_own ∙ ap (λ (l : List ℕ). own ++ l) (added_one entered j (let s = length-append entered (x ∷ []) in let t = ap length e in omega arith))
