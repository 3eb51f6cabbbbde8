-- Where a route stops, as a function and as a fact.
use Rattle.std.proofs.Common.{◌≡◌, ℕ, zero, suc, ◌+◌, ◌<◌, ◌≤◌, Bool, true, false, cond, eqb, List, [], ◌∷◌, ◌++◌, length, drop, Option, Some, None, Result, Ok, Err, refl, sym, ap, subst, ◌∙◌, arith, inl, inr, ◌⊎◌, All}
use Rattle.std.specs.Prelude.{IsSome, slice_get}
use Rattle.std.proofs.lemmas.Bool.{eqb-true, cases_Bool, false≢true}
use Rattle.std.proofs.lemmas.List.Elements.{All-head, All-tail}
use Rattle.byte_fields.specs.Steps.{◌>>=◌, with_value}
use Rattle.byte_fields.proofs.FieldLaws.{IsBytes}
use Rattle.byte_fields.proofs.Results.{err_is}
use Rattle.frame_link.specs.Relay.{Said, Gave, Refuses}
use Rattle.relay_path.specs.declared.answer.Along.{Along}
use Rattle.relay_path.specs.declared.answer.Along.TheVariants as ends
use Rattle.relay_path.specs.Carrying.{IsCarried}
use Rattle.relay_path.specs.Domains.{DomainKnows, domain_of, IsNumberOf}
use Rattle.relay_path.specs.Going.{before, first_unknown, given_at, hops_from, begins_carried, hops_known, or_stop, went}
use Rattle.relay_path.specs.Hopping.{IsHop}
use Rattle.relay_path.specs.Opening.{hopped}
use Rattle.relay_path.specs.Paths.{HopsAt, IsStopped, is_carried, is_no_domain, is_refused, Reaches, first, next, target_of}
use Rattle.relay_path.proofs.Cases.{some_case, that_case}
use Rattle.relay_path.proofs.Known.{all_known, IsFirstUnknown, known_all, unknown_again, unknown_takes}
use Rattle.relay_path.proofs.MadeBytes.{made_bytes}

-- ---- the numbers from a place on

place_is : (route : List ℕ) (place n : ℕ) (later : List ℕ) → drop place route ≡ n ∷ later → (slice_get route place ≡ Some n) × (drop (place + 1) route ≡ later)
place_is [] zero n later e = absurd cc
place_is [] (suc place) n later e = absurd cc
place_is (x ∷ route) zero n later e =
    let head : x ≡ n = cc e in
    let tail : route ≡ later = cc e in
    (ap (λ (k : ℕ). Some k) head, tail)
place_is (x ∷ route) (suc place) n later e =
    let p = place_is route place n later e in
    let one : suc place + 1 ≡ suc (place + 1) = omega arith in
    (p.0, ap (λ (k : ℕ). drop k (x ∷ route)) one ∙ p.1)

from_place : (route : List ℕ) (place n : ℕ) → slice_get route place ≡ Some n → drop place route ≡ n ∷ drop (place + 1) route
from_place [] place n e = absurd cc
from_place (x ∷ route) zero n e = let head : x ≡ n = cc e in ap (λ (k : ℕ). k ∷ route) head
from_place (x ∷ route) (suc place) n e =
    let one : suc (place + 1) ≡ suc place + 1 = omega arith in
    from_place route place n e ∙ ap (λ (k : ℕ). n ∷ drop k (x ∷ route)) one

-- ---- the first byte

pub went_carried : (ds : List DomainKnows) (route : List ℕ) (node : ℕ) (bytes : List ℕ) → IsCarried bytes → went ds route node bytes ≡ Err (ends.Refused 0 4)
went_carried ds route node bytes is = let yes : begins_carried bytes ≡ true = ap begins_carried is.1 in rw yes refl

pub went_else : (ds : List DomainKnows) (route : List ℕ) (node : ℕ) (bytes : List ℕ) → ¬ IsCarried bytes → went ds route node bytes ≡ hops_known ds route node bytes (first_unknown ds route)
went_else ds route node [] other = refl
went_else ds route node (b ∷ rest) other = elim (cases_Bool (eqb b 3)) [
  | inl same ↦ absurd (other (rest, ap (λ (k : ℕ). k ∷ rest) (eqb-true b 3 same)))
  | inr not ↦ rw not refl
]

carried_or : (bytes : List ℕ) → IsCarried bytes ⊎ (¬ IsCarried bytes)
carried_or [] = inr (λ is. absurd (cc (is.1)))
carried_or (b ∷ rest) = elim (cases_Bool (eqb b 3)) [
  | inl same ↦ inl (rest, ap (λ (k : ℕ). k ∷ rest) (eqb-true b 3 same))
  | inr not ↦ inr (λ is. first_differs b rest is.0 not is.1)
]
  where
    first_differs : (b : ℕ) (rest other : List ℕ) → eqb b 3 ≡ false → b ∷ rest ≡ 3 ∷ other → ⊥
    first_differs b rest other not e = let head : b ≡ 3 = cc e in absurd (cc (not, head))

module _ (ds : List DomainKnows) (route : List ℕ) (node : ℕ) (bytes : List ℕ) (fits : IsBytes bytes) where
  abbrev Comes : ℕ → List ℕ → Type 0
  Comes place given = Reaches ds route node bytes place given

  reach_bytes : (place : ℕ) (given : List ℕ) → Comes place given → IsBytes given
  reach_bytes place given first = fits
  reach_bytes place given (next p g made reach hops) = made_bytes hops.domain (target_of node (drop (p + 1) route)) g (Gave made) hops.hops

  -- ---- from the function

  -- what is known of where it stopped
  abbrev IsEnd : Along → Type 0
  IsEnd ends.Done = ⊥
  IsEnd (ends.Refused hop code) = (given : List ℕ) × Comes hop given × HopsAt ds route node hop given (Refuses code)
  IsEnd ends.NoMemory = ⊥

  hops_at : (place n : ℕ) (later given : List ℕ) (d : DomainKnows) (said : Said) → drop place route ≡ n ∷ later → domain_of ds n ≡ Some d → IsHop d (target_of node later) given said → HopsAt ds route node place given said
  hops_at place n later given d said e is hops =
      let p = place_is route place n later e in
      record { number = n; domain = d; stands = p.0; is = is; hops = subst (λ (l : List ℕ). IsHop d (target_of node l) given said) (sym p.1) hops }

  with_value_err : (made : List ℕ) (r : Result (List (List ℕ)) Along) (a : Along) → with_value (before made) r ≡ Err a → r ≡ Err a
  with_value_err made (Ok forms) a e = absurd cc
  with_value_err made (Err b) a e = cc

  stops_said : (place n : ℕ) (later given : List ℕ) (d : DomainKnows) (a : Along) → Comes place given → drop place route ≡ n ∷ later → domain_of ds n ≡ Some d
      → ((made : List ℕ) (b : Along) → Comes (place + 1) made → hops_from ds node (place + 1) later made ≡ Err b → IsEnd b)
      → (said : Said) → hopped d (target_of node later) given ≡ said → (given_at place said >>= λ made. with_value (before made) (hops_from ds node (place + 1) later made)) ≡ Err a → IsEnd a
  stops_said place n later given d a reach e is more (Gave made) gave went =
      let hops = subst (IsHop d (target_of node later) given) gave (some_case d (target_of node later) given (reach_bytes place given reach)) in
      more made a (next place given made reach (hops_at place n later given d (Gave made) e is hops)) (with_value_err made (hops_from ds node (place + 1) later made) a went)
  stops_said place n later given d a reach e is more (Refuses code) gave went =
      let hops = subst (IsHop d (target_of node later) given) gave (some_case d (target_of node later) given (reach_bytes place given reach)) in
      subst IsEnd (err_is (List (List ℕ)) (ends.Refused place code) a went) (given, reach, hops_at place n later given d (Refuses code) e is hops)

  stops_by : (place n : ℕ) (later given : List ℕ) (a : Along) → Comes place given → drop place route ≡ n ∷ later → ((made : List ℕ) (b : Along) → Comes (place + 1) made → hops_from ds node (place + 1) later made ≡ Err b → IsEnd b)
      → (o : Option DomainKnows) → domain_of ds n ≡ o → IsSome o → (or_stop place 11 o >>= λ d. given_at place (hopped d (target_of node later) given) >>= λ made. with_value (before made) (hops_from ds node (place + 1) later made)) ≡ Err a → IsEnd a
  stops_by place n later given a reach e more None is some went = absurd (false≢true some)
  stops_by place n later given a reach e more (Some d) is some went = stops_said place n later given d a reach e is more (hopped d (target_of node later) given) refl went

  stops : (rest : List ℕ) (place : ℕ) (given : List ℕ) (a : Along) → Comes place given → drop place route ≡ rest → All (IsNumberOf ds) rest → hops_from ds node place rest given ≡ Err a → IsEnd a
  stops [] place given a reach e known went = absurd cc
  stops (n ∷ later) place given a reach e known went =
      stops_by place n later given a reach e (λ made b there gone. stops later (place + 1) made b there (place_is route place n later e).1 (All-tail (IsNumberOf ds) n later known) gone)
      (domain_of ds n) refl (All-head (IsNumberOf ds) n later known) went

  -- what it says of a route that stopped
  abbrev IsStoppedAs : Along → Type 0
  IsStoppedAs ends.Done = ⊥
  IsStoppedAs (ends.Refused hop code) = IsStopped ds route node bytes hop code
  IsStoppedAs ends.NoMemory = ⊥

  end_stopped : (a : Along) → ¬ IsCarried bytes → All (IsNumberOf ds) route → IsEnd a → IsStoppedAs a
  end_stopped ends.Done other known is = is
  end_stopped (ends.Refused hop code) other known is = is_refused hop code is.0 other known is.1 is.2
  end_stopped ends.NoMemory other known is = is

  stopped_known : (a : Along) → ¬ IsCarried bytes → (o : Option ℕ) → first_unknown ds route ≡ o → hops_known ds route node bytes o ≡ Err a → IsStoppedAs a
  stopped_known a other None is e = let known = all_known ds route is in end_stopped a other known (stops route 0 bytes a first refl known e)
  stopped_known a other (Some place) is e =
      let u = unknown_takes ds route place is in
      subst IsStoppedAs (err_is (List (List ℕ)) (ends.Refused place 11) a e) (is_no_domain place u.number other u.stands u.none u.before)

  pub stopped : (a : Along) → went ds route node bytes ≡ Err a → IsStoppedAs a
  stopped a e = elim (carried_or bytes) [
    | inl is ↦ subst IsStoppedAs (err_is (List (List ℕ)) (ends.Refused 0 4) a (sym (went_carried ds route node bytes is) ∙ e)) (is_carried is)
    | inr other ↦ stopped_known a other (first_unknown ds route) refl (sym (went_else ds route node bytes other) ∙ e)
  ]

  -- ---- and back

  hop_said : (place : ℕ) (given : List ℕ) (said : Said) → Comes place given → (h : HopsAt ds route node place given said) → hopped h.domain (target_of node (drop (place + 1) route)) given ≡ said
  hop_said place given said reach h = sym (that_case h.domain (target_of node (drop (place + 1) route)) given said (reach_bytes place given reach) h.hops)

  from_hop : (place : ℕ) (given : List ℕ) (said : Said) → Comes place given → (h : HopsAt ds route node place given said)
      → hops_from ds node place (drop place route) given ≡ (given_at place said >>= λ made. with_value (before made) (hops_from ds node (place + 1) (drop (place + 1) route) made))
  from_hop place given said reach h =
      ap (λ (l : List ℕ). hops_from ds node place l given) (from_place route place h.number h.stands) ∙ rw (h.is, hop_said place given said reach h) refl

  from_start : (place : ℕ) (given : List ℕ) (a : Along) → Comes place given → hops_from ds node place (drop place route) given ≡ Err a → hops_from ds node 0 route bytes ≡ Err a
  from_start place given a first e = e
  from_start place given a (next p g made reach h) e = from_start p g a reach (from_hop p g (Gave made) reach h ∙ ap (with_value (before made)) e)

  pub stopped_again : (hop code : ℕ) → IsStopped ds route node bytes hop code → went ds route node bytes ≡ Err (ends.Refused hop code)
  stopped_again hop code (is_carried is) = went_carried ds route node bytes is
  stopped_again hop code (is_no_domain place number other stands none known) =
      went_else ds route node bytes other ∙ ap (hops_known ds route node bytes) (unknown_again ds route place (record { number = number; stands = stands; none = none; before = known }))
  stopped_again hop code (is_refused place c given other known reach h) =
      went_else ds route node bytes other ∙ ap (hops_known ds route node bytes) (known_all ds route known)
      ∙ from_start place given (ends.Refused place c) reach (from_hop place given (Refuses c) reach h)
