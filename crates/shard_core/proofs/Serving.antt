-- What serves an Ask: the first entry for which a proof is kept whose lease has not ended.
use Rattle.std.proofs.Common.{◌≡◌, ℕ, suc, ◌+◌, ◌<◌, ◌≤◌, Bool, true, false, cond, not, nat_lt, List, [], ◌∷◌, length, get_or, filter, find, All, AllPairs, Option, None, Some, slice_get, inl, inr, refl, sym, ap, ◌∙◌, subst, arith}
use Rattle.std.specs.List.{list_any, position_or_len}
use Rattle.std.proofs.lemmas.Bool.{cases_Bool, cases_lt, cond-true, cond-false, lt-ltb, le-leb, lt-leb, le-ltb, false≢true, and_from}
use Rattle.std.proofs.lemmas.List.Sums.{position_or_len_is}
use Rattle.std.proofs.lemmas.Option.{same_Some, none-some, slice_get_within, get_or_from_slice_get}
use Rattle.prin_term.specs.Principal.{Principal}
use Rattle.prin_term.specs.View.{Grant}
use Rattle.proof_cache.specs.Cached.{Cached}
use Rattle.proof_cache.specs.Cache.{IsCache, has_lapsed, is_for}
use Rattle.proof_cache.proofs.Marks.{is_kept_for}
use Rattle.proof_cache.proofs.One.{found_none}
use Rattle.stmt_codec.specs.Distinct.{same_principal}
use Rattle.stmt_codec.proofs.Same.{same_principal-itself}
use Rattle.agent_core.specs.Caches.{unlapsed, gives_right, is_served, first_hit}
use Rattle.shard_core.specs.Looking.{served_at}
use Rattle.agent_core.specs.State.{Ask}

-- ---- what a filter leaves of what is found

module _ {X : Type 0} (p q : X → Bool) where
  missed : (x : X) (xs : List X) (o : Option X) → p x ≡ false → find p (x ∷ xs) ≡ o → find p xs ≡ o
  missed x xs o e h = sym (cond-false (p x) (Some x) (find p xs) e) ∙ h

  met : (x : X) (xs : List X) (o : Option X) → p x ≡ true → find p (x ∷ xs) ≡ o → Some x ≡ o
  met x xs o e h = sym (cond-true (p x) (Some x) (find p xs) e) ∙ h

  none_left : (xs : List X) → find p xs ≡ None → find p (filter q xs) ≡ None
  none_left [] h = refl
  none_left (x ∷ xs) h =
      elim (cases_Bool (p x)) [
        | inl e ↦ absurd (none-some x (sym (met x xs None e h)))
        | inr e ↦
            let rest = none_left xs (missed x xs None e h) in
            elim (cases_Bool (q x)) [ inl f ↦ rw (f, e) rest | inr f ↦ rw f rest ]
      ]

  found_left : (xs : List X) (c : X) → find p xs ≡ Some c → q c ≡ true → find p (filter q xs) ≡ Some c
  found_left [] c h stays = absurd (none-some c h)
  found_left (x ∷ xs) c h stays =
      elim (cases_Bool (p x)) [
        | inl e ↦
            let same : x ≡ c = same_Some x c (met x xs (Some c) e h) in
            let here : q x ≡ true = ap q same ∙ stays in
            rw (here, e) (ap Some same)
        | inr e ↦
            let rest = found_left xs c (missed x xs (Some c) e h) stays in
            elim (cases_Bool (q x)) [ inl f ↦ rw (f, e) rest | inr f ↦ rw f rest ]
      ]

-- ---- no two proofs are kept for the same

-- what is kept for these stands apart from all that is kept behind it
others_fail : (subject who : Principal) (x : Cached) (xs : List Cached) → AllPairs (λ c d. is_for d.subject d.who c ≡ false) (x ∷ xs) → is_for subject who x ≡ true →
    All (λ d. is_for subject who d ≡ false) xs
others_fail subject who x xs apart here k d lt = by (is_for subject who (get_or xs k d)) refl
  where
    y : Cached
    y = get_or xs k d

    by : (b : Bool) → is_for subject who (get_or xs k d) ≡ b → is_for subject who (get_or xs k d) ≡ false
    by false e = e
    by true e =
        let mine = is_kept_for subject who x here in
        let its = is_kept_for subject who (get_or xs k d) e in
        let other : is_for (get_or xs k d).subject (get_or xs k d).who x ≡ false = apart 0 (suc k) d (omega arith) (omega (arith, lt)) in
        let same : is_for (get_or xs k d).subject (get_or xs k d).who x ≡ true =
        and_from (same_principal x.subject (get_or xs k d).subject) (same_principal x.who (get_or xs k d).who)
        (subst (λ z. same_principal x.subject z ≡ true) (mine.0 ∙ sym its.0) (same_principal-itself x.subject))
        (subst (λ z. same_principal x.who z ≡ true) (mine.1 ∙ sym its.1) (same_principal-itself x.who)) in
        absurd (false≢true (sym other ∙ same))

tail_apart : {X : Type 0} (R : X → X → Type 0) (x : X) (xs : List X) → AllPairs R (x ∷ xs) → AllPairs R xs
tail_apart R x xs h = λ i j d lt within. h (suc i) (suc j) d (omega (arith, lt)) (omega (arith, within))

module _ (subject who : Principal) (q : Cached → Bool) where
  -- the one that is kept for these is left out, and no other is
  gone_left : (xs : List Cached) (c : Cached) → AllPairs (λ x y. is_for y.subject y.who x ≡ false) xs → find (is_for subject who) xs ≡ Some c → q c ≡ false →
      find (is_for subject who) (filter q xs) ≡ None
  gone_left [] c apart h out = absurd (none-some c h)
  gone_left (x ∷ xs) c apart h out =
      elim (cases_Bool (is_for subject who x)) [
        | inl e ↦
            let same : x ≡ c = same_Some x c (met (is_for subject who) q x xs (Some c) e h) in
            let here : q x ≡ false = ap q same ∙ out in
            rw here (none_left (is_for subject who) q xs (found_none (is_for subject who) xs (others_fail subject who x xs apart e)))
        | inr e ↦
            let rest = gone_left xs c (tail_apart (λ y z. is_for z.subject z.who y ≡ false) x xs apart) (missed (is_for subject who) q x xs (Some c) e h) out in
            elim (cases_Bool (q x)) [ inl f ↦ rw (f, e) rest | inr f ↦ rw f rest ]
      ]

module _ (subject who : Principal) (moment : ℕ) (cache : List Cached) (is : IsCache cache) where
  pub unended_none : None ≡ find (is_for subject who) cache → None ≡ find (is_for subject who) (unlapsed moment cache)
  unended_none h = sym (none_left (is_for subject who) (λ c. not (has_lapsed moment c)) cache (sym h))

  pub unended_found : (c : Cached) → Some c ≡ find (is_for subject who) cache → moment < c.lease → Some c ≡ find (is_for subject who) (unlapsed moment cache)
  unended_found c h lt = sym (found_left (is_for subject who) (λ d. not (has_lapsed moment d)) cache c (sym h) (ap not (lt-leb c.lease moment lt)))

  pub ended_gone : (c : Cached) → Some c ≡ find (is_for subject who) cache → c.lease ≤ moment → None ≡ find (is_for subject who) (unlapsed moment cache)
  ended_gone c h le = sym (gone_left subject who (λ d. not (has_lapsed moment d)) cache c is.apart (sym h) (ap not (le-leb c.lease moment le)))

-- ---- the first entry that is served

any_found : {X : Type 0} (p : X → Bool) (xs : List X) (c : X) → find p xs ≡ Some c → list_any p xs ≡ true
any_found p [] c h = absurd (none-some c h)
any_found p (x ∷ xs) c h =
    elim (cases_Bool (p x)) [
      | inl e ↦ rw e refl
      | inr e ↦ rw e (any_found p xs c (missed p p x xs (Some c) e h))
    ]

any_missing : {X : Type 0} (p : X → Bool) (xs : List X) → find p xs ≡ None → list_any p xs ≡ false
any_missing p [] h = refl
any_missing p (x ∷ xs) h =
    elim (cases_Bool (p x)) [
      | inl e ↦ absurd (none-some x (sym (met p p x xs None e h)))
      | inr e ↦ rw e (any_missing p xs (missed p p x xs None e h))
    ]

module _ (cache : List Cached) (subject : Principal) (right : ℕ) (g : Grant) where
  pub served_some : (c : Cached) → Some c ≡ served_at cache subject right g → (is_served cache subject right g ≡ true) × (find (is_for subject g.who) cache ≡ Some c)
  served_some c h = by (gives_right right g) refl
    where
      by : (b : Bool) → gives_right right g ≡ b → (is_served cache subject right g ≡ true) × (find (is_for subject g.who) cache ≡ Some c)
      by true e =
          let found : find (is_for subject g.who) cache ≡ Some c = sym (h ∙ cond-true (gives_right right g) (find (is_for subject g.who) cache) None e) in
          (and_from (gives_right right g) (list_any (is_for subject g.who) cache) e (any_found (is_for subject g.who) cache c found), found)
      by false e = absurd (none-some c (sym (h ∙ cond-false (gives_right right g) (find (is_for subject g.who) cache) None e)))

  pub served_none : None ≡ served_at cache subject right g → is_served cache subject right g ≡ false
  served_none h = by (gives_right right g) refl
    where
      by : (b : Bool) → gives_right right g ≡ b → is_served cache subject right g ≡ false
      by true e = rw e (any_missing (is_for subject g.who) cache (sym (h ∙ cond-true (gives_right right g) (find (is_for subject g.who) cache) None e)))
      by false e = rw e refl

-- no entry of the first ones is served
abbrev pub NoneServed : List Cached → Ask → ℕ → Type 0
NoneServed cache a count = (k : ℕ) (d : Grant) → k < count → is_served cache a.subject a.right (get_or a.list k d) ≡ false

module _ (cache : List Cached) (a : Ask) where
  pub served_first : (place : ℕ) (g : Grant) → NoneServed cache a place → slice_get a.list place ≡ Some g → is_served cache a.subject a.right g ≡ true → first_hit cache a ≡ Some place
  served_first place g none at here =
      let p : Grant → Bool = is_served cache a.subject a.right in
      let within : place < length a.list = slice_get_within a.list place g at in
      let is : position_or_len p a.list ≡ place =
      position_or_len_is p a.list place g (omega (arith, within)) (λ k lt. none k g lt) (λ lt. ap p (get_or_from_slice_get a.list place g g at) ∙ here) in
      ap (λ n. cond (nat_lt n (length a.list)) (Some n) None) is ∙ cond-true (nat_lt place (length a.list)) (Some place) None (lt-ltb place (length a.list) within)

  -- the first entry for which a proof is kept, and that proof
  pub served_here : (place : ℕ) (g : Grant) (c : Cached) → NoneServed cache a place → slice_get a.list place ≡ Some g → Some c ≡ served_at cache a.subject a.right g →
      (first_hit cache a ≡ Some place) × (find (is_for a.subject g.who) cache ≡ Some c)
  served_here place g c none at served =
      let (test, found) = served_some cache a.subject a.right g c served in
      (served_first place g none at test, found)

  pub none_served : (count : ℕ) → count ≡ length a.list → NoneServed cache a count → first_hit cache a ≡ None
  none_served count all none =
      let p : Grant → Bool = is_served cache a.subject a.right in
      let any : Grant = record { rights = 0; who = a.subject } in
      let is : position_or_len p a.list ≡ count = position_or_len_is p a.list count any (omega (arith, all)) (λ k lt. none k any lt) (λ lt. absurd (omega (arith, lt, all))) in
      ap (λ n. cond (nat_lt n (length a.list)) (Some n) None) is ∙ cond-false (nat_lt count (length a.list)) (Some count) None (le-ltb count (length a.list) (omega (arith, all)))

  pub none_served_more : (place : ℕ) (g : Grant) → NoneServed cache a place → slice_get a.list place ≡ Some g → is_served cache a.subject a.right g ≡ false → NoneServed cache a (place + 1)
  none_served_more place g none at here k d lt =
      elim (cases_lt k place) [
        | inl l ↦ none k d l
        | inr l ↦
            let same : k ≡ place = omega (arith, l, lt) in
            ap (λ n. is_served cache a.subject a.right (get_or a.list n d)) same ∙ ap (is_served cache a.subject a.right) (get_or_from_slice_get a.list place g d at) ∙ here
      ]
