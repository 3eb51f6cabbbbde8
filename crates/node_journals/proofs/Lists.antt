-- Lists of kept proofs: whether one is kept for a channel, and that no more are kept than there are channels.
use Rattle.std.proofs.Common.{◌≡◌, ℕ, suc, ◌<◌, ◌≤◌, Bool, true, false, not, ◌||◌, cond, List, [], ◌∷◌, length, map, filter, get_or, find, nat_eq, Option, Some, None, All, Contains, refl, sym, ◌∙◌, ap, subst, arith}
use Rattle.std.specs.List.{AllPairs, IsDistinct, list_any}
use Rattle.std.proofs.lemmas.Cmp.{nat_eq_equiv}
use Rattle.std.proofs.lemmas.Bool.{cond-true, cond-false, and_from, eqb-true, ne_eqb, false≢true, false_from_ne_true, not_from_false, not-true}
use Rattle.std.proofs.lemmas.List.{get_or-map, length-map}
use Rattle.std.proofs.lemmas.List.Elements.{All-cons, All-head, All-tail, All-append, All-filter, All-map, All-contains, All-weaker, filter_passes}
use Rattle.std.proofs.lemmas.List.Folds.{list_any-append}
use Rattle.std.proofs.lemmas.List.Kept.{AllPairs-cons, AllPairs-filter}
use Rattle.std.proofs.lemmas.Map.Keys.{IsDistinct-from_apart}
use Rattle.std.proofs.lemmas.Map.Made.{length-le_from_is_member}
use Rattle.std.proofs.lemmas.Map.Views.{any-filter_same, Contains-from_any, list_any-from_Contains}
use Rattle.prin_term.specs.Principal.{Principal, Key, Name, And, Quoting, InRole, For}
use Rattle.stmt_codec.specs.Distinct.{same_principal}
use Rattle.stmt_codec.proofs.Same.{same_principal-itself}
use Rattle.proof_cache.specs.Cached.{Cached}
use Rattle.proof_cache.specs.Cache.{IsCache, is_for, without}
use Rattle.proof_cache.proofs.Marks.{is_kept_for}
use Rattle.agent_core.specs.declared.told.Told.{Told}
use Rattle.agent_core.specs.State.{Ask}
use Rattle.agent_core.specs.Caches.{used, used_by, who_at}
use Rattle.node_journals.proofs.Made.{IsMade}

-- ---- tests of lists

or_third : (a x y z : Bool) → (x || y) ≡ z → ((a || x) || y) ≡ (a || z)
or_third true x y z h = refl
or_third false x y z h = h

or_true : (x : Bool) → (x || true) ≡ true
or_true true = refl
or_true false = refl

pub or_false : (x : Bool) → (x || false) ≡ x
or_false true = refl
or_false false = refl

or_between : (a x y z : Bool) → (x || y) ≡ z → (x || (a || y)) ≡ (a || z)
or_between true x y z h = or_true x
or_between false x y z h = h

module _ {X : Type 0} (p q : X → Bool) where
  one_more : (b : Bool) (x : X) (fs gs : List X) (z : Bool) → (list_any p fs || list_any p gs) ≡ z →
      (list_any p (cond b (x ∷ fs) fs) || list_any p (cond (not b) (x ∷ gs) gs)) ≡ (p x || z)
  one_more true x fs gs z h = or_third (p x) (list_any p fs) (list_any p gs) z h
  one_more false x fs gs z h = or_between (p x) (list_any p fs) (list_any p gs) z h

  any_parted : (xs : List X) → (list_any p (filter q xs) || list_any p (filter (λ x. not (q x)) xs)) ≡ list_any p xs
  any_parted [] = refl
  any_parted (x ∷ xs) = one_more (q x) x (filter q xs) (filter (λ y. not (q y)) xs) (list_any p xs) (any_parted xs)

-- what all pass stays whole
pub all_pass : {X : Type 0} (p : X → Bool) (xs : List X) → All (λ x. p x ≡ true) xs → filter p xs ≡ xs
all_pass p [] all = refl
all_pass p (x ∷ xs) all =
    cond-true (p x) (x ∷ filter p xs) (filter p xs) (All-head (λ y. p y ≡ true) x xs all)
    ∙ ap (λ l. x ∷ l) (all_pass p xs (All-tail (λ y. p y ≡ true) x xs all))

-- nothing is found where nothing passes
pub none_found : {X : Type 0} (p : X → Bool) (xs : List X) → All (λ x. p x ≡ false) xs → find p xs ≡ None
none_found p [] all = refl
none_found p (x ∷ xs) all =
    cond-false (p x) (Some x) (find p xs) (All-head (λ y. p y ≡ false) x xs all)
    ∙ none_found p xs (All-tail (λ y. p y ≡ false) x xs all)

-- ---- kept proofs in another order

module _ (p : Cached → Bool) where
  any_used : (subject : Principal) (o : Option Principal) (cache : List Cached) → list_any p (used subject o cache) ≡ list_any p cache
  any_used subject None cache = refl
  any_used subject (Some who) cache = list_any-append p (filter (is_for subject who) cache) (without (is_for subject who) cache) ∙ any_parted p (is_for subject who) cache

  pub any_used_by : (a : Ask) (told : Told) (cache : List Cached) → list_any p (used_by a told cache) ≡ list_any p cache
  any_used_by a (Told.Hit e) cache = any_used a.subject (who_at a.list e) cache
  any_used_by a _ cache = refl

module _ (P : Cached → Type 0) where
  all_used : (subject : Principal) (o : Option Principal) (cache : List Cached) → All P cache → All P (used subject o cache)
  all_used subject None cache all = all
  all_used subject (Some who) cache all =
      All-append P (filter (is_for subject who) cache) (without (is_for subject who) cache) (All-filter (is_for subject who) P cache all) (All-filter (λ c. not (is_for subject who c)) P cache all)

  pub all_used_by : (a : Ask) (told : Told) (cache : List Cached) → All P cache → All P (used_by a told cache)
  all_used_by a (Told.Hit e) cache all = all_used a.subject (who_at a.list e) cache all
  all_used_by a _ cache all = all

-- ---- kept proofs of channels

-- a proof for one of these channels
pub record IsOfLoad (channels : List ℕ) (c : Cached) : Type 0 where
  pub channel : ℕ
  pub made : IsMade channel c
  pub there : Contains channels channel

-- two that say the same are kept for the same
pub is_for_these : (s w : Principal) (c : Cached) → c.subject ≡ s → c.who ≡ w → is_for s w c ≡ true
is_for_these s w c e f =
    and_from (same_principal c.subject s) (same_principal c.who w)
    (subst (λ (p : Principal). same_principal c.subject p ≡ true) e (same_principal-itself c.subject))
    (subst (λ (p : Principal). same_principal c.who p ≡ true) f (same_principal-itself c.who))

-- one that is not kept for a pair is for others than those that are kept for what it is
pub any_without : (s w : Principal) (c : Cached) (cache : List Cached) → is_for s w c ≡ false →
    list_any (is_for s w) (without (is_for c.subject c.who) cache) ≡ list_any (is_for s w) cache
any_without s w c cache fails =
    any-filter_same (is_for s w) (λ x. not (is_for c.subject c.who x)) true
    (λ x here. not_from_false (is_for c.subject c.who x) (false_from_ne_true (is_for c.subject c.who x) (λ same.
    let mine = is_kept_for s w x here in
    let its = is_kept_for c.subject c.who x same in
    false≢true (sym fails ∙ is_for_these s w c (sym its.0 ∙ mine.0) (sym its.1 ∙ mine.1)))))
    cache

-- the number of a key
abbrev key_in : Principal → ℕ
key_in (Key k) = k
key_in (Name n) = 0
key_in (And a b) = 0
key_in (Quoting a b) = 0
key_in (InRole a r) = 0
key_in (For a b) = 0

abbrev key_of : Cached → ℕ
key_of c = key_in c.subject

abbrev Apart : Cached → Cached → Type 0
Apart x y = is_for y.subject y.who x ≡ false

module _ (channels : List ℕ) where
  key_is : (c : Cached) (l : IsOfLoad channels c) → key_of c ≡ l.channel
  key_is c l = ap key_in l.made.subject

  keys_apart : (x y : Cached) → IsOfLoad channels x → IsOfLoad channels y → Apart x y → nat_eq (key_of x) (key_of y) ≡ false
  keys_apart x y l m apart =
      ne_eqb (key_of x) (key_of y) (λ e.
      let keys : l.channel ≡ m.channel = sym (key_is x l) ∙ (e ∙ key_is y m) in
      let subjects : x.subject ≡ y.subject = l.made.subject ∙ (ap Key keys ∙ sym m.made.subject) in
      false≢true (sym apart ∙ is_for_these y.subject y.who x subjects (l.made.who ∙ sym m.made.who)))

  keys_distinct : (xs : List Cached) (d : Cached) → All (IsOfLoad channels) xs → AllPairs Apart xs → IsDistinct nat_eq (map key_of xs)
  keys_distinct xs d all apart =
      IsDistinct-from_apart nat_eq (map key_of xs) (λ i j n lt within.
      let long : length (map key_of xs) ≡ length xs = length-map xs key_of in
      let above : j < length xs = omega arith in
      let below : i < length xs = omega arith in
      subst (λ (m : ℕ). nat_eq m (get_or (map key_of xs) j n) ≡ false) (sym (get_or-map key_of xs i d n below))
      (subst (λ (m : ℕ). nat_eq (key_of (get_or xs i d)) m ≡ false) (sym (get_or-map key_of xs j d n above))
      (keys_apart (get_or xs i d) (get_or xs j d) (all i d below) (all j d above) (apart i j d lt above))))

  keys_there : (xs : List Cached) → All (IsOfLoad channels) xs → All (Contains channels) (map key_of xs)
  keys_there xs all =
      All-map (Contains channels) key_of xs
      (All-weaker (IsOfLoad channels) (λ c. Contains channels (key_of c)) (λ c l. subst (Contains channels) (sym (key_is c l)) l.there) xs all)

  -- no more proofs are kept than there are channels
  no_more : (xs : List Cached) (d : Cached) → All (IsOfLoad channels) xs → AllPairs Apart xs → length xs ≤ length channels
  no_more xs d all apart =
      let few : length (map key_of xs) ≤ length channels =
      length-le_from_is_member nat_eq_equiv (map key_of xs) channels (keys_distinct xs d all apart)
      (λ q here. list_any-from_Contains nat_eq_equiv q channels
      (All-contains (Contains channels) (map key_of xs) q (keys_there xs all) (Contains-from_any {eq = nat_eq} (λ x y. eqb-true x y) q (map key_of xs) here))) in
      omega (arith, length-map xs key_of)

  -- of those that are kept for others than one more is, there are fewer than channels
  pub fewer_others : (c : Cached) (cache : List Cached) → IsOfLoad channels c → All (IsOfLoad channels) cache → IsCache cache →
      suc (length (without (is_for c.subject c.who) cache)) ≤ length channels
  fewer_others c cache l all is =
      let others : List Cached = without (is_for c.subject c.who) cache in
      let same_not : All (λ x. not (is_for c.subject c.who x) ≡ true) others = filter_passes (λ x. not (is_for c.subject c.who x)) cache in
      let away : All (Apart c) others =
      All-weaker (λ x. not (is_for c.subject c.who x) ≡ true) (Apart c)
      (λ x h. false_from_ne_true (is_for x.subject x.who c) (λ same.
      let these = is_kept_for x.subject x.who c same in
      false≢true (sym (not-true (is_for c.subject c.who x) h) ∙ is_for_these c.subject c.who x (sym these.0) (sym these.1))))
      others same_not in
      no_more (c ∷ others) c
      (All-cons (IsOfLoad channels) c others l (All-filter (λ x. not (is_for c.subject c.who x)) (IsOfLoad channels) cache all))
      (AllPairs-cons Apart c others away (AllPairs-filter Apart (λ x. not (is_for c.subject c.who x)) cache is.apart))
