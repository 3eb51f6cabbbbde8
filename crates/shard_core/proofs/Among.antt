-- Whether a certificate is among those that names or places stand for, and which ones are new.
use Rattle.std.proofs.Common.{◌≡◌, ℕ, zero, suc, ◌+◌, ◌<◌, Bool, true, false, cond, not, ◌||◌, ◌&&◌, add-one, List, [], ◌∷◌, ◌++◌, filter, length, get_or, take, Option, Some, None, refl, sym, ap, ap₂, ◌∙◌, arith, append_assoc}
use Rattle.std.specs.List.{slice_get, filter_map, cons_option, list_any}
use Rattle.std.proofs.lemmas.List.{take_more, append-nil}
use Rattle.std.proofs.lemmas.List.Elements.{filter-append, filter_map-append}
use Rattle.std.proofs.lemmas.List.Folds.{list_any-append}
use Rattle.std.proofs.lemmas.Map.Views.{any-filter_same}
use Rattle.stmt_codec.specs.Certificates.{Certificate}
use Rattle.stmt_codec.specs.Equality.{same_certificate}
use Rattle.stmt_codec.proofs.Equal.{same_certificate-true}
use Rattle.shard_core.specs.declared.held.removal.Removal.{Removal}
use Rattle.agent_core.specs.Held.{admitted, among, is_withdrawn, newly}
use Rattle.shard_core.specs.Kept.{stays}

or_false : (b : Bool) → (b || false) ≡ b
or_false true = refl
or_false false = refl

or_true : (b : Bool) → (b || true) ≡ true
or_true true = refl
or_true false = refl

module _ {X : Type 0} (f : X → Option Certificate) (t : Certificate → Bool) where
  -- what one more stands for counts
  any_one : (x : X) (c : Certificate) → f x ≡ Some c → list_any t (filter_map f (x ∷ [])) ≡ t c
  any_one x c e = ap (λ (o : Option Certificate). list_any t (cons_option o [])) e ∙ or_false (t c)

  pub any_more : (xs : List X) (i : ℕ) (d : X) (c : Certificate) → i < length xs → f (get_or xs i d) ≡ Some c → list_any t (filter_map f (take (i + 1) xs)) ≡ (list_any t (filter_map f (take i xs)) || t c)
  any_more xs i d c lt e =
      ap (λ ys. list_any t (filter_map f ys)) (take_more xs i d lt) ∙
      ap (list_any t) (filter_map-append f (take i xs) (get_or xs i d ∷ [])) ∙
      list_any-append t (filter_map f (take i xs)) (filter_map f (get_or xs i d ∷ [])) ∙
      ap (λ b. list_any t (filter_map f (take i xs)) || b) (any_one (get_or xs i d) c e)

  pub none_more : (xs : List X) (i : ℕ) (d : X) (c : Certificate) → i < length xs → f (get_or xs i d) ≡ Some c → list_any t (filter_map f (take i xs)) ≡ false → t c ≡ false → list_any t (filter_map f (take (i + 1) xs)) ≡ false
  none_more xs i d c lt e before here = any_more xs i d c lt e ∙ ap₂ (λ a b. a || b) before here

  any_behind : (x : X) (xs : List X) → list_any t (filter_map f xs) ≡ true → (o : Option Certificate) → list_any t (cons_option o (filter_map f xs)) ≡ true
  any_behind x xs h None = h
  any_behind x xs h (Some c) = ap (λ b. t c || b) h ∙ or_true (t c)

  pub any_at : (xs : List X) (i : ℕ) (d : X) (c : Certificate) → i < length xs → f (get_or xs i d) ≡ Some c → t c ≡ true → list_any t (filter_map f xs) ≡ true
  any_at [] i d c lt e h = absurd (omega (arith, lt))
  any_at (y ∷ ys) zero d c lt e h =
      ap (λ (o : Option Certificate). list_any t (cons_option o (filter_map f ys))) e ∙ ap (λ b. b || list_any t (filter_map f ys)) h
  any_at (y ∷ ys) (suc i) d c lt e h = any_behind y ys (any_at ys i d c (omega (arith, lt)) e h) (f y)

-- ---- one more certificate

cons_if : {X : Type 0} (y : X) (ys zs : List X) (b : Bool) → y ∷ cond b ys zs ≡ cond b (y ∷ ys) (y ∷ zs)
cons_if y ys zs true = refl
cons_if y ys zs false = refl

newly_step : (held : List Certificate) (y : Certificate) (ys : List Certificate) (x : Certificate) →
    newly held (ys ++ x ∷ []) ≡ cond (among (held ++ newly held ys) x) (newly held ys) (newly held ys ++ x ∷ []) →
    newly (held ++ y ∷ []) (ys ++ x ∷ []) ≡ cond (among ((held ++ y ∷ []) ++ newly (held ++ y ∷ []) ys) x) (newly (held ++ y ∷ []) ys) (newly (held ++ y ∷ []) ys ++ x ∷ []) →
    (b : Bool) → cond b (newly held (ys ++ x ∷ [])) (y ∷ newly (held ++ y ∷ []) (ys ++ x ∷ [])) ≡
    cond (among (held ++ cond b (newly held ys) (y ∷ newly (held ++ y ∷ []) ys)) x) (cond b (newly held ys) (y ∷ newly (held ++ y ∷ []) ys)) (cond b (newly held ys) (y ∷ newly (held ++ y ∷ []) ys) ++ x ∷ [])
newly_step held y ys x there behind true = there
newly_step held y ys x there behind false =
    ap (λ zs. y ∷ zs) behind ∙
    cons_if y (newly (held ++ y ∷ []) ys) (newly (held ++ y ∷ []) ys ++ x ∷ []) (among ((held ++ y ∷ []) ++ newly (held ++ y ∷ []) ys) x) ∙
    ap (λ zs. cond (among zs x) (y ∷ newly (held ++ y ∷ []) ys) (y ∷ (newly (held ++ y ∷ []) ys ++ x ∷ []))) (append_assoc held (y ∷ []) (newly (held ++ y ∷ []) ys))

pub newly_push : (held certs : List Certificate) (x : Certificate) → newly held (certs ++ x ∷ []) ≡ cond (among (held ++ newly held certs) x) (newly held certs) (newly held certs ++ x ∷ [])
newly_push held [] x = ap (λ zs. cond (among zs x) [] (x ∷ [])) (sym (append-nil held))
newly_push held (y ∷ ys) x = newly_step held y ys x (newly_push held ys x) (newly_push (held ++ y ∷ []) ys x) (among held y)

-- one certificate more, by whether its issuer is withdrawn
admitted_push : (held front : List Certificate) (x : Certificate) (barred : Bool) →
    newly held (front ++ cond (not barred) (x ∷ []) []) ≡ cond (not barred && not (among (held ++ newly held front) x)) (newly held front ++ x ∷ []) (newly held front)
admitted_push held front x true = ap (newly held) (append-nil front)
admitted_push held front x false = newly_push held front x ∙ turn (among (held ++ newly held front) x)
  where
    turn : (b : Bool) → cond b (newly held front) (newly held front ++ x ∷ []) ≡ cond (not b) (newly held front ++ x ∷ []) (newly held front)
    turn true = refl
    turn false = refl

-- what is new goes to the end, and nothing else does
pub newly_more : (issuers : List ℕ) (held certs news : List Certificate) (i : ℕ) (x : Certificate) (b : Bool) → slice_get certs i ≡ Some x → news ≡ newly held (admitted issuers (take i certs)) →
    b ≡ (not (is_withdrawn issuers x.issuer) && not (among (held ++ news) x)) → newly held (admitted issuers (take (i + 1) certs)) ≡ cond b (news ++ x ∷ []) news
newly_more issuers held certs news i x b at new is =
    ap (λ zs. newly held (admitted issuers zs)) (ap (λ n. take n certs) (add-one i) ∙ take_at certs i x at) ∙
    ap (newly held) (filter-append (λ (c : Certificate). not (is_withdrawn issuers c.issuer)) (take i certs) (x ∷ [])) ∙
    admitted_push held (admitted issuers (take i certs)) x (is_withdrawn issuers x.issuer) ∙
    ap (λ zs. cond (not (is_withdrawn issuers x.issuer) && not (among (held ++ zs) x)) (zs ++ x ∷ []) zs) (sym new) ∙ ap (λ t. cond t (news ++ x ∷ []) news) (sym is)
  where
    take_at : {X : Type 0} (xs : List X) (i : ℕ) (x : X) → slice_get xs i ≡ Some x → take (suc i) xs ≡ take i xs ++ x ∷ []
    take_at [] i x e = absurd cc
    take_at (y ∷ ys) zero x e = ap (λ z. z ∷ []) cc
    take_at (y ∷ ys) (suc i) x e = ap (λ zs. y ∷ zs) (take_at ys i x e)

-- equal certificates stay or go together
pub among_staying : (r : Removal) (certs : List Certificate) (c : Certificate) → among (filter (stays r) certs) c ≡ (stays r c && among certs c)
among_staying r certs c = any-filter_same (same_certificate c) (stays r) (stays r c) (λ d e. ap (stays r) (sym (same_certificate-true c d e))) certs

pub not_or : (a b m : Bool) → (not a && (not b && not m)) ≡ not ((a || b) || m)
not_or true b m = refl
not_or false true m = refl
not_or false false m = refl

pub found_at : (certs : List Certificate) (i : ℕ) (c : Certificate) → slice_get certs i ≡ Some c → filter_map (slice_get certs) (i ∷ []) ≡ c ∷ []
found_at certs i c e = ap (λ (o : Option Certificate). cons_option o []) e
