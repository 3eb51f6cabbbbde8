-- Look-ups by number in a list of keys, and with one key more.
use Rattle.std.proofs.Common.{◌≡◌, ℕ, Bool, true, false, cond, eqb, ◌||◌, List, [], ◌∷◌, ◌++◌, Option, Some, None, refl, sym, ap, ◌∙◌, arith, inl, inr, length-append}
use Rattle.std.specs.List.{list_any}
use Rattle.std.specs.Option.{is_some}
use Rattle.std.proofs.lemmas.Bool.{cases_eq}
use Rattle.std.proofs.lemmas.Bool.Decides.{nat_tests}
use Rattle.keyed_seal.specs.Keys.{Keys, AddsKey, key_of}
use Rattle.prin_text.specs.Held.{HoldsKeys}

-- ---- the first that passes a test

pub some_by : {A : Type 0} (x : A) (r : Option A) (rest : Bool) (b : Bool) → is_some r ≡ rest → is_some (cond b (Some x) r) ≡ (b || rest)
some_by x r rest true e = refl
some_by x r rest false e = e

pub find_past : {A : Type 0} (x : A) (r s : Option A) (b : Bool) → r ≡ s → cond b (Some x) r ≡ cond b (Some x) s
find_past x r s true e = refl
find_past x r s false e = e

pub find_here : {A : Type 0} (y x : A) (r : Option A) (rest b : Bool) → (b || rest) ≡ false → (rest ≡ false → r ≡ Some x) → cond b (Some y) r ≡ Some x
find_here y x r rest true e later = absurd cc
find_here y x r rest false e later = later e

-- ---- keys

pub is_some-key_of : (keys : List (ℕ × List ℕ)) (n : ℕ) → is_some (key_of keys n) ≡ list_any (λ (k : ℕ × List ℕ). eqb k.0 n) keys
is_some-key_of [] n = refl
is_some-key_of (k ∷ keys) n = some_by k.1 (key_of keys n) (list_any (λ (k : ℕ × List ℕ). eqb k.0 n) keys) (eqb k.0 n) (is_some-key_of keys n)

-- one more key, of another number
pub key_of-push_other : (keys : List (ℕ × List ℕ)) (number : ℕ) (key : List ℕ) (n : ℕ) → eqb number n ≡ false → key_of (keys ++ (number, key) ∷ []) n ≡ key_of keys n
key_of-push_other [] number key n other = rw other refl
key_of-push_other (k ∷ keys) number key n other = find_past k.1 (key_of (keys ++ (number, key) ∷ []) n) (key_of keys n) (eqb k.0 n) (key_of-push_other keys number key n other)

-- one more key, the first of its number
pub key_of-push_here : (keys : List (ℕ × List ℕ)) (number : ℕ) (key : List ℕ) (n : ℕ) → list_any (λ (k : ℕ × List ℕ). eqb k.0 n) keys ≡ false → eqb number n ≡ true → key_of (keys ++ (number, key) ∷ []) n ≡ Some key
key_of-push_here [] number key n none here = rw here refl
key_of-push_here (k ∷ keys) number key n none here = find_here k.1 key (key_of (keys ++ (number, key) ∷ []) n) (list_any (λ (k : ℕ × List ℕ). eqb k.0 n) keys) (eqb k.0 n) none (λ later. key_of-push_here keys number key n later here)

pub adds_key : (old new : Keys) (keys : List (ℕ × List ℕ)) (number : ℕ) (key : List ℕ) → HoldsKeys old keys → key_of old.entries number ≡ None → AddsKey old new number key → HoldsKeys new (keys ++ (number, key) ∷ [])
adds_key old new keys number key held is_new adds = record {
  each = λ n. elim (cases_eq n number) [
    | inl same ↦
        let none : list_any (λ (k : ℕ × List ℕ). eqb k.0 n) keys ≡ false = sym (is_some-key_of keys n) ∙ ap is_some (sym (held.each n) ∙ ap (key_of old.entries) same ∙ is_new) in
        let here : eqb number n ≡ true = grind (arith, nat_tests, same) in
        ap (key_of new.entries) same ∙ adds.this_key ∙ sym (key_of-push_here keys number key n none here)
    | inr other ↦
        let there : eqb number n ≡ false = grind (arith, nat_tests, other) in
        adds.other_keys n other ∙ held.each n ∙ sym (key_of-push_other keys number key n there)
  ];
  count = omega (arith, adds.count, held.count, length-append keys ((number, key) ∷ []));
}
