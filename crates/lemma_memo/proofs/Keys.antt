-- The list of lemmas, as the cache of what is kept changes.
use Rattle.std.proofs.Common.{◌≡◌, ◌≢◌, ℕ, zero, suc, ◌+◌, ◌-◌, ◌<◌, Bool, true, false, not, cond, List, [], ◌∷◌, map, length, take, filter, AllPairs, Option, Some, None, Contains, refl, sym, ap, subst, ◌∙◌, arith}
use Rattle.std.specs.List.{IsDistinct, AllByRecursion}
use Rattle.std.specs.Prelude.{bytes_eq}
use Rattle.std.specs.Cmp.Lexicographic.{same_text}
use Rattle.std.specs.Map.{keys_of, lookup, lookup_entry, remove_entry}
use Rattle.std.specs.Option.{option_map_or}
use Rattle.std.proofs.lemmas.List.{length-map, take-map, take_all}
use Rattle.std.proofs.lemmas.Map.Keys.{IsDistinct-head, IsDistinct-tail}
use Rattle.std.proofs.lemmas.Map.Made.{AllPairs-from_IsDistinct}
use Rattle.std.proofs.lemmas.Option.{none-some, same_Some}
use Rattle.std.proofs.lemmas.Slice.Eq.{bytes_eq-Decides}
use Rattle.lru.specs.LruCache.{LruCache, IsValid, promoted, put_entries}
use Rattle.lemma_memo.specs.Memory.{Lemma, lemma_key, in_front}
use Rattle.lemma_memo.proofs.Lists.{contains_head, contains_tail}

-- ---- the first entry of a key, and the others

module _ {K V : Type 0} (test : K → Bool) where
  pub entry_of : (es : List (K × V)) (v : V) → lookup test es ≡ Some v → (e : K × V) × (lookup_entry test es ≡ Some e) × (e.1 ≡ v)
  entry_of [] v h = absurd (none-some v h)
  entry_of (e ∷ es) v h = (elim (test e.0) as (λ b. cond b (Some e.1) (lookup test es) ≡ Some v → (f : K × V) × (cond b (Some e) (lookup_entry test es) ≡ Some f) × (f.1 ≡ v)) [
    | true ↦ λ q. (e, refl, same_Some e.1 v q)
    | false ↦ λ q. entry_of es v q
  ]) h

  pub one_less : (es : List (K × V)) (e : K × V) → lookup_entry test es ≡ Some e → length (remove_entry test es) + 1 ≡ length es
  one_less [] e h = absurd (none-some e h)
  one_less (f ∷ es) e h = (elim (test f.0) as (λ b. cond b (Some f) (lookup_entry test es) ≡ Some e → length (cond b es (f ∷ remove_entry test es)) + 1 ≡ length (f ∷ es)) [
    | true ↦ λ q. omega arith
    | false ↦ λ q. omega (arith, one_less es e q)
  ]) h

  pub none_removed : (es : List (K × V)) → lookup_entry test es ≡ None → remove_entry test es ≡ es
  none_removed [] h = refl
  none_removed (f ∷ es) h = (elim (test f.0) as (λ b. cond b (Some f) (lookup_entry test es) ≡ None → cond b es (f ∷ remove_entry test es) ≡ f ∷ es) [
    | true ↦ λ q. absurd (none-some f (sym q))
    | false ↦ λ q. ap (λ l. f ∷ l) (none_removed es q)
  ]) h

pub take_front : {X : Type 0} (n : ℕ) (x : X) (xs : List X) → 0 < n → take n (x ∷ xs) ≡ x ∷ take (n - 1) xs
take_front zero x xs h = absurd (omega arith)
take_front (suc n) x xs h = let e : suc n - 1 ≡ n = omega arith in ap (λ k. x ∷ take k xs) (sym e)

-- ---- lemmas by keys

module _ {V : Type 0} (of : V → Lemma) where
  -- each entry's key is that of its lemma
  abbrev pub AreOf : List (List ℕ × V) → Type 0
  AreOf es = (e : List ℕ × V) → Contains es e → e.0 ≡ lemma_key (of e.1)

  abbrev pub lemmas : List (List ℕ × V) → List Lemma
  lemmas es = map (λ (e : List ℕ × V). of e.1) es

  abbrev others : List ℕ → List Lemma → List Lemma
  others key ls = filter (λ m. not (bytes_eq key (lemma_key m))) ls

  rest_of : (e : List ℕ × V) (es : List (List ℕ × V)) → AreOf (e ∷ es) → AreOf es
  rest_of e es keyed = λ f has. keyed f (contains_tail e f es has)

  -- the head's key, as its lemma has it
  head_test : (key : List ℕ) (e : List ℕ × V) (es : List (List ℕ × V)) (b : Bool) → AreOf (e ∷ es) → bytes_eq key e.0 ≡ b → bytes_eq key (lemma_key (of e.1)) ≡ b
  head_test key e es b keyed t = ap (bytes_eq key) (sym (keyed e (contains_head e es))) ∙ t

  all_others : (key : List ℕ) (es : List (List ℕ × V)) → AreOf es → AllByRecursion (λ k. bytes_eq key k ≡ false) (keys_of es) → others key (lemmas es) ≡ lemmas es
  all_others key [] keyed h = refl
  all_others key (e ∷ es) keyed h =
      ap (λ b. cond (not b) (of e.1 ∷ others key (lemmas es)) (others key (lemmas es))) (head_test key e es false keyed h.0)
      ∙ ap (λ l. of e.1 ∷ l) (all_others key es (rest_of e es keyed) h.1)

  -- those of other keys are those that stay when the entry of the key goes
  others_are : (key : List ℕ) (es : List (List ℕ × V)) → AreOf es → IsDistinct bytes_eq (keys_of es) → others key (lemmas es) ≡ lemmas (remove_entry (bytes_eq key) es)
  others_are key [] keyed apart = refl
  others_are key (e ∷ es) keyed apart = (elim (bytes_eq key e.0) as (λ b. bytes_eq key e.0 ≡ b → others key (lemmas (e ∷ es)) ≡ lemmas (cond b es (e ∷ remove_entry (bytes_eq key) es))) [
    | true ↦ λ t.
        let same : key ≡ e.0 = same_text key e.0 (sym t) in
        ap (λ b. cond (not b) (of e.1 ∷ others key (lemmas es)) (others key (lemmas es))) (head_test key e es true keyed t)
        ∙ all_others key es (rest_of e es keyed) (subst (λ k. AllByRecursion (λ j. bytes_eq k j ≡ false) (keys_of es)) (sym same) (IsDistinct-head bytes_eq e.0 (keys_of es) apart))
    | false ↦ λ t.
        ap (λ b. cond (not b) (of e.1 ∷ others key (lemmas es)) (others key (lemmas es))) (head_test key e es false keyed t)
        ∙ ap (λ l. of e.1 ∷ l) (others_are key es (rest_of e es keyed) (IsDistinct-tail bytes_eq e.0 (keys_of es) apart))
  ]) refl

  module _ (c : LruCache (List ℕ) V) (valid : IsValid bytes_eq c) (keyed : AreOf c.entries) where
    -- in front of what stays when its entry goes
    front_of : (l : Lemma) → in_front c.cap l (lemmas c.entries) ≡ l ∷ take (c.cap - 1) (lemmas (remove_entry (bytes_eq (lemma_key l)) c.entries))
    front_of l =
        take_front c.cap l (others (lemma_key l) (lemmas c.entries)) valid.2
        ∙ ap (λ ls. l ∷ take (c.cap - 1) ls) (others_are (lemma_key l) c.entries keyed valid.0)

    front_found : (l : Lemma) (e : List ℕ × V) → lookup_entry (bytes_eq (lemma_key l)) c.entries ≡ Some e → in_front c.cap l (lemmas c.entries) ≡ l ∷ lemmas (remove_entry (bytes_eq (lemma_key l)) c.entries)
    front_found l e at =
        let less = one_less (bytes_eq (lemma_key l)) c.entries e at in
        let more = length-map (remove_entry (bytes_eq (lemma_key l)) c.entries) (λ (f : List ℕ × V). of f.1) in
        front_of l ∙ ap (λ ls. l ∷ ls) (take_all (c.cap - 1) (lemmas (remove_entry (bytes_eq (lemma_key l)) c.entries)) (omega (arith, less, more, valid.1)))

    -- the lemma of the key goes first
    pub promoted_front : (v : V) → lookup (bytes_eq (lemma_key (of v))) c.entries ≡ Some v → lemmas (promoted (bytes_eq (lemma_key (of v))) c.entries) ≡ in_front c.cap (of v) (lemmas c.entries)
    promoted_front v found =
        let test = bytes_eq (lemma_key (of v)) in
        let (e, at, is) = entry_of test c.entries v found in
        ap (λ o. lemmas (option_map_or (λ f. f ∷ remove_entry test c.entries) o c.entries)) at
        ∙ (ap (λ w. of w ∷ lemmas (remove_entry test c.entries)) is ∙ sym (front_found (of v) e at))

    -- a lemma that comes goes first
    pub put_front : (v : V) → lemmas (put_entries bytes_eq c (lemma_key (of v)) v) ≡ in_front c.cap (of v) (lemmas c.entries)
    put_front v = by_entry (lookup_entry (bytes_eq (lemma_key (of v))) c.entries) refl
      where
        by_entry : (o : Option (List ℕ × V)) → lookup_entry (bytes_eq (lemma_key (of v))) c.entries ≡ o →
            lemmas (option_map_or (λ e. (e.0, v) ∷ remove_entry (bytes_eq (lemma_key (of v))) c.entries) o ((lemma_key (of v), v) ∷ take (c.cap - 1) c.entries)) ≡ in_front c.cap (of v) (lemmas c.entries)
        by_entry (Some e) at = sym (front_found (of v) e at)
        by_entry None at =
            ap (λ ls. of v ∷ ls) (sym (take-map (λ (e : List ℕ × V). of e.1) (c.cap - 1) c.entries))
            ∙ (ap (λ es. of v ∷ take (c.cap - 1) (lemmas es)) (sym (none_removed (bytes_eq (lemma_key (of v))) c.entries at)) ∙ sym (front_of (of v)))

    -- the keys of the lemmas are those of the entries
    keys_are : (es : List (List ℕ × V)) → AreOf es → map lemma_key (lemmas es) ≡ keys_of es
    keys_are [] of_es = refl
    keys_are (e ∷ es) of_es = ap (λ k. k ∷ map lemma_key (lemmas es)) (sym (of_es e (contains_head e es))) ∙ ap (λ ks. e.0 ∷ ks) (keys_are es (rest_of e es of_es))

    pub keys_apart : AllPairs (λ k j. k ≢ j) (map lemma_key (lemmas c.entries))
    keys_apart = subst (AllPairs (λ k j. k ≢ j)) (sym (keys_are c.entries keyed)) (AllPairs-from_IsDistinct bytes_eq-Decides (keys_of c.entries) valid.0)
