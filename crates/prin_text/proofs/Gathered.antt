-- Maps by number, in which rows are gathered: what a number finds, and the order of the entries.
use Rattle.std.proofs.Common.{◌≡◌, ◌≢◌, ℕ, ◌+◌, ◌<◌, cond, false, eqb, List, [], ◌∷◌, ◌++◌, Option, Some, None, Bor, BTreeMap, refl, sym, ap, ◌∙◌, arith, inl, inr}
use Rattle.std.specs.BTreeMap.{is_at, Updates, btree_map_len}
use Rattle.std.specs.List.{AllByRecursion}
use Rattle.std.specs.List.Sorted.{IsStrictlySortedBy}
use Rattle.std.specs.Map.{lookup, keys_of}
use Rattle.std.specs.Option.{option_copied, option_map}
use Rattle.std.specs.Ordering.{is_eq, nat_cmp}
use Rattle.std.specs.declared.cmp.Ordering.TheVariants.{Less}
use Rattle.std.proofs.lemmas.Bool.Decides.{nat_tests, eqb_tells}
use Rattle.std.proofs.lemmas.Cmp.{ranked}
use Rattle.std.proofs.lemmas.Map.Keys.{sorted_head, sorted_tail}
use Rattle.std.proofs.lemmas.Iterator.Adapters.{option_map_id}
use Rattle.byte_fields.specs.Rows.{value_of}
use Rattle.keyed_seal.specs.Keys.{AddsKey, Entries, Keys, key_of}
use Rattle.prin_text.specs.Held.{HoldsKeys}

-- two numbers compare alike where they are one
pub is_one : (n m : ℕ) → is_eq (nat_cmp n m) ≡ eqb m n
is_one n m = grind (arith, nat_tests)

pub is_other : (n m : ℕ) → m ≢ n → is_eq (nat_cmp n m) ≡ false
is_other n m other = is_one n m ∙ grind (arith, nat_tests, other)

module _ {V W : Type 0} (f : ℕ × V → W) where
  -- what a number finds among the entries is what the map has at it
  pub value_of-get : (es : List (ℕ × V)) (n : ℕ) → value_of (λ e. e.0) f es n ≡ option_map (λ v. f (n, v)) (lookup (is_at (nat_cmp n)) es)
  value_of-get [] n = refl
  value_of-get (e ∷ es) n = elim (eqb_tells e.0 n) [
    | inl same ↦
        ap (λ b. cond b (Some (f e)) (value_of (λ e. e.0) f es n)) same.0 ∙ ap (λ k. Some (f (k, e.1))) same.1
        ∙ sym (ap (λ b. option_map (λ v. f (n, v)) (cond b (Some e.1) (lookup (is_at (nat_cmp n)) es))) (is_one n e.0 ∙ same.0))
    | inr other ↦
        ap (λ b. cond b (Some (f e)) (value_of (λ e. e.0) f es n)) other.0 ∙ value_of-get es n
        ∙ sym (ap (λ b. option_map (λ v. f (n, v)) (cond b (Some e.1) (lookup (is_at (nat_cmp n)) es))) (is_one n e.0 ∙ other.0))
  ]

  -- an entry's number is greater than those before it
  less : (n : ℕ) (before rest : List (ℕ × V)) (e : ℕ × V) → AllByRecursion (λ y. nat_cmp n y ≡ Less) (keys_of (before ++ e ∷ rest)) → n < e.0
  less n [] rest e all = ranked n e.0 Less (sym all.0)
  less n (x ∷ before) rest e all = less n before rest e all.1

  pub value_of-before : (before rest : List (ℕ × V)) (e : ℕ × V) → IsStrictlySortedBy nat_cmp (keys_of (before ++ e ∷ rest)) → value_of (λ e. e.0) f before e.0 ≡ None
  value_of-before [] rest e sorted = refl
  value_of-before (x ∷ before) rest e sorted =
      let lt = less x.0 before rest e (sorted_head nat_cmp x.0 _ sorted) in
      grind (arith, nat_tests, lt, value_of-before before rest e (sorted_tail nat_cmp x.0 _ sorted))

-- what is seen of a value that the map lends
pub shown : {V W : Type 0} (f : V → W) (r : Option (Bor V)) → option_map (λ o. f o.now) r ≡ option_map f (option_copied r)
shown f None = refl
shown f (Some x) = refl

-- ---- keys

pub key_of-get : (es : Entries) (n : ℕ) → key_of es n ≡ lookup (is_at (nat_cmp n)) es
key_of-get es n = value_of-get (λ e. e.1) es n ∙ option_map_id _

-- one more key in a map adds it
pub gathers_key : (room : ℕ) (old new : BTreeMap ℕ (List ℕ)) (number : ℕ) (key : List ℕ) → Updates nat_cmp old new number (Some key) → btree_map_len new ≡ btree_map_len old + 1
    → AddsKey (record { room = room; entries = old.entries }) (record { room = room; entries = new.entries }) number key
gathers_key room old new number key updates count = record {
  this_key = key_of-get new.entries number ∙ updates.1;
  other_keys = λ n other. key_of-get new.entries n ∙ updates.2 n (is_other number n other) ∙ sym (key_of-get old.entries n);
  count = count;
  room = refl;
}

-- the next key of a map goes into a table that holds those before it
pub next_key : (table : Keys) (before rest : Entries) (number : ℕ) (key : List ℕ) → HoldsKeys table before → IsStrictlySortedBy nat_cmp (keys_of (before ++ (number, key) ∷ rest)) → key_of table.entries number ≡ None
next_key table before rest number key held sorted = held.each number ∙ value_of-before (λ e. e.1) before rest (number, key) sorted
