-- What an opening opens.
use Rattle.std.proofs.Common.{◌≡◌, ℕ, zero, suc, ◌+◌, ◌<◌, Bool, true, false, List, [], ◌∷◌, ◌++◌, length, map, take, get_or, None, Some, slice_get, refl, sym, ap, ap₂, subst, ◌∙◌, arith, inl, inr}
use Rattle.std.specs.Prelude.{AllPairs, Contains, IsSome, Option, cond, if◌then◌else◌, ◌==◌, ◌≢◌}
use Rattle.std.specs.List.Sorted.{IsStrictlyIncreasing}
use Rattle.std.specs.Option.{option_map}
use Rattle.std.proofs.lemmas.Bool.{cases_Bool, eqb-true, eq-eqb}
use Rattle.std.proofs.lemmas.List.{get_or-map, length-map, map_push, take_more}
use Rattle.std.proofs.lemmas.Option.{get_or_from_slice_get, none-some, slice_get_cases, slice_get_within}
use Rattle.keyed_seal.specs.Keys.{Entries, Keys, IsKeyTable, key_of, number_at}
use Rattle.object_core.specs.Objects.{object_of, ObjectPlan, ObjectSeen}
use Rattle.object_core.specs.Shelving.{ObjectFixed, HaveOwnNumbers, fixed_at, fixed_of, numbers_of as object_numbers}
use Rattle.node_file.specs.declared.opening.Opening as code
use Rattle.node_file.specs.Plans.{AreByNumber, number_at as plan_number}
use Rattle.node_file.specs.Opening.{FitsObject, Opening}
use Rattle.node_file.specs.OpeningView.{Represents}
use Rattle.node_file.specs.Meaning.{opening, FitsByNumber}
use Rattle.node_file.proofs.ByNumber.{nothing, object_of-at}
use Rattle.node_file.proofs.Listed.{same_node}
use Rattle.agent_core.specs.Opened.{MayOpen}
use Rattle.shard_core.specs.Cells.{AllFit, AreCellsOf, cells_of, fixed_with, its_plans, new_object, numbers_of}

-- ---- objects

-- an object at its place is within the limits, if each that a look-up finds is
pub plan_fits : (objects : List ObjectPlan) → AreByNumber objects → AllFit objects → (i : ℕ) (p : ObjectPlan) → slice_get objects i ≡ Some p → FitsObject p
plan_fits objects up fit i p at =
    fit (plan_number objects i) p
    (object_of-at objects up (plan_number objects i) i (record { in_range = slice_get_within objects i p at; has_number = refl }) ∙ ap Some (get_or_from_slice_get objects i p nothing at))

-- objects with empty journals
module _ (limit : ℕ) where
  abbrev pub opened : List ObjectPlan → List ObjectSeen
  opened plans = map (new_object limit) plans

  pub one_object_more : (plans : List ObjectPlan) (place : ℕ) (p : ObjectPlan) → slice_get plans place ≡ Some p → map (new_object limit) (take place plans) ++ new_object limit p ∷ [] ≡ map (new_object limit) (take (place + 1) plans)
  one_object_more plans place p at =
      sym (ap (map (new_object limit)) (take_more plans place p (slice_get_within plans place p at) ∙ ap (λ x. take place plans ++ x ∷ []) (get_or_from_slice_get plans place p p at))
      ∙ map_push (new_object limit) (take place plans) p)

  new_numbers : (plans : List ObjectPlan) → object_numbers (map fixed_of (map (new_object limit) plans)) ≡ map (λ (p : ObjectPlan). p.number) plans
  new_numbers [] = refl
  new_numbers (p ∷ plans) = ap (λ (l : List ℕ). p.number ∷ l) (new_numbers plans)

  pub are_apart : (plans : List ObjectPlan) → AreByNumber plans → HaveOwnNumbers (map fixed_of (map (new_object limit) plans))
  are_apart plans up =
      subst (AllPairs (λ (m : ℕ) (n : ℕ). m ≢ n)) (sym (new_numbers plans))
      (λ i j d lt within same.
      let second : j < length plans = omega (arith, within, length-map plans (λ (p : ObjectPlan). p.number)) in
      let at_i = get_or-map (λ (p : ObjectPlan). p.number) plans i nothing d (omega (arith, lt, second)) in
      let at_j = get_or-map (λ (p : ObjectPlan). p.number) plans j nothing d second in
      omega (arith, up i j lt second, at_i, at_j, same))

  pub objects_ascend : (plans : List ObjectPlan) → AreByNumber plans → IsStrictlyIncreasing (object_numbers (map fixed_of (map (new_object limit) plans)))
  objects_ascend plans up =
      subst IsStrictlyIncreasing (sym (new_numbers plans))
      (λ k lt.
      let second : k + 1 < length plans = omega (arith, lt, length-map plans (λ (p : ObjectPlan). p.number)) in
      let at = get_or-map (λ (p : ObjectPlan). p.number) plans k nothing 0 (omega (arith, second)) in
      let next = get_or-map (λ (p : ObjectPlan). p.number) plans (k + 1) nothing 0 second in
      omega (arith, up k (k + 1) (omega arith) second, at, next))

  found_new : (b : Bool) (p : ObjectPlan) (found : Option ObjectFixed) (plan : Option ObjectPlan) → found ≡ option_map (fixed_with limit) plan → cond b (Some (fixed_with limit p)) found ≡ option_map (fixed_with limit) (cond b (Some p) plan)
  found_new true p found plan e = refl
  found_new false p found plan e = e

  pub fixed_new : (plans : List ObjectPlan) (number : ℕ) → fixed_at (map fixed_of (map (new_object limit) plans)) number ≡ option_map (fixed_with limit) (object_of plans number)
  fixed_new [] number = refl
  fixed_new (p ∷ plans) number = found_new (p.number == number) p (fixed_at (map fixed_of (map (new_object limit) plans)) number) (object_of plans number) (fixed_new plans number)

-- ---- channels

-- one number more was taken
pub one_number_more : (entries : Entries) (place : ℕ) (e : ℕ × List ℕ) → slice_get entries place ≡ Some e → numbers_of (take place entries) ++ e.0 ∷ [] ≡ numbers_of (take (place + 1) entries)
one_number_more entries place e at =
    sym (ap numbers_of (take_more entries place e (slice_get_within entries place e at) ∙ ap (λ x. take place entries ++ x ∷ []) (get_or_from_slice_get entries place e e at))
    ∙ map_push (λ (c : ℕ × List ℕ). c.0) (take place entries) e)

pub none_within : {X : Type 0} (entries : List X) (place : ℕ) → None ≡ slice_get entries place → place < length entries → ⊥
none_within entries place none within = elim ((slice_get_cases entries place).1) [
  | inl has ↦ none-some has.0 (none ∙ has.2)
  | inr past ↦ omega (arith, within, past.0)
]

pub numbers_ascend : (keys : Keys) → IsKeyTable keys → IsStrictlyIncreasing (numbers_of keys.entries)
numbers_ascend keys sound k lt =
    let count : length (numbers_of keys.entries) ≡ length keys.entries = length-map keys.entries (λ (c : ℕ × List ℕ). c.0) in
    let here : get_or (numbers_of keys.entries) k 0 ≡ number_at keys.entries k = get_or-map (λ (c : ℕ × List ℕ). c.0) keys.entries k (0, []) 0 (omega (arith, lt, count)) in
    let next : get_or (numbers_of keys.entries) (k + 1) 0 ≡ number_at keys.entries (k + 1) = get_or-map (λ (c : ℕ × List ℕ). c.0) keys.entries (k + 1) (0, []) 0 (omega (arith, lt, count)) in
    subst (λ a. a < get_or (numbers_of keys.entries) (k + 1) 0) (sym here)
    (subst (λ b. number_at keys.entries k < b) (sym next) (sound.ascending k (k + 1) (omega arith) (omega (arith, lt, count))))

pub may_open : (node : code.Opening) (channels : List ℕ) → FitsByNumber (opening node) → IsKeyTable node.channels → channels ≡ numbers_of node.channels.entries →
    MayOpen channels node.shards (opening node).anchors (opening node).commons node.limit
may_open node channels fits sound are = record {
  some_shards = fits.shards.0;
  few_shards = fits.shards.1;
  ascending = subst IsStrictlyIncreasing (sym are) (numbers_ascend node.channels sound);
  few_channels = omega (arith, ap (λ (l : List ℕ). length l) are, length-map node.channels.entries (λ (c : ℕ × List ℕ). c.0), fits.few_channels);
  few_anchors = fits.few_anchors;
  few_commons = fits.few_commons;
  short = fits.limit;
}

pub same_plans : (a b : Opening) (channels : Entries) → a.shards ≡ b.shards → a.anchors ≡ b.anchors → a.commons ≡ b.commons → a.keep ≡ b.keep → a.limit ≡ b.limit →
    its_plans a channels ≡ its_plans b channels
same_plans a b channels shards anchors commons keep limit = rw (shards, anchors, commons, keep, limit) refl

-- ---- what is opened

chosen : (b : Bool) (key : List ℕ) (rest : Option (List ℕ)) → b ≡ false → IsSome (if b then Some key else rest) → IsSome rest
chosen true key rest e h = cc
chosen false key rest e h = h

-- a number that has a key is listed, and one that is listed has a key
has_number : (entries : Entries) (number : ℕ) → IsSome (key_of entries number) → Contains (numbers_of entries) number
has_number [] number h = cc
has_number ((n, key) ∷ rest) number h = elim (cases_Bool (n == number)) [
  | inl e ↦ (0, omega arith, eqb-true n number e)
  | inr e ↦ let there = has_number rest number (chosen (n == number) key (key_of rest number) e h) in
      (suc there.0, omega (arith, there.1), there.2)
]

some_first : (b : Bool) (key : List ℕ) (rest : Option (List ℕ)) → IsSome rest → IsSome (if b then Some key else rest)
some_first true key rest h = refl
some_first false key rest h = h

here_too : (n number : ℕ) (key : List ℕ) (rest : Option (List ℕ)) → n ≡ number → IsSome (if n == number then Some key else rest)
here_too n number key rest e = subst (λ (b : Bool). IsSome (if b then Some key else rest)) (sym (eq-eqb n number e)) refl

has_key : (entries : Entries) (number : ℕ) → Contains (numbers_of entries) number → IsSome (key_of entries number)
has_key [] number (k, within, is) = absurd (omega (arith, within))
has_key ((n, key) ∷ rest) number (zero, within, is) = here_too n number key (key_of rest number) is
has_key ((n, key) ∷ rest) number (suc k, within, is) = some_first (n == number) key (key_of rest number) (has_key rest number (k, omega (arith, within), is))

pub cells_are_of : (node : code.Opening) (o : Opening) → Represents node o → IsKeyTable node.channels → AreByNumber node.objects → AreCellsOf o (cells_of node)
cells_are_of node o r sound up = record {
  channels = numbers_of node.channels.entries;
  ascending = numbers_ascend node.channels sound;
  have_keys = λ n. (
    λ there. subst (λ k. IsSome k) (r.channels.each n) (has_key node.channels.entries n there),
    λ some. has_number node.channels.entries n (subst (λ k. IsSome k) (sym (r.channels.each n)) some),
  );
  plans = same_plans (opening node) o node.channels.entries r.shards r.anchors r.commons r.keep r.limit;
  objects = λ n. fixed_new node.limit node.objects n ∙ ap₂ (λ (l : ℕ) (p : Option ObjectPlan). option_map (fixed_with l) p) r.limit ((same_node node o r).objects n);
  by_number = objects_ascend node.limit node.objects up;
}
