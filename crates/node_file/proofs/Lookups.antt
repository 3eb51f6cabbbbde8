-- Look-ups by number, in a list and in what the program keeps in its place.
use Rattle.std.proofs.Common.{◌≡◌, ℕ, Bool, true, false, cond, eqb, not, List, [], ◌∷◌, ◌++◌, Option, Some, None, Ok, Err, refl, sym, ap, ◌∙◌, arith, inl, inr, length-append}
use Rattle.std.specs.Prelude.{find}
use Rattle.std.specs.List.{list_any}
use Rattle.std.specs.Option.{is_some, option_map}
use Rattle.std.specs.Int.{w32}
use Rattle.std.proofs.lemmas.Bool.{cases_eq}
use Rattle.std.proofs.lemmas.Bool.Decides.{nat_tests}
use Rattle.keyed_seal.specs.Keys.{Keys}
use Rattle.byte_fields.specs.Steps.{number_at}
use Rattle.byte_fields.specs.declared.fault.FormatFault.TheVariants.{Malformed}
use Rattle.byte_fields.specs.Formats.{ended}
use Rattle.object_core.specs.Objects.{ObjectPlan, object_of}
use Rattle.node_file.specs.Opening.{key_of}
use Rattle.node_file.specs.OpeningReading.{new_channel_at, new_object_at}
use Rattle.prin_text.specs.Held.{HoldsKeys}
use Rattle.prin_text.proofs.KeyLookups.{find_here, find_past, is_some-key_of, some_by}
use Rattle.node_file.specs.Plans.{AddsPlan, HoldsPlans}

-- ---- the first that passes a test

pub is_some-find : {A : Type 0} (test : A → Bool) (xs : List A) → is_some (find test xs) ≡ list_any test xs
is_some-find test [] = refl
is_some-find test (x ∷ xs) = some_by x (find test xs) (list_any test xs) (test x) (is_some-find test xs)

-- one more item that does not pass
pub find-push_other : {A : Type 0} (test : A → Bool) (xs : List A) (x : A) → test x ≡ false → find test (xs ++ x ∷ []) ≡ find test xs
find-push_other test [] x other = rw other refl
find-push_other test (y ∷ xs) x other = find_past y (find test (xs ++ x ∷ [])) (find test xs) (test y) (find-push_other test xs x other)

-- one more item that is the first to pass
pub find-push_here : {A : Type 0} (test : A → Bool) (xs : List A) (x : A) → list_any test xs ≡ false → test x ≡ true → find test (xs ++ x ∷ []) ≡ Some x
find-push_here test [] x none here = rw here refl
find-push_here test (y ∷ xs) x none here = find_here y x (find test (xs ++ x ∷ [])) (list_any test xs) (test y) none (λ later. find-push_here test xs x later here)

pub some_map : {A B : Type 0} (f : A → B) (o : Option A) → is_some (option_map f o) ≡ is_some o
some_map f None = refl
some_map f (Some x) = refl

turned : {A : Type 0} (b : Bool) (x y : A) → cond (not b) x y ≡ cond b y x
turned true x y = refl
turned false x y = refl

-- ---- channels

-- the number of a channel is refused where the table has it
pub channel_number : (bytes : List ℕ) (before : List (ℕ × List ℕ)) (at : ℕ) (table : Keys) (x : ℕ × ℕ) (b : Bool) → HoldsKeys table before → number_at (ended bytes) w32 bytes at ≡ Ok x → is_some (key_of table.entries x.0) ≡ b
    → new_channel_at bytes before at ≡ cond b (Err (Malformed at)) (Ok x)
unfolding new_channel_at
channel_number bytes before at table x b held read is =
    let there : list_any (λ (k : ℕ × List ℕ). eqb k.0 x.0) before ≡ b = sym (is_some-key_of before x.0) ∙ ap is_some (sym (held.each x.0)) ∙ is in
    rw (read, there) (turned b (Ok x) (Err (Malformed at)))

-- ---- objects

-- the number of an object is refused where it is there
pub object_number : (bytes : List ℕ) (before : List ObjectPlan) (at : ℕ) (plans : List ObjectPlan) (x : ℕ × ℕ) (b : Bool) → HoldsPlans plans before → number_at (ended bytes) w32 bytes at ≡ Ok x → is_some (object_of plans x.0) ≡ b
    → new_object_at bytes before at ≡ cond b (Err (Malformed at)) (Ok x)
unfolding new_object_at
object_number bytes before at plans x b held read is =
    let there : list_any (λ (p : ObjectPlan). eqb p.number x.0) before ≡ b = sym (is_some-find (λ (p : ObjectPlan). eqb p.number x.0) before) ∙ ap is_some (sym (held.each x.0)) ∙ is in
    rw (read, there) (turned b (Ok x) (Err (Malformed at)))

pub adds_plan : (old new plans : List ObjectPlan) (p : ObjectPlan) → HoldsPlans old plans → object_of old p.number ≡ None → AddsPlan old new p → HoldsPlans new (plans ++ p ∷ [])
adds_plan old new plans p held is_new adds = record {
  each = λ n. elim (cases_eq n p.number) [
    | inl same ↦
        let none : list_any (λ (q : ObjectPlan). eqb q.number n) plans ≡ false = sym (is_some-find (λ (q : ObjectPlan). eqb q.number n) plans) ∙ ap is_some (sym (held.each n) ∙ ap (object_of old) same ∙ is_new) in
        let here : eqb p.number n ≡ true = grind (arith, nat_tests, same) in
        ap (object_of new) same ∙ adds.this_plan ∙ sym (find-push_here (λ (q : ObjectPlan). eqb q.number n) plans p none here)
    | inr other ↦
        let there : eqb p.number n ≡ false = grind (arith, nat_tests, other) in
        adds.other_plans n other ∙ held.each n ∙ sym (find-push_other (λ (q : ObjectPlan). eqb q.number n) plans p there)
  ];
  count = omega (arith, adds.count, held.count, length-append plans (p ∷ []));
}
