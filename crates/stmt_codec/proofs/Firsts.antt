-- A table that takes in principals in order holds each where it came first.
use Rattle.std.proofs.Common.{◌≡◌, inl, inr, Bool, true, false, not, ◌&&◌, ◌||◌, cond, List, [], ◌∷◌, ◌++◌, refl, sym, ap, ◌∙◌, append_assoc}
use Rattle.std.specs.Prelude.{filter}
use Rattle.std.specs.List.{list_any}
use Rattle.std.proofs.lemmas.List.{append-nil}
use Rattle.std.proofs.lemmas.List.Folds.{list_any-append}
use Rattle.std.proofs.lemmas.Bool.{cases_Bool, false≢true, true≢false, and_right}
use Rattle.prin_term.specs.Principal.{Principal}
use Rattle.stmt_codec.specs.Distinct.{same_principal, first_of_each, met}
use Rattle.stmt_codec.proofs.Same.{same_principal-true}

-- not yet in the table
abbrev pub is_new : List Principal → Principal → Bool
is_new table q = not (list_any (same_principal q) table)

by_tests : {X : Type 0} (f g h : X → Bool) (x : X) (xs : List X) (a b c : Bool) → g x ≡ a → f x ≡ b → h x ≡ c → (g x && f x) ≡ h x →
    filter f (filter g xs) ≡ filter h xs → filter f (cond a (x ∷ filter g xs) (filter g xs)) ≡ cond c (x ∷ filter h xs) (filter h xs)
by_tests f g h x xs true true true p q r s rest = rw q (ap (λ l. x ∷ l) rest)
by_tests f g h x xs true true false p q r s rest = let t : (true && true) ≡ h x = rw (p, q) at s in absurd (true≢false (t ∙ r))
by_tests f g h x xs true false true p q r s rest = let t : (true && false) ≡ h x = rw (p, q) at s in absurd (false≢true (t ∙ r))
by_tests f g h x xs true false false p q r s rest = rw q rest
by_tests f g h x xs false b true p q r s rest = let t : (false && f x) ≡ h x = rw p at s in absurd (false≢true (t ∙ r))
by_tests f g h x xs false b false p q r s rest = rest

filter_after : {X : Type 0} (f g h : X → Bool) → ((x : X) → (g x && f x) ≡ h x) → (xs : List X) → filter f (filter g xs) ≡ filter h xs
filter_after f g h agree [] = refl
filter_after f g h agree (x ∷ xs) = by_tests f g h x xs (g x) (f x) (h x) refl refl refl (agree x) (filter_after f g h agree xs)

pub met-there : (table : List Principal) (p : Principal) (ps : List Principal) → list_any (same_principal p) table ≡ true → met table (p ∷ ps) ≡ met table ps
met-there table p ps e = rw e refl

pub met-new : (table : List Principal) (p : Principal) (ps : List Principal) → list_any (same_principal p) table ≡ false → met table (p ∷ ps) ≡ met (table ++ p ∷ []) ps
met-new table p ps e = rw e refl

pub met-append : (table ps qs : List Principal) → met table (ps ++ qs) ≡ met (met table ps) qs
met-append table [] qs = refl
met-append table (p ∷ ps) qs = met-append (cond (list_any (same_principal p) table) table (table ++ p ∷ [])) ps qs

filter_all : {X : Type 0} (xs : List X) → filter (λ x. true) xs ≡ xs
filter_all [] = refl
filter_all (x ∷ xs) = ap (λ l. x ∷ l) (filter_all xs)

-- a principal that is in the table is not new
skips : (table : List Principal) (p x : Principal) → list_any (same_principal p) table ≡ true → (not (same_principal x p) && is_new table x) ≡ is_new table x
skips table p x there = elim (cases_Bool (same_principal x p)) [
  | inl alike ↦
      let e : x ≡ p = same_principal-true x p alike in
      let t : list_any (same_principal x) table ≡ true = rw e there in
      rw t (and_right (not (same_principal x p)) false refl)
  | inr other ↦ rw other refl
]

either : (s l : Bool) → (not s && not l) ≡ not (l || (s || false))
either true true = refl
either true false = refl
either false true = refl
either false false = refl

adds : (table : List Principal) (p x : Principal) → (not (same_principal x p) && is_new table x) ≡ is_new (table ++ p ∷ []) x
adds table p x = either (same_principal x p) (list_any (same_principal x) table) ∙ ap not (sym (list_any-append (same_principal x) table (p ∷ [])))

-- what was not in the table comes behind it
pub met-is : (table ps : List Principal) → met table ps ≡ table ++ filter (is_new table) (first_of_each ps)
met-is table [] = sym (append-nil table)
met-is table (p ∷ ps) = elim (cases_Bool (list_any (same_principal p) table)) [
  | inl there ↦
      rw there (met-is table ps ∙ ap (λ l. table ++ l) (sym (filter_after (is_new table) (λ x. not (same_principal x p)) (is_new table) (λ x. skips table p x there) (first_of_each ps))))
  | inr new ↦
      rw new (met-is (table ++ p ∷ []) ps ∙ append_assoc table (p ∷ []) (filter (is_new (table ++ p ∷ [])) (first_of_each ps)) ∙
      ap (λ l. table ++ p ∷ l) (sym (filter_after (is_new table) (λ x. not (same_principal x p)) (is_new (table ++ p ∷ [])) (adds table p) (first_of_each ps))))
]

pub first_of_each-met : (ps : List Principal) → met [] ps ≡ first_of_each ps
first_of_each-met ps = met-is [] ps ∙ filter_all (first_of_each ps)

-- a table only grows
pub met-grows : (table ps : List Principal) → (more : List Principal) × (met table ps ≡ table ++ more)
met-grows table ps = (filter (is_new table) (first_of_each ps), met-is table ps)
