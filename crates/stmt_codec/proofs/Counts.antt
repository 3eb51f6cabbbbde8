-- How many principals stand in a list, each counted once.
use Rattle.std.proofs.Common.{◌≡◌, ◌≢◌, suc, ◌≤◌, Bool, true, false, not, cond, List, [], ◌∷◌, ◌++◌, length, refl, sym, ap, subst, ◌∙◌, arith, inl, inr, All}
use Rattle.std.specs.Prelude.{filter}
use Rattle.std.specs.List.{list_any}
use Rattle.std.proofs.lemmas.List.Elements.{All-filter, All-weaker, All-head, All-tail, filter_passes}
use Rattle.std.proofs.lemmas.Bool.{cases_Bool, false≢true, true≢false, both_ways, not-true}
use Rattle.prin_term.specs.Principal.{Principal}
use Rattle.stmt_codec.specs.Distinct.{same_principal, first_of_each, met}
use Rattle.stmt_codec.proofs.Same.{same_principal-true, same_principal-itself}
use Rattle.stmt_codec.proofs.Firsts.{met-append, first_of_each-met}

-- no element comes again
abbrev pub Apart : List Principal → Type 0
Apart [] = Unit {0}
Apart (p ∷ ps) = All (λ q. q ≢ p) ps × Apart ps

Apart-cond : (b : Bool) (p : Principal) (xs : List Principal) → All (λ q. q ≢ p) xs → Apart xs → Apart (cond b (p ∷ xs) xs)
Apart-cond true p xs h a = (h, a)
Apart-cond false p xs h a = a

pub Apart-filter : (t : Principal → Bool) (ps : List Principal) → Apart ps → Apart (filter t ps)
Apart-filter t [] a = tt
Apart-filter t (p ∷ ps) a = Apart-cond (t p) p (filter t ps) (All-filter t (λ q. q ≢ p) ps a.0) (Apart-filter t ps a.1)

differs : (p q : Principal) → not (same_principal q p) ≡ true → q ≢ p
differs p q t e = both_ways (same_principal q p) (not-true (same_principal q p) t) (subst (λ (x : Principal). same_principal q x ≡ true) e (same_principal-itself q))

pub Apart-first_of_each : (ps : List Principal) → Apart (first_of_each ps)
Apart-first_of_each [] = tt
Apart-first_of_each (p ∷ ps) = (
  All-weaker (λ q. not (same_principal q p) ≡ true) (λ q. q ≢ p) (differs p) (filter (λ q. not (same_principal q p)) (first_of_each ps))
      (filter_passes (λ q. not (same_principal q p)) (first_of_each ps)),
  Apart-filter (λ q. not (same_principal q p)) (first_of_each ps) (Apart-first_of_each ps),
)

same_principal-sym : (p q : Principal) → same_principal p q ≡ same_principal q p
same_principal-sym p q = elim (cases_Bool (same_principal p q)) [
  | inl alike ↦ ap (λ (x : Principal). same_principal p x) (sym (same_principal-true p q alike)) ∙ ap (λ (x : Principal). same_principal x p) (same_principal-true p q alike)
  | inr other ↦ elim (cases_Bool (same_principal q p)) [
    | inl back ↦ absurd (false≢true (sym other ∙ subst (λ (x : Principal). same_principal x q ≡ true) (same_principal-true q p back) (same_principal-itself q)))
    | inr different ↦ other ∙ sym different
  ]
]

not_in : (p : Principal) (ys : List Principal) → All (λ q. q ≢ p) ys → filter (λ q. not (same_principal q p)) ys ≡ ys
not_in p [] h = refl
not_in p (y ∷ ys) h = elim (cases_Bool (same_principal y p)) [
  | inl alike ↦ absurd (All-head (λ q. q ≢ p) y ys h (same_principal-true y p alike))
  | inr other ↦ rw other (ap (λ l. y ∷ l) (not_in p ys (All-tail (λ q. q ≢ p) y ys h)))
]

none_same : (p : Principal) (ys : List Principal) → list_any (same_principal p) ys ≡ false → filter (λ q. not (same_principal q p)) ys ≡ ys
none_same p [] h = refl
none_same p (y ∷ ys) h = elim (cases_Bool (same_principal y p)) [
  | inl alike ↦ let there : same_principal p y ≡ true = same_principal-sym p y ∙ alike in let t : true ≡ false = rw there at h in absurd (true≢false t)
  | inr other ↦ let away : same_principal p y ≡ false = same_principal-sym p y ∙ other in let t : list_any (same_principal p) ys ≡ false = rw away at h in rw other (ap (λ l. y ∷ l) (none_same p ys t))
]

one_same : (p : Principal) (ys : List Principal) → Apart ys → list_any (same_principal p) ys ≡ true → suc (length (filter (λ q. not (same_principal q p)) ys)) ≡ length ys
one_same p [] a h = absurd (false≢true h)
one_same p (y ∷ ys) a h = elim (cases_Bool (same_principal y p)) [
  | inl alike ↦ rw alike (ap (λ (l : List Principal). suc (length l)) (not_in p ys (subst (λ (x : Principal). All (λ q. q ≢ x) ys) (same_principal-true y p alike) a.0)))
  | inr other ↦ let away : same_principal p y ≡ false = same_principal-sym p y ∙ other in let t : list_any (same_principal p) ys ≡ true = rw away at h in rw other (ap suc (one_same p ys a.1 t))
]

-- one more principal in front counts where it is not among the others
pub length-there : (p : Principal) (xs : List Principal) → list_any (same_principal p) (first_of_each xs) ≡ true → length (first_of_each (p ∷ xs)) ≡ length (first_of_each xs)
length-there p xs h = one_same p (first_of_each xs) (Apart-first_of_each xs) h

pub length-new : (p : Principal) (xs : List Principal) → list_any (same_principal p) (first_of_each xs) ≡ false → length (first_of_each (p ∷ xs)) ≡ suc (length (first_of_each xs))
length-new p xs h = ap (λ (l : List Principal). suc (length l)) (none_same p (first_of_each xs) h)

pub length-more : (p : Principal) (xs : List Principal) → length (first_of_each xs) ≤ length (first_of_each (p ∷ xs))
length-more p xs = elim (cases_Bool (list_any (same_principal p) (first_of_each xs))) [
  | inl there ↦ omega (arith, length-there p xs there)
  | inr new ↦ omega (arith, length-new p xs new)
]

-- what was met in two turns
pub met-twice : (table xs ys : List Principal) → table ≡ met [] xs → met table ys ≡ first_of_each (xs ++ ys)
met-twice table xs ys e = ap (λ (t : List Principal). met t ys) e ∙ sym (met-append [] xs ys) ∙ first_of_each-met (xs ++ ys)
