-- Journals that grow.
use Rattle.std.proofs.Common.{◌≡◌, ℕ, ◌+◌, ◌<◌, ◌≤◌, List, [], ◌∷◌, ◌++◌, length, refl, sym, ap, ◌∙◌, subst, append_assoc, arith, length-append, ⊎_elim, Bool, true, false, cond, leb, ne_eqb}
use mathlib.Core.List.{append-nil}
use mathlib.Core.Logic.{dite}
use native.Mathlib.Decide.{dec_le, ℕ_discrete}
use Rattle.std.proofs.lemmas.Bool.{le-ltb, lt-ltb, le-leb, lt-leb}
use Rattle.std.proofs.lemmas.Bool.Decides.{nat_tests}
use Rattle.turn_cell.specs.Journal.{AllAllowed, Grows, MayLeave, times, once_within, longer}
use Rattle.turn_cell.specs.Steps.{added}

-- of two beginnings of one list the shorter begins the longer
between : {E : Type 0} (xs ys m n : List E) → xs ++ m ≡ ys ++ n → length xs ≤ length ys → (rest : List E) × (ys ≡ xs ++ rest) × (m ≡ rest ++ n)
between [] ys m n e le = (ys, refl, e)
between (x ∷ xs) [] m n e le = absurd (omega arith)
between {E} (x ∷ xs) (y ∷ ys) m n e le =
    let tails : xs ++ m ≡ ys ++ n = cc in
    let heads : x ≡ y = cc in
    let t = between xs ys m n tails (omega arith) in (t.0, (λ i. sym heads i ∷ t.1 i), t.2)

module _ {F E : Type 0} (allows : F → List E → E → Type 0) (fixed : F) where
  abbrev All : List E → List E → Type 0
  All = AllAllowed allows fixed

  abbrev Gr : List E → List E → Type 0
  Gr = Grows allows fixed

  all_append : (before xs ys : List E) → All before xs → All (before ++ xs) ys → All before (xs ++ ys)
  all_append before [] ys a b = subst (λ l. All l ys) (append-nil before) b
  all_append before (x ∷ xs) ys a b = (a.0, all_append (before ++ x ∷ []) xs ys a.1 (subst (λ l. All l ys) (sym (append_assoc before (x ∷ []) xs)) b))

  all_begin : (before xs ys : List E) → All before (xs ++ ys) → All before xs
  all_begin before [] ys a = tt
  all_begin before (x ∷ xs) ys a = (a.0, all_begin (before ++ x ∷ []) xs ys a.1)

  pub grows_refl : (xs : List E) → Gr xs xs
  grows_refl xs = ([], sym (append-nil xs), tt)

  pub grows_one : (xs : List E) (e : E) → allows fixed xs e → Gr xs (xs ++ e ∷ [])
  grows_one xs e a = (e ∷ [], refl, (a, tt))

  pub grows_trans : (xs ys zs : List E) → Gr xs ys → Gr ys zs → Gr xs zs
  grows_trans xs ys zs a b = (a.0 ++ b.0, b.1 ∙ (ap (λ l. l ++ b.0) a.1 ∙ append_assoc xs a.0 b.0), all_append xs a.0 b.0 a.2 (subst (λ l. All l b.0) a.1 b.2))

  pub grows_length : (xs ys : List E) → Gr xs ys → length xs ≤ length ys
  grows_length xs ys a = omega (arith, ap length a.1, length-append xs a.0)

  pub grows_between : (xs ys zs : List E) → Gr xs zs → Gr ys zs → length xs ≤ length ys → Gr xs ys
  grows_between xs ys zs a b le = let t = between xs ys a.0 b.0 (sym a.1 ∙ b.1) le in (t.0, t.1, all_begin xs t.0 b.0 (subst (All xs) t.2 a.2))

  nothing : (xs : List E) → length xs ≤ 0 → xs ≡ []
  nothing [] le = refl
  nothing (x ∷ xs) le = absurd (omega arith)

  pub grows_same : (xs ys : List E) → Gr xs ys → length ys ≤ length xs → ys ≡ xs
  grows_same xs ys a le = let none = nothing a.0 (omega (arith, ap length a.1, length-append xs a.0)) in a.1 ∙ (ap (λ l. xs ++ l) none ∙ append-nil xs)

  pub grows_leave : (entered journal : List E) → MayLeave allows fixed entered journal → Gr entered journal
  grows_leave entered journal may = ⊎_elim (λ (e : journal ≡ entered). subst (Gr entered) (sym e) (grows_refl entered)) (λ (e : (x : E) × allows fixed entered x × (journal ≡ entered ++ x ∷ [])). subst (Gr entered) (sym e.2) (grows_one entered e.0 e.1)) may

-- for callers: what a pass had seen grows to what it has seen after `enter` and `leave`
pub grows_through : {F E : Type 0} (allows : F → List E → E → Type 0) (fixed : F) (seen entered held journal later : List E) → Grows allows fixed seen entered → held ≡ entered → MayLeave allows fixed held journal → later ≡ journal → Grows allows fixed seen later
grows_through allows fixed seen entered held journal later g same may now =
    subst (Grows allows fixed seen) (sym now) (grows_trans allows fixed seen entered journal g (subst (λ l. Grows allows fixed l journal) same (grows_leave allows fixed held journal may)))

pub added_none : {E : Type 0} (entered journal : List E) → length journal ≤ length entered → added entered journal ≡ []
added_none entered journal le = ap (λ (b : Bool). cond b (length entered ∷ []) []) (le-ltb (length entered) (length journal) le)

pub added_one : {E : Type 0} (entered journal : List E) → length entered < length journal → added entered journal ≡ length entered ∷ []
added_one entered journal lt = ap (λ (b : Bool). cond b (length entered ∷ []) []) (lt-ltb (length entered) (length journal) lt)

pub added_within : {E : Type 0} (place : ℕ) (entered journal : List E) → 0 < times place (added entered journal) → place < length journal
added_within place entered journal some_there = dite (dec_le (length journal) (length entered))
    (λ le. let z : 0 < times place [] = subst (λ (l : List ℕ). 0 < times place l) (added_none entered journal le) some_there in absurd (omega arith))
    (λ gt. let z : 0 < times place (length entered ∷ []) = subst (λ (l : List ℕ). 0 < times place l) (added_one entered journal (omega arith)) some_there in dite (ℕ_discrete (length entered) place)
    (λ e. omega arith)
    (λ ne. let none : times place (length entered ∷ []) ≡ 0 = ap (λ (b : Bool). 0 + cond b 1 0) (ne_eqb (length entered) place ne) in absurd (omega arith)))

once_more : (first n place : ℕ) → first ≤ n → once_within first (n + 1) place ≡ once_within first n place + times place (n ∷ [])
once_more first n place le = grind (arith, nat_tests)

pub added_once : {F E : Type 0} (allows : F → List E → E → Type 0) (fixed : F) (first place : ℕ) (entered journal : List E) → first ≤ length entered → MayLeave allows fixed entered journal
    → once_within first (length journal) place ≡ once_within first (length entered) place + times place (added entered journal)
added_once {F} {E} allows fixed first place entered journal le may = ⊎_elim
    (λ (e : journal ≡ entered). let n : length journal ≡ length entered = ap length e in let none : times place (added entered journal) ≡ 0 = ap (times place) (added_none entered journal (omega arith)) in
    ap (λ (z : ℕ). once_within first z place) n ∙ omega arith)
    (λ (e : (x : E) × allows fixed entered x × (journal ≡ entered ++ x ∷ [])). let n : length journal ≡ length entered + 1 = ap length e.2 ∙ omega (arith, length-append entered (e.0 ∷ [])) in
    ap (λ (z : ℕ). once_within first z place) n ∙ (once_more first (length entered) place le ∙ ap (λ (l : List ℕ). once_within first (length entered) place + times place l) (sym (added_one entered journal (omega arith))))) may

pub once_within-le : (first last place : ℕ) → once_within first last place ≤ 1
once_within-le first last place = grind (arith, nat_tests)

pub once_within-none : (first place : ℕ) → once_within first first place ≡ 0
once_within-none first place = grind (arith, nat_tests)

pub once_within-one : (first last place : ℕ) → first ≤ place → place < last → once_within first last place ≡ 1
once_within-one first last place le lt = grind (arith, nat_tests)

pub longer_has : {E : Type 0} (P : List E → Type 0) (xs ys : List E) → P xs → P ys → P (longer xs ys)
longer_has P xs ys a b = elim (leb (length xs) (length ys)) as (λ z. P (cond z ys xs)) [ true ↦ b | false ↦ a ]

pub longer_first : {E : Type 0} (xs ys : List E) → length xs ≤ length (longer xs ys)
longer_first xs ys = dite (dec_le (length xs) (length ys))
    (λ le. let e : longer xs ys ≡ ys = ap (λ (b : Bool). cond b ys xs) (le-leb (length xs) (length ys) le) in omega (arith, ap length e))
    (λ gt. let e : longer xs ys ≡ xs = ap (λ (b : Bool). cond b ys xs) (lt-leb (length xs) (length ys) (omega arith)) in omega (arith, ap length e))

pub longer_second : {E : Type 0} (xs ys : List E) → length ys ≤ length (longer xs ys)
longer_second xs ys = dite (dec_le (length xs) (length ys))
    (λ le. let e : longer xs ys ≡ ys = ap (λ (b : Bool). cond b ys xs) (le-leb (length xs) (length ys) le) in omega (arith, ap length e))
    (λ gt. let e : longer xs ys ≡ xs = ap (λ (b : Bool). cond b ys xs) (lt-leb (length xs) (length ys) (omega arith)) in omega (arith, ap length e))
