-- Whether the principals of a list, each counted once, are at most sixteen.
use Rattle.std.proofs.Common.{◌≡◌, ℕ, ◌<◌, ◌≤◌, Bool, true, false, List, [], ◌∷◌, ◌++◌, length, refl, sym, ap, subst, ◌∙◌, arith, inl, inr, take, length-take}
use Rattle.std.specs.Prelude.{nat_le}
use Rattle.std.specs.Bool.{OnTrue, OnFalse}
use Rattle.std.specs.List.{list_any}
use Rattle.std.proofs.lemmas.List.{length-map}
use Rattle.std.proofs.lemmas.Bool.{cases_Bool, le-leb, lt-leb, leb-false, true≢false}
use Rattle.prin_term.specs.Principal.{Principal}
use Rattle.prin_term.specs.View.{principal}
use Rattle.stmt_codec.specs.declared.distinct.Seen.{Seen}
use Rattle.stmt_codec.specs.Distinct.{same_principal, first_of_each, met}
use Rattle.stmt_codec.specs.Seen.{principals}
use Rattle.stmt_codec.proofs.Counts.{length-there, length-new, length-more, met-twice}
use Rattle.stmt_codec.proofs.Tables.{length-met}

is_few : (n : ℕ) → n ≤ 16 → true ≡ nat_le n 16
is_few n le = sym (le-leb n 16 le)

is_many : (n : ℕ) → 16 < n → false ≡ nat_le n 16
is_many n lt = sym (lt-leb n 16 lt)

-- a table has room for sixteen
pub length-principals : (s : Seen) → length (principals s) ≤ 16
length-principals s = omega (arith, length-map (take s.count s.terms) (λ t. principal t.now), length-take s.count s.terms, s.within)

-- sixteen are exceeded by the first part of a list already
pub few-over : (xs ys : List Principal) → 16 < length (met [] xs) → false ≡ nat_le (length (first_of_each (xs ++ ys))) 16
few-over xs ys over = is_many _ (subst (λ (l : List Principal). 16 < length l) (met-twice (met [] xs) xs ys refl) (omega (arith, over, length-met (met [] xs) ys)))

-- after its second part the table holds each principal once, or would hold too many
pub few-met : (answer : Bool) (first now xs ys : List Principal) → first ≡ met [] xs → length now ≤ 16 → OnTrue answer (now ≡ met first ys) → OnFalse answer (16 < length (met first ys)) → answer ≡ nat_le (length (first_of_each (xs ++ ys))) 16
few-met true first now xs ys e fits is over = is_few _ (subst (λ (l : List Principal). length l ≤ 16) (is ∙ met-twice first xs ys e) fits)
few-met false first now xs ys e fits is over = is_many _ (subst (λ (l : List Principal). 16 < length l) (met-twice first xs ys e) over)

-- one principal more in front
pub few-room : (p : Principal) (now xs : List Principal) → now ≡ first_of_each xs → length now < 16 → true ≡ nat_le (length (first_of_each (p ∷ xs))) 16
few-room p now xs is room = elim (cases_Bool (list_any (same_principal p) (first_of_each xs))) [
  | inl there ↦ is_few _ (omega (arith, ap length is, room, length-there p xs there))
  | inr new ↦ is_few _ (omega (arith, ap length is, room, length-new p xs new))
]

pub few-full : (answer : Bool) (p : Principal) (now xs : List Principal) → now ≡ first_of_each xs → length now ≡ 16 → answer ≡ list_any (same_principal p) now → answer ≡ nat_le (length (first_of_each (p ∷ xs))) 16
few-full true p now xs is full e = is_few _ (omega (arith, ap length is, full, length-there p xs (ap (list_any (same_principal p)) (sym is) ∙ sym e)))
few-full false p now xs is full e = is_many _ (omega (arith, ap length is, full, length-new p xs (ap (list_any (same_principal p)) (sym is) ∙ sym e)))

-- without it there are too many already
pub few-more : (p : Principal) (xs : List Principal) → 16 < length (first_of_each xs) → false ≡ nat_le (length (first_of_each (p ∷ xs))) 16
few-more p xs over = is_many _ (omega (arith, over, length-more p xs))

pub few-over-false : (answer : Bool) (none xs ys : List Principal) → none ≡ [] → answer ≡ false → OnFalse answer (16 < length (met none xs)) → answer ≡ nat_le (length (first_of_each (xs ++ ys))) 16
few-over-false true none xs ys e is over = absurd (true≢false is)
few-over-false false none xs ys e is over = few-over xs ys (subst (λ (t : List Principal). 16 < length (met t xs)) e over)

-- ---- a principal in front of two lists

pub few-front-over : (p : Principal) (none xs ys : List Principal) → none ≡ [] → 16 < length (met none xs) → false ≡ nat_le (length (first_of_each (p ∷ (xs ++ ys)))) 16
few-front-over p none xs ys e over =
    few-more p (xs ++ ys) (nat-over (sym (few-over xs ys (subst (λ (t : List Principal). 16 < length (met t xs)) e over))))
  where
    nat-over : nat_le (length (first_of_each (xs ++ ys))) 16 ≡ false → 16 < length (first_of_each (xs ++ ys))
    nat-over no_more = leb-false (length (first_of_each (xs ++ ys))) 16 no_more

pub few-front-later : (p : Principal) (first xs ys : List Principal) → first ≡ met [] xs → 16 < length (met first ys) → false ≡ nat_le (length (first_of_each (p ∷ (xs ++ ys)))) 16
few-front-later p first xs ys e over = few-more p (xs ++ ys) (subst (λ (l : List Principal). 16 < length l) (met-twice first xs ys e) over)
