-- The subterms in pre-order.
use Rattle.std.proofs.Common.{◌≡◌, ℕ, zero, suc, ◌+◌, List, [], ◌∷◌, ◌++◌, length, Some, None, refl, ap, ◌∙◌, arith, length-append}
use Rattle.std.specs.Prelude.{slice_get}
use Rattle.std.proofs.lemmas.Option.{slice_get_past}
use Rattle.prin_term.specs.Principal.{Principal, Key, Name, And, Quoting, InRole, For, node_count, subterms}
use Rattle.prin_term.specs.Kind.{Kind, pair}
use Rattle.prin_term.specs.Kind as kinds

pub length-parts : (t : Principal) → length (subterms t) ≡ node_count t
length-parts (Key k) = refl
length-parts (Name n) = refl
length-parts (And a b) = omega (arith, length-append (subterms a) (subterms b), length-parts a, length-parts b)
length-parts (Quoting a b) = omega (arith, length-append (subterms a) (subterms b), length-parts a, length-parts b)
length-parts (InRole a r) = omega (arith, length-parts a)
length-parts (For a b) = omega (arith, length-append (subterms a) (subterms b), length-parts a, length-parts b)

-- a term is the first of its parts
pub first_part : (t : Principal) (place : ℕ) → place ≡ 0 → slice_get (subterms t) place ≡ Some t
first_part (Key k) place e = ap (slice_get (subterms (Key k))) e
first_part (Name n) place e = ap (slice_get (subterms (Name n))) e
first_part (And a b) place e = ap (slice_get (subterms (And a b))) e
first_part (Quoting a b) place e = ap (slice_get (subterms (Quoting a b))) e
first_part (InRole a r) place e = ap (slice_get (subterms (InRole a r))) e
first_part (For a b) place e = ap (slice_get (subterms (For a b))) e

get_front : (xs ys : List Principal) (i : ℕ) (x : Principal) → slice_get xs i ≡ Some x → slice_get (xs ++ ys) i ≡ Some x
get_front [] ys i x e = absurd cc
get_front (y ∷ xs) ys zero x e = e
get_front (y ∷ xs) ys (suc i) x e = get_front xs ys i x e

get_behind : (xs ys : List Principal) (i j : ℕ) → i ≡ length xs + j → slice_get (xs ++ ys) i ≡ slice_get ys j
get_behind [] ys i j e = ap (slice_get ys) (omega (arith, e))
get_behind (x ∷ xs) ys zero j e = absurd (omega (arith, e))
get_behind (x ∷ xs) ys (suc i) j e = get_behind xs ys i j (omega (arith, e))

pub subterms-pair : (kind : Kind) (a b : Principal) → subterms (pair kind a b) ≡ pair kind a b ∷ (subterms a ++ subterms b)
subterms-pair kinds.And a b = refl
subterms-pair kinds.Quoting a b = refl
subterms-pair kinds.For a b = refl

get_pair : (kind : Kind) (a b : Principal) (place p : ℕ) → place ≡ suc p → slice_get (subterms (pair kind a b)) place ≡ slice_get (subterms a ++ subterms b) p
get_pair kind a b place p e = ap (slice_get (subterms (pair kind a b))) e ∙ ap (λ (l : List Principal). slice_get l (suc p)) (subterms-pair kind a b)

pub part_in_first : (kind : Kind) (a b x : Principal) (place p : ℕ) → place ≡ suc p → slice_get (subterms a) p ≡ Some x → slice_get (subterms (pair kind a b)) place ≡ Some x
part_in_first kind a b x place p e found = get_pair kind a b place p e ∙ get_front (subterms a) (subterms b) p x found

pub part_in_second : (kind : Kind) (a b x : Principal) (place p : ℕ) → place ≡ suc (node_count a + p) → slice_get (subterms b) p ≡ Some x → slice_get (subterms (pair kind a b)) place ≡ Some x
part_in_second kind a b x place p e found =
    get_pair kind a b place (node_count a + p) e ∙ get_behind (subterms a) (subterms b) (node_count a + p) p (omega (arith, length-parts a)) ∙ found

-- no part stands behind the last
pub no_part : (t : Principal) (place left : ℕ) → left + node_count t ≡ place → slice_get (subterms t) place ≡ None
no_part t place left e = slice_get_past (subterms t) place (omega (arith, length-parts t))
