-- Whether a certificate would come to a domain a second time, as a test and as a fact.
use Rattle.std.proofs.Common.{◌≡◌, ℕ, zero, suc, Bool, true, false, cond, eqb, ◌||◌, List, [], ◌∷◌, length, get_or, refl, sym, ap, ◌∙◌, arith, inl, inr, ◌⊎◌}
use Rattle.std.specs.Prelude.{Contains, ◌<◌, ◌==◌}
use Rattle.std.specs.List.{list_any}
use Rattle.std.proofs.lemmas.Bool.{eqb-true, eq-eqb, false≢true, ltb-true, lt-ltb}
use Rattle.relay_path.specs.declared.answer.Target.{Target}
use Rattle.relay_path.specs.declared.answer.Target.TheVariants.{Node, Peer}
use Rattle.relay_path.specs.Hopping.{HasRoom, Returns, here, there, itself}
use Rattle.relay_path.specs.Opening.{has_room, returns}

-- ---- one of a list

either_true : (a b : Bool) → (a || b) ≡ true → (a ≡ true) ⊎ (b ≡ true)
either_true true b e = inl refl
either_true false b e = inr e

left_true : (a b : Bool) → a ≡ true → (a || b) ≡ true
left_true true b e = refl
left_true false b e = absurd (false≢true e)

right_true : (a b : Bool) → b ≡ true → (a || b) ≡ true
right_true true b e = refl
right_true false b e = e

pub is_among : (n : ℕ) (xs : List ℕ) → list_any (λ v. v == n) xs ≡ true → Contains xs n
is_among n [] e = absurd (false≢true e)
is_among n (x ∷ xs) e = elim (either_true (eqb x n) (list_any (λ v. v == n) xs) e) [
  | inl same ↦ (0, omega arith, eqb-true x n same)
  | inr later ↦ let c = is_among n xs later in (suc c.0, omega (arith, c.1), c.2)
]

pub among_is : (n : ℕ) (xs : List ℕ) → Contains xs n → list_any (λ v. v == n) xs ≡ true
among_is n [] (k, below, is) = absurd (omega (arith, below))
among_is n (x ∷ xs) (zero, below, is) = left_true (eqb x n) (list_any (λ v. v == n) xs) (eq-eqb x n is)
among_is n (x ∷ xs) (suc k, below, is) = right_true (eqb x n) (list_any (λ v. v == n) xs) (among_is n xs (k, omega (arith, below), is))

-- ---- a second time

pub it_returns : (number : ℕ) (visited : List ℕ) (target : Target) → returns number visited target ≡ true → Returns number visited target
it_returns number visited (Node node) e = here (Node node) (is_among number visited e)
it_returns number visited (Peer peer) e = elim (either_true (list_any (λ v. v == number) visited) (list_any (λ v. v == peer) visited || eqb peer number) e) [
  | inl this ↦ here (Peer peer) (is_among number visited this)
  | inr more ↦ elim (either_true (list_any (λ v. v == peer) visited) (eqb peer number) more) [
    | inl that ↦ there peer (is_among peer visited that)
    | inr same ↦ itself peer (eqb-true peer number same)
  ]
]

pub returns_is : (number : ℕ) (visited : List ℕ) (target : Target) → Returns number visited target → returns number visited target ≡ true
returns_is number visited target (here (Node node) c) = among_is number visited c
returns_is number visited target (here (Peer peer) c) = left_true (list_any (λ v. v == number) visited) (list_any (λ v. v == peer) visited || eqb peer number) (among_is number visited c)
returns_is number visited target (there peer c) =
    right_true (list_any (λ v. v == number) visited) (list_any (λ v. v == peer) visited || eqb peer number) (left_true (list_any (λ v. v == peer) visited) (eqb peer number) (among_is peer visited c))
returns_is number visited target (itself peer same) =
    right_true (list_any (λ v. v == number) visited) (list_any (λ v. v == peer) visited || eqb peer number) (right_true (list_any (λ v. v == peer) visited) (eqb peer number) (eq-eqb peer number same))

is_false : (b : Bool) → ¬ (b ≡ true) → b ≡ false
is_false true other = absurd (other refl)
is_false false other = refl

pub never_returns : (number : ℕ) (visited : List ℕ) (target : Target) → ¬ Returns number visited target → returns number visited target ≡ false
never_returns number visited target never = is_false (returns number visited target) (λ e. never (it_returns number visited target e))

pub no_return : (number : ℕ) (visited : List ℕ) (target : Target) → returns number visited target ≡ false → ¬ Returns number visited target
no_return number visited target e = λ is. false≢true (sym e ∙ returns_is number visited target is)

-- ---- room for one more

pub room_is : (target : Target) (visited : List ℕ) → HasRoom target visited → has_room target visited ≡ true
room_is (Node node) visited room = refl
room_is (Peer peer) visited room = lt-ltb (length visited) 3 room

pub is_room : (target : Target) (visited : List ℕ) → has_room target visited ≡ true → HasRoom target visited
is_room (Node node) visited e = tt
is_room (Peer peer) visited e = ltb-true (length visited) 3 e

pub no_room : (target : Target) (visited : List ℕ) → has_room target visited ≡ false → ¬ HasRoom target visited
no_room target visited e = λ room. false≢true (sym e ∙ room_is target visited room)

pub room_is_none : (target : Target) (visited : List ℕ) → ¬ HasRoom target visited → has_room target visited ≡ false
room_is_none target visited none = is_false (has_room target visited) (λ e. none (is_room target visited e))
