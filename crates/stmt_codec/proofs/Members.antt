-- A list of first places has the same members, and none twice.
use Rattle.std.proofs.Common.{◌≡◌, ◌≢◌, ◌↔◌, Bool, true, false, not, cond, List, [], ◌∷◌, sym, ap, subst, arith, inl, inr, All}
use Rattle.std.specs.Prelude.{filter, Contains, AllPairs}
use Rattle.std.proofs.lemmas.List.Elements.{All-filter, All-weaker, All-cons, All-nil, All-contains, filter_passes, Contains-append_left, Contains-append_right, Contains-push}
use Rattle.std.proofs.lemmas.List.Kept.{AllPairs-cons, AllPairs-filter}
use Rattle.std.proofs.lemmas.Bool.{cases_Bool, both_ways, not-true}
use Rattle.prin_term.specs.Principal.{Principal}
use Rattle.stmt_codec.specs.Distinct.{same_principal, first_of_each}
use Rattle.stmt_codec.proofs.Same.{same_principal-true, same_principal-itself}

pub here : {X : Type 0} (x : X) (xs : List X) → Contains (x ∷ xs) x
here x xs = Contains-append_left (x ∷ []) xs x (Contains-push [] x)

pub there : {X : Type 0} (x : X) (xs : List X) (y : X) → Contains xs y → Contains (x ∷ xs) y
there x xs y h = Contains-append_right (x ∷ []) xs y h

first_comes : (ps : List Principal) → All (λ q. Contains ps q) (first_of_each ps)
first_comes [] = All-nil (λ q. Contains [] q)
first_comes (p ∷ ps) =
    All-cons (λ q. Contains (p ∷ ps) q) p (filter (λ q. not (same_principal q p)) (first_of_each ps)) (here p ps)
    (All-filter (λ q. not (same_principal q p)) (λ q. Contains (p ∷ ps) q) (first_of_each ps)
    (All-weaker (λ q. Contains ps q) (λ q. Contains (p ∷ ps) q) (λ q. there p ps q) (first_of_each ps) (first_comes ps)))

later : {X : Type 0} (b : Bool) (x : X) (xs : List X) (y : X) → Contains xs y → Contains (cond b (x ∷ xs) xs) y
later true x xs y h = there x xs y h
later false x xs y h = h

pub kept : {X : Type 0} (t : X → Bool) (xs : List X) → All (λ q. t q ≡ true → Contains (filter t xs) q) xs
kept t [] = All-nil (λ q. t q ≡ true → Contains (filter t []) q)
kept {X} t (x ∷ xs) =
    All-cons (λ q. t q ≡ true → Contains (filter t (x ∷ xs)) q) x xs
    (λ e. subst (λ (b : Bool). Contains (cond b (x ∷ filter t xs) (filter t xs)) x) (sym e) (here x (filter t xs)))
    (All-weaker (λ q. t q ≡ true → Contains (filter t xs) q) (λ q. t q ≡ true → Contains (filter t (x ∷ xs)) q) (λ q h e. later (t x) x (filter t xs) q (h e)) xs (kept t xs))

among : (p q : Principal) (ps : List Principal) → Contains (first_of_each ps) q → Contains (first_of_each (p ∷ ps)) q
among p q ps h = elim (cases_Bool (same_principal q p)) [
  | inl alike ↦ subst (λ (x : Principal). Contains (first_of_each (p ∷ ps)) x) (sym (same_principal-true q p alike)) (here p (filter (λ x. not (same_principal x p)) (first_of_each ps)))
  | inr other ↦ there p (filter (λ x. not (same_principal x p)) (first_of_each ps)) q
      (All-contains (λ x. not (same_principal x p) ≡ true → Contains (filter (λ y. not (same_principal y p)) (first_of_each ps)) x) (first_of_each ps) q (kept (λ y. not (same_principal y p)) (first_of_each ps)) h (ap not other))
]

each_comes : (ps : List Principal) → All (λ q. Contains (first_of_each ps) q) ps
each_comes [] = All-nil (λ q. Contains [] q)
each_comes (p ∷ ps) =
    All-cons (λ q. Contains (first_of_each (p ∷ ps)) q) p ps (here p (filter (λ q. not (same_principal q p)) (first_of_each ps)))
    (All-weaker (λ q. Contains (first_of_each ps) q) (λ q. Contains (first_of_each (p ∷ ps)) q) (λ q. among p q ps) ps (each_comes ps))

pub members_same : (ps : List Principal) (p : Principal) → Contains (first_of_each ps) p ↔ Contains ps p
members_same ps p = (All-contains (λ q. Contains ps q) (first_of_each ps) p (first_comes ps), All-contains (λ q. Contains (first_of_each ps) q) ps p (each_comes ps))

differs : (p q : Principal) → not (same_principal q p) ≡ true → p ≢ q
differs p q t e = both_ways (same_principal q p) (not-true (same_principal q p) t) (subst (λ (x : Principal). same_principal q x ≡ true) (sym e) (same_principal-itself q))

pub none_twice : (ps : List Principal) → AllPairs (λ p q. p ≢ q) (first_of_each ps)
none_twice [] = λ i j d lt le. absurd (omega (arith, le))
none_twice (p ∷ ps) =
    AllPairs-cons (λ p q. p ≢ q) p (filter (λ q. not (same_principal q p)) (first_of_each ps))
    (All-weaker (λ q. not (same_principal q p) ≡ true) (λ q. p ≢ q) (differs p) (filter (λ q. not (same_principal q p)) (first_of_each ps)) (filter_passes (λ q. not (same_principal q p)) (first_of_each ps)))
    (AllPairs-filter (λ p q. p ≢ q) (λ q. not (same_principal q p)) (first_of_each ps) (none_twice ps))
