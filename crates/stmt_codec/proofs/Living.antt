-- Which certificates are live at a moment.
use Rattle.std.proofs.Common.{◌≡◌, ◌⊎◌, inl, inr, ℕ, ◌↔◌, true, List, [], ◌∷◌, arith, All}
use Rattle.std.specs.Prelude.{Contains, nat_le, nat_lt}
use Rattle.std.proofs.lemmas.Bool.{and_from, and_parts, cases_lt, le-leb, leb-true, lt-ltb, ltb-true}
use Rattle.std.proofs.lemmas.List.Elements.{All-cons, All-contains, All-filter, All-nil, All-weaker, filter_passes}
use Rattle.stmt_codec.specs.Certificates.{Certificate, is_live, is_dead, IsLive, IsDead, IsEarly, live}
use Rattle.stmt_codec.proofs.Members.{here, there, kept}

pub is_live-true : (moment : ℕ) (c : Certificate) → is_live moment c ≡ true → IsLive moment c
is_live-true moment c e = let p = and_parts (nat_le c.from moment) (nat_lt moment c.until) e in (leb-true c.from moment p.0, ltb-true moment c.until p.1)

pub live-is_live : (moment : ℕ) (c : Certificate) → IsLive moment c → is_live moment c ≡ true
live-is_live moment c lives = and_from (nat_le c.from moment) (nat_lt moment c.until) (le-leb c.from moment lives.0) (lt-ltb moment c.until lives.1)

pub cases_live : (moment : ℕ) (c : Certificate) → IsLive moment c ⊎ (IsLive moment c → ⊥)
cases_live moment c = elim (cases_lt moment c.until) [
  | inl ahead ↦ elim (cases_lt moment c.from) [ inl early ↦ inr (λ lives. omega (arith, lives.0, early)) | inr begun ↦ inl (omega (arith, begun), ahead) ]
  | inr ended ↦ inr (λ lives. omega (arith, lives.1, ended))
]

-- ---- those that are not live

pub is_dead-true : (moment : ℕ) (c : Certificate) → is_dead moment c ≡ true → IsDead moment c
is_dead-true moment c e = leb-true c.until moment e

pub dead-is_dead : (moment : ℕ) (c : Certificate) → IsDead moment c → is_dead moment c ≡ true
dead-is_dead moment c dead = le-leb c.until moment dead

pub ended : (moment : ℕ) (c : Certificate) → (is_dead moment c ≡ true) ↔ IsDead moment c
ended moment c = (is_dead-true moment c, dead-is_dead moment c)

pub dead_or_early : (moment : ℕ) (c : Certificate) → (IsLive moment c → ⊥) → IsDead moment c ⊎ IsEarly moment c
dead_or_early moment c out = elim (cases_lt moment c.until) [
  | inl ahead ↦ elim (cases_lt moment c.from) [ inl early ↦ inr (early, ahead) | inr begun ↦ absurd (out (omega (arith, begun), ahead)) ]
  | inr dead ↦ inl (omega (arith, dead))
]

pub dead_is_out : (moment : ℕ) (c : Certificate) → IsDead moment c → IsLive moment c → ⊥
dead_is_out moment c dead lives = omega (arith, dead, lives.1)

pub early_is_out : (moment : ℕ) (c : Certificate) → IsEarly moment c → IsLive moment c → ⊥
early_is_out moment c early lives = omega (arith, early.0, lives.0)

pub others : (moment : ℕ) (c : Certificate) → (IsLive moment c → ⊥) ↔ (IsDead moment c ⊎ IsEarly moment c)
others moment c = (dead_or_early moment c, λ either. elim either [ inl dead ↦ dead_is_out moment c dead | inr early ↦ early_is_out moment c early ])

pub dead_not_early : (moment : ℕ) (c : Certificate) → IsDead moment c → IsEarly moment c → ⊥
dead_not_early moment c dead early = omega (arith, dead, early.1)

-- ---- the members of a list

each_there : {X : Type 0} (xs : List X) → All (Contains xs) xs
each_there [] = All-nil (Contains [])
each_there (x ∷ xs) = All-cons (Contains (x ∷ xs)) x xs (here x xs) (All-weaker (Contains xs) (Contains (x ∷ xs)) (λ y h. there x xs y h) xs (each_there xs))

pub live-from : (certs : List Certificate) (moment : ℕ) (c : Certificate) → Contains (live certs moment) c → Contains certs c × IsLive moment c
live-from certs moment c is = (
  All-contains (Contains certs) (live certs moment) c (All-filter (is_live moment) (Contains certs) certs (each_there certs)) is,
  is_live-true moment c (All-contains (λ x. is_live moment x ≡ true) (live certs moment) c (filter_passes (is_live moment) certs) is),
)

pub live-to : (certs : List Certificate) (moment : ℕ) (c : Certificate) → Contains certs c → IsLive moment c → Contains (live certs moment) c
live-to certs moment c is lives = All-contains (λ x. is_live moment x ≡ true → Contains (live certs moment) x) certs c (kept (is_live moment) certs) is (live-is_live moment c lives)

pub told : (moment : ℕ) (c : Certificate) → (is_live moment c ≡ true) ↔ IsLive moment c
told moment c = (is_live-true moment c, live-is_live moment c)

pub members : (certs : List Certificate) (moment : ℕ) (c : Certificate) → Contains (live certs moment) c ↔ (Contains certs c × IsLive moment c)
members certs moment c = (live-from certs moment c, λ is. live-to certs moment c is.0 is.1)
