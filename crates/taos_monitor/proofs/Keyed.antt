-- A channel has a key where some entry of the table has its number.
use Rattle.std.proofs.Common.{◌≡◌, ℕ, zero, suc, Bool, true, false, List, [], ◌∷◌, Some, slice_get, refl, sym, ap, subst, inl, inr}
use Rattle.std.specs.Prelude.{◌==◌, if◌then◌else◌, IsSome, Option}
use Rattle.std.proofs.lemmas.Bool.{cases_Bool, eqb-true, eq-eqb}
use Rattle.std.proofs.lemmas.Option.{same_Some}
use Rattle.keyed_seal.specs.Keys.{Entries, key_of}

pub record IsListed (entries : Entries) (channel : ℕ) : Type 0 where
  pub place : ℕ
  pub entry : ℕ × List ℕ
  pub stands : slice_get entries place ≡ Some entry
  pub number : entry.0 ≡ channel

chosen : (b : Bool) (key : List ℕ) (rest : Option (List ℕ)) → b ≡ false → IsSome (if b then Some key else rest) → IsSome rest
chosen true key rest e h = cc
chosen false key rest e h = h

pub key_listed : (entries : Entries) (channel : ℕ) → IsSome (key_of entries channel) → IsListed entries channel
key_listed [] channel h = cc
key_listed ((n, key) ∷ rest) channel h = elim (cases_Bool (n == channel)) [
  | inl e ↦ record { place = 0; entry = (n, key); stands = refl; number = eqb-true n channel e }
  | inr e ↦ let l = key_listed rest channel (chosen (n == channel) key (key_of rest channel) e h) in
      record { place = suc l.place; entry = l.entry; stands = l.stands; number = l.number }
]

some_first : (b : Bool) (key : List ℕ) (rest : Option (List ℕ)) → IsSome rest → IsSome (if b then Some key else rest)
some_first true key rest h = refl
some_first false key rest h = h

here_too : (n channel : ℕ) (key : List ℕ) (rest : Option (List ℕ)) → n ≡ channel → IsSome (if n == channel then Some key else rest)
here_too n channel key rest e = subst (λ (b : Bool). IsSome (if b then Some key else rest)) (sym (eq-eqb n channel e)) refl

pub listed_key : (entries : Entries) (place : ℕ) (e : ℕ × List ℕ) → slice_get entries place ≡ Some e → IsSome (key_of entries e.0)
listed_key [] place e at = absurd cc
listed_key ((n, key) ∷ rest) zero e at = here_too n e.0 key (key_of rest e.0) (ap (λ (x : ℕ × List ℕ). x.0) (same_Some (n, key) e at))
listed_key ((n, key) ∷ rest) (suc place) e at = some_first (n == e.0) key (key_of rest e.0) (listed_key rest place e at)
