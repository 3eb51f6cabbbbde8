-- What stands before a body: what is read there was spelled so, and what is spelled so is read.
use Rattle.std.proofs.Common.{◌≡◌, ℕ, suc, ◌+◌, ◌-◌, ◌^◌, ◌<◌, ◌≤◌, cond, eqb, List, [], ◌∷◌, ◌++◌, length, drop, Result, Ok, Err, refl, sym, ap, subst, ◌∙◌, arith, inl, inr, All}
use Rattle.std.specs.List.{flat_map}
use Rattle.std.specs.Int.{w32, to_be_bytes}
use Rattle.std.proofs.lemmas.Bool.{eqb-true}
use Rattle.byte_fields.specs.Formats.{is_within}
use Rattle.byte_fields.specs.Readers.{items_behind, passing}
use Rattle.byte_fields.proofs.Loops.{IsSoFar}
use Rattle.byte_fields.specs.Steps.{◌>>=◌, byte_at, number_at}
use Rattle.byte_fields.proofs.FieldLaws.{IsBytes, TakesAt, TakesAt-then, TakesAt-within, byte_takes, byte_again, behind, wide32}
use Rattle.byte_fields.proofs.FormatFields.{within_is, is_within-true}
use Rattle.byte_fields.proofs.ReaderLaws.{Reads, reads_as, reads_byte, reads_number, reads_passing, reads_followed, reads_made, reads_items}
use Rattle.byte_fields.proofs.Staying.{Stays, stays_made, stays_followed, stays_passing, items_stay, byte_stays, number_stays}
use Rattle.byte_fields.proofs.Results.{bind_ok, bind_err, ok_is, err_is, chosen}
use Rattle.relay_core.specs.Resealing.{IsRelayed}
use Rattle.relay_path.specs.declared.opening.HopFault.{HopFault}
use Rattle.relay_path.specs.declared.opening.HopFault.TheVariants.{Refused}
use Rattle.relay_path.specs.Carrying.{front_of}
use Rattle.relay_path.specs.Opening.{malformed, numbers_of, numbers_at, visited_at}

-- numbers that fit their fields
abbrev pub AreNumbers : List ℕ → Type 0
AreNumbers xs = All (λ n. n < 2 ^ 32) xs

-- the count and the numbers
abbrev counted_numbers : List ℕ → List ℕ
counted_numbers xs = length xs ∷ flat_map (to_be_bytes w32) xs

-- one to three numbers that fit
abbrev AreFew : List ℕ → Type 0
AreFew xs = ((1 ≤ length xs) × (length xs ≤ 3)) × AreNumbers xs

-- no number is compared with another
abbrev Anyhow : ℕ → ℕ → Type 0
Anyhow a b = Unit {0}

module _ (bytes : List ℕ) where
  reads_count : Reads bytes (passing (is_within 1 3) (λ _. malformed) (byte_at malformed bytes)) (λ b. b ∷ []) (λ b. (1 ≤ b) × (b ≤ 3))
  reads_count =
      reads_as (λ b. b ∷ []) (λ b. (1 ≤ b) × (b ≤ 3)) (reads_passing (is_within 1 3) (λ _. malformed) (reads_byte malformed bytes))
      (λ n is. (within_is 1 3 n is.1, refl))
      (λ n is. (omega (arith, is.1), is_within-true 1 3 n is.0 is.1))

  reads_one : (before : List ℕ) → Reads bytes (number_at malformed w32 bytes) (to_be_bytes w32) (λ n. (n < 2 ^ 32) × All (λ b. Anyhow b n) before)
  reads_one before =
      reads_as (to_be_bytes w32) (λ n. (n < 2 ^ 32) × All (λ b. Anyhow b n) before) (reads_number malformed w32 (2 ^ 32) wide32 bytes)
      (λ n is. ((is, λ k d below. tt), refl)) (λ n is. is.0)

  reads_numbers : Reads bytes (numbers_at bytes) counted_numbers AreFew
  unfolding numbers_at
  reads_numbers =
      reads_made (λ (p : ℕ × List ℕ). p.1) (λ (xs : List ℕ). (length xs, xs)) counted_numbers AreFew
      (reads_followed reads_count (λ n _. reads_items bytes (λ _. number_at malformed w32 bytes) (to_be_bytes w32) (λ n. n < 2 ^ 32) Anyhow reads_one n))
      (λ p fits.
      ((subst (λ (k : ℕ). (1 ≤ k) × (k ≤ 3)) (sym fits.1.0) fits.0, fits.1.1), ap (λ (k : ℕ). k ∷ flat_map (to_be_bytes w32) p.1) (sym fits.1.0)))
      (λ xs fits. ((fits.0, (refl, fits.1, λ i j d below within. tt)), refl, refl))

-- ---- the first byte, and what comes after it

-- what follows the first byte, by it
abbrev by_first : List ℕ → ℕ × ℕ → Result (List ℕ × ℕ) HopFault
by_first bytes first =
    cond (eqb first.0 2) (Err (Refused 4))
    (cond (eqb first.0 1) (Ok ([], first.1))
    (cond (eqb first.0 3) (numbers_at bytes first.1) (Err malformed)))

-- the domains and where the body begins, as they are spelled
pub record IsFront (bytes visited : List ℕ) (at : ℕ) : Type 0 where
  pub taken : TakesAt bytes 0 (front_of visited) at
  pub few : length visited ≤ 3
  pub numbers : AreNumbers visited

front_cons : (xs : List ℕ) → 1 ≤ length xs → front_of xs ≡ 3 ∷ counted_numbers xs
front_cons [] some = absurd (omega (arith, some))
front_cons (x ∷ xs) some = refl

pub visited_takes : (bytes : List ℕ) (x : List ℕ × ℕ) → IsBytes bytes → visited_at bytes ≡ Ok x → IsFront bytes x.0 x.1
unfolding visited_at
visited_takes bytes x fits e =
    let first = bind_ok (byte_at malformed bytes 0) (by_first bytes) x e in
    let t = byte_takes malformed bytes 0 first.0 first.1 in
    elim (chosen (eqb first.0.0 2) (Err (Refused 4)) (cond (eqb first.0.0 1) (Ok ([], first.0.1)) (cond (eqb first.0.0 3) (numbers_at bytes first.0.1) (Err malformed))) (Ok x) first.2) [
      | inl relayed ↦ absurd (cc (relayed.1))
      | inr other ↦ elim (chosen (eqb first.0.0 1) (Ok ([], first.0.1)) (cond (eqb first.0.0 3) (numbers_at bytes first.0.1) (Err malformed)) (Ok x) other.1) [
        | inl issued ↦
            let begun = subst (λ (b : ℕ). TakesAt bytes 0 (b ∷ []) first.0.1) (eqb-true _ _ issued.0) t in
            let none : List ℕ × ℕ = ([], first.0.1) in
            subst (λ (y : List ℕ × ℕ). IsFront bytes y.0 y.1) (ok_is HopFault none x issued.1)
            (record { taken = begun; few = omega arith; numbers = λ k d below. absurd (omega (arith, below)) })
        | inr rest ↦ elim (chosen (eqb first.0.0 3) (numbers_at bytes first.0.1) (Err malformed) (Ok x) rest.1) [
          | inl carried ↦
              let begun = subst (λ (b : ℕ). TakesAt bytes 0 (b ∷ []) first.0.1) (eqb-true _ _ carried.0) t in
              let n = (reads_numbers bytes).takes fits first.0.1 x (TakesAt-within bytes 0 (3 ∷ []) first.0.1 (omega arith) begun) carried.1 in
              let whole = TakesAt-then bytes 0 (3 ∷ []) first.0.1 (counted_numbers x.0) x.1 begun n.0 in
              record { taken = subst (λ (l : List ℕ). TakesAt bytes 0 l x.1) (sym (front_cons x.0 n.1.0.0)) whole; few = n.1.0.1; numbers = n.1.1 }
          | inr none ↦ absurd (cc (none.1))
        ]
      ]
    ]

-- ---- what is spelled so is read

pub visited_again : (bytes visited rest : List ℕ) → length visited ≤ 3 → AreNumbers visited → bytes ≡ front_of visited ++ rest → visited_at bytes ≡ Ok (visited, length (front_of visited))
unfolding visited_at
visited_again bytes [] rest few numbers e = rw (byte_again malformed bytes rest 0 1 e) refl
visited_again bytes (v ∷ vs) rest few numbers e =
    let first = byte_again malformed bytes (counted_numbers (v ∷ vs) ++ rest) 0 3 e in
    let start : drop 1 bytes ≡ counted_numbers (v ∷ vs) ++ rest = behind bytes (3 ∷ []) (counted_numbers (v ∷ vs) ++ rest) 0 e in
    let some : 1 ≤ length (v ∷ vs) = omega arith in
    let read = (reads_numbers bytes).again 1 (v ∷ vs) rest ((some, few), numbers) start in
    let place : 1 + length (counted_numbers (v ∷ vs)) ≡ length (front_of (v ∷ vs)) = omega arith in
    rw (first, read, place) refl

-- ---- what is refused

-- the fault of bytes that are no certificate
abbrev IsFormless : HopFault → Type 0
IsFormless f = f ≡ Refused 1

numbers_stay : (bytes : List ℕ) → Stays bytes IsFormless (numbers_at bytes)
unfolding numbers_at
numbers_stay bytes =
    stays_made _ (stays_followed (stays_passing (is_within 1 3) (λ _. malformed) (byte_stays IsFormless malformed refl bytes) (λ o le. refl))
    (λ n. items_stay (λ _. number_at malformed w32 bytes) (λ before. number_stays IsFormless malformed refl bytes w32) n []))

-- why no front is read
pub data NoFront (bytes : List ℕ) (f : HopFault) : Type 0 where
  relayed : IsRelayed bytes → f ≡ Refused 4 → NoFront bytes f
  formless : f ≡ Refused 1 → NoFront bytes f

pub visited_refused : (bytes : List ℕ) (f : HopFault) → visited_at bytes ≡ Err f → NoFront bytes f
unfolding visited_at
visited_refused bytes f e = elim (bind_err (byte_at malformed bytes 0) (by_first bytes) f e) [
  | inl none ↦ formless ((byte_stays IsFormless malformed refl bytes).refuses 0 f (omega arith) none)
  | inr first ↦
      let t = byte_takes malformed bytes 0 first.0 first.1 in
      elim (chosen (eqb first.0.0 2) (Err (Refused 4)) (cond (eqb first.0.0 1) (Ok ([], first.0.1)) (cond (eqb first.0.0 3) (numbers_at bytes first.0.1) (Err malformed))) (Err f) first.2) [
        | inl is ↦ relayed (drop first.0.1 bytes, t.parts ∙ ap (λ (b : ℕ). b ∷ drop first.0.1 bytes) (eqb-true _ _ is.0)) (sym (err_is (List ℕ × ℕ) (Refused 4) f is.1))
        | inr other ↦ elim (chosen (eqb first.0.0 1) (Ok ([], first.0.1)) (cond (eqb first.0.0 3) (numbers_at bytes first.0.1) (Err malformed)) (Err f) other.1) [
          | inl issued ↦ absurd (cc (issued.1))
          | inr rest ↦ elim (chosen (eqb first.0.0 3) (numbers_at bytes first.0.1) (Err malformed) (Err f) rest.1) [
            | inl carried ↦ formless ((numbers_stay bytes).refuses first.0.1 f (TakesAt-within bytes 0 (first.0.0 ∷ []) first.0.1 (omega arith) t) carried.1)
            | inr none ↦ formless (sym (err_is (List ℕ × ℕ) malformed f none.1))
          ]
        ]
      ]
]

-- bytes of a relay's seal
pub relayed_stops : (bytes : List ℕ) → IsRelayed bytes → visited_at bytes ≡ Err (Refused 4)
unfolding visited_at
relayed_stops bytes is = rw (byte_again malformed bytes is.0 0 2 is.1) refl

-- ---- a loop that reads the numbers

-- where a number is refused, all are
pub stops_here : (bytes visited : List ℕ) (count i at : ℕ) (total : Result (List ℕ × ℕ) HopFault) (f : HopFault) → i < count → number_at malformed w32 bytes at ≡ Err f
    → IsSoFar (λ _. number_at malformed w32 bytes) count i visited at total → total ≡ Err f
unfolding items_behind
stops_here bytes visited count i at total f lt is so_far =
    let k : count - i ≡ suc (count - (i + 1)) = omega arith in
    let one : items_behind (λ _. number_at malformed w32 bytes) (count - i) visited at ≡ Err f = rw (k, is) refl in
    sym so_far.rest ∙ one
