-- What was told: what is read is spelled so, and the other way.
use Rattle.std.proofs.Common.{◌≡◌, ◌⊎◌, inl, inr, false, ℕ, ◌+◌, ◌^◌, ◌<◌, ◌≤◌, eqb, List, [], ◌∷◌, ◌++◌, length, drop, Ok, refl, sym, ap, subst, ◌∙◌, arith}
use Rattle.std.specs.Int.{w32, w64, to_be_bytes}
use Rattle.std.proofs.lemmas.Bool.{cond-true, cond-false, eqb-true, eqb-false, eq-eqb}
use Rattle.byte_fields.specs.Formats.{FormatReader, ended, u8_in, u32_in, u64_in}
use Rattle.byte_fields.specs.Readers.{followed, given, made}
use Rattle.byte_fields.specs.Steps.{bytes_at}
use Rattle.byte_fields.proofs.FieldReaders.{reads_if}
use Rattle.byte_fields.proofs.FormatFields.{reads_u8, reads_u32, reads_u64, reads_u8_in}
use Rattle.byte_fields.proofs.ReaderLaws.{Reads, reads_bytes, reads_followed, reads_made}
use Rattle.object_core.proofs.Halves.{Takes, takes_if, takes_made, takes_given, again_made, again_given}
use Rattle.agent_core.specs.declared.told.DropCause.{DropCause}
use Rattle.agent_core.specs.declared.told.Told.{Told}
use Rattle.journal_bytes.specs.declared.limits.TheConstants.{LAST_EVENT}
use Rattle.journal_bytes.specs.Limits.{FitsTold}
use Rattle.journal_bytes.specs.Reading.{answer_at, asked_at, kept_at, held_at, left_at, told_at}
use Rattle.journal_bytes.specs.Spelling.{told_bytes}

-- the byte that names an answer, and what the answer says besides; a count of what was let go has no such byte, unless an issuer was withdrawn
abbrev mark_of : Told → ℕ
mark_of Told.Miss = 0
mark_of (Told.Hit entry) = 1
mark_of (Told.Replayed last) = 2
mark_of (Told.Full held) = 3
mark_of Told.Kept = 0
mark_of (Told.Dropped (DropCause.NotHeld digest)) = 1
mark_of (Told.Dropped (DropCause.Lapsed clock lease)) = 2
mark_of (Told.Held added) = 0
mark_of (Told.CommonsFull held) = 1
mark_of (Told.Removed count) = 0
mark_of (Told.WithdrawnFull held) = 1

abbrev told_fields : Told → List ℕ
told_fields Told.Miss = []
told_fields (Told.Hit entry) = entry ∷ []
told_fields (Told.Replayed last) = to_be_bytes w64 last
told_fields (Told.Full held) = held ∷ []
told_fields Told.Kept = []
told_fields (Told.Dropped (DropCause.NotHeld digest)) = digest
told_fields (Told.Dropped (DropCause.Lapsed clock lease)) = to_be_bytes w64 clock ++ to_be_bytes w64 lease
told_fields (Told.Held added) = added ∷ []
told_fields (Told.CommonsFull held) = held ∷ []
told_fields (Told.Removed count) = to_be_bytes w32 count
told_fields (Told.WithdrawnFull held) = held ∷ []

-- an answer to events of the kind, named by this byte
abbrev IsMarked : ℕ → ℕ → Told → Type 0
IsMarked kind mark t = FitsTold kind t × (mark_of t ≡ mark)

-- events of this kind have several answers, each with its byte
abbrev HasMarks : ℕ → Type 0
HasMarks kind = (kind ≤ 3) ⊎ (kind ≡ 7)

told_is : (kind : ℕ) → HasMarks kind → (t : Told) → FitsTold kind t → told_bytes kind t ≡ mark_of t ∷ told_fields t
unfolding told_bytes
told_is kind le Told.Miss fits = refl
told_is kind le (Told.Hit entry) fits = refl
told_is kind le (Told.Replayed last) fits = refl
told_is kind le (Told.Full held) fits = refl
told_is kind le Told.Kept fits = refl
told_is kind le (Told.Dropped (DropCause.NotHeld digest)) fits = refl
told_is kind le (Told.Dropped (DropCause.Lapsed clock lease)) fits = refl
told_is kind le (Told.Held added) fits = refl
told_is kind le (Told.CommonsFull held) fits = refl
told_is kind (inl le) (Told.Removed count) fits = absurd (omega (arith, le, fits.0))
told_is kind (inr is) (Told.Removed count) fits = cond-true (eqb kind 7) (0 ∷ to_be_bytes w32 count) (to_be_bytes w32 count) (eq-eqb kind 7 is)
told_is kind le (Told.WithdrawnFull held) fits = refl

-- the last answer to an Ask, to a proof that is to be kept, and to certificates that are to be held
asked_within : (t : Told) → FitsTold 1 t → mark_of t ≤ 3
asked_within Told.Miss fits = omega arith
asked_within (Told.Hit entry) fits = omega arith
asked_within (Told.Replayed last) fits = omega arith
asked_within (Told.Full held) fits = omega arith
asked_within Told.Kept fits = absurd (omega (arith, fits))
asked_within (Told.Dropped (DropCause.NotHeld digest)) fits = absurd (omega (arith, fits.0))
asked_within (Told.Dropped (DropCause.Lapsed clock lease)) fits = absurd (omega (arith, fits.0))
asked_within (Told.Held added) fits = absurd (omega (arith, fits.0))
asked_within (Told.CommonsFull held) fits = absurd (omega (arith, fits.0))
asked_within (Told.Removed count) fits = absurd (omega (arith, fits.0))
asked_within (Told.WithdrawnFull held) fits = absurd (omega (arith, fits.0))

kept_within : (t : Told) → FitsTold 2 t → mark_of t ≤ 2
kept_within Told.Miss fits = absurd (omega (arith, fits))
kept_within (Told.Hit entry) fits = absurd (omega (arith, fits.0))
kept_within (Told.Replayed last) fits = absurd (omega (arith, fits.0))
kept_within (Told.Full held) fits = absurd (omega (arith, fits.0))
kept_within Told.Kept fits = omega arith
kept_within (Told.Dropped (DropCause.NotHeld digest)) fits = omega arith
kept_within (Told.Dropped (DropCause.Lapsed clock lease)) fits = omega arith
kept_within (Told.Held added) fits = absurd (omega (arith, fits.0))
kept_within (Told.CommonsFull held) fits = absurd (omega (arith, fits.0))
kept_within (Told.Removed count) fits = absurd (omega (arith, fits.0))
kept_within (Told.WithdrawnFull held) fits = absurd (omega (arith, fits.0))

held_within : (t : Told) → FitsTold 3 t → mark_of t ≤ 1
held_within Told.Miss fits = absurd (omega (arith, fits))
held_within (Told.Hit entry) fits = absurd (omega (arith, fits.0))
held_within (Told.Replayed last) fits = absurd (omega (arith, fits.0))
held_within (Told.Full held) fits = absurd (omega (arith, fits.0))
held_within Told.Kept fits = absurd (omega (arith, fits))
held_within (Told.Dropped (DropCause.NotHeld digest)) fits = absurd (omega (arith, fits.0))
held_within (Told.Dropped (DropCause.Lapsed clock lease)) fits = absurd (omega (arith, fits.0))
held_within (Told.Held added) fits = omega arith
held_within (Told.CommonsFull held) fits = omega arith
held_within (Told.Removed count) fits = absurd (omega (arith, fits.0))
held_within (Told.WithdrawnFull held) fits = absurd (omega (arith, fits.0))

left_within : (t : Told) → FitsTold 7 t → mark_of t ≤ 1
left_within Told.Miss fits = absurd (omega (arith, fits))
left_within (Told.Hit entry) fits = absurd (omega (arith, fits.0))
left_within (Told.Replayed last) fits = absurd (omega (arith, fits.0))
left_within (Told.Full held) fits = absurd (omega (arith, fits.0))
left_within Told.Kept fits = absurd (omega (arith, fits))
left_within (Told.Dropped (DropCause.NotHeld digest)) fits = absurd (omega (arith, fits.0))
left_within (Told.Dropped (DropCause.Lapsed clock lease)) fits = absurd (omega (arith, fits.0))
left_within (Told.Held added) fits = absurd (omega (arith, fits.0))
left_within (Told.CommonsFull held) fits = absurd (omega (arith, fits.0))
left_within (Told.Removed count) fits = omega arith
left_within (Told.WithdrawnFull held) fits = omega arith

-- how many were let go, where that was told
abbrev removed_of : Told → ℕ
removed_of (Told.Removed count) = count
removed_of _ = 0

removed_is : (kind : ℕ) → 3 < kind → eqb kind 7 ≡ false → (t : Told) → FitsTold kind t → (removed_of t < 2 ^ 32) × (told_bytes kind t ≡ to_be_bytes w32 (removed_of t)) × (Told.Removed (removed_of t) ≡ t)
unfolding told_bytes
removed_is kind past other Told.Miss fits = absurd (omega (arith, past, fits))
removed_is kind past other (Told.Hit entry) fits = absurd (omega (arith, past, fits.0))
removed_is kind past other (Told.Replayed last) fits = absurd (omega (arith, past, fits.0))
removed_is kind past other (Told.Full held) fits = absurd (omega (arith, past, fits.0))
removed_is kind past other Told.Kept fits = absurd (omega (arith, past, fits))
removed_is kind past other (Told.Dropped (DropCause.NotHeld digest)) fits = absurd (omega (arith, past, fits.0))
removed_is kind past other (Told.Dropped (DropCause.Lapsed clock lease)) fits = absurd (omega (arith, past, fits.0))
removed_is kind past other (Told.Held added) fits = absurd (omega (arith, past, fits.0))
removed_is kind past other (Told.CommonsFull held) fits = absurd (omega (arith, past, fits.0))
removed_is kind past other (Told.Removed count) fits = (fits.1, cond-false (eqb kind 7) (0 ∷ to_be_bytes w32 count) (to_be_bytes w32 count) other, refl)
removed_is kind past other (Told.WithdrawnFull held) fits = absurd (omega (arith, fits.0, eqb-false kind 7 other))

module _ (bytes : List ℕ) where
  -- answers that a byte names, by their halves
  reads_answer : (kind last : ℕ) (fields : ℕ → FormatReader Told) → HasMarks kind → last < 256
      → ((mark : ℕ) → mark ≤ last → Takes bytes (fields mark) told_fields (IsMarked kind mark))
      → ((t : Told) (at : ℕ) (rest : List ℕ) → FitsTold kind t → drop at bytes ≡ told_fields t ++ rest → fields (mark_of t) at ≡ Ok (t, at + length (told_fields t)))
      → ((t : Told) → FitsTold kind t → mark_of t ≤ last)
      → Reads bytes (answer_at last fields bytes) (told_bytes kind) (FitsTold kind)
  unfolding answer_at
  reads_answer kind last fields low few takes again within =
      reads_made (λ (x : ℕ × Told). x.1) (λ (t : Told). (mark_of t, t)) (told_bytes kind) (FitsTold kind)
      (reads_followed (reads_u8_in bytes 0 last few) (λ mark below. record {
        takes = takes mark below.1;
        again = λ at t rest is e. subst (λ (m : ℕ). fields m at ≡ Ok (t, at + length (told_fields t))) is.1 (again t at rest is.0 e);
      }))
      (λ x is. (is.1.0, ap (λ (m : ℕ). m ∷ told_fields x.1) (sym is.1.1) ∙ sym (told_is kind low x.1 is.1.0)))
      (λ t is. (((omega arith, within t is), (is, refl)), told_is kind low t is, refl))

  -- ---- an Ask

  asked_takes : (mark : ℕ) → mark ≤ 3 → Takes bytes (asked_at bytes mark) told_fields (IsMarked 1 mark)
  unfolding asked_at
  asked_takes mark le =
      takes_if bytes (eqb mark 0) (given Told.Miss) _ told_fields (IsMarked 1 mark) (λ t. takes_given bytes Told.Miss told_fields (IsMarked 1 mark) refl (refl, sym (eqb-true mark 0 t))) (λ n0.
      takes_if bytes (eqb mark 1) (made Told.Hit (u8_in bytes)) _ told_fields (IsMarked 1 mark) (λ t. takes_made Told.Hit told_fields (IsMarked 1 mark) (reads_u8 bytes) (λ x is. (((refl, is), sym (eqb-true mark 1 t)), refl))) (λ n1.
      takes_if bytes (eqb mark 2) (made Told.Replayed (u64_in bytes)) _ told_fields (IsMarked 1 mark) (λ t. takes_made Told.Replayed told_fields (IsMarked 1 mark) (reads_u64 bytes) (λ x is. (((refl, is), sym (eqb-true mark 2 t)), refl))) (λ n2.
      takes_made Told.Full told_fields (IsMarked 1 mark) (reads_u8 bytes) (λ x is. (((refl, is), omega (arith, le, eqb-false _ _ n0, eqb-false _ _ n1, eqb-false _ _ n2)), refl)))))

  asked_again : (t : Told) (at : ℕ) (rest : List ℕ) → FitsTold 1 t → drop at bytes ≡ told_fields t ++ rest → asked_at bytes (mark_of t) at ≡ Ok (t, at + length (told_fields t))
  unfolding asked_at
  asked_again Told.Miss at rest fits e = again_given Told.Miss at
  asked_again (Told.Hit entry) at rest fits e = again_made Told.Hit (reads_u8 bytes) at entry rest fits.1 e
  asked_again (Told.Replayed last) at rest fits e = again_made Told.Replayed (reads_u64 bytes) at last rest fits.1 e
  asked_again (Told.Full held) at rest fits e = again_made Told.Full (reads_u8 bytes) at held rest fits.1 e
  asked_again Told.Kept at rest fits e = absurd (omega (arith, fits))
  asked_again (Told.Dropped (DropCause.NotHeld digest)) at rest fits e = absurd (omega (arith, fits.0))
  asked_again (Told.Dropped (DropCause.Lapsed clock lease)) at rest fits e = absurd (omega (arith, fits.0))
  asked_again (Told.Held added) at rest fits e = absurd (omega (arith, fits.0))
  asked_again (Told.CommonsFull held) at rest fits e = absurd (omega (arith, fits.0))
  asked_again (Told.Removed count) at rest fits e = absurd (omega (arith, fits.0))
  asked_again (Told.WithdrawnFull held) at rest fits e = absurd (omega (arith, fits.0))

  -- ---- a proof that is to be kept

  reads_lapsed : Reads bytes (followed (u64_in bytes) (λ _. u64_in bytes)) (λ p. to_be_bytes w64 p.0 ++ to_be_bytes w64 p.1) (λ p. (p.0 < 2 ^ 64) × (p.1 < 2 ^ 64))
  reads_lapsed = reads_followed (reads_u64 bytes) (λ _ _. reads_u64 bytes)

  abbrev not_held : List ℕ → Told
  not_held digest = Told.Dropped (DropCause.NotHeld digest)

  abbrev lapsed : ℕ × ℕ → Told
  lapsed x = Told.Dropped (DropCause.Lapsed x.0 x.1)

  kept_takes : (mark : ℕ) → mark ≤ 2 → Takes bytes (kept_at bytes mark) told_fields (IsMarked 2 mark)
  unfolding kept_at
  kept_takes mark le =
      takes_if bytes (eqb mark 0) (given Told.Kept) _ told_fields (IsMarked 2 mark) (λ t. takes_given bytes Told.Kept told_fields (IsMarked 2 mark) refl (refl, sym (eqb-true mark 0 t))) (λ n0.
      takes_if bytes (eqb mark 1) (made not_held (bytes_at (ended bytes) 32 bytes)) _ told_fields (IsMarked 2 mark) (λ t. takes_made not_held told_fields (IsMarked 2 mark) (reads_bytes (ended bytes) 32 bytes) (λ x is. (((refl, is), sym (eqb-true mark 1 t)), refl))) (λ n1.
      takes_made lapsed told_fields (IsMarked 2 mark) reads_lapsed (λ x is. (((refl, is.0, is.1), omega (arith, le, eqb-false _ _ n0, eqb-false _ _ n1)), refl))))

  kept_again : (t : Told) (at : ℕ) (rest : List ℕ) → FitsTold 2 t → drop at bytes ≡ told_fields t ++ rest → kept_at bytes (mark_of t) at ≡ Ok (t, at + length (told_fields t))
  unfolding kept_at
  kept_again Told.Miss at rest fits e = absurd (omega (arith, fits))
  kept_again (Told.Hit entry) at rest fits e = absurd (omega (arith, fits.0))
  kept_again (Told.Replayed last) at rest fits e = absurd (omega (arith, fits.0))
  kept_again (Told.Full held) at rest fits e = absurd (omega (arith, fits.0))
  kept_again Told.Kept at rest fits e = again_given Told.Kept at
  kept_again (Told.Dropped (DropCause.NotHeld digest)) at rest fits e = again_made not_held (reads_bytes (ended bytes) 32 bytes) at digest rest fits.1 e
  kept_again (Told.Dropped (DropCause.Lapsed clock lease)) at rest fits e = again_made lapsed reads_lapsed at (clock, lease) rest (fits.1, fits.2) e
  kept_again (Told.Held added) at rest fits e = absurd (omega (arith, fits.0))
  kept_again (Told.CommonsFull held) at rest fits e = absurd (omega (arith, fits.0))
  kept_again (Told.Removed count) at rest fits e = absurd (omega (arith, fits.0))
  kept_again (Told.WithdrawnFull held) at rest fits e = absurd (omega (arith, fits.0))

  -- ---- certificates that are to be held

  held_takes : (mark : ℕ) → mark ≤ 1 → Takes bytes (held_at bytes mark) told_fields (IsMarked 3 mark)
  unfolding held_at
  held_takes mark le =
      takes_if bytes (eqb mark 0) (made Told.Held (u8_in bytes)) _ told_fields (IsMarked 3 mark) (λ t. takes_made Told.Held told_fields (IsMarked 3 mark) (reads_u8 bytes) (λ x is. (((refl, is), sym (eqb-true mark 0 t)), refl))) (λ n0.
      takes_made Told.CommonsFull told_fields (IsMarked 3 mark) (reads_u8 bytes) (λ x is. (((refl, is), omega (arith, le, eqb-false _ _ n0)), refl)))

  held_again : (t : Told) (at : ℕ) (rest : List ℕ) → FitsTold 3 t → drop at bytes ≡ told_fields t ++ rest → held_at bytes (mark_of t) at ≡ Ok (t, at + length (told_fields t))
  unfolding held_at
  held_again Told.Miss at rest fits e = absurd (omega (arith, fits))
  held_again (Told.Hit entry) at rest fits e = absurd (omega (arith, fits.0))
  held_again (Told.Replayed last) at rest fits e = absurd (omega (arith, fits.0))
  held_again (Told.Full held) at rest fits e = absurd (omega (arith, fits.0))
  held_again Told.Kept at rest fits e = absurd (omega (arith, fits))
  held_again (Told.Dropped (DropCause.NotHeld digest)) at rest fits e = absurd (omega (arith, fits.0))
  held_again (Told.Dropped (DropCause.Lapsed clock lease)) at rest fits e = absurd (omega (arith, fits.0))
  held_again (Told.Held added) at rest fits e = again_made Told.Held (reads_u8 bytes) at added rest fits.1 e
  held_again (Told.CommonsFull held) at rest fits e = again_made Told.CommonsFull (reads_u8 bytes) at held rest fits.1 e
  held_again (Told.Removed count) at rest fits e = absurd (omega (arith, fits.0))
  held_again (Told.WithdrawnFull held) at rest fits e = absurd (omega (arith, fits.0))

  -- ---- an issuer that is to be withdrawn

  left_takes : (mark : ℕ) → mark ≤ 1 → Takes bytes (left_at bytes mark) told_fields (IsMarked 7 mark)
  unfolding left_at
  left_takes mark le =
      takes_if bytes (eqb mark 0) (made Told.Removed (u32_in bytes)) _ told_fields (IsMarked 7 mark) (λ t. takes_made Told.Removed told_fields (IsMarked 7 mark) (reads_u32 bytes) (λ x is. (((omega arith, is), sym (eqb-true mark 0 t)), refl))) (λ n0.
      takes_made Told.WithdrawnFull told_fields (IsMarked 7 mark) (reads_u8 bytes) (λ x is. (((refl, is), omega (arith, le, eqb-false _ _ n0)), refl)))

  left_again : (t : Told) (at : ℕ) (rest : List ℕ) → FitsTold 7 t → drop at bytes ≡ told_fields t ++ rest → left_at bytes (mark_of t) at ≡ Ok (t, at + length (told_fields t))
  unfolding left_at
  left_again Told.Miss at rest fits e = absurd (omega (arith, fits))
  left_again (Told.Hit entry) at rest fits e = absurd (omega (arith, fits.0))
  left_again (Told.Replayed last) at rest fits e = absurd (omega (arith, fits.0))
  left_again (Told.Full held) at rest fits e = absurd (omega (arith, fits.0))
  left_again Told.Kept at rest fits e = absurd (omega (arith, fits))
  left_again (Told.Dropped (DropCause.NotHeld digest)) at rest fits e = absurd (omega (arith, fits.0))
  left_again (Told.Dropped (DropCause.Lapsed clock lease)) at rest fits e = absurd (omega (arith, fits.0))
  left_again (Told.Held added) at rest fits e = absurd (omega (arith, fits.0))
  left_again (Told.CommonsFull held) at rest fits e = absurd (omega (arith, fits.0))
  left_again (Told.Removed count) at rest fits e = again_made Told.Removed (reads_u32 bytes) at count rest fits.1 e
  left_again (Told.WithdrawnFull held) at rest fits e = again_made Told.WithdrawnFull (reads_u8 bytes) at held rest fits.1 e

  -- ---- any event

  reads_kind : {kind this : ℕ} {r : FormatReader Told} → this ≡ kind → Reads bytes r (told_bytes this) (FitsTold this) → Reads bytes r (told_bytes kind) (FitsTold kind)
  reads_kind {kind} {this} {r} same reads = subst (λ (k : ℕ). Reads bytes r (told_bytes k) (FitsTold k)) same reads

  pub reads_told : (kind : ℕ) → (1 ≤ kind) × (kind ≤ LAST_EVENT) → Reads bytes (told_at bytes kind) (told_bytes kind) (FitsTold kind)
  unfolding told_at
  reads_told kind low_high =
      reads_if (eqb kind 1) (answer_at 3 (asked_at bytes) bytes) _ (told_bytes kind) (FitsTold kind) (λ t. reads_kind (sym (eqb-true kind 1 t)) (reads_answer 1 3 (asked_at bytes) (inl (omega arith)) (omega arith) asked_takes asked_again asked_within)) (λ n1.
      reads_if (eqb kind 2) (answer_at 2 (kept_at bytes) bytes) _ (told_bytes kind) (FitsTold kind) (λ t. reads_kind (sym (eqb-true kind 2 t)) (reads_answer 2 2 (kept_at bytes) (inl (omega arith)) (omega arith) kept_takes kept_again kept_within)) (λ n2.
      reads_if (eqb kind 3) (answer_at 1 (held_at bytes) bytes) _ (told_bytes kind) (FitsTold kind) (λ t. reads_kind (sym (eqb-true kind 3 t)) (reads_answer 3 1 (held_at bytes) (inl (omega arith)) (omega arith) held_takes held_again held_within)) (λ n3.
      reads_if (eqb kind 7) (answer_at 1 (left_at bytes) bytes) _ (told_bytes kind) (FitsTold kind) (λ t. reads_kind (sym (eqb-true kind 7 t)) (reads_answer 7 1 (left_at bytes) (inr refl) (omega arith) left_takes left_again left_within)) (λ n7.
      let past : 3 < kind = omega (arith, low_high.0, eqb-false _ _ n1, eqb-false _ _ n2, eqb-false _ _ n3) in
      reads_made Told.Removed removed_of (told_bytes kind) (FitsTold kind) (reads_u32 bytes)
      (λ n is. ((past, is), sym (removed_is kind past n7 (Told.Removed n) (past, is)).1))
      (λ t is. removed_is kind past n7 t is)))))
