-- The certificates that an opening holds in common: what is read is spelled so, and the other way.
use Rattle.std.proofs.Common.{◌≡◌, ◌≢◌, ℕ, ◌+◌, ◌^◌, ◌<◌, ◌≤◌, false, List, ◌∷◌, ◌++◌, length, drop, Ok, refl, sym, ap, subst, ◌∙◌, append_assoc, arith, length-append}
use Rattle.std.specs.Prelude.{All, AllPairs}
use Rattle.std.specs.List.{flat_map}
use Rattle.std.specs.Int.{w16, to_be_bytes}
use Rattle.std.proofs.lemmas.List.Elements.{All-weaker}
use Rattle.byte_fields.specs.Readers.{Reader, followed, is_new}
use Rattle.byte_fields.specs.Steps.{◌>>=◌, with_fault, bytes_at}
use Rattle.byte_fields.proofs.FieldLaws.{bytes_are, TakesAt, TakesAt-then, TakesAt-within, behind, bytes_again}
use Rattle.byte_fields.proofs.ReaderLaws.{Reads, reads_bytes, reads_followed, reads_passing, reads_made, reads_counted, is_new-All, is_new-from_All}
use Rattle.byte_fields.proofs.Results.{bind_ok, ok_is, with_fault_ok}
use Rattle.sealed_cert.specs.Refusals.{opened}
use Rattle.sealed_cert.specs.Seals.{sealed, IsSealed}
use Rattle.sealed_cert.proofs.Opened.{opened_takes, opened_again}
use Rattle.sealed_cert.proofs.Sizes.{short_sealed}
use Rattle.stmt_codec.specs.Certificates.{Certificate, IsWithinLimits}
use Rattle.stmt_codec.specs.Equality.{same_certificate}
use Rattle.stmt_codec.proofs.Equal.{same_certificate-false, same_certificate-apart}
use Rattle.byte_fields.specs.declared.fault.FormatFault.{FormatFault}
use Rattle.byte_fields.specs.declared.fault.FormatFault.TheVariants.{Malformed}
use Rattle.node_file.specs.Opening.{common_bytes, IsCommon}
use Rattle.byte_fields.specs.Formats.{ended}
use Rattle.node_file.specs.OpeningReading.{opened_in, common_at, commons_at}
use Rattle.byte_fields.proofs.FormatFields.{reads_u8, reads_u16}

-- one behind another, whose bytes depend on the first
pub reads_followed_by : {A B E : Type 0} {bytes : List ℕ} {first : Reader A E} {second : A → Reader B E} {sa : A → List ℕ} {Fa : A → Type 0} {Fb : A → B → Type 0} (sb : A → B → List ℕ)
    → Reads bytes first sa Fa → ((a : A) → Fa a → Reads bytes (second a) (sb a) (Fb a)) → Reads bytes (followed first second) (λ p. sa p.0 ++ sb p.0 p.1) (λ p. Fa p.0 × Fb p.0 p.1)
reads_followed_by {A} {B} {E} {bytes} {first} {second} {sa} {Fa} {Fb} sb one two = record {
  takes = λ ok at x le e.
      let a = bind_ok (first at) (λ a. second a.0 a.1 >>= λ b. Ok ((a.0, b.0), b.1)) x e in
      let b = bind_ok (second a.0.0 a.0.1) (λ b. Ok ((a.0.0, b.0), b.1)) x a.2 in
      let t = one.takes ok at a.0 le a.1 in
      let u = (two a.0.0 t.1).takes ok a.0.1 b.0 (TakesAt-within bytes at (sa a.0.0) a.0.1 le t.0) b.1 in
      let both : (A × B) × ℕ = ((a.0.0, b.0.0), b.0.1) in
      subst (λ (y : (A × B) × ℕ). TakesAt bytes at (sa y.0.0 ++ sb y.0.0 y.0.1) y.1 × (Fa y.0.0 × Fb y.0.0 y.0.1)) (ok_is E both x b.2)
      (TakesAt-then bytes at (sa a.0.0) a.0.1 (sb a.0.0 b.0.0) b.0.1 t.0 u.0, (t.1, u.1));
  again = λ at p rest fits e.
      let grouped : drop at bytes ≡ sa p.0 ++ (sb p.0 p.1 ++ rest) = e ∙ append_assoc (sa p.0) (sb p.0 p.1) rest in
      let first_is = one.again at p.0 (sb p.0 p.1 ++ rest) fits.0 grouped in
      let second_is = (two p.0 fits.0).again (at + length (sa p.0)) p.1 rest fits.1 (behind bytes (sa p.0) (sb p.0 p.1 ++ rest) at grouped) in
      let place : at + length (sa p.0) + length (sb p.0 p.1) ≡ at + length (sa p.0 ++ sb p.0 p.1) = omega (arith, length-append (sa p.0) (sb p.0 p.1)) in
      rw (first_is, second_is, place) refl;
}

-- ---- a sealed certificate is short enough for its length

pub sealed_short : (key : List ℕ) (c : Certificate) → IsWithinLimits c → length (sealed 2 key c) < 2 ^ 16
sealed_short key c limits = omega (arith, short_sealed 2 key c limits)

-- ---- what is read

module _ (bytes relay_key : List ℕ) where
  reads_opened : (count : ℕ) → Reads bytes (opened_in bytes relay_key count) (sealed 2 relay_key) (λ c. IsCommon c × (length (sealed 2 relay_key c) ≡ count))
  unfolding opened_in
  reads_opened count = record {
    takes = λ ok at x le e.
        let text = bind_ok (bytes_at (ended bytes) count bytes at) (λ text. with_fault (λ _. Malformed at) (opened relay_key text.0) >>= λ c. Ok (c, text.1)) x e in
        let c = bind_ok (with_fault (λ _. Malformed at) (opened relay_key text.0.0)) (λ c. Ok (c, text.0.1)) x text.2 in
        let t = (reads_bytes (ended bytes) count bytes).takes ok at text.0 le text.1 in
        let is : IsSealed 2 relay_key text.0.0 c.0 = opened_takes relay_key text.0.0 c.0 (bytes_are text.0.0 t.1.1) (with_fault_ok (λ _. Malformed at) (opened relay_key text.0.0) c.0 c.1) in
        let whole : Certificate × ℕ = (c.0, text.0.1) in
        subst (λ (y : Certificate × ℕ). TakesAt bytes at (sealed 2 relay_key y.0) y.1 × (IsCommon y.0 × (length (sealed 2 relay_key y.0) ≡ count))) (ok_is FormatFault whole x c.2)
        (subst (λ (l : List ℕ). TakesAt bytes at l text.0.1) is.text t.0, ((is.numbers, is.limits), ap length (sym is.text) ∙ t.1.0));
    again = λ at c rest fits e.
        let text : List ℕ = sealed 2 relay_key c in
        let read = bytes_again_at at text rest fits.1 e in
        let is = opened_again relay_key text c (record { text = refl; numbers = fits.0.0; limits = fits.0.1 }) in
        rw (read, is) refl;
  }
    where
      bytes_again_at : (at : ℕ) (text rest : List ℕ) → length text ≡ count → drop at bytes ≡ text ++ rest → bytes_at (ended bytes) count bytes at ≡ Ok (text, at + length text)
      bytes_again_at at text rest len e = bytes_again (ended bytes) count bytes text rest at len e ∙ ap (λ (k : ℕ). Ok (text, at + k)) (sym len)

  reads_common : (before : List Certificate) → Reads bytes (common_at bytes relay_key before) (common_bytes relay_key) (λ c. IsCommon c × All (λ d. d ≢ c) before)
  unfolding common_at
  reads_common before =
      reads_made (λ (p : ℕ × Certificate). p.1) (λ (c : Certificate). (length (sealed 2 relay_key c), c)) (common_bytes relay_key) (λ c. IsCommon c × All (λ d. d ≢ c) before)
      (reads_followed (reads_u16 bytes) (λ count _. reads_passing (λ c. is_new (same_certificate c) before) Malformed (reads_opened count)))
      (λ p is. (
        (is.1.0.0, All-weaker (λ d. same_certificate p.1 d ≡ false) (λ d. d ≢ p.1) (λ d e same. same_certificate-apart p.1 d e (sym same)) before (is_new-All (same_certificate p.1) before is.1.1)),
        ap (λ (k : ℕ). to_be_bytes w16 k ++ sealed 2 relay_key p.1) (sym is.1.0.1),
      ))
      (λ c is. (
        (sealed_short relay_key c is.0.1, ((is.0, refl), is_new-from_All (same_certificate c) before (All-weaker (λ d. d ≢ c) (λ d. same_certificate c d ≡ false) (λ d differ. same_certificate-false c d (λ same. differ (sym same))) before is.1))),
        refl,
        refl,
      ))

  pub reads_commons : Reads bytes (commons_at bytes relay_key) (λ xs. length xs ∷ flat_map (common_bytes relay_key) xs) (λ xs. (length xs ≤ 32) × All IsCommon xs × AllPairs (λ c d. c ≢ d) xs)
  unfolding commons_at
  reads_commons = reads_counted 32 256 Malformed (common_bytes relay_key) IsCommon (λ c d. c ≢ d) (omega arith) (reads_u8 bytes) reads_common
