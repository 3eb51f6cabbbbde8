-- A proof after its length: what is read is spelled so, and the other way; and where it is refused, whole or cut.
use Rattle.std.proofs.Common.{◌≡◌, ℕ, ◌+◌, ◌<◌, ◌≤◌, ◌^◌, List, ◌++◌, length, take, drop, Ok, refl, sym, ap, subst, ◌∙◌, arith, inl, inr}
use Rattle.std.specs.Int.{w32, to_be_bytes}
use Rattle.std.proofs.lemmas.List.{length-take-le, take-append-le}
use Rattle.byte_fields.specs.declared.fault.FormatFault.{FormatFault as ProofFault}
use Rattle.byte_fields.specs.declared.fault.FormatFault.TheVariants.{Malformed, NoMemory}
use Rattle.byte_fields.specs.Formats.{ended, IsFaultIn}
use Rattle.byte_fields.specs.Steps.{◌>>=◌, bytes_at}
use Rattle.byte_fields.proofs.Cuts.{cuts_bytes}
use Rattle.byte_fields.proofs.FieldLaws.{IsBytes, TakesAt-within, bytes_takes}
use Rattle.byte_fields.proofs.FormatFields.{reads_u32}
use Rattle.byte_fields.proofs.FormatPlaces.{text_stays}
use Rattle.byte_fields.proofs.Forms.{Form, form_followed, form_made, form_u32}
use Rattle.byte_fields.proofs.ReaderLaws.{Reads, reads_followed, reads_made}
use Rattle.byte_fields.proofs.Results.{bind_ok, bind_err, ok_is}
use Rattle.taos_calculus.specs.ProofReading.{proof_at, proof_filling, proof_from}
use Rattle.taos_calculus.specs.Rules.{Line}
use Rattle.taos_calculus.specs.Spelling.{numbered, proof_bytes, proof_spelling}
use Rattle.taos_calculus.specs.Spells.{FitsProof, IsProof, IsProofAt}
use Rattle.taos_calculus.specs.Tables.{Parts, lines_of}
use Rattle.taos_calculus.proofs.ProofForms.{proof_tells}
use Rattle.taos_calculus.proofs.ProofLaws.{reads_filling}
use Rattle.taos_calculus.proofs.Short.{parts_short}
use Rattle.taos_calculus.proofs.Spelled.{numbered-lines_of, spelling_is}

numbered_fits : (lines : List Line) → IsProof lines → FitsProof (numbered lines) × (lines_of (numbered lines) ≡ lines)
numbered_fits lines is =
    let same : numbered lines ≡ is.parts = ap numbered (sym is.meaning) ∙ numbered-lines_of is.parts is.limits.proof.canonical in
    (subst FitsProof (sym same) is.limits, ap lines_of same ∙ is.meaning)

proof_short : (parts : Parts) → FitsProof parts → length (proof_spelling (lines_of parts)) < 2 ^ 25
proof_short parts fits =
    subst (λ (l : List ℕ). length l < 2 ^ 25) (spelling_is parts parts.nodes parts.lines fits.proof.canonical refl refl)
    (parts_short parts.nodes parts.lines fits.proof.nodes_fit fits.proof.lines_fit)

-- a fault in the front is one in all of the bytes
in_front : (bytes : List ℕ) (end : ℕ) → end ≤ length bytes → (f : ProofFault) → IsFaultIn (take end bytes) f → IsFaultIn bytes f
in_front bytes end le (Malformed o) is = omega (arith, is, length-take-le end bytes le, le)
in_front bytes end le NoMemory is = absurd is

module _ (bytes : List ℕ) where
  pub reads_proof : Reads bytes (proof_at bytes) proof_bytes IsProof
  unfolding proof_at proof_bytes
  reads_proof =
      reads_made (λ (x : ℕ × Parts). lines_of x.1) (λ (lines : List Line). (length (proof_spelling lines), numbered lines)) proof_bytes IsProof
      (reads_followed (reads_u32 bytes) (λ n _. reads_filling bytes n))
      (λ x is. (record { parts = x.1; limits = is.1.0; meaning = refl }, ap (λ (k : ℕ). to_be_bytes w32 k ++ proof_spelling (lines_of x.1)) (sym is.1.1)))
      (λ lines is.
      let n = numbered_fits lines is in
      let short : length (proof_spelling lines) < 2 ^ 25 = subst (λ (l : List Line). length (proof_spelling l) < 2 ^ 25) n.1 (proof_short (numbered lines) n.0) in
      ((omega (arith, short), (n.0, ap (λ (l : List Line). length (proof_spelling l)) n.1)), ap (λ (l : List Line). to_be_bytes w32 (length (proof_spelling lines)) ++ proof_spelling l) (sym n.1), n.1))

  -- ---- as the law says it

  pub proof_takes : IsBytes bytes → (lines : List Line) (at end : ℕ) → at ≤ length bytes → proof_at bytes at ≡ Ok (lines, end) → IsProofAt bytes at lines × (end ≡ at + length (proof_bytes lines))
  proof_takes ok lines at end le e =
      let t = reads_proof.takes ok at (lines, end) le e in
      (record { text = (drop end bytes, t.0.parts); limits = t.1 }, t.0.end_is)

  pub proof_again : (lines : List Line) (at end : ℕ) → IsProofAt bytes at lines → end ≡ at + length (proof_bytes lines) → proof_at bytes at ≡ Ok (lines, end)
  proof_again lines at end is place = rw place (reads_proof.again at lines is.text.0 is.limits is.text.1)

-- ---- where it is refused, whole or cut

module _ {Right : List ℕ → Type 0} where
  filling_form : (n : ℕ) → Form Right (λ bytes. proof_filling bytes n)
  unfolding proof_filling
  filling_form n = record {
    stays = λ bytes ok. record {
      ends = λ at x le e.
          let a = bind_ok (bytes_at (ended bytes) n bytes at) (λ text. proof_from (take (at + n) bytes) at >>= λ parts. Ok (parts, text.1)) x e in
          let b = bind_ok (proof_from (take (at + n) bytes) at) (λ parts. Ok (parts, a.0.1)) x a.2 in
          let made : Parts × ℕ = (b.0, a.0.1) in
          subst (λ (y : Parts × ℕ). y.1 ≤ length bytes) (ok_is ProofFault made x b.2) ((text_stays bytes n).ends at a.0 le a.1);
      refuses = λ at f le e.
          elim (bind_err (bytes_at (ended bytes) n bytes at) (λ text. proof_from (take (at + n) bytes) at >>= λ parts. Ok (parts, text.1)) f e) [
            | inl none ↦ (text_stays bytes n).refuses at f le none
            | inr a ↦
                let t = bytes_takes (ended bytes) n bytes at a.0 a.1 in
                let fits : at + n ≤ length bytes = omega (arith, t.0.end_is, t.1, TakesAt-within bytes at a.0.0 a.0.1 le t.0) in
                elim (bind_err (proof_from (take (at + n) bytes) at) (λ parts. Ok (parts, a.0.1)) f a.2) [
                  | inl none ↦ in_front bytes (at + n) fits f (proof_tells (take (at + n) bytes) at f (omega (arith, length-take-le (at + n) bytes fits)) none)
                  | inr b ↦ absurd (cc (b.2))
                ]
          ];
    };
    cuts = λ front more ok. record {
      at_cut = λ at x le e.
          let a = bind_ok (bytes_at (ended (front ++ more)) n (front ++ more) at) (λ text. proof_from (take (at + n) (front ++ more)) at >>= λ parts. Ok (parts, text.1)) x e in
          let b = bind_ok (proof_from (take (at + n) (front ++ more)) at) (λ parts. Ok (parts, a.0.1)) x a.2 in
          let made : Parts × ℕ = (b.0, a.0.1) in
          let made_is : made ≡ x = ok_is ProofFault made x b.2 in
          elim ((cuts_bytes (ended front) (ended (front ++ more)) front more n).at_cut at a.0 le a.1) [
            | inl there ↦
                let t = bytes_takes (ended front) n front at a.0 there.0 in
                let within : at + n ≤ length front = omega (arith, there.1, t.0.end_is, t.1) in
                let read : proof_from (take (at + n) front) at ≡ Ok b.0 = ap (λ (l : List ℕ). proof_from l at) (sym (take-append-le (at + n) front more within)) ∙ b.1 in
                inl (rw (there.0, read) (ap Ok made_is), subst (λ (y : Parts × ℕ). y.1 ≤ length front) made_is there.1)
            | inr lacking ↦ inr (rw lacking refl)
          ];
    };
  }

  pub form_proof : Form Right proof_at
  unfolding proof_at
  form_proof = form_made _ (form_followed form_u32 (λ n. filling_form n))
