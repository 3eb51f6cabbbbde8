-- Lists of certificates as fields: what is read is spelled so and the other way, where reading is refused, and where the bytes are cut.
use Rattle.std.proofs.Common.{◌≡◌, ℕ, ◌+◌, ◌<◌, ◌≤◌, cond, ltb, List, ◌++◌, length, take, drop, Result, Ok, Err, refl, sym, ap, subst, arith, inl, inr, length-append}
use Rattle.std.specs.Prelude.{All, IfOk, MatchResult}
use Rattle.std.specs.Int.{w16, to_be_bytes}
use Rattle.byte_fields.specs.Formats.{ended, IsFaultIn}
use Rattle.byte_fields.specs.Steps.{◌>>=◌, Gives, bytes_at}
use Rattle.byte_fields.specs.declared.fault.FormatFault.{FormatFault}
use Rattle.byte_fields.specs.declared.fault.FormatFault.TheVariants.{Malformed, NoMemory}
use Rattle.byte_fields.proofs.FieldLaws.{IsBytes, IsBytes-take}
use Rattle.byte_fields.proofs.FormatFields.{reads_u8, reads_u16}
use Rattle.byte_fields.proofs.FormatPlaces.{text_stays}
use Rattle.byte_fields.proofs.Forms.{Form, form_followed, form_made, form_counted, form_u8, form_u16}
use Rattle.byte_fields.proofs.ReaderLaws.{Reads, reads_followed, reads_made, reads_each}
use Rattle.byte_fields.proofs.Results.{bind_ok, bind_err, refused_ok, refused_err, gives_found, gives_only}
use Rattle.stmt_codec.specs.Certificates.{Certificate, body_spelling, FitsBody, IsWithinLimits}
use Rattle.stmt_codec.specs.Lists.{AreBodiesAt, body_filling, cert_at, cert_bytes, cited_at, cited_bytes}
use Rattle.stmt_codec.specs.Reading.{body_at}
use Rattle.stmt_codec.proofs.BodyLengths.{short_body}
use Rattle.stmt_codec.proofs.Certs.{value_of}
use Rattle.stmt_codec.proofs.Fillings.{begins_within_front, filling_cut, in_front, reads_filling}
use Rattle.stmt_codec.proofs.Offsets.{body_stays}

-- the certificates are within the limits, and at most so many
abbrev pub AreFew : ℕ → List Certificate → Type 0
AreFew most certs = (length certs ≤ most) × All FitsBody certs

module _ (bytes : List ℕ) where
  pub reads_cert : Reads bytes (cert_at bytes) cert_bytes FitsBody
  unfolding cert_at cert_bytes
  reads_cert =
      reads_made (λ (x : ℕ × Certificate). x.1) (λ (c : Certificate). (length (body_spelling c), c)) cert_bytes FitsBody
      (reads_followed (reads_u16 bytes) (λ n _. reads_filling bytes n))
      (λ x is. (is.1.0, ap (λ (k : ℕ). to_be_bytes w16 k ++ body_spelling x.1) (sym is.1.1)))
      (λ c is. ((omega (arith, short_body c is.limits), (is, refl)), refl, refl))

  pub reads_cited : (most : ℕ) → most < 256 → Reads bytes (cited_at most bytes) cited_bytes (AreFew most)
  unfolding cited_at
  reads_cited most few = reads_each most 256 Malformed cert_bytes FitsBody few (reads_u8 bytes) reads_cert

-- ---- where reading is refused, whole or cut

filling_form : (n : ℕ) → Form IsBytes (λ bytes. body_filling bytes n)
unfolding body_filling
filling_form n = record {
  stays = λ bytes ok. record {
    ends = λ at x le e.
        let a = bind_ok (bytes_at (ended bytes) n bytes at) (λ text. body_at (take (at + n) bytes) at >>= λ c. cond (ltb c.1 (at + n)) (Err (Malformed c.1)) (Ok (c.0, text.1))) x e in
        let b = bind_ok (body_at (take (at + n) bytes) at) (λ c. cond (ltb c.1 (at + n)) (Err (Malformed c.1)) (Ok (c.0, a.0.1))) x a.2 in
        let made : Certificate × ℕ = (b.0.0, a.0.1) in
        let g = refused_ok (ltb b.0.1 (at + n)) (Malformed b.0.1) made x b.2 in
        subst (λ (y : Certificate × ℕ). y.1 ≤ length bytes) g.1 ((text_stays bytes n).ends at a.0 le a.1);
    refuses = λ at f le e.
        elim (bind_err (bytes_at (ended bytes) n bytes at) (λ text. body_at (take (at + n) bytes) at >>= λ c. cond (ltb c.1 (at + n)) (Err (Malformed c.1)) (Ok (c.0, text.1))) f e) [
          | inl none ↦ (text_stays bytes n).refuses at f le none
          | inr a ↦
              let front = body_stays (take (at + n) bytes) (IsBytes-take (at + n) bytes ok) in
              let begins = begins_within_front bytes at n le a.0 a.1 in
              elim (bind_err (body_at (take (at + n) bytes) at) (λ c. cond (ltb c.1 (at + n)) (Err (Malformed c.1)) (Ok (c.0, a.0.1))) f a.2) [
                | inl none ↦ in_front bytes at n le a.0 a.1 f (front.refuses at f begins none)
                | inr b ↦
                    let made : Certificate × ℕ = (b.0.0, a.0.1) in
                    let g = refused_err (ltb b.0.1 (at + n)) (Malformed b.0.1) f made b.2 in
                    in_front bytes at n le a.0 a.1 f (subst (IsFaultIn (take (at + n) bytes)) (sym g.1) (front.ends at b.0 begins b.1))
              ]
        ];
  };
  cuts = λ front more ok. filling_cut front more n;
}

cert_form : Form IsBytes cert_at
unfolding cert_at
cert_form = form_made _ (form_followed form_u16 (λ n. filling_form n))

pub form_cited : (most : ℕ) → Form IsBytes (cited_at most)
unfolding cited_at
form_cited most = form_counted most form_u8 (λ _. cert_form)

-- ---- how long it is

pub cert_short : (c : Certificate) → IsWithinLimits c → length (cert_bytes c) < 1026
unfolding cert_bytes
cert_short c fits = omega (arith, short_body c fits, length-append (to_be_bytes w16 (length (body_spelling c))) (body_spelling c))

-- ---- what the program's reader answers

module _ (most : ℕ) (few : most < 256) (bytes : List ℕ) (at : ℕ) where
  -- what is read stands there
  found_at : (x : List Certificate × ℕ) → at ≤ length bytes → IsBytes bytes → cited_at most bytes at ≡ Ok x → AreBodiesAt most bytes at x.0 × (x.1 ≡ at + length (cited_bytes x.0))
  found_at x le ok e =
      let t = (reads_cited bytes most few).takes ok at x le e in
      (record { text = (drop x.1 bytes, t.0.parts); few = t.1.0; fit = t.1.1 }, t.0.end_is)

  again_at : (certs : List Certificate) → AreBodiesAt most bytes at certs → cited_at most bytes at ≡ Ok (certs, at + length (cited_bytes certs))
  again_at certs is = (reads_cited bytes most few).again at certs is.text.0 (is.few, is.fit) is.text.1

  pub is_found : {X : Type 0} (see : X → List Certificate) (r : Result (X × ℕ) FormatFault) → at ≤ length bytes → IsBytes bytes → Gives NoMemory (λ x. (see x.0, x.1)) r (cited_at most bytes at)
      → IfOk r (λ x. AreBodiesAt most bytes at (see x.0) × (x.1 ≡ at + length (cited_bytes (see x.0))))
  is_found see r le ok given =
      gives_found (λ (y : List Certificate × ℕ). AreBodiesAt most bytes at y.0 × (y.1 ≡ at + length (cited_bytes y.0))) NoMemory (λ x. (see x.0, x.1)) r (cited_at most bytes at) given (λ y e. found_at y le ok e)

  pub is_only : {X : Type 0} (see : X → List Certificate) (r : Result (X × ℕ) FormatFault) → Gives NoMemory (λ x. (see x.0, x.1)) r (cited_at most bytes at)
      → (certs : List Certificate) → AreBodiesAt most bytes at certs → MatchResult r (λ x. see x.0 ≡ certs) (λ e. e ≡ NoMemory)
  is_only see r given certs is =
      let end = at + length (cited_bytes certs) in
      value_of see r (certs, end) (gives_only NoMemory (λ x. (see x.0, x.1)) r (cited_at most bytes at) (certs, end) given (again_at certs is))
