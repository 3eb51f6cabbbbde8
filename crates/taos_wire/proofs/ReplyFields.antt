-- The fields of a reply: what is read is spelled so, and the other way.
use Rattle.std.proofs.Common.{◌≡◌, ℕ, zero, suc, ◌+◌, ◌^◌, ◌<◌, ◌≤◌, Bool, true, false, eqb, List, [], ◌∷◌, ◌++◌, length, drop, Ok, refl, sym, ap, subst, ◌∙◌, append_assoc, arith}
use Rattle.std.specs.Prelude.{All}
use Rattle.std.specs.Int.{w16, w32, w64, to_be_bytes}
use Rattle.std.proofs.lemmas.Bool.{eqb-true, eqb-false}
use Rattle.std.proofs.lemmas.Bool.Decides.{nat_tests}
use Rattle.object_core.specs.Operation.{IsDigest}
use Rattle.object_core.proofs.Halves.{Takes, takes_if, takes_made, takes_given, again_made, again_given}
use Rattle.prin_term.specs.declared.limits.TheConstants.{ENTRY_NODES}
use Rattle.prin_term.specs.Principal.{Principal, spelling as term_spelling}
use Rattle.byte_fields.specs.Readers.{given, made, followed}
use Rattle.prin_term.specs.Refusal.{FitsLimits}
use Rattle.byte_fields.specs.Steps.{bytes_at, counted, counted_at}
use Rattle.byte_fields.proofs.FieldLaws.{wide16}
use Rattle.byte_fields.proofs.FieldReaders.{reads_counted_bytes}
use Rattle.prin_term.proofs.TermReaders.{reads_term}
use Rattle.byte_fields.proofs.ReaderLaws.{Reads, reads_bytes, reads_followed, reads_passing, reads_made}
use Rattle.stmt_codec.specs.Certificates.{Certificate, FitsBody}
use Rattle.taos_calculus.specs.Rules.{Line}
use Rattle.taos_calculus.specs.ProofReading.{proof_at}
use Rattle.taos_calculus.specs.Spelling.{proof_bytes}
use Rattle.taos_calculus.specs.Spells.{IsProof}
use Rattle.taos_calculus.proofs.Counted.{reads_proof}
use Rattle.byte_fields.specs.declared.fault.FormatFault.TheVariants as faults
use Rattle.taos_wire.specs.declared.reply.TheConstants.{MAX_CITED}
use Rattle.byte_fields.specs.Formats.{FormatReader, ended, u8_in, u32_in, u64_in, within}
use Rattle.prin_term.specs.TermFields.{seen_as, term_in}
use Rattle.taos_wire.specs.Reply.{Reply, Granted, Denied, Malformed, UnknownChannel, BadSeal, Replayed, CertRefused, ChannelFull, RelayFailed, UnknownObject, JournalFull, NoMemory, CommonsFull}
use Rattle.taos_wire.specs.Reply.{NotHeld, WithdrawnFull, PullFailed, LinkSent, Expired, Missing, NoEntry, Early, flag, link_bytes, status_of, fields_of, answered_bytes}
use Rattle.taos_wire.specs.Reply.{FitsLink, FitsReply, FitsGranted}
use Rattle.taos_wire.specs.ReplyReading.{answered_at, place_at, granted_at, digest_at, named_at, link_at, denied_at, is_status, fields_at, status_at}
use Rattle.stmt_codec.proofs.Listed.{reads_cited}
use Rattle.byte_fields.proofs.FormatFields.{reads_u8, reads_u32, reads_u64, reads_u8_in}
use Rattle.stmt_codec.specs.Lists.{cited_at, cited_bytes}

-- ---- a link

abbrev link_kind : LinkSent → ℕ
link_kind (Expired entry digest) = 1
link_kind (Missing entry part) = 2
link_kind NoEntry = 3
link_kind (Early entry digest) = 4

abbrev link_fields : LinkSent → List ℕ
link_fields (Expired entry digest) = entry ∷ digest
link_fields (Missing entry part) = entry ∷ term_spelling part
link_fields NoEntry = []
link_fields (Early entry digest) = entry ∷ digest

link_is : (l : LinkSent) → link_bytes l ≡ link_kind l ∷ link_fields l
link_is (Expired entry digest) = refl
link_is (Missing entry part) = refl
link_is NoEntry = refl
link_is (Early entry digest) = refl

abbrev IsKind : ℕ → LinkSent → Type 0
IsKind kind l = FitsLink l × (link_kind l ≡ kind)

kind_within : (l : LinkSent) → (1 ≤ link_kind l) × (link_kind l ≤ 4)
kind_within (Expired entry digest) = (omega arith, omega arith)
kind_within (Missing entry part) = (omega arith, omega arith)
kind_within NoEntry = (omega arith, omega arith)
kind_within (Early entry digest) = (omega arith, omega arith)

-- ---- a grant

flag_again : (kept : Bool) → eqb (flag kept) 1 ≡ kept
flag_again true = refl
flag_again false = refl

flag_within : (kept : Bool) → (0 ≤ flag kept) × (flag kept ≤ 1)
flag_within true = (omega arith, omega arith)
flag_within false = (omega arith, omega arith)

flag_of_byte : (b : ℕ) → b ≤ 1 → flag (eqb b 1) ≡ b
flag_of_byte zero le = refl
flag_of_byte (suc zero) le = refl
flag_of_byte (suc (suc b)) le = absurd (omega (arith, le))

grouped : (a b c d e : List ℕ) → a ++ (b ++ (c ++ (d ++ e))) ≡ (((a ++ b) ++ c) ++ d) ++ e
grouped a b c d e = simp append_assoc

granted_grouped : (k entry shard place : ℕ) (proof : List Line) (certs : List Certificate) (result : List ℕ)
    → (k ∷ []) ++ ((entry ∷ []) ++ ((to_be_bytes w32 shard ++ to_be_bytes w64 place) ++ (proof_bytes proof ++ (cited_bytes certs ++ counted w16 result))))
    ≡ k ∷ entry ∷ to_be_bytes w32 shard ++ to_be_bytes w64 place ++ proof_bytes proof ++ cited_bytes certs ++ counted w16 result
granted_grouped k entry shard place proof certs result = grouped (k ∷ entry ∷ to_be_bytes w32 shard) (to_be_bytes w64 place) (proof_bytes proof) (cited_bytes certs) (counted w16 result)

-- ---- statuses

abbrev IsOf : ℕ → Reply → Type 0
IsOf status r = FitsReply r × (status_of r ≡ status)

pub status_stands : (r : Reply) → FitsReply r → (status_of r < 256) × (is_status (status_of r) ≡ true)
status_stands (Granted kept entry shard place proof certs result) fits = (omega arith, refl)
status_stands (Denied shard place l) fits = (omega arith, refl)
status_stands (Malformed offset) fits = (omega arith, refl)
status_stands (UnknownChannel number) fits = (omega arith, refl)
status_stands BadSeal fits = (omega arith, refl)
status_stands (Replayed last) fits = (omega arith, refl)
status_stands (CertRefused index code) fits = (omega arith, refl)
status_stands (ChannelFull held) fits = (omega arith, refl)
status_stands (RelayFailed index) fits = (omega arith, refl)
status_stands (UnknownObject number) fits = (omega arith, refl)
status_stands (JournalFull which number len) fits = (omega arith, refl)
status_stands NoMemory fits = (omega arith, refl)
status_stands (CommonsFull held shard) fits = (omega arith, refl)
status_stands (NotHeld digest) fits = (omega arith, refl)
status_stands (WithdrawnFull held shard) fits = (omega arith, refl)
status_stands PullFailed fits = absurd fits

module _ (bytes : List ℕ) where
  pub reads_answered : Reads bytes (answered_at bytes) (λ p. answered_bytes p.0 p.1) (λ p. (p.0 < 2 ^ 32) × (p.1 < 2 ^ 64))
  unfolding answered_at
  reads_answered =
      reads_made (λ (x : ℕ × (ℕ × ℕ)). x.1) (λ (p : ℕ × ℕ). (4, p)) (λ p. answered_bytes p.0 p.1) (λ p. (p.0 < 2 ^ 32) × (p.1 < 2 ^ 64))
      (reads_followed (reads_u8_in bytes 4 4 (omega arith)) (λ _ _. reads_followed (reads_u32 bytes) (λ _ _. reads_u64 bytes)))
      (λ x is.
      let four : x.0 ≡ 4 = omega (arith, is.0) in
      ((is.1.0, is.1.1), ap (λ (k : ℕ). k ∷ (to_be_bytes w32 x.1.0 ++ to_be_bytes w64 x.1.1)) four))
      (λ p is. (((omega arith, omega arith), (is.0, is.1)), refl, refl))

  reads_place : Reads bytes (place_at bytes) (λ p. to_be_bytes w32 p.0 ++ to_be_bytes w64 p.1) (λ p. (p.0 < 2 ^ 32) × (p.1 < 2 ^ 64))
  unfolding place_at
  reads_place = reads_followed (reads_u32 bytes) (λ _ _. reads_u64 bytes)

  -- ---- a grant

  abbrev GrantFields : Type 0
  GrantFields = ℕ × (ℕ × ((ℕ × ℕ) × (List Line × (List Certificate × List ℕ))))

  abbrev grant_spell : GrantFields → List ℕ
  grant_spell x = (x.0 ∷ []) ++ ((x.1.0 ∷ []) ++ ((to_be_bytes w32 x.1.1.0.0 ++ to_be_bytes w64 x.1.1.0.1) ++ (proof_bytes x.1.1.1.0 ++ (cited_bytes x.1.1.1.1.0 ++ counted w16 x.1.1.1.1.1))))

  abbrev GrantFits : GrantFields → Type 0
  GrantFits x =
      ((0 ≤ x.0) × (x.0 ≤ 1)) × ((x.1.0 < 256) × (((x.1.1.0.0 < 2 ^ 32) × (x.1.1.0.1 < 2 ^ 64)) × (IsProof x.1.1.1.0 × (((length x.1.1.1.1.0 ≤ MAX_CITED) × All FitsBody x.1.1.1.1.0) × ((length x.1.1.1.1.1 < 2 ^ 16) × All (λ b. b < 256) x.1.1.1.1.1)))))

  abbrev grant_reader : FormatReader GrantFields
  grant_reader =
      followed (within 0 1 (u8_in bytes))
      (λ _. followed (u8_in bytes)
      (λ _. followed (place_at bytes)
      (λ _. followed (proof_at bytes)
      (λ _. followed (cited_at MAX_CITED bytes)
      (λ _. counted_at (ended bytes) w16 bytes)))))

  reads_grant : Reads bytes grant_reader grant_spell GrantFits
  reads_grant =
      reads_followed (reads_u8_in bytes 0 1 (omega arith))
      (λ _ _. reads_followed (reads_u8 bytes)
      (λ _ _. reads_followed reads_place
      (λ _ _. reads_followed (reads_proof bytes)
      (λ _ _. reads_followed (reads_cited bytes MAX_CITED (omega arith))
      (λ _ _. reads_counted_bytes (ended bytes) w16 (2 ^ 16) wide16 bytes)))))

  takes_granted : Takes bytes (granted_at bytes) fields_of (IsOf 0)
  unfolding granted_at
  takes_granted =
      takes_made (λ (x : GrantFields). Granted (eqb x.0 1) x.1.0 x.1.1.0.0 x.1.1.0.1 x.1.1.1.0 x.1.1.1.1.0 x.1.1.1.1.1) fields_of (IsOf 0) reads_grant
      (λ x is. (
        (
          record { entry_fits = is.1.0; shard_fits = is.1.1.0.0; place_fits = is.1.1.0.1; proof_fits = is.1.1.1.0; few_certs = is.1.1.1.1.0.0; certs_fit = is.1.1.1.1.0.1; result_fits = is.1.1.1.1.1 },
          refl,
        ),
        granted_grouped x.0 x.1.0 x.1.1.0.0 x.1.1.0.1 x.1.1.1.0 x.1.1.1.1.0 x.1.1.1.1.1
            ∙ ap (λ (k : ℕ). k ∷ x.1.0 ∷ to_be_bytes w32 x.1.1.0.0 ++ to_be_bytes w64 x.1.1.0.1 ++ proof_bytes x.1.1.1.0 ++ cited_bytes x.1.1.1.1.0 ++ counted w16 x.1.1.1.1.1) (sym (flag_of_byte x.0 is.0.1)),
      ))

  granted_again : (kept : Bool) (entry shard place : ℕ) (proof : List Line) (certs : List Certificate) (result : List ℕ) (at : ℕ) (rest : List ℕ) → FitsGranted entry shard place proof certs result
      → drop at bytes ≡ fields_of (Granted kept entry shard place proof certs result) ++ rest → granted_at bytes at ≡ Ok (Granted kept entry shard place proof certs result, at + length (fields_of (Granted kept entry shard place proof certs result)))
  unfolding granted_at
  granted_again kept entry shard place proof certs result at rest fits e =
      let x : GrantFields = (flag kept, (entry, ((shard, place), (proof, (certs, result))))) in
      let same : grant_spell x ≡ fields_of (Granted kept entry shard place proof certs result) = granted_grouped (flag kept) entry shard place proof certs result in
      let text : drop at bytes ≡ grant_spell x ++ rest = e ∙ ap (λ (l : List ℕ). l ++ rest) (sym same) in
      let is : GrantFits x = (flag_within kept, (fits.entry_fits, ((fits.shard_fits, fits.place_fits), (fits.proof_fits, ((fits.few_certs, fits.certs_fit), fits.result_fits))))) in
      let read = again_made (λ (x : GrantFields). Granted (eqb x.0 1) x.1.0 x.1.1.0.0 x.1.1.0.1 x.1.1.1.0 x.1.1.1.1.0 x.1.1.1.1.1) reads_grant at x rest is text in
      read ∙ ap (λ (l : List ℕ). Ok (Granted (eqb (flag kept) 1) entry shard place proof certs result, at + length l)) same
      ∙ ap (λ (k : Bool). Ok (Granted k entry shard place proof certs result, at + length (fields_of (Granted kept entry shard place proof certs result)))) (flag_again kept)

  -- ---- a denial

  reads_digest : Reads bytes (digest_at bytes) (λ p. (p.0 ∷ []) ++ p.1) (λ p. (p.0 < 256) × IsDigest p.1)
  unfolding digest_at
  reads_digest = reads_followed (reads_u8 bytes) (λ _ _. reads_bytes (ended bytes) 32 bytes)

  reads_missing : Reads bytes (followed (u8_in bytes) (λ _. term_in ENTRY_NODES bytes)) (λ p. (p.0 ∷ []) ++ term_spelling p.1) (λ p. (p.0 < 256) × FitsLimits ENTRY_NODES p.1)
  reads_missing = reads_followed (reads_u8 bytes) (λ _ _. reads_term seen_as ENTRY_NODES bytes)

  named_takes : (kind : ℕ) → 1 ≤ kind → kind ≤ 4 → Takes bytes (named_at bytes kind) link_fields (IsKind kind)
  unfolding named_at
  named_takes kind some le =
      takes_if bytes (eqb kind 1) (made (λ (x : ℕ × List ℕ). Expired x.0 x.1) (digest_at bytes)) _ link_fields (IsKind kind)
      (λ one. takes_made (λ (x : ℕ × List ℕ). Expired x.0 x.1) link_fields (IsKind kind) reads_digest (λ x is. ((is, sym (eqb-true kind 1 one)), refl))) (λ not_one.
      takes_if bytes (eqb kind 2) (made (λ (x : ℕ × Principal). Missing x.0 x.1) (followed (u8_in bytes) (λ _. term_in ENTRY_NODES bytes))) _ link_fields (IsKind kind)
      (λ two. takes_made (λ (x : ℕ × Principal). Missing x.0 x.1) link_fields (IsKind kind) reads_missing (λ x is. ((is, sym (eqb-true kind 2 two)), refl))) (λ not_two.
      takes_if bytes (eqb kind 3) (given NoEntry) (made (λ (x : ℕ × List ℕ). Early x.0 x.1) (digest_at bytes)) link_fields (IsKind kind)
      (λ three. takes_given bytes NoEntry link_fields (IsKind kind) refl (tt, sym (eqb-true kind 3 three))) (λ not_three.
      takes_made (λ (x : ℕ × List ℕ). Early x.0 x.1) link_fields (IsKind kind) reads_digest
      (λ x is. ((is, omega (arith, some, le, eqb-false _ _ not_one, eqb-false _ _ not_two, eqb-false _ _ not_three)), refl)))))

  named_again : (l : LinkSent) (at : ℕ) (rest : List ℕ) → FitsLink l → drop at bytes ≡ link_fields l ++ rest → named_at bytes (link_kind l) at ≡ Ok (l, at + length (link_fields l))
  unfolding named_at
  named_again (Expired entry digest) at rest fits e = again_made (λ (x : ℕ × List ℕ). Expired x.0 x.1) reads_digest at (entry, digest) rest fits e
  named_again (Missing entry part) at rest fits e = again_made (λ (x : ℕ × Principal). Missing x.0 x.1) reads_missing at (entry, part) rest fits e
  named_again NoEntry at rest fits e = again_given NoEntry at
  named_again (Early entry digest) at rest fits e = again_made (λ (x : ℕ × List ℕ). Early x.0 x.1) reads_digest at (entry, digest) rest fits e

  reads_link : Reads bytes (link_at bytes) link_bytes FitsLink
  unfolding link_at
  reads_link =
      reads_made (λ (x : ℕ × LinkSent). x.1) (λ (l : LinkSent). (link_kind l, l)) link_bytes FitsLink
      (reads_followed (reads_u8_in bytes 1 4 (omega arith)) (λ kind low_high. record {
        takes = named_takes kind low_high.0 low_high.1;
        again = λ at l rest is e. subst (λ (k : ℕ). named_at bytes k at ≡ Ok (l, at + length (link_fields l))) is.1 (named_again l at rest is.0 e);
      }))
      (λ x is. (is.1.0, ap (λ (k : ℕ). k ∷ link_fields x.1) (sym is.1.1) ∙ sym (link_is x.1)))
      (λ l is. ((kind_within l, (is, refl)), link_is l, refl))

  reads_denied : Reads bytes (followed (place_at bytes) (λ _. link_at bytes)) (λ p. (to_be_bytes w32 p.0.0 ++ to_be_bytes w64 p.0.1) ++ link_bytes p.1) (λ p. ((p.0.0 < 2 ^ 32) × (p.0.1 < 2 ^ 64)) × FitsLink p.1)
  reads_denied = reads_followed reads_place (λ _ _. reads_link)

  -- ---- the statuses

  reads_pair : Reads bytes (followed (u8_in bytes) (λ _. u8_in bytes)) (λ p. (p.0 ∷ []) ++ p.1 ∷ []) (λ p. (p.0 < 256) × (p.1 < 256))
  reads_pair = reads_followed (reads_u8 bytes) (λ _ _. reads_u8 bytes)

  reads_journal : Reads bytes (followed (within 0 1 (u8_in bytes)) (λ _. place_at bytes)) (λ p. (p.0 ∷ []) ++ (to_be_bytes w32 p.1.0 ++ to_be_bytes w64 p.1.1)) (λ p. ((0 ≤ p.0) × (p.0 ≤ 1)) × ((p.1.0 < 2 ^ 32) × (p.1.1 < 2 ^ 64)))
  reads_journal = reads_followed (reads_u8_in bytes 0 1 (omega arith)) (λ _ _. reads_place)

  reads_full : Reads bytes (followed (u8_in bytes) (λ _. u32_in bytes)) (λ p. (p.0 ∷ []) ++ to_be_bytes w32 p.1) (λ p. (p.0 < 256) × (p.1 < 2 ^ 32))
  reads_full = reads_followed (reads_u8 bytes) (λ _ _. reads_u32 bytes)

  fields_again : (r : Reply) (at : ℕ) (rest : List ℕ) → FitsReply r → drop at bytes ≡ fields_of r ++ rest → fields_at bytes (status_of r) at ≡ Ok (r, at + length (fields_of r))
  unfolding fields_at denied_at
  fields_again (Granted kept entry shard place proof certs result) at rest fits e = granted_again kept entry shard place proof certs result at rest fits e
  fields_again (Denied shard place l) at rest fits e = again_made (λ (x : (ℕ × ℕ) × LinkSent). Denied x.0.0 x.0.1 x.1) reads_denied at ((shard, place), l) rest ((fits.0, fits.1), fits.2) e
  fields_again (Malformed offset) at rest fits e = again_made Malformed (reads_u32 bytes) at offset rest fits e
  fields_again (UnknownChannel number) at rest fits e = again_made UnknownChannel (reads_u32 bytes) at number rest fits e
  fields_again BadSeal at rest fits e = again_given BadSeal at
  fields_again (Replayed last) at rest fits e = again_made Replayed (reads_u64 bytes) at last rest fits e
  fields_again (CertRefused index code) at rest fits e = again_made (λ (x : ℕ × ℕ). CertRefused x.0 x.1) reads_pair at (index, code) rest fits e
  fields_again (ChannelFull held) at rest fits e = again_made ChannelFull (reads_u8 bytes) at held rest fits e
  fields_again (RelayFailed index) at rest fits e = again_made RelayFailed (reads_u8 bytes) at index rest fits e
  fields_again (UnknownObject number) at rest fits e = again_made UnknownObject (reads_u32 bytes) at number rest fits e
  fields_again (JournalFull which number len) at rest fits e = again_made (λ (x : ℕ × (ℕ × ℕ)). JournalFull x.0 x.1.0 x.1.1) reads_journal at (which, (number, len)) rest ((omega arith, fits.0), (fits.1, fits.2)) e
  fields_again NoMemory at rest fits e = again_given NoMemory at
  fields_again (CommonsFull held shard) at rest fits e = again_made (λ (x : ℕ × ℕ). CommonsFull x.0 x.1) reads_full at (held, shard) rest fits e
  fields_again (NotHeld digest) at rest fits e = again_made NotHeld (reads_bytes (ended bytes) 32 bytes) at digest rest fits e
  fields_again (WithdrawnFull held shard) at rest fits e = again_made (λ (x : ℕ × ℕ). WithdrawnFull x.0 x.1) reads_full at (held, shard) rest fits e
  fields_again PullFailed at rest fits e = absurd fits

  -- the last status is what is left of those that stand
  last_status : (s : ℕ) → is_status s ≡ true → eqb s 0 ≡ false → eqb s 1 ≡ false → eqb s 2 ≡ false → eqb s 3 ≡ false → eqb s 4 ≡ false → eqb s 5 ≡ false → eqb s 6 ≡ false → eqb s 7 ≡ false
      → eqb s 8 ≡ false → eqb s 9 ≡ false → eqb s 10 ≡ false → eqb s 11 ≡ false → eqb s 12 ≡ false → eqb s 13 ≡ false → 14 ≡ s
  last_status s is a b c d e f g h i j k l m n =
      let past : 13 < s = omega (arith, eqb-false _ _ a, eqb-false _ _ b, eqb-false _ _ c, eqb-false _ _ d, eqb-false _ _ e, eqb-false _ _ f, eqb-false _ _ g, eqb-false _ _ h, eqb-false _ _ i, eqb-false _ _ j, eqb-false _ _ k, eqb-false _ _ l, eqb-false _ _ m, eqb-false _ _ n) in
      grind (arith, nat_tests, is, past)

  fields_takes : (s : ℕ) → is_status s ≡ true → Takes bytes (fields_at bytes s) fields_of (IsOf s)
  unfolding fields_at denied_at
  fields_takes s is =
      takes_if bytes (eqb s 0) (granted_at bytes) _ fields_of (IsOf s) (λ t. subst (λ (k : ℕ). Takes bytes (granted_at bytes) fields_of (IsOf k)) (sym (eqb-true s 0 t)) takes_granted) (λ n0.
      takes_if bytes (eqb s 1) (denied_at bytes) _ fields_of (IsOf s) (λ t. takes_made (λ (x : (ℕ × ℕ) × LinkSent). Denied x.0.0 x.0.1 x.1) fields_of (IsOf s) reads_denied (λ x is. (((is.0.0, is.0.1, is.1), sym (eqb-true s 1 t)), refl))) (λ n1.
      takes_if bytes (eqb s 2) (made Malformed (u32_in bytes)) _ fields_of (IsOf s) (λ t. takes_made Malformed fields_of (IsOf s) (reads_u32 bytes) (λ x is. ((is, sym (eqb-true s 2 t)), refl))) (λ n2.
      takes_if bytes (eqb s 3) (made UnknownChannel (u32_in bytes)) _ fields_of (IsOf s) (λ t. takes_made UnknownChannel fields_of (IsOf s) (reads_u32 bytes) (λ x is. ((is, sym (eqb-true s 3 t)), refl))) (λ n3.
      takes_if bytes (eqb s 4) (given BadSeal) _ fields_of (IsOf s) (λ t. takes_given bytes BadSeal fields_of (IsOf s) refl (tt, sym (eqb-true s 4 t))) (λ n4.
      takes_if bytes (eqb s 5) (made Replayed (u64_in bytes)) _ fields_of (IsOf s) (λ t. takes_made Replayed fields_of (IsOf s) (reads_u64 bytes) (λ x is. ((is, sym (eqb-true s 5 t)), refl))) (λ n5.
      takes_if bytes (eqb s 6) (made (λ (x : ℕ × ℕ). CertRefused x.0 x.1) (followed (u8_in bytes) (λ _. u8_in bytes))) _ fields_of (IsOf s) (λ t. takes_made (λ (x : ℕ × ℕ). CertRefused x.0 x.1) fields_of (IsOf s) reads_pair (λ x is. ((is, sym (eqb-true s 6 t)), refl))) (λ n6.
      takes_if bytes (eqb s 7) (made ChannelFull (u8_in bytes)) _ fields_of (IsOf s) (λ t. takes_made ChannelFull fields_of (IsOf s) (reads_u8 bytes) (λ x is. ((is, sym (eqb-true s 7 t)), refl))) (λ n7.
      takes_if bytes (eqb s 8) (made RelayFailed (u8_in bytes)) _ fields_of (IsOf s) (λ t. takes_made RelayFailed fields_of (IsOf s) (reads_u8 bytes) (λ x is. ((is, sym (eqb-true s 8 t)), refl))) (λ n8.
      takes_if bytes (eqb s 9) (made UnknownObject (u32_in bytes)) _ fields_of (IsOf s) (λ t. takes_made UnknownObject fields_of (IsOf s) (reads_u32 bytes) (λ x is. ((is, sym (eqb-true s 9 t)), refl))) (λ n9.
      takes_if bytes (eqb s 10) (made (λ (x : ℕ × (ℕ × ℕ)). JournalFull x.0 x.1.0 x.1.1) (followed (within 0 1 (u8_in bytes)) (λ _. place_at bytes))) _ fields_of (IsOf s)
      (λ t. takes_made (λ (x : ℕ × (ℕ × ℕ)). JournalFull x.0 x.1.0 x.1.1) fields_of (IsOf s) reads_journal (λ x is. (((is.0.1, is.1.0, is.1.1), sym (eqb-true s 10 t)), refl))) (λ n10.
      takes_if bytes (eqb s 11) (given NoMemory) _ fields_of (IsOf s) (λ t. takes_given bytes NoMemory fields_of (IsOf s) refl (tt, sym (eqb-true s 11 t))) (λ n11.
      takes_if bytes (eqb s 12) (made (λ (x : ℕ × ℕ). CommonsFull x.0 x.1) (followed (u8_in bytes) (λ _. u32_in bytes))) _ fields_of (IsOf s) (λ t. takes_made (λ (x : ℕ × ℕ). CommonsFull x.0 x.1) fields_of (IsOf s) reads_full (λ x is. ((is, sym (eqb-true s 12 t)), refl))) (λ n12.
      takes_if bytes (eqb s 13) (made NotHeld (bytes_at (ended bytes) 32 bytes)) _ fields_of (IsOf s) (λ t. takes_made NotHeld fields_of (IsOf s) (reads_bytes (ended bytes) 32 bytes) (λ x is. ((is, sym (eqb-true s 13 t)), refl))) (λ n13.
      takes_made (λ (x : ℕ × ℕ). WithdrawnFull x.0 x.1) fields_of (IsOf s) reads_full (λ x fits. ((fits, last_status s is n0 n1 n2 n3 n4 n5 n6 n7 n8 n9 n10 n11 n12 n13), refl))))))))))))))))

  pub reads_status : Reads bytes (status_at bytes) (λ r. status_of r ∷ fields_of r) FitsReply
  unfolding status_at
  reads_status =
      reads_made (λ (x : ℕ × Reply). x.1) (λ (r : Reply). (status_of r, r)) (λ r. status_of r ∷ fields_of r) FitsReply
      (reads_followed (reads_passing is_status faults.Malformed (reads_u8 bytes)) (λ s stands. record {
        takes = fields_takes s stands.1;
        again = λ at r rest is e. subst (λ (k : ℕ). fields_at bytes k at ≡ Ok (r, at + length (fields_of r))) is.1 (fields_again r at rest is.0 e);
      }))
      (λ x is. (is.1.0, ap (λ (k : ℕ). k ∷ fields_of x.1) (sym is.1.1)))
      (λ r is. ((status_stands r is, (is, refl)), refl, refl))
