-- The fields of events: what is read is spelled so, and the other way.
use Rattle.std.proofs.Common.{◌≡◌, ℕ, ◌+◌, ◌^◌, ◌<◌, ◌≤◌, eqb, List, [], ◌∷◌, ◌++◌, length, drop, Ok, refl, sym, ap, subst, ◌∙◌, append_assoc, arith}
use Rattle.std.specs.Prelude.{true}
use Rattle.std.specs.Int.{w32, w64, to_be_bytes}
use Rattle.std.proofs.lemmas.Bool.{eqb-true, eqb-false}
use Rattle.byte_fields.specs.declared.fault.FormatFault.TheVariants.{Malformed}
use Rattle.byte_fields.specs.Formats.{ended, u8_in, u32_in, u64_in}
use Rattle.byte_fields.specs.Readers.{followed, made}
use Rattle.byte_fields.specs.Steps.{bytes_at}
use Rattle.byte_fields.proofs.FormatFields.{reads_u8, reads_u32, reads_u64}
use Rattle.byte_fields.proofs.ReaderLaws.{Reads, reads_bytes, reads_followed, reads_passing, reads_made}
use Rattle.prin_term.specs.declared.limits.TheConstants.{ENTRY_NODES}
use Rattle.prin_term.specs.Principal.{spelling}
use Rattle.prin_term.specs.TermFields.{seen_as}
use Rattle.prin_term.proofs.TermReaders.{reads_term}
use Rattle.stmt_codec.specs.Certificates.{Certificate}
use Rattle.stmt_codec.specs.Lists.{cited_at, cited_bytes}
use Rattle.stmt_codec.proofs.Listed.{reads_cited}
use Rattle.taos_calculus.specs.ProofReading.{proof_at}
use Rattle.taos_calculus.specs.Rules.{Line}
use Rattle.taos_calculus.specs.Spelling.{proof_bytes}
use Rattle.taos_calculus.specs.Spells.{IsProof}
use Rattle.taos_calculus.proofs.Counted.{reads_proof}
use Rattle.object_core.specs.Spelling.{list_bytes}
use Rattle.object_core.proofs.Halves.{Takes, takes_if, takes_made, again_made}
use Rattle.object_core.proofs.ListReaders.{reads_list}
use Rattle.agent_core.specs.State.{Ask}
use Rattle.journal_bytes.specs.declared.limits.TheConstants.{LAST_EVENT, MAX_BODIES, MAX_CITES}
use Rattle.journal_bytes.specs.Limits.{is_right, AreFew, FitsAsk, FitsKeep, FitsEvent}
use Rattle.journal_bytes.specs.Reading.{right_at, ask_at, keep_at, event_at}
use Rattle.journal_bytes.specs.Spelled.{SpelledEvent, Asks, Keeps, Holds, Discards, Forgets, Expires, Withdraws}
use Rattle.journal_bytes.specs.Spelling.{kind_of, ask_bytes, keep_bytes, event_fields}

-- an event of this kind, within the limits
abbrev pub IsEventOf : ℕ → SpelledEvent → Type 0
IsEventOf kind e = FitsEvent e × (kind_of e ≡ kind)

pub event_within : (e : SpelledEvent) → (1 ≤ kind_of e) × (kind_of e ≤ LAST_EVENT)
event_within (Asks a) = (omega arith, omega arith)
event_within (Keeps ask entry proof cites) = (omega arith, omega arith)
event_within (Holds certs) = (omega arith, omega arith)
event_within (Discards digest) = (omega arith, omega arith)
event_within (Forgets channel) = (omega arith, omega arith)
event_within (Expires reading) = (omega arith, omega arith)
event_within (Withdraws issuer) = (omega arith, omega arith)

-- from the left and in fields
grouped : (a b c d e f : List ℕ) → a ++ (b ++ (c ++ (d ++ (e ++ f)))) ≡ ((((a ++ b) ++ c) ++ d) ++ e) ++ f
grouped a b c d e f = simp append_assoc

ask_grouped : (a : Ask)
    → to_be_bytes w32 a.channel ++ (to_be_bytes w64 a.seq ++ (to_be_bytes w64 a.reading ++ (spelling a.subject ++ (list_bytes a.list ++ (a.right ∷ cited_bytes a.presented))))) ≡ ask_bytes a
ask_grouped a = grouped (to_be_bytes w32 a.channel) (to_be_bytes w64 a.seq) (to_be_bytes w64 a.reading) (spelling a.subject) (list_bytes a.list) (a.right ∷ cited_bytes a.presented)

keep_grouped : (ask entry : ℕ) (proof : List Line) (cites : List Certificate) → to_be_bytes w64 ask ++ (entry ∷ (proof_bytes proof ++ cited_bytes cites)) ≡ keep_bytes ask entry proof cites
keep_grouped ask entry proof cites = sym (append_assoc (to_be_bytes w64 ask) (entry ∷ proof_bytes proof) (cited_bytes cites))

module _ (bytes : List ℕ) where
  reads_right : Reads bytes (right_at bytes) (λ b. b ∷ []) (λ b. (b < 256) × (is_right b ≡ true))
  unfolding right_at
  reads_right = reads_passing is_right Malformed (reads_u8 bytes)

  reads_ask : Reads bytes (ask_at bytes) ask_bytes FitsAsk
  unfolding ask_at
  reads_ask =
      reads_made (λ x. record { channel = x.0; seq = x.1.0; reading = x.1.1.0; subject = x.1.1.1.0; list = x.1.1.1.1.0; right = x.1.1.1.1.1.0; presented = x.1.1.1.1.1.1 })
      (λ (a : Ask). (a.channel, (a.seq, (a.reading, (a.subject, (a.list, (a.right, a.presented)))))))
      ask_bytes FitsAsk
      (reads_followed (reads_u32 bytes)
      (λ _ _. reads_followed (reads_u64 bytes)
      (λ _ _. reads_followed (reads_u64 bytes)
      (λ _ _. reads_followed (reads_term seen_as ENTRY_NODES bytes)
      (λ _ _. reads_followed (reads_list bytes)
      (λ _ _. reads_followed reads_right
      (λ _ _. reads_cited bytes MAX_BODIES (omega arith))))))))
      (λ x is. (
        record { channel = is.0; seq = is.1.0; reading = is.1.1.0; subject = is.1.1.1.0; list = is.1.1.1.1.0; right = is.1.1.1.1.1.0; presented = is.1.1.1.1.1.1 },
        ask_grouped (record { channel = x.0; seq = x.1.0; reading = x.1.1.0; subject = x.1.1.1.0; list = x.1.1.1.1.0; right = x.1.1.1.1.1.0; presented = x.1.1.1.1.1.1 }),
      ))
      (λ a is. (
        (is.channel, (is.seq, (is.reading, (is.subject, (is.list, (is.right, is.presented)))))),
        sym (ask_grouped a),
        refl,
      ))

  -- ---- a proof that is to be kept

  abbrev KeepFields : Type 0
  KeepFields = ℕ × (ℕ × (List Line × List Certificate))

  abbrev keeps : KeepFields → SpelledEvent
  keeps x = Keeps x.0 x.1.0 x.1.1.0 x.1.1.1

  reads_keep : Reads bytes (followed (u64_in bytes) (λ _. followed (u8_in bytes) (λ _. followed (proof_at bytes) (λ _. cited_at MAX_CITES bytes))))
      (λ (x : KeepFields). to_be_bytes w64 x.0 ++ ((x.1.0 ∷ []) ++ (proof_bytes x.1.1.0 ++ cited_bytes x.1.1.1)))
      (λ (x : KeepFields). (x.0 < 2 ^ 64) × ((x.1.0 < 256) × (IsProof x.1.1.0 × AreFew MAX_CITES x.1.1.1)))
  reads_keep =
      reads_followed (reads_u64 bytes)
      (λ _ _. reads_followed (reads_u8 bytes)
      (λ _ _. reads_followed (reads_proof bytes)
      (λ _ _. reads_cited bytes MAX_CITES (omega arith))))

  keep_takes : (kind : ℕ) → 2 ≡ kind → Takes bytes (keep_at bytes) event_fields (IsEventOf kind)
  unfolding keep_at event_fields
  keep_takes kind same =
      takes_made keeps event_fields (IsEventOf kind) reads_keep
      (λ x is. ((record { ask_fits = is.0; entry_fits = is.1.0; proof_fits = is.1.1.0; cites_fit = is.1.1.1 }, same), keep_grouped x.0 x.1.0 x.1.1.0 x.1.1.1))

  keep_again : (ask entry : ℕ) (proof : List Line) (cites : List Certificate) (at : ℕ) (rest : List ℕ) → FitsKeep ask entry proof cites → drop at bytes ≡ keep_bytes ask entry proof cites ++ rest
      → keep_at bytes at ≡ Ok (Keeps ask entry proof cites, at + length (keep_bytes ask entry proof cites))
  unfolding keep_at
  keep_again ask entry proof cites at rest fits e =
      let same = keep_grouped ask entry proof cites in
      again_made keeps reads_keep at (ask, (entry, (proof, cites))) rest (fits.ask_fits, (fits.entry_fits, (fits.proof_fits, fits.cites_fit))) (e ∙ ap (λ (l : List ℕ). l ++ rest) (sym same))
      ∙ ap (λ (l : List ℕ). Ok (Keeps ask entry proof cites, at + length l)) same

  -- ---- any event

  event_takes : (kind : ℕ) → 1 ≤ kind → kind ≤ LAST_EVENT → Takes bytes (event_at bytes kind) event_fields (IsEventOf kind)
  unfolding event_at event_fields
  event_takes kind some le =
      takes_if bytes (eqb kind 1) (made Asks (ask_at bytes)) _ event_fields (IsEventOf kind) (λ t. takes_made Asks event_fields (IsEventOf kind) reads_ask (λ x is. ((is, sym (eqb-true kind 1 t)), refl))) (λ n1.
      takes_if bytes (eqb kind 2) (keep_at bytes) _ event_fields (IsEventOf kind) (λ t. keep_takes kind (sym (eqb-true kind 2 t))) (λ n2.
      takes_if bytes (eqb kind 3) (made Holds (cited_at MAX_BODIES bytes)) _ event_fields (IsEventOf kind) (λ t. takes_made Holds event_fields (IsEventOf kind) (reads_cited bytes MAX_BODIES (omega arith)) (λ x is. ((is, sym (eqb-true kind 3 t)), refl))) (λ n3.
      takes_if bytes (eqb kind 4) (made Discards (bytes_at (ended bytes) 32 bytes)) _ event_fields (IsEventOf kind) (λ t. takes_made Discards event_fields (IsEventOf kind) (reads_bytes (ended bytes) 32 bytes) (λ x is. ((is, sym (eqb-true kind 4 t)), refl))) (λ n4.
      takes_if bytes (eqb kind 5) (made Forgets (u32_in bytes)) _ event_fields (IsEventOf kind) (λ t. takes_made Forgets event_fields (IsEventOf kind) (reads_u32 bytes) (λ x is. ((is, sym (eqb-true kind 5 t)), refl))) (λ n5.
      takes_if bytes (eqb kind 6) (made Expires (u64_in bytes)) _ event_fields (IsEventOf kind) (λ t. takes_made Expires event_fields (IsEventOf kind) (reads_u64 bytes) (λ x is. ((is, sym (eqb-true kind 6 t)), refl))) (λ n6.
      takes_made Withdraws event_fields (IsEventOf kind) (reads_u32 bytes)
      (λ x is. ((is, omega (arith, some, le, eqb-false _ _ n1, eqb-false _ _ n2, eqb-false _ _ n3, eqb-false _ _ n4, eqb-false _ _ n5, eqb-false _ _ n6)), refl))))))))

  event_again : (e : SpelledEvent) (at : ℕ) (rest : List ℕ) → FitsEvent e → drop at bytes ≡ event_fields e ++ rest → event_at bytes (kind_of e) at ≡ Ok (e, at + length (event_fields e))
  unfolding event_at event_fields
  event_again (Asks a) at rest fits e = again_made Asks reads_ask at a rest fits e
  event_again (Keeps ask entry proof cites) at rest fits e = keep_again ask entry proof cites at rest fits e
  event_again (Holds certs) at rest fits e = again_made Holds (reads_cited bytes MAX_BODIES (omega arith)) at certs rest fits e
  event_again (Discards digest) at rest fits e = again_made Discards (reads_bytes (ended bytes) 32 bytes) at digest rest fits e
  event_again (Forgets channel) at rest fits e = again_made Forgets (reads_u32 bytes) at channel rest fits e
  event_again (Expires reading) at rest fits e = again_made Expires (reads_u64 bytes) at reading rest fits e
  event_again (Withdraws issuer) at rest fits e = again_made Withdraws (reads_u32 bytes) at issuer rest fits e

  pub reads_event : (kind : ℕ) → (1 ≤ kind) × (kind ≤ LAST_EVENT) → Reads bytes (event_at bytes kind) event_fields (IsEventOf kind)
  reads_event kind low_high = record {
    takes = event_takes kind low_high.0 low_high.1;
    again = λ at x rest is e. subst (λ (k : ℕ). event_at bytes k at ≡ Ok (x, at + length (event_fields x))) is.1 (event_again x at rest is.0 e);
  }
