-- Entries of shards: what is read is spelled so, and the other way.
use Rattle.std.proofs.Common.{◌≡◌, ℕ, ◌+◌, ◌≤◌, List, ◌∷◌, ◌++◌, length, drop, Ok, refl, sym, ap, subst, arith}
use Rattle.byte_fields.proofs.FieldLaws.{IsBytes}
use Rattle.byte_fields.proofs.FormatFields.{reads_u8_in}
use Rattle.byte_fields.specs.Readers.{followed}
use Rattle.byte_fields.proofs.ReaderLaws.{Reads, reads_as, reads_followed, reads_made}
use Rattle.agent_core.specs.declared.told.Told.{Told}
use Rattle.journal_bytes.specs.declared.limits.TheConstants.{LAST_EVENT}
use Rattle.journal_bytes.specs.Limits.{FitsEntry, FitsTold, IsEntryAt}
use Rattle.journal_bytes.specs.Reading.{entry_at, event_at, told_at}
use Rattle.journal_bytes.specs.Spelled.{SpelledEntry, SpelledEvent}
use Rattle.journal_bytes.specs.Spelling.{kind_of, event_fields, told_bytes, entry_bytes}
use Rattle.journal_bytes.proofs.Events.{IsEventOf, event_within, reads_event}
use Rattle.journal_bytes.proofs.Tolds.{reads_told}

module _ (bytes : List ℕ) where
  -- the event of this kind, and what was told of it
  reads_both : (kind : ℕ) → (1 ≤ kind) × (kind ≤ LAST_EVENT) →
      Reads bytes (followed (event_at bytes kind) (λ _. told_at bytes kind)) (λ (p : SpelledEvent × Told). event_fields p.0 ++ told_bytes (kind_of p.0) p.1) (λ (p : SpelledEvent × Told). IsEventOf kind p.0 × FitsTold kind p.1)
  reads_both kind low_high =
      reads_as (λ (p : SpelledEvent × Told). event_fields p.0 ++ told_bytes (kind_of p.0) p.1) (λ (p : SpelledEvent × Told). IsEventOf kind p.0 × FitsTold kind p.1)
      (reads_followed (reads_event bytes kind low_high) (λ _ _. reads_told bytes kind low_high))
      (λ p is. (is, ap (λ (k : ℕ). event_fields p.0 ++ told_bytes k p.1) (sym is.0.1)))
      (λ p is. is)

  pub reads_entry : Reads bytes (entry_at bytes) entry_bytes FitsEntry
  unfolding entry_at entry_bytes
  reads_entry =
      reads_made (λ x. record { event = x.1.0; told = x.1.1 }) (λ (e : SpelledEntry). (kind_of e.event, (e.event, e.told))) entry_bytes FitsEntry
      (reads_followed (reads_u8_in bytes 1 LAST_EVENT (omega arith)) reads_both)
      (λ x is. (
        record { event = is.1.0.0; told = subst (λ (k : ℕ). FitsTold k x.1.1) (sym is.1.0.1) is.1.1 },
        ap (λ (k : ℕ). k ∷ (event_fields x.1.0 ++ told_bytes (kind_of x.1.0) x.1.1)) (sym is.1.0.1),
      ))
      (λ e is. ((event_within e.event, ((is.event, refl), is.told)), refl, refl))

  -- ---- as the law says it

  pub entry_takes : IsBytes bytes → (e : SpelledEntry) (at end : ℕ) → at ≤ length bytes → entry_at bytes at ≡ Ok (e, end) → IsEntryAt bytes at e × (end ≡ at + length (entry_bytes e))
  entry_takes ok e at end le read =
      let t = reads_entry.takes ok at (e, end) le read in
      (record { text = (drop end bytes, t.0.parts); limits = t.1 }, t.0.end_is)

  pub entry_again : (e : SpelledEntry) (at end : ℕ) → IsEntryAt bytes at e → end ≡ at + length (entry_bytes e) → entry_at bytes at ≡ Ok (e, end)
  entry_again e at end is place = rw place (reads_entry.again at e is.text.0 is.limits is.text.1)
