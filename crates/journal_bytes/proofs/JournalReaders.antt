-- Journals: what is read is spelled so, and the other way.
use Rattle.std.proofs.Common.{◌≡◌, ℕ, ◌^◌, ◌<◌, ◌≤◌, leb, true, List, [], ◌∷◌, ◌++◌, length, refl, sym, ap, ◌∙◌, append_assoc, arith}
use Rattle.std.specs.Prelude.{All, AllPairs}
use Rattle.std.specs.Int.{w32, w64, to_be_bytes}
use Rattle.std.specs.List.{flat_map}
use Rattle.std.proofs.lemmas.Bool.{leb-false, lt-leb}
use Rattle.byte_fields.specs.declared.fault.FormatFault.TheVariants.{Malformed}
use Rattle.byte_fields.proofs.FormatFields.{reads_u32, reads_u64, reads_u8_in}
use Rattle.byte_fields.proofs.ReaderLaws.{Reads, reads_followed, reads_made, reads_passing, is_new-All, is_new-from_All}
use Rattle.journal_bytes.specs.declared.limits.TheConstants.{JOURNALS, VERSION}
use Rattle.journal_bytes.specs.JournalsReading.{shard_at, rulings_at, is_above, object_at, object_by, shards_at, objects_at, head_at, journals_at}
use Rattle.journal_bytes.specs.Limits.{FitsEntry, FitsRuled, FitsShard, FitsObject, FitsJournals, StandsBefore}
use Rattle.journal_bytes.specs.Spelled.{ObjectJournal, Journals}
use Rattle.journal_bytes.specs.Spelling.{entry_bytes, ruled_bytes, shard_bytes, object_bytes, journals_bytes}
use Rattle.journal_bytes.proofs.Entries.{reads_entry}
use Rattle.journal_bytes.proofs.Items.{reads_counted_items, reads_each_item}
use Rattle.journal_bytes.proofs.Rulings.{reads_ruled}

-- a number is above those before exactly where each of them stands before it
above_all : (before : List ObjectJournal) (n : ℕ) → is_above before n ≡ true → All (λ b. b.number < n) before
above_all before n is = λ i d below. leb-false n _ (is_new-All (λ (o : ObjectJournal). leb n o.number) before is i d below)

all_above : (before : List ObjectJournal) (n : ℕ) → All (λ b. b.number < n) before → is_above before n ≡ true
all_above before n all = is_new-from_All (λ (o : ObjectJournal). leb n o.number) before (λ i d below. lt-leb _ _ (all i d below))

object_grouped : (o : ObjectJournal) → to_be_bytes w32 o.number ++ (to_be_bytes w64 (length o.entries) ++ flat_map ruled_bytes o.entries) ≡ object_bytes o
unfolding object_bytes
object_grouped o = sym (append_assoc (to_be_bytes w32 o.number) (to_be_bytes w64 (length o.entries)) (flat_map ruled_bytes o.entries))

module _ (bytes : List ℕ) where
  pub reads_shard : Reads bytes (shard_at bytes) shard_bytes FitsShard
  unfolding shard_at shard_bytes
  reads_shard = reads_each_item (2 ^ 64) entry_bytes FitsEntry (reads_u64 bytes) (reads_entry bytes)

  reads_rulings : Reads bytes (rulings_at bytes) (λ xs. to_be_bytes w64 (length xs) ++ flat_map ruled_bytes xs) (λ xs. (length xs < 2 ^ 64) × All FitsRuled xs)
  unfolding rulings_at
  reads_rulings = reads_each_item (2 ^ 64) ruled_bytes FitsRuled (reads_u64 bytes) (reads_ruled bytes)

  pub reads_object : (before : List ObjectJournal) → Reads bytes (object_at bytes before) object_bytes (λ o. FitsObject o × All (λ b. StandsBefore b o) before)
  unfolding object_by
  reads_object before =
      reads_made (λ x. record { number = x.0; entries = x.1 }) (λ (o : ObjectJournal). (o.number, o.entries)) object_bytes (λ o. FitsObject o × All (λ b. StandsBefore b o) before)
      (reads_followed (reads_passing (is_above before) Malformed (reads_u32 bytes)) (λ _ _. reads_rulings))
      (λ x is. ((record { number = is.0.0; entries = is.1 }, above_all before x.0 is.0.1), object_grouped (record { number = x.0; entries = x.1 })))
      (λ o is. (((is.0.number, all_above before o.number is.1), is.0.entries), sym (object_grouped o), refl))

  reads_shards : Reads bytes (shards_at bytes) (λ xs. to_be_bytes w32 (length xs) ++ flat_map shard_bytes xs) (λ xs. (length xs < 2 ^ 32) × All FitsShard xs)
  unfolding shards_at
  reads_shards = reads_each_item (2 ^ 32) shard_bytes FitsShard (reads_u32 bytes) reads_shard

  reads_objects : Reads bytes (objects_at bytes) (λ xs. to_be_bytes w32 (length xs) ++ flat_map object_bytes xs) (λ xs. (length xs < 2 ^ 32) × All FitsObject xs × AllPairs StandsBefore xs)
  unfolding objects_at
  reads_objects = reads_counted_items (2 ^ 32) object_bytes FitsObject (reads_u32 bytes) StandsBefore reads_object

  reads_head : Reads bytes (head_at bytes) (λ v. JOURNALS ∷ v ∷ []) (λ v. (VERSION ≤ v) × (v ≤ VERSION))
  unfolding head_at
  reads_head =
      reads_made (λ (x : ℕ × ℕ). x.1) (λ (v : ℕ). (JOURNALS, v)) (λ v. JOURNALS ∷ v ∷ []) (λ v. (VERSION ≤ v) × (v ≤ VERSION))
      (reads_followed (reads_u8_in bytes JOURNALS JOURNALS (omega arith)) (λ _ _. reads_u8_in bytes VERSION VERSION (omega arith)))
      (λ x is.
      let first : x.0 ≡ JOURNALS = omega (arith, is.0) in
      (is.1, ap (λ (k : ℕ). k ∷ x.1 ∷ []) first))
      (λ v is. (((omega arith, omega arith), is), refl, refl))

  all_grouped : (j : Journals) → (JOURNALS ∷ VERSION ∷ []) ++ ((to_be_bytes w32 (length j.shards) ++ flat_map shard_bytes j.shards) ++ (to_be_bytes w32 (length j.objects) ++ flat_map object_bytes j.objects)) ≡ journals_bytes j
  all_grouped j =
      ap (λ (l : List ℕ). JOURNALS ∷ VERSION ∷ l) (sym (append_assoc (to_be_bytes w32 (length j.shards) ++ flat_map shard_bytes j.shards) (to_be_bytes w32 (length j.objects)) (flat_map object_bytes j.objects)))

  pub reads_journals : Reads bytes (journals_at bytes) journals_bytes FitsJournals
  unfolding journals_at
  reads_journals =
      reads_made (λ x. record { shards = x.1.0; objects = x.1.1 }) (λ (j : Journals). (VERSION, (j.shards, j.objects))) journals_bytes FitsJournals
      (reads_followed reads_head (λ _ _. reads_followed reads_shards (λ _ _. reads_objects)))
      (λ x is.
      let version : x.0 ≡ VERSION = omega (arith, is.0) in
      let rest = (to_be_bytes w32 (length x.1.0) ++ flat_map shard_bytes x.1.0) ++ (to_be_bytes w32 (length x.1.1) ++ flat_map object_bytes x.1.1) in (
        record { shards = is.1.0; objects = (is.1.1.0, is.1.1.1); ascending = is.1.1.2 },
        ap (λ (v : ℕ). (JOURNALS ∷ v ∷ []) ++ rest) version ∙ all_grouped (record { shards = x.1.0; objects = x.1.1 }),
      ))
      (λ j is. (((omega arith, omega arith), (is.shards, (is.objects.0, is.objects.1, is.ascending))), sym (all_grouped j), refl))
