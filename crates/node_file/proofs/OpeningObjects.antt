-- The objects of an opening: what is read is spelled so, and the other way.
use Rattle.std.proofs.Common.{◌≡◌, ◌≢◌, ℕ, ◌^◌, ◌≤◌, false, eqb, List, ◌++◌, length, refl, sym, append_assoc, arith}
use Rattle.std.specs.Prelude.{All, AllPairs}
use Rattle.std.specs.List.{flat_map}
use Rattle.std.specs.Int.{w16, w32, to_be_bytes}
use Rattle.std.proofs.lemmas.Bool.{eqb-false}
use Rattle.std.proofs.lemmas.Bool.Decides.{nat_tests}
use Rattle.std.proofs.lemmas.List.Elements.{All-weaker}
use Rattle.object_core.specs.Spelling.{content_bytes, list_bytes}
use Rattle.object_core.proofs.ListReaders.{reads_content, reads_list}
use Rattle.byte_fields.specs.declared.fault.FormatFault.TheVariants.{Malformed}
use Rattle.object_core.specs.Objects.{ObjectPlan}
use Rattle.node_file.specs.Opening.{object_bytes, FitsObject}
use Rattle.byte_fields.specs.Readers.{is_new}
use Rattle.node_file.specs.OpeningReading.{new_object_at, object_at, objects_at}
use Rattle.byte_fields.proofs.FormatFields.{reads_u16, reads_u32}
use Rattle.byte_fields.proofs.ReaderLaws.{Reads, reads_followed, reads_passing, reads_made, reads_counted, is_new-All, is_new-from_All}

module _ (bytes : List ℕ) where
  pub reads_object : (before : List ObjectPlan) → Reads bytes (object_at bytes before) object_bytes (λ p. FitsObject p × All (λ q. q.number ≢ p.number) before)
  unfolding object_at new_object_at
  reads_object before =
      reads_made (λ x. record { number = x.0; content = x.1.0; list = x.1.1 }) (λ (p : ObjectPlan). (p.number, (p.content, p.list)))
      object_bytes (λ p. FitsObject p × All (λ q. q.number ≢ p.number) before)
      (reads_followed (reads_passing (λ n. is_new (λ (p : ObjectPlan). eqb p.number n) before) Malformed (reads_u32 bytes)) (λ _ _. reads_followed (reads_content bytes) (λ _ _. reads_list bytes)))
      (λ x is. (
        (
          record { number = is.0.0; content = is.1.0; list = is.1.1 },
          All-weaker (λ q. eqb q.number x.0 ≡ false) (λ q. q.number ≢ x.0) (λ q e. eqb-false _ _ e) before (is_new-All (λ (q : ObjectPlan). eqb q.number x.0) before is.0.1),
        ),
        sym (append_assoc (to_be_bytes w32 x.0) (content_bytes x.1.0) (list_bytes x.1.1)),
      ))
      (λ p is. (
        (
          (is.0.number, is_new-from_All (λ (q : ObjectPlan). eqb q.number p.number) before (All-weaker (λ q. q.number ≢ p.number) (λ q. eqb q.number p.number ≡ false) (λ q e. grind (arith, nat_tests, e)) before is.1)),
          (is.0.content, is.0.list),
        ),
        append_assoc (to_be_bytes w32 p.number) (content_bytes p.content) (list_bytes p.list),
        refl,
      ))

  pub reads_objects : Reads bytes (objects_at bytes) (λ xs. to_be_bytes w16 (length xs) ++ flat_map object_bytes xs) (λ xs. (length xs ≤ 256) × All FitsObject xs × AllPairs (λ p q. p.number ≢ q.number) xs)
  unfolding objects_at
  reads_objects = reads_counted 256 (2 ^ 16) Malformed object_bytes FitsObject (λ p q. p.number ≢ q.number) (omega arith) (reads_u16 bytes) reads_object
