-- Entries of objects: what is read is spelled so, and the other way.
use Rattle.std.proofs.Common.{◌≡◌, ℕ, ◌+◌, ◌≤◌, eqb, List, [], ◌∷◌, ◌++◌, length, drop, Ok, refl, sym, ap, subst, ◌∙◌, append_assoc, arith}
use Rattle.std.specs.Int.{w32, w64, to_be_bytes}
use Rattle.std.proofs.lemmas.Bool.{eqb-true, eqb-false}
use Rattle.byte_fields.specs.Readers.{given}
use Rattle.byte_fields.proofs.FieldLaws.{IsBytes}
use Rattle.byte_fields.proofs.FormatFields.{reads_u8, reads_u32, reads_u64, reads_u8_in}
use Rattle.byte_fields.proofs.ReaderLaws.{Reads, reads_followed, reads_made}
use Rattle.object_core.specs.declared.operation.TheConstants.{LAST_KIND}
use Rattle.object_core.specs.declared.ruling.Ruling.{Ruling}
use Rattle.object_core.specs.declared.ruling.Ruling.TheVariants.{Granted, Denied}
use Rattle.object_core.specs.Objects.{ObjectEntry}
use Rattle.object_core.specs.Operation.{Op, FitsOperation}
use Rattle.object_core.specs.Spelling.{kind_of, op_fields}
use Rattle.object_core.proofs.Halves.{Takes, takes_if, takes_made, takes_given, again_made, again_given}
use Rattle.object_core.proofs.Operations.{kind_within, reads_fields}
use Rattle.journal_bytes.specs.Limits.{FitsRuling, FitsRuled, IsRuledAt}
use Rattle.journal_bytes.specs.Reading.{op_at, ruled_by, ruling_at, ruled_at}
use Rattle.journal_bytes.specs.Spelling.{ruling_bytes, ruled_bytes}

-- the byte that names a ruling, and what the ruling says besides
abbrev mark_of : Ruling → ℕ
mark_of Denied = 0
mark_of (Granted entry) = 1

abbrev ruling_fields : Ruling → List ℕ
ruling_fields Denied = []
ruling_fields (Granted entry) = entry ∷ []

abbrev IsMarked : ℕ → Ruling → Type 0
IsMarked mark r = FitsRuling r × (mark_of r ≡ mark)

ruling_is : (r : Ruling) → ruling_bytes r ≡ mark_of r ∷ ruling_fields r
ruling_is Denied = refl
ruling_is (Granted entry) = refl

mark_within : (r : Ruling) → (0 ≤ mark_of r) × (mark_of r ≤ 1)
mark_within Denied = (omega arith, omega arith)
mark_within (Granted entry) = (omega arith, omega arith)

ruled_grouped : (e : ObjectEntry) → to_be_bytes w32 e.shard ++ (to_be_bytes w64 e.place ++ ((kind_of e.op ∷ op_fields e.op) ++ ruling_bytes e.ruling)) ≡ ruled_bytes e
unfolding ruled_bytes
ruled_grouped e = in_fields (to_be_bytes w32 e.shard) (to_be_bytes w64 e.place) (kind_of e.op ∷ op_fields e.op) (ruling_bytes e.ruling)
  where
    in_fields : (a b c d : List ℕ) → a ++ (b ++ (c ++ d)) ≡ ((a ++ b) ++ c) ++ d
    in_fields a b c d = simp append_assoc

module _ (bytes : List ℕ) where
  ruled_takes : (mark : ℕ) → mark ≤ 1 → Takes bytes (ruled_by bytes mark) ruling_fields (IsMarked mark)
  unfolding ruled_by
  ruled_takes mark le =
      takes_if bytes (eqb mark 0) (given Denied) _ ruling_fields (IsMarked mark) (λ t. takes_given bytes Denied ruling_fields (IsMarked mark) refl (tt, sym (eqb-true mark 0 t))) (λ n0.
      takes_made Granted ruling_fields (IsMarked mark) (reads_u8 bytes) (λ x is. ((is, omega (arith, le, eqb-false _ _ n0)), refl)))

  ruled_again : (r : Ruling) (at : ℕ) (rest : List ℕ) → FitsRuling r → drop at bytes ≡ ruling_fields r ++ rest → ruled_by bytes (mark_of r) at ≡ Ok (r, at + length (ruling_fields r))
  unfolding ruled_by
  ruled_again Denied at rest fits e = again_given Denied at
  ruled_again (Granted entry) at rest fits e = again_made Granted (reads_u8 bytes) at entry rest fits e

  reads_ruling : Reads bytes (ruling_at bytes) ruling_bytes FitsRuling
  unfolding ruling_at
  reads_ruling =
      reads_made (λ (x : ℕ × Ruling). x.1) (λ (r : Ruling). (mark_of r, r)) ruling_bytes FitsRuling
      (reads_followed (reads_u8_in bytes 0 1 (omega arith)) (λ mark below. record {
        takes = ruled_takes mark below.1;
        again = λ at r rest is e. subst (λ (m : ℕ). ruled_by bytes m at ≡ Ok (r, at + length (ruling_fields r))) is.1 (ruled_again r at rest is.0 e);
      }))
      (λ x is. (is.1.0, ap (λ (m : ℕ). m ∷ ruling_fields x.1) (sym is.1.1) ∙ sym (ruling_is x.1)))
      (λ r is. ((mark_within r, (is, refl)), ruling_is r, refl))

  reads_op : Reads bytes (op_at bytes) (λ op. kind_of op ∷ op_fields op) FitsOperation
  unfolding op_at
  reads_op =
      reads_made (λ (x : ℕ × Op). x.1) (λ (op : Op). (kind_of op, op)) (λ op. kind_of op ∷ op_fields op) FitsOperation
      (reads_followed (reads_u8_in bytes 1 LAST_KIND (omega arith)) (λ kind low_high. reads_fields bytes kind low_high))
      (λ x is. (is.1.0, ap (λ (k : ℕ). k ∷ op_fields x.1) (sym is.1.1)))
      (λ op is. ((kind_within op, (is, refl)), refl, refl))

  pub reads_ruled : Reads bytes (ruled_at bytes) ruled_bytes FitsRuled
  unfolding ruled_at
  reads_ruled =
      reads_made (λ x. record { shard = x.0; place = x.1.0; op = x.1.1.0; ruling = x.1.1.1 }) (λ (e : ObjectEntry). (e.shard, (e.place, (e.op, e.ruling)))) ruled_bytes FitsRuled
      (reads_followed (reads_u32 bytes) (λ _ _. reads_followed (reads_u64 bytes) (λ _ _. reads_followed reads_op (λ _ _. reads_ruling))))
      (λ x is. (
        record { shard = is.0; place = is.1.0; op = is.1.1.0; ruling = is.1.1.1 },
        ruled_grouped (record { shard = x.0; place = x.1.0; op = x.1.1.0; ruling = x.1.1.1 }),
      ))
      (λ e is. ((is.shard, (is.place, (is.op, is.ruling))), sym (ruled_grouped e), refl))

  -- ---- as the law says it

  pub ruled_takes_all : IsBytes bytes → (e : ObjectEntry) (at end : ℕ) → at ≤ length bytes → ruled_at bytes at ≡ Ok (e, end) → IsRuledAt bytes at e × (end ≡ at + length (ruled_bytes e))
  ruled_takes_all ok e at end le read =
      let t = reads_ruled.takes ok at (e, end) le read in
      (record { text = (drop end bytes, t.0.parts); limits = t.1 }, t.0.end_is)

  pub ruled_again_all : (e : ObjectEntry) (at end : ℕ) → IsRuledAt bytes at e → end ≡ at + length (ruled_bytes e) → ruled_at bytes at ≡ Ok (e, end)
  ruled_again_all e at end is place = rw place (reads_ruled.again at e is.text.0 is.limits is.text.1)
