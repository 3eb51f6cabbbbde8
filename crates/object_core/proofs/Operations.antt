-- The fields of operations: what is read is spelled so, and the other way; and where they are refused, whole or cut.
use Rattle.std.proofs.Common.{◌≡◌, ℕ, ◌+◌, ◌≤◌, eqb, List, ◌++◌, length, drop, Ok, refl, sym, subst, arith}
use Rattle.std.proofs.lemmas.Bool.{eqb-true, eqb-false}
use Rattle.byte_fields.specs.Formats.{ended, u32_in}
use Rattle.byte_fields.specs.Readers.{given, made}
use Rattle.byte_fields.specs.Steps.{bytes_at}
use Rattle.byte_fields.proofs.FieldLaws.{IsBytes}
use Rattle.byte_fields.proofs.FormatFields.{reads_u32}
use Rattle.byte_fields.proofs.Forms.{Form, form_made, form_given, form_if, form_u32, form_bytes}
use Rattle.byte_fields.proofs.ReaderLaws.{Reads, reads_bytes}
use Rattle.object_core.specs.declared.operation.TheConstants.{LAST_KIND}
use Rattle.object_core.specs.Operation.{Op, Read, Write, SetList, Hold, Discard, Forget, Sweep, Withdraw, FitsOperation}
use Rattle.object_core.specs.Reading.{content_at, list_at, fields_at}
use Rattle.object_core.specs.Spelling.{kind_of, op_fields, IsOperationAt}
use Rattle.object_core.proofs.Halves.{Takes, takes_if, takes_made, takes_given, again_made, again_given}
use Rattle.object_core.proofs.ListForms.{form_content, form_list}
use Rattle.object_core.proofs.ListReaders.{reads_content, reads_list}

-- within the limits, and of this kind
abbrev pub FitsKind : ℕ → Op → Type 0
FitsKind kind op = FitsOperation op × (kind_of op ≡ kind)

pub kind_within : (op : Op) → (1 ≤ kind_of op) × (kind_of op ≤ LAST_KIND)
kind_within Read = (omega arith, omega arith)
kind_within (Write content) = (omega arith, omega arith)
kind_within (SetList list) = (omega arith, omega arith)
kind_within Hold = (omega arith, omega arith)
kind_within (Discard digest) = (omega arith, omega arith)
kind_within (Forget channel) = (omega arith, omega arith)
kind_within Sweep = (omega arith, omega arith)
kind_within (Withdraw issuer) = (omega arith, omega arith)

module _ (bytes : List ℕ) where
  fields_take : (kind : ℕ) → 1 ≤ kind → kind ≤ LAST_KIND → Takes bytes (fields_at bytes kind) op_fields (FitsKind kind)
  unfolding fields_at
  fields_take kind some le =
      takes_if bytes (eqb kind 1) (given Read) _ op_fields (FitsKind kind) (λ t. takes_given bytes Read op_fields (FitsKind kind) refl (tt, sym (eqb-true kind 1 t))) (λ n1.
      takes_if bytes (eqb kind 2) (made Write (content_at bytes)) _ op_fields (FitsKind kind) (λ t. takes_made Write op_fields (FitsKind kind) (reads_content bytes) (λ x is. ((is, sym (eqb-true kind 2 t)), refl))) (λ n2.
      takes_if bytes (eqb kind 3) (made SetList (list_at bytes)) _ op_fields (FitsKind kind) (λ t. takes_made SetList op_fields (FitsKind kind) (reads_list bytes) (λ x is. ((is, sym (eqb-true kind 3 t)), refl))) (λ n3.
      takes_if bytes (eqb kind 4) (given Hold) _ op_fields (FitsKind kind) (λ t. takes_given bytes Hold op_fields (FitsKind kind) refl (tt, sym (eqb-true kind 4 t))) (λ n4.
      takes_if bytes (eqb kind 5) (made Discard (bytes_at (ended bytes) 32 bytes)) _ op_fields (FitsKind kind) (λ t. takes_made Discard op_fields (FitsKind kind) (reads_bytes (ended bytes) 32 bytes) (λ x is. ((is, sym (eqb-true kind 5 t)), refl))) (λ n5.
      takes_if bytes (eqb kind 6) (made Forget (u32_in bytes)) _ op_fields (FitsKind kind) (λ t. takes_made Forget op_fields (FitsKind kind) (reads_u32 bytes) (λ x is. ((is, sym (eqb-true kind 6 t)), refl))) (λ n6.
      takes_if bytes (eqb kind 7) (given Sweep) (made Withdraw (u32_in bytes)) op_fields (FitsKind kind) (λ t. takes_given bytes Sweep op_fields (FitsKind kind) refl (tt, sym (eqb-true kind 7 t))) (λ n7.
      takes_made Withdraw op_fields (FitsKind kind) (reads_u32 bytes) (λ x is. ((is, omega (arith, some, le, eqb-false _ _ n1, eqb-false _ _ n2, eqb-false _ _ n3, eqb-false _ _ n4, eqb-false _ _ n5, eqb-false _ _ n6, eqb-false _ _ n7)), refl)))))))))

  fields_again : (op : Op) (at : ℕ) (rest : List ℕ) → FitsOperation op → drop at bytes ≡ op_fields op ++ rest → fields_at bytes (kind_of op) at ≡ Ok (op, at + length (op_fields op))
  unfolding fields_at
  fields_again Read at rest fits e = again_given Read at
  fields_again (Write content) at rest fits e = again_made Write (reads_content bytes) at content rest fits e
  fields_again (SetList list) at rest fits e = again_made SetList (reads_list bytes) at list rest fits e
  fields_again Hold at rest fits e = again_given Hold at
  fields_again (Discard digest) at rest fits e = again_made Discard (reads_bytes (ended bytes) 32 bytes) at digest rest fits e
  fields_again (Forget channel) at rest fits e = again_made Forget (reads_u32 bytes) at channel rest fits e
  fields_again Sweep at rest fits e = again_given Sweep at
  fields_again (Withdraw issuer) at rest fits e = again_made Withdraw (reads_u32 bytes) at issuer rest fits e

  pub reads_fields : (kind : ℕ) → (1 ≤ kind) × (kind ≤ LAST_KIND) → Reads bytes (fields_at bytes kind) op_fields (FitsKind kind)
  reads_fields kind low_high = record {
    takes = fields_take kind low_high.0 low_high.1;
    again = λ at op rest is e. subst (λ (k : ℕ). fields_at bytes k at ≡ Ok (op, at + length (op_fields op))) is.1 (fields_again op at rest is.0 e);
  }

  -- ---- as the law says it

  pub operation_takes : IsBytes bytes → (op : Op) (kind at end : ℕ) → 1 ≤ kind → kind ≤ LAST_KIND → at ≤ length bytes → fields_at bytes kind at ≡ Ok (op, end)
      → (kind_of op ≡ kind) × IsOperationAt bytes at op × (end ≡ at + length (op_fields op))
  operation_takes ok op kind at end some few le e =
      let t = fields_take kind some few ok at (op, end) le e in
      (t.1.1, record { text = (drop end bytes, t.0.parts); limits = t.1.0 }, t.0.end_is)

  pub operation_again : (op : Op) (kind at end : ℕ) → kind_of op ≡ kind → IsOperationAt bytes at op → end ≡ at + length (op_fields op) → fields_at bytes kind at ≡ Ok (op, end)
  operation_again op kind at end named is place =
      rw place (subst (λ (k : ℕ). fields_at bytes k at ≡ Ok (op, at + length (op_fields op))) named (fields_again op at is.text.0 is.limits is.text.1))

pub form_fields : (kind : ℕ) → Form IsBytes (λ bytes. fields_at bytes kind)
unfolding fields_at
form_fields kind =
    form_if (eqb kind 1) (form_given Read)
    (form_if (eqb kind 2) (form_made Write form_content)
    (form_if (eqb kind 3) (form_made SetList form_list)
    (form_if (eqb kind 4) (form_given Hold)
    (form_if (eqb kind 5) (form_made Discard (form_bytes 32))
    (form_if (eqb kind 6) (form_made Forget form_u32)
    (form_if (eqb kind 7) (form_given Sweep) (form_made Withdraw form_u32)))))))
