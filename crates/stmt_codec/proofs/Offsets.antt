-- A body that is refused is refused at one of its bytes or right after the last.
use Rattle.std.proofs.Common.{◌≢◌, ℕ, ◌≤◌, ◌==◌, List, length, Ok, Err, sym, subst, inl, inr}
use Rattle.std.specs.Prelude.{nat_le, not, if◌then◌else◌}
use Rattle.byte_fields.specs.declared.fault.FormatFault.TheVariants.{Malformed, NoMemory}
use Rattle.byte_fields.specs.Formats.{IsFaultIn}
use Rattle.byte_fields.proofs.FieldLaws.{IsBytes}
use Rattle.byte_fields.proofs.FormatPlaces.{u32_stays, u64_stays, within_stays}
use Rattle.byte_fields.proofs.Results.{bind_ok, bind_err, chosen_ok, chosen_err}
use Rattle.byte_fields.proofs.Staying.{Stays, stays_followed, stays_given, stays_if, stays_made, stays_passing}
use Rattle.prin_term.specs.Principal.{Principal}
use Rattle.prin_term.specs.TermFields.{term_in}
use Rattle.prin_term.proofs.TermPlaces.{term_in_stays}
use Rattle.prin_term.proofs.TermForms.{form_optional_term}
use Rattle.stmt_codec.specs.Certificates.{key_quoting, distinct_parts}
use Rattle.stmt_codec.specs.Reading.{right_at, from_at, body_at}

module _ (bytes : List ℕ) (ok : IsBytes bytes) where
  right_stays : (speaker left : Principal) → Stays bytes (IsFaultIn bytes) (right_at speaker left bytes)
  unfolding right_at
  right_stays speaker left = record {
    ends = λ at x le e.
        let a = bind_ok (term_in 64 bytes at) (λ r. if nat_le (length (distinct_parts speaker left r.0)) 16 then Ok r else Err (Malformed r.1)) x e in
        let g = chosen_ok (nat_le (length (distinct_parts speaker left a.0.0)) 16) (Malformed a.0.1) a.0 x a.2 in
        subst (λ (y : Principal × ℕ). y.1 ≤ length bytes) g.1 ((term_in_stays bytes ok 64).ends at a.0 le a.1);
    refuses = λ at f le e.
        elim (bind_err (term_in 64 bytes at) (λ r. if nat_le (length (distinct_parts speaker left r.0)) 16 then Ok r else Err (Malformed r.1)) f e) [
          | inl none ↦ (term_in_stays bytes ok 64).refuses at f le none
          | inr a ↦ subst (IsFaultIn bytes) (sym (chosen_err (nat_le (length (distinct_parts speaker left a.0.0)) 16) (Malformed a.0.1) f a.0 a.2).1) ((term_in_stays bytes ok 64).ends at a.0 le a.1)
        ];
  }

  from_stays : (version : ℕ) → Stays bytes (IsFaultIn bytes) (from_at version bytes)
  unfolding from_at
  from_stays version = stays_if (version == 1) _ _ (stays_given bytes 0) (stays_passing (λ n. not (n == 0)) Malformed (u64_stays bytes) (λ o le. le))

  pub body_stays : Stays bytes (IsFaultIn bytes) (body_at bytes)
  unfolding body_at
  body_stays =
      stays_made _ (stays_followed (within_stays bytes 1 2) (λ version. stays_followed (u32_stays bytes) (λ issuer. stays_followed ((form_optional_term 64).stays bytes ok) (λ quoted. stays_followed (term_in_stays bytes ok 64)
      (λ left. stays_followed (right_stays (key_quoting issuer quoted) left) (λ _. stays_followed (from_stays version) (λ _. stays_followed (u64_stays bytes) (λ _. u64_stays bytes))))))))

-- so reading as a function is never out of memory
pub never_memory : (bytes : List ℕ) (at : ℕ) → at ≤ length bytes → IsBytes bytes → body_at bytes at ≢ Err NoMemory
never_memory bytes at le ok = λ e. (body_stays bytes ok).refuses at NoMemory le e
