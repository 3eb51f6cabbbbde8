-- Terms as fields of other formats end within the bytes, and are refused at a place of theirs.
use Rattle.std.proofs.Common.{◌≡◌, ℕ, ◌+◌, ◌-◌, ◌≤◌, List, length, drop, Ok, sym, ap, subst, ◌∙◌, arith, length-append, length-drop}
use Rattle.byte_fields.specs.Formats.{IsFaultIn}
use Rattle.byte_fields.proofs.FieldLaws.{IsBytes}
use Rattle.byte_fields.proofs.Results.{bind_ok, ok_is}
use Rattle.byte_fields.proofs.Staying.{Stays, stays_seen}
use Rattle.prin_term.specs.declared.fault.TermFault.{TermFault}
use Rattle.prin_term.specs.declared.fault.TermFault.TheVariants as terms
use Rattle.prin_term.specs.declared.limits.TheConstants.{MAX_DEPTH}
use Rattle.prin_term.specs.Principal.{Principal}
use Rattle.prin_term.specs.Reading.{front_term, term_at}
use Rattle.prin_term.specs.Refusal.{IsRefused, IsWrongAt, before}
use Rattle.prin_term.specs.TermFields.{seen_as, term_in}
use Rattle.prin_term.proofs.Whole.{refused_at}

term_ends : (bytes : List ℕ) (nodes at : ℕ) (x : Principal × ℕ) → term_at nodes bytes at ≡ Ok x → x.1 ≤ length bytes
unfolding term_at
term_ends bytes nodes at x e =
    let a = bind_ok (front_term (length bytes) MAX_DEPTH nodes (drop at bytes)) (λ a. Ok (a.0, length bytes - length a.2)) x e in
    let made : Principal × ℕ = (a.0.0, length bytes - length a.0.2) in
    subst (λ (y : Principal × ℕ). y.1 ≤ length bytes) (ok_is TermFault made x a.2) (omega arith)

-- the fault's place is one of the bytes, or right after the last, and it is not out of memory
abbrev pub IsTermFaultIn : List ℕ → TermFault → Type 0
IsTermFaultIn bytes (terms.Tag o) = o ≤ length bytes
IsTermFaultIn bytes (terms.Short o) = o ≤ length bytes
IsTermFaultIn bytes (terms.TooDeep o) = o ≤ length bytes
IsTermFaultIn bytes (terms.TooLarge o) = o ≤ length bytes
IsTermFaultIn bytes terms.NoMemory = ⊥

module _ (bytes : List ℕ) where
  wrong_within : (levels nodes offset : ℕ) (rest : List ℕ) (f : TermFault) → offset + length rest ≤ length bytes → IsWrongAt levels nodes rest offset f → IsTermFaultIn bytes f
  wrong_within levels nodes offset rest (terms.Tag o) le is = omega (arith, is.1, le)
  wrong_within levels nodes offset rest (terms.Short o) le is = omega (arith, is.1, le)
  wrong_within levels nodes offset rest (terms.TooDeep o) le is = omega (arith, is.2, le)
  wrong_within levels nodes offset rest (terms.TooLarge o) le is = omega (arith, is.3, le)
  wrong_within levels nodes offset rest terms.NoMemory le is = absurd is

  refused_within : (nodes at : ℕ) (f : TermFault) → at ≤ length bytes → IsRefused MAX_DEPTH nodes (drop at bytes) at f → IsTermFaultIn bytes f
  refused_within nodes at f le is =
      let parts : length bytes - at ≡ length (before is.beginning) + length is.rest = sym (length-drop at bytes) ∙ ap length is.text ∙ length-append (before is.beginning) is.rest in
      wrong_within _ _ (at + length (before is.beginning)) is.rest f (omega (arith, parts, le)) is.wrong

  pub term_stays : IsBytes bytes → (nodes : ℕ) → Stays bytes (IsTermFaultIn bytes) (term_at nodes bytes)
  term_stays ok nodes = record {
    ends = λ at x le e. term_ends bytes nodes at x e;
    refuses = λ at f le e. refused_within nodes at f le (refused_at nodes at bytes f le ok e);
  }

module _ (bytes : List ℕ) where
  placed : (f : TermFault) → IsTermFaultIn bytes f → IsFaultIn bytes (seen_as f)
  placed (terms.Tag o) le = le
  placed (terms.Short o) le = le
  placed (terms.TooDeep o) le = le
  placed (terms.TooLarge o) le = le
  placed terms.NoMemory none = absurd none

  pub term_in_stays : IsBytes bytes → (nodes : ℕ) → Stays bytes (IsFaultIn bytes) (term_in nodes bytes)
  term_in_stays ok nodes = stays_seen (IsFaultIn bytes) seen_as (term_stays bytes ok nodes) placed
