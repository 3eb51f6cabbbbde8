-- A body that is read was spelled there, and one that is spelled there is read.
use Rattle.std.proofs.Common.{◌≡◌, ℕ, zero, suc, ◌+◌, ◌-◌, ◌^◌, ◌<◌, ◌≤◌, true, List, [], ◌∷◌, ◌++◌, length, drop, take, Option, Some, None, Ok, refl, sym, ap, ap₂, subst, ◌∙◌, append_assoc, arith}
use Rattle.std.specs.Prelude.{◌↔◌, ◌==◌, not, nat_le, if◌then◌else◌, Err, IfSome}
use Rattle.std.specs.Int.{w32, w64, to_be_bytes}
use Rattle.std.proofs.lemmas.Bool.{leb-true, le-leb}
use Rattle.std.proofs.lemmas.List.{take_at}
use Rattle.prin_term.specs.Principal.{Principal, spelling, HasSpelling}
use Rattle.prin_term.specs.Refusal.{FitsLimits}
use Rattle.prin_term.specs.TermFields.{seen_as, term_in}
use Rattle.prin_term.proofs.TermReaders.{reads_term, reads_optional_term}
use Rattle.byte_fields.specs.Formats.{u64_in}
use Rattle.byte_fields.specs.Readers.{given, passing}
use Rattle.byte_fields.specs.Steps.{optional}
use Rattle.byte_fields.specs.declared.fault.FormatFault.{FormatFault}
use Rattle.byte_fields.specs.declared.fault.FormatFault.TheVariants.{Malformed}
use Rattle.byte_fields.proofs.FieldLaws.{IsBytes, TakesAt, took}
use Rattle.byte_fields.proofs.FormatFields.{reads_u8_in, reads_u32, reads_u64}
use Rattle.byte_fields.proofs.ReaderLaws.{Reads, reads_as, reads_followed, reads_made, reads_passing}
use Rattle.byte_fields.proofs.Results.{bind_ok, chosen_ok, ok_is}
use Rattle.stmt_codec.specs.Certificates.{Certificate, body_spelling, from_bytes, version_of, key_quoting, distinct_parts, FitsBody, IsSmall, IsWithinLimits, HasBodySpelling, IsBodyAt}
use Rattle.stmt_codec.specs.Reading.{right_at, from_at, body_at}
use Rattle.stmt_codec.proofs.Beginnings.{BeginsBy, begins_some, none_is, some_is, version_within}

-- ---- the limits of terms, in their two parts

fitting : (t : Principal) → HasSpelling t → IsSmall t → FitsLimits 64 t
fitting t numbers is = record { numbers = numbers; nodes_fit = is.0; depth_fits = is.1 }

quoted_parts : (o : Option Principal) → IfSome o (FitsLimits 64) → IfSome o HasSpelling × IfSome o IsSmall
quoted_parts None fits = (tt, tt)
quoted_parts (Some t) fits = (fits.numbers, (fits.nodes_fit, fits.depth_fits))

quoted_fitting : (o : Option Principal) → IfSome o HasSpelling → IfSome o IsSmall → IfSome o (FitsLimits 64)
quoted_fitting None numbers is = tt
quoted_fitting (Some t) numbers is = fitting t numbers is

-- ---- the right term

-- the right term among few enough
abbrev pub IsRight : Principal → Principal → Principal → Type 0
IsRight speaker left t = FitsLimits 64 t × (length (distinct_parts speaker left t) ≤ 16)

pub reads_right : (speaker left : Principal) (bytes : List ℕ) → Reads bytes (right_at speaker left bytes) spelling (IsRight speaker left)
unfolding right_at
reads_right speaker left bytes = record {
  takes = λ ok at x le e.
      let r = bind_ok (term_in 64 bytes at) (λ r. if nat_le (length (distinct_parts speaker left r.0)) 16 then Ok r else Err (Malformed r.1)) x e in
      let g = chosen_ok (nat_le (length (distinct_parts speaker left r.0.0)) 16) (Malformed r.0.1) r.0 x r.2 in
      let t = (reads_term seen_as 64 bytes).takes ok at r.0 le r.1 in
      subst (λ (y : Principal × ℕ). TakesAt bytes at (spelling y.0) y.1 × IsRight speaker left y.0) g.1 (t.0, (t.1, leb-true _ _ g.0));
  again = λ at t rest fits e.
      let read = (reads_term seen_as 64 bytes).again at t rest fits.0 e in
      let test : nat_le (length (distinct_parts speaker left t)) 16 ≡ true = le-leb _ _ fits.1 in
      rw (read, test) refl;
}

-- ---- the beginning

reads_none : (bytes : List ℕ) → Reads {E = FormatFault} bytes (given 0) from_bytes (BeginsBy 1)
reads_none bytes = record {
  takes = λ ok at x le e.
      let none : TakesAt bytes at [] at = took bytes [] (drop at bytes) at at refl (omega arith) in
      subst (λ (y : ℕ × ℕ). TakesAt bytes at (from_bytes y.0) y.1 × BeginsBy 1 y.0) (ok_is FormatFault (0, at) x e) (none, (omega arith, refl));
  again = λ at n rest fits e.
      let none : n ≡ 0 = none_is n fits in
      let place : at ≡ at + length (from_bytes n) = omega (arith, ap (λ (k : ℕ). length (from_bytes k)) none) in
      ap₂ (λ (k end : ℕ). Ok (k, end)) (sym none) place;
}

reads_some : (bytes : List ℕ) → Reads bytes (passing (λ n. not (n == 0)) Malformed (u64_in bytes)) from_bytes (BeginsBy 2)
reads_some bytes = reads_as from_bytes (BeginsBy 2) (reads_passing (λ n. not (n == 0)) Malformed (reads_u64 bytes)) some_is begins_some

pub reads_from : (version : ℕ) → (1 ≤ version) × (version ≤ 2) → (bytes : List ℕ) → Reads bytes (from_at version bytes) from_bytes (BeginsBy version)
unfolding from_at
reads_from zero within bytes = absurd (omega (arith, within.0))
reads_from (suc zero) within bytes = reads_none bytes
reads_from (suc (suc zero)) within bytes = reads_some bytes
reads_from (suc (suc (suc n))) within bytes = absurd (omega (arith, within.1))

-- ---- the body

-- the version and the fields, in their order
abbrev Parts : Type 0
Parts = ℕ × (ℕ × (Option Principal × (Principal × (Principal × (ℕ × (ℕ × ℕ))))))

abbrev pub parts_of : Certificate → Parts
parts_of c = (version_of c.from, (c.issuer, (c.quoted, (c.left, (c.right, (c.from, (c.until, c.serial)))))))

abbrev pub parts_spelling : Parts → List ℕ
parts_spelling x =
    (x.0 ∷ []) ++ (to_be_bytes w32 x.1.0 ++ (optional spelling x.1.1.0 ++ (spelling x.1.1.1.0 ++ (spelling x.1.1.1.1.0 ++ (from_bytes x.1.1.1.1.1.0 ++ (to_be_bytes w64 x.1.1.1.1.1.1.0 ++ to_be_bytes w64 x.1.1.1.1.1.1.1))))))

abbrev pub FitParts : Parts → Type 0
FitParts x =
    ((1 ≤ x.0) × (x.0 ≤ 2)) × ((x.1.0 < 2 ^ 32) × (IfSome x.1.1.0 (FitsLimits 64) × (FitsLimits 64 x.1.1.1.0 × (IsRight (key_quoting x.1.0 x.1.1.0) x.1.1.1.0 x.1.1.1.1.0 × (BeginsBy x.0 x.1.1.1.1.1.0 × ((x.1.1.1.1.1.1.0 < 2 ^ 64) × (x.1.1.1.1.1.1.1 < 2 ^ 64)))))))

pub parts_fit : (c : Certificate) → FitsBody c → FitParts (parts_of c)
parts_fit c is = (
  version_within c.from,
  (
    is.numbers.issuer,
    (
      quoted_fitting c.quoted is.numbers.quoted is.limits.quoted_fits,
      (
        fitting c.left is.numbers.left is.limits.left_fits,
        ((fitting c.right is.numbers.right is.limits.right_fits, is.limits.few_subterms), ((is.numbers.from, refl), (is.numbers.until, is.numbers.serial))),
      ),
    ),
  ),
)

grouped : (version from_version : ℕ) (issuer quoted left right from until serial : List ℕ) → version ≡ from_version
    → (version ∷ []) ++ (issuer ++ (quoted ++ (left ++ (right ++ (from ++ (until ++ serial)))))) ≡ from_version ∷ [] ++ issuer ++ quoted ++ left ++ right ++ from ++ until ++ serial
grouped version from_version issuer quoted left right from until serial e = rw e (simp append_assoc)

in_parts : (version : ℕ) (c : Certificate) → version ≡ version_of c.from → parts_spelling (version, (parts_of c).1) ≡ body_spelling c
in_parts version c e =
    grouped version (version_of c.from) (to_be_bytes w32 c.issuer) (optional spelling c.quoted) (spelling c.left) (spelling c.right) (from_bytes c.from) (to_be_bytes w64 c.until) (to_be_bytes w64 c.serial) e

pub of_parts : (c : Certificate) → body_spelling c ≡ parts_spelling (parts_of c)
of_parts c = sym (in_parts (version_of c.from) c refl)

abbrev whole : Parts → Certificate
whole x = record {
  issuer = x.1.0;
  quoted = x.1.1.0;
  left = x.1.1.1.0;
  right = x.1.1.1.1.0;
  from = x.1.1.1.1.1.0;
  until = x.1.1.1.1.1.1.0;
  serial = x.1.1.1.1.1.1.1;
}

whole_fits : (x : Parts) → FitParts x → FitsBody (whole x)
whole_fits x is =
    let quoted = quoted_parts x.1.1.0 is.1.1.0 in
    let left = is.1.1.1.0 in
    let right = is.1.1.1.1.0 in
    record {
      numbers = record { issuer = is.1.0; quoted = quoted.0; left = left.numbers; right = right.0.numbers; from = is.1.1.1.1.1.0.0; until = is.1.1.1.1.1.1.0; serial = is.1.1.1.1.1.1.1 };
      limits = record { quoted_fits = quoted.1; left_fits = (left.nodes_fit, left.depth_fits); right_fits = (right.0.nodes_fit, right.0.depth_fits); few_subterms = right.1 };
    }

pub reads_body : (bytes : List ℕ) → Reads bytes (body_at bytes) body_spelling FitsBody
unfolding body_at
reads_body bytes =
    reads_made whole parts_of body_spelling FitsBody
    (reads_followed (reads_u8_in bytes 1 2 (omega arith)) (λ version within. reads_followed (reads_u32 bytes) (λ issuer _. reads_followed (reads_optional_term bytes 64) (λ quoted _. reads_followed (reads_term seen_as 64 bytes)
    (λ left _. reads_followed (reads_right (key_quoting issuer quoted) left bytes) (λ _ _. reads_followed (reads_from version within bytes) (λ _ _. reads_followed (reads_u64 bytes) (λ _ _. reads_u64 bytes))))))))
    (λ x is. (whole_fits x is, in_parts x.0 (whole x) is.1.1.1.1.1.0.1))
    (λ c is. (parts_fit c is, of_parts c, refl))

-- what is read stands there, and within the limits
pub body_takes : (bytes : List ℕ) (at : ℕ) (x : Certificate × ℕ) → at ≤ length bytes → IsBytes bytes → body_at bytes at ≡ Ok x → TakesAt bytes at (body_spelling x.0) x.1 × HasBodySpelling x.0 × IsWithinLimits x.0
body_takes bytes at x le fits e = let t = (reads_body bytes).takes fits at x le e in (t.0, t.1.numbers, t.1.limits)

pub body_again : (bytes rest : List ℕ) (at : ℕ) (c : Certificate) → at ≤ length bytes → HasBodySpelling c → IsWithinLimits c → drop at bytes ≡ body_spelling c ++ rest → body_at bytes at ≡ Ok (c, at + length (body_spelling c))
body_again bytes rest at c le has limits e = (reads_body bytes).again at c rest (record { numbers = has; limits = limits }) e

pub found_at : (bytes : List ℕ) (at : ℕ) (x : Certificate × ℕ) → at ≤ length bytes → IsBytes bytes → body_at bytes at ≡ Ok x → IsBodyAt bytes at x.0 × (x.1 ≡ at + length (body_spelling x.0))
found_at bytes at x le fits e =
    let t = body_takes bytes at x le fits e in
    (record { text = (drop x.1 bytes, t.0.parts); numbers = t.1; limits = t.2 }, t.0.end_is)

pub again_at : (bytes : List ℕ) (at : ℕ) (c : Certificate) → at ≤ length bytes → IsBodyAt bytes at c → body_at bytes at ≡ Ok (c, at + length (body_spelling c))
again_at bytes at c le is = body_again bytes is.text.0 at c le is.numbers is.limits is.text.1

-- the bytes between the two offsets are the spelling
pub text_between : (bytes : List ℕ) (at end : ℕ) (c : Certificate) → IsBodyAt bytes at c → end ≡ at + length (body_spelling c) → take (end - at) (drop at bytes) ≡ body_spelling c
text_between bytes at end c is e = ap (λ (l : List ℕ). take (end - at) l) is.text.1 ∙ take_at (body_spelling c) is.text.0 (end - at) (omega (arith, e))

-- what reading gives, from both sides
pub read_is : (bytes : List ℕ) (at end : ℕ) (c : Certificate) → at ≤ length bytes → IsBytes bytes → (body_at bytes at ≡ Ok (c, end)) ↔ (IsBodyAt bytes at c × (end ≡ at + length (body_spelling c)))
read_is bytes at end c le fits = (λ e. found_at bytes at (c, end) le fits e, λ is. again_at bytes at c le is.0 ∙ ap (λ (k : ℕ). Ok (c, k)) (sym is.1))
