-- A body whose spelling stands there.
use Rattle.std.proofs.Common.{◌≡◌, ℕ, ◌+◌, ◌≤◌, List, ◌++◌, length, take, drop, Ok, sym, ap, ◌∙◌, arith}
use Rattle.std.proofs.lemmas.List.{take_at}
use Rattle.byte_fields.specs.Steps.{bytes_at}
use Rattle.byte_fields.proofs.FieldLaws.{IsBytes, TakesAt, bytes_takes}
use Rattle.stmt_codec.specs.Certificates.{Certificate, FitsBody, body_spelling}
use Rattle.byte_fields.specs.Formats.{ended}
use Rattle.stmt_codec.specs.Lists.{body_filling}
use Rattle.stmt_codec.proofs.Fillings.{reads_filling}

module _ (bytes : List ℕ) (at n : ℕ) (le : at ≤ length bytes) (text : List ℕ × ℕ) (there : bytes_at (ended bytes) n bytes at ≡ Ok text) where
  here : TakesAt bytes at text.0 text.1 × (length text.0 ≡ n)
  here = bytes_takes (ended bytes) n bytes at text there

  -- it is read
  pub body_known : (c : Certificate) → text.0 ≡ body_spelling c → FitsBody c → body_filling bytes n at ≡ Ok (c, text.1)
  body_known c is fits =
      let parts : drop at bytes ≡ body_spelling c ++ drop text.1 bytes = here.0.parts ∙ ap (λ (l : List ℕ). l ++ drop text.1 bytes) is in
      let end : at + length (body_spelling c) ≡ text.1 = omega (arith, here.0.end_is, ap (λ (l : List ℕ). length l) is) in
      (reads_filling bytes n).again at c (drop text.1 bytes) (fits, ap (λ (l : List ℕ). length l) (sym is) ∙ here.1) parts ∙ ap (λ (k : ℕ). Ok (c, k)) end

  -- what is read is spelled so
  pub body_spells : IsBytes bytes → (c : Certificate) (end : ℕ) → body_filling bytes n at ≡ Ok (c, end) → text.0 ≡ body_spelling c
  body_spells ok c end read =
      let t = (reads_filling bytes n).takes ok at (c, end) le read in
      sym (take_at text.0 (drop text.1 bytes) n here.1) ∙ ap (take n) (sym here.0.parts) ∙ ap (take n) t.0.parts ∙ take_at (body_spelling c) (drop end bytes) n t.1.1
