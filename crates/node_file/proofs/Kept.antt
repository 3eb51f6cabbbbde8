-- What each line of a node file keeps holds of all of them.
use Rattle.std.proofs.Common.{◌≡◌, ℕ, ◌+◌, Bool, true, false, cond, List, [], ◌∷◌, length, Option, None, Some, Ok, subst}
use Rattle.std.specs.Prelude.{codes}
use Rattle.byte_fields.specs.Steps.{◌>>=◌, with_fault}
use Rattle.byte_fields.proofs.Results.{bind_ok, chosen_ok, ok_is, with_fault_ok}
use Rattle.prin_text.specs.declared.lines.fault.FileCause.{FileCause}
use Rattle.prin_text.specs.declared.lines.fault.FileCause.TheVariants.{FirstLine}
use Rattle.prin_text.specs.declared.lines.fault.FileFault.{FileFault}
use Rattle.prin_text.specs.declared.lines.fault.FileFault.TheVariants.{Line}
use Rattle.prin_text.specs.FileLines.{LineStep, begun, first_or, is_first_line, lines_make}
use Rattle.prin_text.specs.Lines.{is_skipped, lines_from}
use Rattle.node_file.specs.NodeFile.{Draft, draft_in, no_draft, node_step}

-- the step of any line
abbrev pub any_step : LineStep (Option Draft)
any_step = first_or (is_first_line (codes "taos")) no_draft node_step

module _ (P : Draft → Type 0) (first : P no_draft) (step : (d more : Draft) (line : List ℕ) → P d → node_step d line ≡ Ok more → P more) where
  -- it holds where there is something
  abbrev MaybeKept : Option Draft → Type 0
  MaybeKept None = Unit {0}
  MaybeKept (Some d) = P d

  any_kept : (o p : Option Draft) (line : List ℕ) → MaybeKept o → any_step o line ≡ Ok p → MaybeKept p
  any_kept None p line kept e =
      let c = chosen_ok (is_first_line (codes "taos") line) FirstLine (Some no_draft) p e in
      subst MaybeKept c.1 first
  any_kept (Some d) p line kept e =
      let m = bind_ok (node_step d line) (λ more. Ok (Some more)) p e in
      subst MaybeKept (ok_is FileCause (Some m.0) p m.2) (step d m.0 line kept m.1)

  lines_kept : (number : ℕ) (o p : Option Draft) (lines : List (List ℕ)) → MaybeKept o → lines_make any_step number o lines ≡ Ok p → MaybeKept p
  lines_kept number o p [] kept e = subst MaybeKept (ok_is FileFault o p e) kept
  lines_kept number o p (line ∷ rest) kept e = by (is_skipped line) e (λ q keeps e. lines_kept (number + 1) q p rest keeps e)
    where
      by : (b : Bool) → cond b (lines_make any_step (number + 1) o rest) (with_fault (λ cause. Line number cause) (any_step o line) >>= λ more. lines_make any_step (number + 1) more rest) ≡ Ok p
          → ((q : Option Draft) → MaybeKept q → lines_make any_step (number + 1) q rest ≡ Ok p → MaybeKept p) → MaybeKept p
      by true e later = later o kept e
      by false e later =
          let m = bind_ok (with_fault (λ cause. Line number cause) (any_step o line)) (λ more. lines_make any_step (number + 1) more rest) p e in
          later m.0 (any_kept o m.0 line kept (with_fault_ok (λ cause. Line number cause) (any_step o line) m.0 m.1)) m.2

  pub draft_keeps : (bytes : List ℕ) (d : Draft) → draft_in bytes ≡ Ok d → P d
  unfolding draft_in
  draft_keeps bytes d e =
      let o = bind_ok (lines_make any_step 1 None (lines_from bytes 0)) (begun (length (lines_from bytes 0))) d e in
      by o.0 (lines_kept 1 None o.0 (lines_from bytes 0) tt o.1) o.2
    where
      by : (o : Option Draft) → MaybeKept o → begun (length (lines_from bytes 0)) o ≡ Ok d → P d
      by None kept e = absurd cc
      by (Some x) kept e = subst P (ok_is FileFault x d e) kept
