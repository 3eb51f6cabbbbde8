-- What a whole file makes, from its lines.
use Rattle.std.proofs.Common.{◌≡◌, ◌⊎◌, ℕ, ◌+◌, ◌≤◌, Bool, false, List, [], ◌∷◌, length, Option, None, Some, Result, Ok, Err, refl, sym, ap, ◌∙◌, arith, inl, inr}
use Rattle.std.proofs.lemmas.List.{at_drop_all}
use Rattle.byte_fields.specs.Steps.{◌>>=◌}
use Rattle.prin_text.specs.declared.lines.fault.FileCause.{FileCause}
use Rattle.prin_text.specs.declared.lines.fault.FileCause.TheVariants.{FirstLine}
use Rattle.prin_text.specs.declared.lines.fault.FileFault.{FileFault}
use Rattle.prin_text.specs.declared.lines.fault.FileFault.TheVariants.{Line, NoMemory}
use Rattle.prin_text.specs.declared.lines.line_fault.LineFault.{LineFault}
use Rattle.prin_text.specs.declared.lines.line_fault.LineFault.TheVariants as lines
use Rattle.prin_text.specs.FileLines.{LineStep, begun, file_makes, first_or, lines_make}
use Rattle.prin_text.specs.Lines.{is_skipped, lines_after, lines_from}
use Rattle.prin_text.specs.LineView.{TakesLine, fault_at}
use Rattle.prin_text.proofs.Begun.{stops_at}

pub no_lines : (bytes : List ℕ) (at : ℕ) → length bytes ≤ at → lines_from bytes at ≡ []
unfolding lines_from
no_lines bytes at le = at_drop_all (λ l. lines_after [] l) bytes at le

module _ {A : Type 0} (is_first : List ℕ → Bool) (nothing : A) (make : LineStep A) (bytes : List ℕ) where
  -- what any line adds, the first too
  abbrev pub any_step : Option A → List ℕ → Result (Option A) FileCause
  any_step = first_or is_first nothing make

  -- what the lines behind an offset make
  abbrev pub made_from : ℕ → Option A → ℕ → Result (Option A) FileFault
  made_from number so_far at = lines_make any_step number so_far (lines_from bytes at)

  -- what all lines make
  abbrev pub all_make : Result A FileFault
  all_make = file_makes is_first nothing make (lines_from bytes 0)

  module _ (number at : ℕ) (so_far : Option A) (same : made_from (number + 1) so_far at ≡ made_from 1 None 0) where
    -- the first line that is refused
    stops : (line : List ℕ) (later : List (List ℕ)) (cause : FileCause) → lines_from bytes at ≡ line ∷ later → is_skipped line ≡ false → any_step so_far line ≡ Err cause → all_make ≡ Err (Line (number + 1) cause)
    stops line later cause is skipped refused =
        ap (λ (r : Result (Option A) FileFault). r >>= begun (length (lines_from bytes 0)))
        (sym same ∙ ap (lines_make any_step (number + 1) so_far) is ∙ stops_at any_step (number + 1) so_far line later cause skipped refused)

    pub stops_with : {X : Type 0} (P : X → Option A → Type 0) (new : X) (line : List ℕ) (later : List (List ℕ)) (fault : LineFault) → lines_from bytes at ≡ line ∷ later → is_skipped line ≡ false → TakesLine P (Err fault) new (any_step so_far line)
        → (fault_at (number + 1) fault ≡ NoMemory) ⊎ (all_make ≡ Err (fault_at (number + 1) fault))
    stops_with P new line later lines.NoMemory is skipped takes = inl refl
    stops_with P new line later (lines.Refused cause) is skipped takes = inr (stops line later cause is skipped takes)

    -- all lines are taken
    all_taken : length bytes ≤ at → made_from 1 None 0 ≡ Ok so_far
    all_taken le = sym same ∙ ap (lines_make any_step (number + 1) so_far) (no_lines bytes at le)

    pub all_done : (made : A) → length bytes ≤ at → so_far ≡ Some made → all_make ≡ Ok made
    all_done made le is =
        ap (λ (r : Result (Option A) FileFault). r >>= begun (length (lines_from bytes 0))) (all_taken le ∙ ap (λ (o : Option A). Ok o) is)

    -- how many lines there are
    pub line_count : length bytes ≤ at → number + length (lines_from bytes at) ≡ length (lines_from bytes 0) → number ≡ length (lines_from bytes 0)
    line_count le count = omega (arith, count, ap (λ (l : List (List ℕ)). length l) (no_lines bytes at le))

    pub never_begun : length bytes ≤ at → so_far ≡ None → number + length (lines_from bytes at) ≡ length (lines_from bytes 0) → all_make ≡ Err (Line (number + 1) FirstLine)
    never_begun le is count =
        ap (λ (r : Result (Option A) FileFault). r >>= begun (length (lines_from bytes 0))) (all_taken le ∙ ap (λ (o : Option A). Ok o) is)
        ∙ ap (λ (n : ℕ). Err (Line (n + 1) FirstLine)) (sym (line_count le count))
