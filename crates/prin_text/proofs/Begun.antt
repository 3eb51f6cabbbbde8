-- The first line of a file, and those behind it.
use Rattle.std.proofs.Common.{◌≡◌, ℕ, ◌+◌, Bool, true, false, cond, List, ◌∷◌, Option, None, Some, Result, Ok, Err, refl, sym, ap, subst, ◌∙◌}
use Rattle.std.proofs.lemmas.Bool.{false≢true}
use Rattle.byte_fields.specs.Steps.{◌>>=◌, with_value}
use Rattle.prin_text.specs.declared.lines.fault.FileCause.{FileCause}
use Rattle.prin_text.specs.declared.lines.fault.FileCause.TheVariants.{FirstLine}
use Rattle.prin_text.specs.declared.lines.fault.FileFault.TheVariants.{Line}
use Rattle.prin_text.specs.declared.lines.line_fault.LineFault.{LineFault}
use Rattle.prin_text.specs.FileLines.{LineStep, first_or, lines_make}
use Rattle.prin_text.specs.Lines.{is_skipped}
use Rattle.prin_text.specs.LineView.{SoFar, TakesLine}
use Rattle.prin_text.proofs.Taken.{lifted}

step_mapped : {A B E : Type 0} (f : A → B) (r : Result A E) → (r >>= λ x. Ok (f x)) ≡ with_value f r
step_mapped f (Ok x) = refl
step_mapped f (Err e) = refl

module _ {X A : Type 0} (Stands : X → A → Type 0) (nothing : A) (make : LineStep A) (is_first : List ℕ → Bool) (there : Bool) (old new : X) (so_far : Option A) (line : List ℕ) (s : SoFar Stands nothing there old so_far) where
  abbrev step : Option A → List ℕ → Result (Option A) FileCause
  step = first_or is_first nothing make

  pub begun_taken : (r : Result Unit LineFault) → there ≡ true → ((above : A) → Stands old above → TakesLine Stands r new (make above line)) → TakesLine (SoFar Stands nothing true) r new (step so_far line)
  begun_taken r is takes =
      let all : so_far ≡ Some s.made = s.is ∙ ap (λ (b : Bool). cond b (Some s.made) None) is in
      let some : A → Option A = λ x. Some x in
      subst (λ (o : Option A). TakesLine (SoFar Stands nothing true) r new (step o line)) (sym all)
      (subst (λ (w : Result (Option A) FileCause). TakesLine (SoFar Stands nothing true) r new w) (sym (step_mapped some (make s.made line)))
      (lifted Stands (SoFar Stands nothing true) some r new new (make s.made line) (takes s.made s.stands) (λ more stands. record { made = more; stands = stands; is = refl; empty = λ e. absurd (false≢true (sym e)) })))

  none_yet : there ≡ false → so_far ≡ None
  none_yet is = s.is ∙ ap (λ (b : Bool). cond b (Some s.made) None) is

  pub first_taken : there ≡ false → is_first line ≡ true → TakesLine (SoFar Stands nothing true) (Ok tt) old (step so_far line)
  first_taken is first = (
    Some nothing,
    ap (λ (o : Option A). step o line) (none_yet is) ∙ ap (λ (b : Bool). cond b (Ok (Some nothing)) (Err FirstLine)) first,
    record { made = nothing; stands = subst (Stands old) (s.empty is) s.stands; is = refl; empty = λ e. absurd (false≢true (sym e)) },
  )

  pub no_first : there ≡ false → is_first line ≡ false → step so_far line ≡ Err FirstLine
  no_first is no_line = ap (λ (o : Option A). step o line) (none_yet is) ∙ ap (λ (b : Bool). cond b (Ok (Some nothing)) (Err FirstLine)) no_line

-- ---- one line more

pub skips : {A : Type 0} (step : LineStep A) (number : ℕ) (above : A) (line : List ℕ) (rest : List (List ℕ)) → is_skipped line ≡ true → lines_make step number above (line ∷ rest) ≡ lines_make step (number + 1) above rest
skips step number above line rest is = rw is refl

pub takes_on : {A : Type 0} (step : LineStep A) (number : ℕ) (above more : A) (line : List ℕ) (rest : List (List ℕ)) → is_skipped line ≡ false → step above line ≡ Ok more → lines_make step number above (line ∷ rest) ≡ lines_make step (number + 1) more rest
takes_on step number above more line rest is taken = rw (is, taken) refl

pub stops_at : {A : Type 0} (step : LineStep A) (number : ℕ) (above : A) (line : List ℕ) (rest : List (List ℕ)) (cause : FileCause) → is_skipped line ≡ false → step above line ≡ Err cause → lines_make step number above (line ∷ rest) ≡ Err (Line number cause)
stops_at step number above line rest cause is taken = rw (is, taken) refl
