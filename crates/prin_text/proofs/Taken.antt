-- What a line does for a part, done for the whole.
use Rattle.std.proofs.Common.{◌≡◌, Option, None, Some, Result, Ok, Err, refl, ap}
use Rattle.byte_fields.specs.Steps.{with_value}
use Rattle.prin_text.specs.declared.lines.fault.FileCause.{FileCause}
use Rattle.prin_text.specs.declared.lines.line_fault.LineFault.{LineFault}
use Rattle.prin_text.specs.declared.lines.line_fault.LineFault.TheVariants as lines
use Rattle.prin_text.specs.FileLines.{unless}
use Rattle.prin_text.specs.LineView.{TakesLine}

-- what stands for a part stands for the whole
pub lifted : {X Y A B : Type 0} (P : X → A → Type 0) (Q : Y → B → Type 0) (f : A → B) (r : Result Unit LineFault) (x : X) (y : Y) (want : Result A FileCause)
    → TakesLine P r x want → ((a : A) → P x a → Q y (f a)) → TakesLine Q r y (with_value f want)
lifted P Q f (Ok u) x y want (more, is, stands) whole = (f more, ap (with_value f) is, whole more stands)
lifted P Q f (Err lines.NoMemory) x y want takes whole = tt
lifted P Q f (Err (lines.Refused cause)) x y want takes whole = ap (with_value f) takes

pub unless-mapped : {A B : Type 0} (f : A → B) (cause : Option FileCause) (x : A) → with_value f (unless cause x) ≡ unless cause (f x)
unless-mapped f None x = refl
unless-mapped f (Some c) x = refl
