-- A line that adds to one part alone, by its kind.
use Rattle.std.proofs.Common.{◌≡◌, ℕ, List, Result, sym, subst}
use Rattle.byte_fields.specs.Steps.{with_value}
use Rattle.prin_text.specs.declared.lines.fault.FileCause.{FileCause}
use Rattle.prin_text.specs.declared.lines.line_fault.LineFault.{LineFault}
use Rattle.prin_text.specs.LineView.{TakesLine}
use Rattle.prin_text.proofs.Taken.{lifted}

module _ {Held Meant Kind : Type 0} (Stands : Held → Meant → Type 0) (adds : Meant → Kind → List ℕ → Result Meant FileCause) where
  -- what was done for the part is done for the whole
  pub added : {X A : Type 0} (P : X → A → Type 0) (put : A → Meant) (above : Meant) {kind said : Kind} → kind ≡ said →
      (rest : List ℕ) (r : Result Unit LineFault) (part : X) (new : Held) (want : Result A FileCause) → adds above said rest ≡ with_value put want →
      TakesLine P r part want → ((a : A) → P part a → Stands new (put a)) → TakesLine Stands r new (adds above kind rest)
  added P put above is rest r part new want made takes whole =
      subst (λ (k : Kind). TakesLine Stands r new (adds above k rest)) (sym is)
      (subst (TakesLine Stands r new) (sym made) (lifted P Stands put r part new want takes whole))
