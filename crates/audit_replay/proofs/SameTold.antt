-- Two things that may be told are compared by the program's own test, and are one where it says so.
use Rattle.std.proofs.Common.{◌≡◌, Bool, true, Option, Some, None, refl, ap, ap₂}
use Rattle.std.specs.Option.{option_eq}
use Rattle.std.proofs.lemmas.Bool.Decides.{Decides-and, Decides-eqb}
use Rattle.std.proofs.lemmas.Slice.Eq.{slice_eq-Decides}
use Rattle.agent_core.specs.contracts.told.DropCausePartialEq.TheImpl as cause
use Rattle.agent_core.specs.contracts.told.ToldPartialEq.TheImpl as told
use Rattle.agent_core.specs.declared.told.DropCause.{DropCause}
use Rattle.agent_core.specs.declared.told.Told.{Told}
use Rattle.object_core.specs.contracts.ruling.RulingPartialEq.TheImpl as ruling
use Rattle.object_core.specs.declared.ruling.Ruling.{Ruling}

abbrev is_told : Told → Told → Bool
is_told = (told.eq-value).it

abbrev is_cause : DropCause → DropCause → Bool
is_cause = (cause.eq-value).it

cause_same : (a b : DropCause) → is_cause a b ≡ true → a ≡ b
cause_same (DropCause.NotHeld x) (DropCause.NotHeld y) e = ap DropCause.NotHeld ((slice_eq-Decides Decides-eqb x y (is_cause (DropCause.NotHeld x) (DropCause.NotHeld y)) refl).0 e)
cause_same (DropCause.NotHeld x) (DropCause.Lapsed k l) e = absurd cc
cause_same (DropCause.Lapsed m n) (DropCause.NotHeld y) e = absurd cc
cause_same (DropCause.Lapsed m n) (DropCause.Lapsed k l) e =
    let both = (Decides-and _ _ (Decides-eqb m k) (Decides-eqb n l)).0 e in ap₂ DropCause.Lapsed both.0 both.1

cause_refl : (a : DropCause) → is_cause a a ≡ true
cause_refl (DropCause.NotHeld x) = (slice_eq-Decides Decides-eqb x x (is_cause (DropCause.NotHeld x) (DropCause.NotHeld x)) refl).1 refl
cause_refl (DropCause.Lapsed m n) = (Decides-and _ _ (Decides-eqb m m) (Decides-eqb n n)).1 (refl, refl)

told_same : (a b : Told) → is_told a b ≡ true → a ≡ b
told_same (Told.Replayed m) (Told.Replayed n) e = ap Told.Replayed ((Decides-eqb m n).0 e)
told_same (Told.Replayed m) (Told.Full n) e = absurd cc
told_same (Told.Replayed m) (Told.Hit n) e = absurd cc
told_same (Told.Replayed m) Told.Miss e = absurd cc
told_same (Told.Replayed m) Told.Kept e = absurd cc
told_same (Told.Replayed m) (Told.Dropped n) e = absurd cc
told_same (Told.Replayed m) (Told.Held n) e = absurd cc
told_same (Told.Replayed m) (Told.CommonsFull n) e = absurd cc
told_same (Told.Replayed m) (Told.Removed n) e = absurd cc
told_same (Told.Replayed m) (Told.WithdrawnFull n) e = absurd cc
told_same (Told.Full m) (Told.Replayed n) e = absurd cc
told_same (Told.Full m) (Told.Full n) e = ap Told.Full ((Decides-eqb m n).0 e)
told_same (Told.Full m) (Told.Hit n) e = absurd cc
told_same (Told.Full m) Told.Miss e = absurd cc
told_same (Told.Full m) Told.Kept e = absurd cc
told_same (Told.Full m) (Told.Dropped n) e = absurd cc
told_same (Told.Full m) (Told.Held n) e = absurd cc
told_same (Told.Full m) (Told.CommonsFull n) e = absurd cc
told_same (Told.Full m) (Told.Removed n) e = absurd cc
told_same (Told.Full m) (Told.WithdrawnFull n) e = absurd cc
told_same (Told.Hit m) (Told.Replayed n) e = absurd cc
told_same (Told.Hit m) (Told.Full n) e = absurd cc
told_same (Told.Hit m) (Told.Hit n) e = ap Told.Hit ((Decides-eqb m n).0 e)
told_same (Told.Hit m) Told.Miss e = absurd cc
told_same (Told.Hit m) Told.Kept e = absurd cc
told_same (Told.Hit m) (Told.Dropped n) e = absurd cc
told_same (Told.Hit m) (Told.Held n) e = absurd cc
told_same (Told.Hit m) (Told.CommonsFull n) e = absurd cc
told_same (Told.Hit m) (Told.Removed n) e = absurd cc
told_same (Told.Hit m) (Told.WithdrawnFull n) e = absurd cc
told_same Told.Miss (Told.Replayed n) e = absurd cc
told_same Told.Miss (Told.Full n) e = absurd cc
told_same Told.Miss (Told.Hit n) e = absurd cc
told_same Told.Miss Told.Miss e = refl
told_same Told.Miss Told.Kept e = absurd cc
told_same Told.Miss (Told.Dropped n) e = absurd cc
told_same Told.Miss (Told.Held n) e = absurd cc
told_same Told.Miss (Told.CommonsFull n) e = absurd cc
told_same Told.Miss (Told.Removed n) e = absurd cc
told_same Told.Miss (Told.WithdrawnFull n) e = absurd cc
told_same Told.Kept (Told.Replayed n) e = absurd cc
told_same Told.Kept (Told.Full n) e = absurd cc
told_same Told.Kept (Told.Hit n) e = absurd cc
told_same Told.Kept Told.Miss e = absurd cc
told_same Told.Kept Told.Kept e = refl
told_same Told.Kept (Told.Dropped n) e = absurd cc
told_same Told.Kept (Told.Held n) e = absurd cc
told_same Told.Kept (Told.CommonsFull n) e = absurd cc
told_same Told.Kept (Told.Removed n) e = absurd cc
told_same Told.Kept (Told.WithdrawnFull n) e = absurd cc
told_same (Told.Dropped m) (Told.Replayed n) e = absurd cc
told_same (Told.Dropped m) (Told.Full n) e = absurd cc
told_same (Told.Dropped m) (Told.Hit n) e = absurd cc
told_same (Told.Dropped m) Told.Miss e = absurd cc
told_same (Told.Dropped m) Told.Kept e = absurd cc
told_same (Told.Dropped m) (Told.Dropped n) e = ap Told.Dropped (cause_same m n e)
told_same (Told.Dropped m) (Told.Held n) e = absurd cc
told_same (Told.Dropped m) (Told.CommonsFull n) e = absurd cc
told_same (Told.Dropped m) (Told.Removed n) e = absurd cc
told_same (Told.Dropped m) (Told.WithdrawnFull n) e = absurd cc
told_same (Told.Held m) (Told.Replayed n) e = absurd cc
told_same (Told.Held m) (Told.Full n) e = absurd cc
told_same (Told.Held m) (Told.Hit n) e = absurd cc
told_same (Told.Held m) Told.Miss e = absurd cc
told_same (Told.Held m) Told.Kept e = absurd cc
told_same (Told.Held m) (Told.Dropped n) e = absurd cc
told_same (Told.Held m) (Told.Held n) e = ap Told.Held ((Decides-eqb m n).0 e)
told_same (Told.Held m) (Told.CommonsFull n) e = absurd cc
told_same (Told.Held m) (Told.Removed n) e = absurd cc
told_same (Told.Held m) (Told.WithdrawnFull n) e = absurd cc
told_same (Told.CommonsFull m) (Told.Replayed n) e = absurd cc
told_same (Told.CommonsFull m) (Told.Full n) e = absurd cc
told_same (Told.CommonsFull m) (Told.Hit n) e = absurd cc
told_same (Told.CommonsFull m) Told.Miss e = absurd cc
told_same (Told.CommonsFull m) Told.Kept e = absurd cc
told_same (Told.CommonsFull m) (Told.Dropped n) e = absurd cc
told_same (Told.CommonsFull m) (Told.Held n) e = absurd cc
told_same (Told.CommonsFull m) (Told.CommonsFull n) e = ap Told.CommonsFull ((Decides-eqb m n).0 e)
told_same (Told.CommonsFull m) (Told.Removed n) e = absurd cc
told_same (Told.CommonsFull m) (Told.WithdrawnFull n) e = absurd cc
told_same (Told.Removed m) (Told.Replayed n) e = absurd cc
told_same (Told.Removed m) (Told.Full n) e = absurd cc
told_same (Told.Removed m) (Told.Hit n) e = absurd cc
told_same (Told.Removed m) Told.Miss e = absurd cc
told_same (Told.Removed m) Told.Kept e = absurd cc
told_same (Told.Removed m) (Told.Dropped n) e = absurd cc
told_same (Told.Removed m) (Told.Held n) e = absurd cc
told_same (Told.Removed m) (Told.CommonsFull n) e = absurd cc
told_same (Told.Removed m) (Told.Removed n) e = ap Told.Removed ((Decides-eqb m n).0 e)
told_same (Told.Removed m) (Told.WithdrawnFull n) e = absurd cc
told_same (Told.WithdrawnFull m) (Told.Replayed n) e = absurd cc
told_same (Told.WithdrawnFull m) (Told.Full n) e = absurd cc
told_same (Told.WithdrawnFull m) (Told.Hit n) e = absurd cc
told_same (Told.WithdrawnFull m) Told.Miss e = absurd cc
told_same (Told.WithdrawnFull m) Told.Kept e = absurd cc
told_same (Told.WithdrawnFull m) (Told.Dropped n) e = absurd cc
told_same (Told.WithdrawnFull m) (Told.Held n) e = absurd cc
told_same (Told.WithdrawnFull m) (Told.CommonsFull n) e = absurd cc
told_same (Told.WithdrawnFull m) (Told.Removed n) e = absurd cc
told_same (Told.WithdrawnFull m) (Told.WithdrawnFull n) e = ap Told.WithdrawnFull ((Decides-eqb m n).0 e)

told_refl : (a : Told) → is_told a a ≡ true
told_refl (Told.Replayed m) = (Decides-eqb m m).1 refl
told_refl (Told.Full m) = (Decides-eqb m m).1 refl
told_refl (Told.Hit m) = (Decides-eqb m m).1 refl
told_refl Told.Miss = refl
told_refl Told.Kept = refl
told_refl (Told.Dropped m) = cause_refl m
told_refl (Told.Held m) = (Decides-eqb m m).1 refl
told_refl (Told.CommonsFull m) = (Decides-eqb m m).1 refl
told_refl (Told.Removed m) = (Decides-eqb m m).1 refl
told_refl (Told.WithdrawnFull m) = (Decides-eqb m m).1 refl

pub told_so : (r : Option Told) (t : Told) → option_eq is_told r (Some t) ≡ true → r ≡ Some t
told_so None t e = absurd cc
told_so (Some a) t e = ap (λ (x : Told). Some x) (told_same a t e)

pub so_told : (r : Option Told) (t : Told) → r ≡ Some t → option_eq is_told r (Some t) ≡ true
so_told r t e = rw e (told_refl t)

-- ---- the same of rulings

abbrev is_ruling : Ruling → Ruling → Bool
is_ruling = (ruling.eq-value).it

pub ruling_so : (a b : Ruling) → is_ruling a b ≡ true → a ≡ b
ruling_so (Ruling.Granted m) (Ruling.Granted n) e = ap Ruling.Granted ((Decides-eqb m n).0 e)
ruling_so (Ruling.Granted m) Ruling.Denied e = absurd cc
ruling_so Ruling.Denied (Ruling.Granted n) e = absurd cc
ruling_so Ruling.Denied Ruling.Denied e = refl

ruling_refl : (a : Ruling) → is_ruling a a ≡ true
ruling_refl (Ruling.Granted m) = (Decides-eqb m m).1 refl
ruling_refl Ruling.Denied = refl

pub so_ruling : (a b : Ruling) → a ≡ b → is_ruling a b ≡ true
so_ruling a b e = rw e (ruling_refl b)
