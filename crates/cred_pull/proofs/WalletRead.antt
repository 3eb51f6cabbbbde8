-- A wallet file is what its lines make, unless it is too long.
use Rattle.std.proofs.Common.{◌≡◌, ◌⊎◌, ℕ, ◌<◌, ◌≤◌, List, [], length, Result, Err, refl, sym, subst}
use Rattle.std.specs.Prelude.{codes}
use Rattle.std.proofs.lemmas.Bool.{le-ltb, lt-ltb}
use Rattle.prin_text.specs.declared.lines.fault.FileCause.TheVariants.{Limit}
use Rattle.prin_text.specs.declared.lines.fault.FileFault.{FileFault}
use Rattle.prin_text.specs.declared.lines.fault.FileFault.TheVariants.{Line, NoMemory}
use Rattle.prin_text.specs.declared.lines.limits.TheConstants.{MAX_FILE}
use Rattle.prin_text.specs.FileLines.{file_makes, is_first_line}
use Rattle.prin_text.specs.Lines.{lines_from}
use Rattle.cred_pull.specs.WalletFile.{WalletRow, wallet_in, wallet_step}

-- what the lines make
abbrev pub lines_in : List ℕ → Result (List WalletRow) FileFault
lines_in bytes = file_makes (is_first_line (codes "taos-wallet")) [] wallet_step (lines_from bytes 0)

pub wallet_long : (bytes : List ℕ) → MAX_FILE < length bytes → wallet_in bytes ≡ Err (Line 0 Limit)
unfolding wallet_in
wallet_long bytes long = rw (lt-ltb MAX_FILE (length bytes) long) refl

pub wallet_short : (bytes : List ℕ) → length bytes ≤ MAX_FILE → wallet_in bytes ≡ lines_in bytes
unfolding wallet_in
wallet_short bytes short = rw (le-ltb MAX_FILE (length bytes) short) refl

pub wallet_stops : (bytes : List ℕ) (f : FileFault) → length bytes ≤ MAX_FILE → (f ≡ NoMemory) ⊎ (lines_in bytes ≡ Err f) → (f ≡ NoMemory) ⊎ (wallet_in bytes ≡ Err f)
wallet_stops bytes f short why = subst (λ (r : Result (List WalletRow) FileFault). (f ≡ NoMemory) ⊎ (r ≡ Err f)) (sym (wallet_short bytes short)) why
