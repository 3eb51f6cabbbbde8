-- A path file is what its lines make, unless it is too long.
use Rattle.std.proofs.Common.{◌≡◌, ◌⊎◌, ℕ, ◌<◌, ◌≤◌, List, [], length, Result, Err, refl, sym, subst}
use Rattle.std.specs.Prelude.{codes}
use Rattle.std.proofs.lemmas.Bool.{le-ltb, lt-ltb}
use Rattle.prin_text.specs.declared.lines.fault.FileCause.TheVariants.{Limit}
use Rattle.prin_text.specs.declared.lines.fault.FileFault.{FileFault}
use Rattle.prin_text.specs.declared.lines.fault.FileFault.TheVariants.{Line, NoMemory}
use Rattle.prin_text.specs.declared.lines.limits.TheConstants.{MAX_FILE}
use Rattle.prin_text.specs.FileLines.{file_makes, is_first_line}
use Rattle.prin_text.specs.Lines.{lines_from}
use Rattle.relay_path.specs.Domains.{DomainKnows}
use Rattle.relay_path.specs.PathFile.{path_in, path_step}

-- what the lines make
abbrev pub lines_in : List ℕ → Result (List DomainKnows) FileFault
lines_in bytes = file_makes (is_first_line (codes "taos-path")) [] path_step (lines_from bytes 0)

pub path_long : (bytes : List ℕ) → MAX_FILE < length bytes → path_in bytes ≡ Err (Line 0 Limit)
unfolding path_in
path_long bytes long = rw (lt-ltb MAX_FILE (length bytes) long) refl

pub path_short : (bytes : List ℕ) → length bytes ≤ MAX_FILE → path_in bytes ≡ lines_in bytes
unfolding path_in
path_short bytes short = rw (le-ltb MAX_FILE (length bytes) short) refl

pub path_stops : (bytes : List ℕ) (f : FileFault) → length bytes ≤ MAX_FILE → (f ≡ NoMemory) ⊎ (lines_in bytes ≡ Err f) → (f ≡ NoMemory) ⊎ (path_in bytes ≡ Err f)
path_stops bytes f short why = subst (λ (r : Result (List DomainKnows) FileFault). (f ≡ NoMemory) ⊎ (r ≡ Err f)) (sym (path_short bytes short)) why
