-- A relay file is what its lines make, unless it is too long.
use Rattle.std.proofs.Common.{◌≡◌, ◌⊎◌, ℕ, ◌<◌, ◌≤◌, List, length, Result, Err, refl, sym, subst}
use Rattle.std.specs.Prelude.{codes}
use Rattle.std.proofs.lemmas.Bool.{le-ltb, lt-ltb}
use Rattle.prin_text.specs.declared.lines.fault.FileCause.TheVariants.{Limit}
use Rattle.prin_text.specs.declared.lines.fault.FileFault.{FileFault}
use Rattle.prin_text.specs.declared.lines.fault.FileFault.TheVariants.{Line, NoMemory}
use Rattle.node_file.specs.declared.limits.TheConstants.{MAX_FILE}
use Rattle.prin_text.specs.FileLines.{file_makes, is_first_line}
use Rattle.prin_text.specs.Lines.{lines_from}
use Rattle.node_file.specs.RelayFile.{RelayFile, no_relay, relay_in, relay_step}

pub relay_long : (bytes : List ℕ) → MAX_FILE < length bytes → relay_in bytes ≡ Err (Line 0 Limit)
unfolding relay_in
relay_long bytes long = rw (lt-ltb MAX_FILE (length bytes) long) refl

pub relay_short : (bytes : List ℕ) → length bytes ≤ MAX_FILE → relay_in bytes ≡ file_makes (is_first_line (codes "taos-relay")) no_relay relay_step (lines_from bytes 0)
unfolding relay_in
relay_short bytes short = rw (le-ltb MAX_FILE (length bytes) short) refl

pub relay_stops : (bytes : List ℕ) (f : FileFault) → length bytes ≤ MAX_FILE
    → (f ≡ NoMemory) ⊎ (file_makes (is_first_line (codes "taos-relay")) no_relay relay_step (lines_from bytes 0) ≡ Err f) → (f ≡ NoMemory) ⊎ (relay_in bytes ≡ Err f)
relay_stops bytes f short why = subst (λ (r : Result RelayFile FileFault). (f ≡ NoMemory) ⊎ (r ≡ Err f)) (sym (relay_short bytes short)) why
