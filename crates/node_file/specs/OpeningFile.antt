-- What a node file means, in either form.
use Rattle.std.specs.Prelude.{◌≡◌, ◌⊎◌, ℕ, Bool, false, ◌==◌, nat_lt, if◌then◌else◌}
use Rattle.std.specs.Prelude.{List, [], ◌∷◌, length, Result, Ok, Err}
use Rattle.byte_fields.specs.Steps.{with_fault}
use Rattle.prin_text.specs.declared.lines.fault.FileCause.TheVariants.{Limit}
use Rattle.prin_text.specs.declared.lines.fault.FileFault.{FileFault}
use Rattle.prin_text.specs.declared.lines.fault.FileFault.TheVariants.{Line}
use Rattle.node_file.specs.declared.limits.TheConstants.{MAX_FILE}
use Rattle.node_file.specs.NodeFile.{text_in}
use Rattle.node_file.specs.Opening.{Opening, Spells}
use Rattle.node_file.specs.OpeningReading.{at_byte, opening_of}

-- the file is in the binary form: its first byte is 0
abbrev pub is_binary : List ℕ → Bool
is_binary [] = false
is_binary (b ∷ rest) = b == 0

-- the opening that a file means, or its fault: one that is too long is refused at no line
unfoldable pub opening_in : List ℕ → Result Opening FileFault
opening_in bytes =
    if nat_lt MAX_FILE (length bytes) then Err (Line 0 Limit)
    else (if is_binary bytes then with_fault at_byte (opening_of bytes) else text_in bytes)

-- the bytes mean the opening: they are its binary spelling, or a text that says it
abbrev pub Means : Opening → List ℕ → Type 0
Means o bytes = Spells o bytes ⊎ ((is_binary bytes ≡ false) × (text_in bytes ≡ Ok o))
