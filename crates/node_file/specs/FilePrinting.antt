-- The text of an opening: lines of words with one blank between them.
use Rattle.std.specs.Prelude.{◌≡◌, ℕ, codes, map, List, [], ◌∷◌, ◌++◌, Ok}
use Rattle.std.specs.Fmt.{decimal}
use Rattle.std.specs.List.{flat_map}
use Rattle.hex.specs.Hex.{encode_lower}
use Rattle.object_core.specs.Objects.{ObjectPlan}
use Rattle.prin_term.specs.declared.term.Anchor.{Anchor}
use Rattle.prin_term.specs.View.{Grant}
use Rattle.prin_text.specs.Labels.{Labels, Rows, text_of}
use Rattle.prin_text.specs.Printing.{entry_text, named}
use Rattle.sealed_cert.specs.declared.kind.TheConstants.{RELAYED}
use Rattle.sealed_cert.specs.Seals.{sealed}
use Rattle.stmt_codec.specs.Certificates.{Certificate}
use Rattle.node_file.specs.declared.opening.Opening as code
use Rattle.node_file.specs.Meaning.{opening}
use Rattle.node_file.specs.Opening.{Opening}
use Rattle.node_file.specs.OpeningFile.{Means, opening_in}
use Rattle.node_file.specs.OpeningView.{Represents}

-- a line of a word and a number
abbrev pub number_line : List ℕ → ℕ → List ℕ
number_line word n = word ++ 32 ∷ decimal n

-- a line of a word, a number and a text
abbrev pub numbered_line : List ℕ → ℕ → List ℕ → List ℕ
numbered_line word n text = word ++ (32 ∷ decimal n ++ 32 ∷ text)

-- the line of a number with its text
abbrev pub text_line : List ℕ → ℕ × List ℕ → List ℕ
text_line word row = numbered_line word row.0 row.1

-- the line of a number with its bytes
abbrev pub bytes_line : List ℕ → ℕ × List ℕ → List ℕ
bytes_line word x = numbered_line word x.0 (encode_lower x.1)

-- the line of an anchor: its name by its text, or by its number where it has none
abbrev pub anchor_line : Rows → Anchor → List ℕ
anchor_line names a =
    numbered_line (codes "anchor") a.key (named (text_of names a.name) (codes "name:") a.name)

-- the line of a certificate held in common
abbrev pub common_line : List ℕ → Certificate → List ℕ
common_line relay_key c = codes "common " ++ encode_lower (sealed RELAYED relay_key c)

-- the line of a content, where there is one
abbrev pub content_lines : ℕ → List ℕ → List (List ℕ)
content_lines n [] = []
content_lines n (b ∷ rest) = bytes_line (codes "content") (n, b ∷ rest) ∷ []

-- the line of an entry
abbrev pub allow_line : Labels → ℕ → Grant → List ℕ
allow_line labels n g = numbered_line (codes "allow") n (entry_text labels g)

-- the lines of an object
abbrev pub object_lines : Labels → ObjectPlan → List (List ℕ)
object_lines labels p =
    number_line (codes "object") p.number ∷ content_lines p.number p.content
    ++ map (allow_line labels p.number) p.list

-- the lines of the settings
abbrev pub settings_lines : Opening → List (List ℕ)
settings_lines o =
    bytes_line (codes "node") (o.node, o.relay_key) ∷ number_line (codes "shards") o.shards
    ∷ number_line (codes "keep") o.keep ∷ number_line (codes "journal") o.limit ∷ []

-- all lines
abbrev pub opening_lines : Opening → List (List ℕ)
opening_lines o =
    (codes "taos 1" ∷ settings_lines o)
    ++ map (text_line (codes "name")) o.names.names
    ++ map (text_line (codes "role")) o.names.roles
    ++ map (bytes_line (codes "channel")) o.channels
    ++ map (anchor_line o.names.names) o.anchors
    ++ map (common_line o.relay_key) o.commons
    ++ flat_map (object_lines o.names) o.objects

-- the line with its end
abbrev pub ended : List ℕ → List ℕ
ended line = line ++ 10 ∷ []

-- lines, each with its end
abbrev pub text_of_lines : List (List ℕ) → List ℕ
text_of_lines lines = flat_map ended lines

-- the text of an opening
abbrev pub opening_text : Opening → List ℕ
opening_text o = text_of_lines (opening_lines o)

-- where the program's opening stands for what a file means, its text means the same opening
abbrev pub IsReadAgain : code.Opening → Type 0
IsReadAgain node =
    (o : Opening) (bytes : List ℕ) → Means o bytes → Represents node o
    → opening_in (opening_text (opening node)) ≡ Ok (opening node)
