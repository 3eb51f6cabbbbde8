-- What a relay file means.
use Rattle.std.specs.Prelude.{ℕ, nat_lt, bytes_eq, codes, if◌then◌else◌}
use Rattle.std.specs.Prelude.{List, [], length, Option, Some, None, Result, Ok, Err}
use Rattle.keyed_seal.specs.Keys.{Entries}
use Rattle.byte_fields.specs.Steps.{◌>>=◌, with_value}
use Rattle.prin_text.specs.Labels.{Rows}
use Rattle.prin_text.specs.declared.limits.TheConstants.{MAX_NAMES, MAX_ROLES}
use Rattle.prin_text.specs.declared.lines.fault.FileCause.{FileCause}
use Rattle.prin_text.specs.declared.lines.fault.FileCause.TheVariants.{UnknownWord, Limit}
use Rattle.prin_text.specs.declared.lines.fault.FileFault.{FileFault}
use Rattle.prin_text.specs.declared.lines.fault.FileFault.TheVariants.{Line}
use Rattle.node_file.specs.declared.limits.TheConstants.{MAX_FILE, MAX_ISSUERS, MAX_NODES}
use Rattle.node_file.specs.declared.relay_kind.RelayKind.{RelayKind}
use Rattle.node_file.specs.declared.relay_kind.RelayKind.TheVariants as kinds
use Rattle.prin_text.specs.Fields.{if_plain, some_or}
use Rattle.prin_text.specs.FileLines.{LineStep, file_makes, first_or, is_first_line}
use Rattle.prin_text.specs.FileLines.{keys_with, texts_with}
use Rattle.prin_text.specs.Lines.{lines_from, word_off}

-- what a relay knows: the keys of issuers and of nodes, and the texts of names and of roles
pub record RelayFile : Type 0 where
  pub issuers : Entries
  pub nodes : Entries
  pub names : Rows
  pub roles : Rows

-- nothing is known
abbrev pub no_relay : RelayFile
no_relay = record { issuers = []; nodes = []; names = []; roles = [] }

-- what a line with this first word is about
unfoldable pub relay_kind : List ℕ → Option RelayKind
relay_kind word =
    if bytes_eq word (codes "name") then Some kinds.Name
    else (if bytes_eq word (codes "role") then Some kinds.Role
    else (if bytes_eq word (codes "issuer") then Some kinds.Issuer
    else (if bytes_eq word (codes "node") then Some kinds.Node
    else None)))

-- with other texts of names
abbrev pub names_in : RelayFile → Rows → RelayFile
names_in above rows = record above { names = rows }

-- with other texts of roles
abbrev pub roles_in : RelayFile → Rows → RelayFile
roles_in above rows = record above { roles = rows }

-- with other keys of issuers
abbrev pub issuers_in : RelayFile → Entries → RelayFile
issuers_in above keys = record above { issuers = keys }

-- with other keys of nodes
abbrev pub nodes_in : RelayFile → Entries → RelayFile
nodes_in above keys = record above { nodes = keys }

-- what a line about this adds
abbrev pub relay_adds : RelayFile → RelayKind → List ℕ → Result RelayFile FileCause
relay_adds above kinds.Name rest =
    with_value (names_in above) (texts_with MAX_NAMES above.names rest)
relay_adds above kinds.Role rest =
    with_value (roles_in above) (texts_with MAX_ROLES above.roles rest)
relay_adds above kinds.Issuer rest =
    with_value (issuers_in above) (keys_with MAX_ISSUERS above.issuers rest)
relay_adds above kinds.Node rest =
    with_value (nodes_in above) (keys_with MAX_NODES above.nodes rest)

-- what a line adds
unfoldable pub relay_step : LineStep RelayFile
relay_step above line =
    let w = word_off line in
    some_or UnknownWord (relay_kind w.0) >>= λ kind. if_plain line (relay_adds above kind w.1)

-- the same where the first line says what file it is, and adds nothing
abbrev pub any_relay_step : LineStep (Option RelayFile)
any_relay_step = first_or (is_first_line (codes "taos-relay")) no_relay relay_step

-- what a relay file means, or why it is refused: one that is too long is refused at no line
unfoldable pub relay_in : List ℕ → Result RelayFile FileFault
relay_in bytes =
    if nat_lt MAX_FILE (length bytes) then Err (Line 0 Limit)
    else file_makes (is_first_line (codes "taos-relay")) no_relay relay_step (lines_from bytes 0)
