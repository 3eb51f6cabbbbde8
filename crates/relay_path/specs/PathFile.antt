-- What a path file means.
use Rattle.std.specs.Prelude.{ℕ, Bool, ◌&&◌, ◌==◌, not, nat_le, nat_lt, bytes_eq, codes, is_some}
use Rattle.std.specs.Prelude.{if◌then◌else◌, List, [], ◌∷◌, ◌++◌, length, Option, Some, None, Result, Ok, Err}
use Rattle.byte_fields.specs.Steps.{◌>>=◌}
use Rattle.prin_text.specs.declared.lines.fault.FileCause.{FileCause}
use Rattle.prin_text.specs.declared.lines.fault.FileCause.TheVariants.{UnknownWord, UnknownDomain, Twice, Limit}
use Rattle.prin_text.specs.declared.lines.fault.FileFault.{FileFault}
use Rattle.prin_text.specs.declared.lines.fault.FileFault.TheVariants.{Line}
use Rattle.prin_text.specs.declared.lines.limits.TheConstants.{MAX_FILE}
use Rattle.prin_text.specs.Fields.{if_plain, one_number, some_or, two_numbers_and_key}
use Rattle.prin_text.specs.FileLines.{LineStep, file_makes, first_of, first_or, is_first_line, key_cause, unless}
use Rattle.prin_text.specs.Lines.{lines_from, word_off}
use Rattle.relay_path.specs.declared.limits.TheConstants.{MAX_DOMAINS, MAX_ISSUERS, MAX_NODES, MAX_LINKS}
use Rattle.relay_path.specs.declared.path_kind.PathKind.{PathKind}
use Rattle.relay_path.specs.declared.path_kind.PathKind.TheVariants as kinds
use Rattle.relay_path.specs.Domains.{DomainKnows, domain_of}

-- a domain that has no keys yet
abbrev pub new_domain : ℕ → DomainKnows
new_domain number = record { number = number; issuers = []; nodes = []; peers = [] }

-- with the key of one more issuer
abbrev pub with_issuer : ℕ → List ℕ → DomainKnows → DomainKnows
with_issuer issuer key d = record d { issuers = d.issuers ++ (issuer, key) ∷ [] }

-- with the key of one more node
abbrev pub with_node : ℕ → List ℕ → DomainKnows → DomainKnows
with_node node key d = record d { nodes = d.nodes ++ (node, key) ∷ [] }

-- with the key of one more peer
abbrev pub with_peer : ℕ → List ℕ → DomainKnows → DomainKnows
with_peer peer key d = record d { peers = d.peers ++ (peer, key) ∷ [] }

-- the domains, of which the first that has the number is changed
abbrev pub changed : ℕ → (DomainKnows → DomainKnows) → List DomainKnows → List DomainKnows
changed number change [] = []
changed number change (d ∷ ds) =
    if d.number == number then change d ∷ ds else d ∷ changed number change ds

-- ---- what a line adds

-- what a line with this first word is about
unfoldable pub path_kind : List ℕ → Option PathKind
path_kind word =
    if bytes_eq word (codes "domain") then Some kinds.Domain
    else (if bytes_eq word (codes "issuer") then Some kinds.Issuer
    else (if bytes_eq word (codes "node") then Some kinds.Node
    else (if bytes_eq word (codes "link") then Some kinds.Link
    else None)))

-- why there is no other domain of the number
unfoldable pub domain_cause : List DomainKnows → ℕ → Option FileCause
domain_cause above number =
    first_of ((is_some (domain_of above number), Twice)
    ∷ (nat_le MAX_DOMAINS (length above), Limit) ∷ [])

-- these are the numbers of two domains
unfoldable pub are_two : List DomainKnows → ℕ → ℕ → Bool
are_two above a b =
    not (a == b) && (is_some (domain_of above a) && is_some (domain_of above b))

-- one more domain
abbrev pub domain_added : List DomainKnows → List ℕ → Result (List DomainKnows) FileCause
domain_added above rest = do
  number ← one_number 4294967295 rest
  unless (domain_cause above number) (above ++ new_domain number ∷ [])

-- one more issuer of a domain above
abbrev pub issuer_added : List DomainKnows → List ℕ → Result (List DomainKnows) FileCause
issuer_added above rest = do
  x ← two_numbers_and_key rest
  d ← some_or UnknownDomain (domain_of above x.0)
  unless (key_cause MAX_ISSUERS d.issuers x.1) (changed x.0 (with_issuer x.1 x.2) above)

-- one more node of a domain above
abbrev pub node_added : List DomainKnows → List ℕ → Result (List DomainKnows) FileCause
node_added above rest = do
  x ← two_numbers_and_key rest
  d ← some_or UnknownDomain (domain_of above x.0)
  unless (key_cause MAX_NODES d.nodes x.1) (changed x.0 (with_node x.1 x.2) above)

-- one more peer of a domain above
abbrev pub peer_added : List DomainKnows → ℕ → ℕ → List ℕ → Result (List DomainKnows) FileCause
peer_added above number peer key = do
  d ← some_or UnknownDomain (domain_of above number)
  unless (key_cause MAX_LINKS d.peers peer) (changed number (with_peer peer key) above)

-- one key for two domains above, which each has for the other
abbrev pub link_added : List DomainKnows → List ℕ → Result (List DomainKnows) FileCause
link_added above rest = do
  x ← two_numbers_and_key rest
  if are_two above x.0 x.1
      then (peer_added above x.1 x.0 x.2 >>= λ more. peer_added more x.0 x.1 x.2)
      else Err UnknownDomain

-- what a line about this adds
abbrev pub path_adds : List DomainKnows → PathKind → List ℕ → Result (List DomainKnows) FileCause
path_adds above kinds.Domain rest = domain_added above rest
path_adds above kinds.Issuer rest = issuer_added above rest
path_adds above kinds.Node rest = node_added above rest
path_adds above kinds.Link rest = link_added above rest

-- what a line adds
unfoldable pub path_step : LineStep (List DomainKnows)
path_step above line =
    let w = word_off line in
    some_or UnknownWord (path_kind w.0) >>= λ kind. if_plain line (path_adds above kind w.1)

-- the same where the first line says what file it is, and adds nothing
abbrev pub any_path_step : LineStep (Option (List DomainKnows))
any_path_step = first_or (is_first_line (codes "taos-path")) [] path_step

-- what a path file means, or why it is refused: one that is too long is refused at no line
unfoldable pub path_in : List ℕ → Result (List DomainKnows) FileFault
path_in bytes =
    if nat_lt MAX_FILE (length bytes) then Err (Line 0 Limit)
    else file_makes (is_first_line (codes "taos-path")) [] path_step (lines_from bytes 0)
