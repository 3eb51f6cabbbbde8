-- What the lines of a node file say, each beside what stands above it.
use Rattle.std.specs.Prelude.{ℕ, ◌++◌, Bool, not, nat_le, nat_lt, ◌==◌, bytes_eq, codes, drop}
use Rattle.std.specs.Prelude.{if◌then◌else◌, is_some, map}
use Rattle.std.specs.Prelude.{List, [], ◌∷◌, length, Option, Some, None, Result, Ok, Err}
use Rattle.object_core.specs.Objects.{ObjectPlan, object_of}
use Rattle.object_core.specs.declared.limits.TheConstants.{MAX_CONTENT, MAX_ENTRIES}
use Rattle.prin_term.specs.declared.limits.TheConstants.{ENTRY_NODES}
use Rattle.prin_term.specs.declared.term.Anchor.{Anchor}
use Rattle.byte_fields.specs.Formats.{is_within}
use Rattle.prin_term.specs.Principal as terms
use Rattle.prin_term.specs.Principal.{node_count}
use Rattle.byte_fields.specs.Readers.{is_new}
use Rattle.byte_fields.specs.Steps.{◌>>=◌, with_fault}
use Rattle.prin_term.specs.View.{Grant}
use Rattle.prin_text.specs.Labels.{Labels, Rows, number_of}
use Rattle.prin_text.specs.Reading.{principal_in}
use Rattle.prin_text.specs.Words.{begins}
use Rattle.prin_text.specs.declared.fault.TextCause.{TextCause}
use Rattle.prin_text.specs.declared.fault.TextCause.TheVariants as texts
use Rattle.prin_text.specs.declared.fault.TextFault.{TextFault}
use Rattle.prin_text.specs.declared.fault.TextFault.TheVariants as faults
use Rattle.sealed_cert.specs.Refusals.{opened}
use Rattle.stmt_codec.specs.Certificates as certs
use Rattle.stmt_codec.specs.Equality.{same_certificate}
use Rattle.prin_text.specs.declared.lines.fault.FileCause.{FileCause}
use Rattle.prin_text.specs.declared.lines.fault.FileCause.TheVariants as causes
use Rattle.prin_text.specs.declared.lines.fault.FileCause.TheVariants.{NodeFirst, UnknownObject}
use Rattle.prin_text.specs.declared.lines.fault.FileCause.TheVariants.{UnknownName, Twice, Limit}
use Rattle.node_file.specs.declared.limits.TheConstants.{MAX_SHARDS, MAX_KEEP, MAX_LIMIT}
use Rattle.node_file.specs.declared.limits.TheConstants.{MAX_ANCHORS, MAX_COMMONS, MAX_OBJECTS}
use Rattle.node_file.specs.declared.node_text.kind.LineKind.{LineKind}
use Rattle.node_file.specs.declared.node_text.kind.LineKind.TheVariants as kinds
use Rattle.node_file.specs.declared.node_text.kind.Setting.{Setting}
use Rattle.node_file.specs.declared.node_text.kind.Setting.TheVariants as settings
use Rattle.node_file.specs.declared.node_text.settings.Settings.{Settings}
use Rattle.prin_text.specs.Fields.{digits, granted, keyed, numbered, numbered_digits}
use Rattle.prin_text.specs.Fields.{number_up_to, one_number, some_or}
use Rattle.prin_text.specs.FileLines.{first_of, unless}
use Rattle.node_file.specs.OpeningReading.{same_anchor}

-- what a line with this first word is about
unfoldable pub kind_of : List ℕ → Option LineKind
kind_of word =
    if bytes_eq word (codes "node") then Some (kinds.Setting settings.Node)
    else (if bytes_eq word (codes "shards") then Some (kinds.Setting settings.Shards)
    else (if bytes_eq word (codes "keep") then Some (kinds.Setting settings.Keep)
    else (if bytes_eq word (codes "journal") then Some (kinds.Setting settings.Journal)
    else (if bytes_eq word (codes "name") then Some kinds.Name
    else (if bytes_eq word (codes "role") then Some kinds.Role
    else (if bytes_eq word (codes "channel") then Some kinds.Channel
    else (if bytes_eq word (codes "anchor") then Some kinds.Anchor
    else (if bytes_eq word (codes "common") then Some kinds.Common
    else (if bytes_eq word (codes "object") then Some kinds.Object
    else (if bytes_eq word (codes "content") then Some kinds.Content
    else (if bytes_eq word (codes "allow") then Some kinds.Allow
    else None)))))))))))

-- ---- the settings, each of which one line says

-- a number from one to the most, where no line above says one
unfoldable pub new_within : ℕ → Bool → ℕ → Result ℕ FileCause
new_within most said n =
    unless (first_of ((said, Twice) ∷ (not (is_within 1 most n), Limit) ∷ [])) n

-- the settings with the node's number and the key of its relay
unfoldable pub node_with : Settings → List ℕ → Result Settings FileCause
node_with above rest = keyed rest >>= λ x.
    unless (first_of ((is_some above.node, Twice) ∷ [])) (record above { node = Some x })

-- the settings with how many shards there are
unfoldable pub shards_with : Settings → List ℕ → Result Settings FileCause
shards_with above rest = one_number 4294967295 rest >>= λ n.
    new_within MAX_SHARDS (is_some above.shards) n >>= λ n. Ok (record above { shards = Some n })

-- the settings with the seconds that a dead certificate stays
unfoldable pub keep_with : Settings → List ℕ → Result Settings FileCause
keep_with above rest = one_number 18446744073709551615 rest >>= λ n.
    new_within MAX_KEEP (is_some above.keep) n >>= λ n. Ok (record above { keep = Some n })

-- the settings with the entries that a journal has room for
unfoldable pub journal_with : Settings → List ℕ → Result Settings FileCause
journal_with above rest = one_number 18446744073709551615 rest >>= λ n.
    new_within MAX_LIMIT (is_some above.limit) n >>= λ n. Ok (record above { limit = Some n })

-- the settings with what a line says of them
abbrev pub settings_with : Settings → Setting → List ℕ → Result Settings FileCause
settings_with above settings.Node rest = node_with above rest
settings_with above settings.Shards rest = shards_with above rest
settings_with above settings.Keep rest = keep_with above rest
settings_with above settings.Journal rest = journal_with above rest

-- ---- anchors

-- the name that a word is: its number behind `name:`, or else the one above with this text
unfoldable pub name_said : Rows → List ℕ → Result ℕ FileCause
name_said names word =
    if begins (codes "name:") word then number_up_to 4294967295 (drop 5 word)
    else some_or UnknownName (number_of names word)

-- an anchor
unfoldable pub anchor_said : Rows → List ℕ → Result Anchor FileCause
anchor_said names rest = numbered rest >>= λ x. name_said names x.1 >>= λ n.
    Ok (record { key = x.0; name = n })

-- the anchors with one more
unfoldable pub anchors_and : List Anchor → Anchor → Result (List Anchor) FileCause
anchors_and above a =
    unless (first_of ((not (is_new (same_anchor a) above), Twice)
    ∷ (nat_le MAX_ANCHORS (length above), Limit) ∷ [])) (above ++ a ∷ [])

-- the anchors with that of a line
abbrev pub anchors_with : Rows → List Anchor → List ℕ → Result (List Anchor) FileCause
anchors_with names above rest =
    anchor_said names rest >>= λ a. anchors_and above a

-- ---- the certificates held in common

-- the certificate that bytes open to under the key of the node's line above
abbrev pub common_said : Option (ℕ × List ℕ) → List ℕ → Result certs.Certificate FileCause
common_said None bytes = Err NodeFirst
common_said (Some node) bytes = with_fault (λ _. causes.Certificate) (opened node.1 bytes)

-- the certificates with one more
unfoldable pub commons_and : List certs.Certificate → certs.Certificate →
    Result (List certs.Certificate) FileCause
commons_and above c =
    unless (first_of ((not (is_new (same_certificate c) above), Twice)
    ∷ (nat_le MAX_COMMONS (length above), Limit) ∷ [])) (above ++ c ∷ [])

-- the certificates with that of these bytes
abbrev pub commons_of : Option (ℕ × List ℕ) → List certs.Certificate → List ℕ →
    Result (List certs.Certificate) FileCause
commons_of node above bytes = common_said node bytes >>= λ c. commons_and above c

-- the certificates with that of a line
abbrev pub commons_with : Option (ℕ × List ℕ) → List certs.Certificate → List ℕ →
    Result (List certs.Certificate) FileCause
commons_with node above rest = digits rest >>= λ bytes. commons_of node above bytes

-- ---- objects

-- an object of this number, without content and with an empty access list
abbrev pub empty_object : ℕ → ObjectPlan
empty_object n = record { number = n; content = []; list = [] }

-- the objects with one more, of this number
unfoldable pub objects_and : List ObjectPlan → ℕ → Result (List ObjectPlan) FileCause
objects_and above n =
    unless (first_of ((is_some (object_of above n), Twice)
    ∷ (nat_le MAX_OBJECTS (length above), Limit) ∷ [])) (above ++ empty_object n ∷ [])

-- the objects with that of a line
abbrev pub objects_with : List ObjectPlan → List ℕ → Result (List ObjectPlan) FileCause
objects_with above rest =
    one_number 4294967295 rest >>= λ n. objects_and above n

-- the object, changed where it has this number
abbrev pub changed_if : ℕ → (ObjectPlan → ObjectPlan) → ObjectPlan → ObjectPlan
changed_if n f p = if p.number == n then f p else p

-- the objects, of which the one of this number is changed
abbrev pub changed_at : ℕ → (ObjectPlan → ObjectPlan) → List ObjectPlan → List ObjectPlan
changed_at n f plans = map (changed_if n f) plans

-- the object with this content
abbrev pub with_content : List ℕ → ObjectPlan → ObjectPlan
with_content content p = record p { content = content }

-- the objects with the content of one, which has none; a content that a line says is never empty
unfoldable pub contents_and : List ObjectPlan → ℕ × List ℕ → Result (List ObjectPlan) FileCause
contents_and above x = some_or UnknownObject (object_of above x.0) >>= λ p.
    unless (first_of ((nat_lt 0 (length p.content), Twice)
    ∷ (nat_lt MAX_CONTENT (length x.1), Limit) ∷ [])) (changed_at x.0 (with_content x.1) above)

-- the objects with the content that a line says
abbrev pub contents_with : List ObjectPlan → List ℕ → Result (List ObjectPlan) FileCause
contents_with above rest =
    numbered_digits rest >>= λ x. contents_and above x

-- the cause of a line for that of its principal
abbrev pub cause_of : TextCause → FileCause
cause_of texts.UnknownName = UnknownName
cause_of texts.Syntax = causes.Principal
cause_of texts.Number = causes.Principal
cause_of texts.TooDeep = causes.Principal
cause_of texts.TooLarge = causes.Principal
cause_of texts.Rights = causes.Principal
cause_of texts.TooMany = causes.Principal

-- the same of its fault
abbrev pub who_cause : TextFault → FileCause
who_cause (faults.Bad offset cause) = cause_of cause
who_cause faults.NoMemory = causes.Principal

-- the principal of an entry, by the texts above
unfoldable pub who_said : Labels → List ℕ → Result terms.Principal FileCause
who_said labels text = with_fault who_cause (principal_in labels text) >>= λ p.
    if nat_le (node_count p) ENTRY_NODES then Ok p else Err causes.Principal

-- the object with this access list
abbrev pub with_list : List Grant → ObjectPlan → ObjectPlan
with_list list p = record p { list = list }

-- the object with one more entry
abbrev pub with_grant : Grant → ObjectPlan → ObjectPlan
with_grant g p = with_list (p.list ++ g ∷ []) p

-- the objects with one more entry for one of them: its number, the rights and the principal's text
unfoldable pub grants_and : Labels → List ObjectPlan → ℕ × ℕ × List ℕ →
    Result (List ObjectPlan) FileCause
grants_and labels above x = some_or UnknownObject (object_of above x.0) >>= λ p.
    who_said labels x.2 >>= λ who.
    unless (first_of ((nat_le MAX_ENTRIES (length p.list), Limit) ∷ []))
    (changed_at x.0 (with_grant (record { rights = x.1; who = who })) above)

-- the objects with the entry that a line says
abbrev pub grants_with : Labels → List ObjectPlan → List ℕ → Result (List ObjectPlan) FileCause
grants_with labels above rest = granted rest >>= λ x. grants_and labels above x
