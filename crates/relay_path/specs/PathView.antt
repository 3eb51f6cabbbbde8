-- What the program's path file means, and what its lines so far do.
use Rattle.std.specs.Prelude.{◌≡◌, ℕ, Bool, List, [], Option}
use Rattle.std.specs.List.{AllZip}
use Rattle.keyed_seal.specs.Keys.{Keys}
use Rattle.prin_text.specs.declared.lines.fault.FileCause.{FileCause}
use Rattle.prin_text.specs.declared.lines.fault.FileCause.TheVariants as files
use Rattle.prin_text.specs.declared.lines.fault.FileFault.{FileFault}
use Rattle.prin_text.specs.declared.lines.fault.FileFault.TheVariants as faults
use Rattle.prin_text.specs.FileLines.{IsFaultOf}
use Rattle.prin_text.specs.Held.{HoldsKeys}
use Rattle.prin_text.specs.LineView.{SoFar}
use Rattle.relay_path.specs.declared.domain.Domain.{Domain}
use Rattle.relay_path.specs.declared.fault.PathCause.{PathCause}
use Rattle.relay_path.specs.declared.fault.PathCause.TheVariants as causes
use Rattle.relay_path.specs.declared.fault.PathFault.{PathFault}
use Rattle.relay_path.specs.declared.fault.PathFault.TheVariants.{Line, NoMemory}
use Rattle.relay_path.specs.declared.domain_draft.DomainDraft.{DomainDraft}
use Rattle.relay_path.specs.declared.limits.TheConstants.{MAX_ISSUERS, MAX_NODES, MAX_LINKS}
use Rattle.relay_path.specs.Domains.{DomainKnows}

-- this number and these keys stand for the domain: keys are looked up, so their order is not kept
pub record Stand (own : ℕ) (issuer_keys node_keys peer_keys : Keys) (d : DomainKnows) : Type 0 where
  pub number : own ≡ d.number
  pub issuers : HoldsKeys issuer_keys d.issuers
  pub nodes : HoldsKeys node_keys d.nodes
  pub peers : HoldsKeys peer_keys d.peers
  pub issuers_room : issuer_keys.room ≡ MAX_ISSUERS
  pub nodes_room : node_keys.room ≡ MAX_NODES
  pub peers_room : peer_keys.room ≡ MAX_LINKS

-- the program's domain stands for this
abbrev pub StandsForDomain : Domain → DomainKnows → Type 0
StandsForDomain domain d = Stand domain.number domain.issuers domain.nodes domain.peers d

-- what the lines so far say of a domain stands for this
abbrev pub IsDomainDraft : DomainDraft → DomainKnows → Type 0
IsDomainDraft draft d = Stand draft.number draft.issuers draft.nodes draft.peers d

-- the program's domains stand for these
abbrev pub StandForDomains : List Domain → List DomainKnows → Type 0
StandForDomains domains ds = AllZip StandsForDomain domains ds

-- what the lines so far say stands for these
abbrev pub AreDomainDrafts : List DomainDraft → List DomainKnows → Type 0
AreDomainDrafts drafts ds = AllZip IsDomainDraft drafts ds

-- they stand for what the lines make, of which the first is there, or is not
abbrev pub StandSoFar : Bool → List DomainDraft → Option (List DomainKnows) → Type 0
StandSoFar begun drafts so_far = SoFar AreDomainDrafts [] begun drafts so_far

-- ---- faults

-- the cause, among those of all files of lines
abbrev pub file_cause : PathCause → FileCause
file_cause causes.FirstLine = files.FirstLine
file_cause causes.UnknownWord = files.UnknownWord
file_cause causes.Words = files.Words
file_cause causes.Number = files.Number
file_cause causes.Hex = files.Hex
file_cause causes.UnknownDomain = files.UnknownDomain
file_cause causes.Twice = files.Twice
file_cause causes.Limit = files.Limit

-- the fault, among those of all files of lines
abbrev pub file_fault : PathFault → FileFault
file_fault (Line line cause) = faults.Line line (file_cause cause)
file_fault NoMemory = faults.NoMemory

-- the cause, among those of path files; a cause that such a file does not have is seen as `Words`
abbrev pub path_cause : FileCause → PathCause
path_cause files.FirstLine = causes.FirstLine
path_cause files.UnknownWord = causes.UnknownWord
path_cause files.Words = causes.Words
path_cause files.Number = causes.Number
path_cause files.Hex = causes.Hex
path_cause files.Rights = causes.Words
path_cause files.UnknownDomain = causes.UnknownDomain
path_cause files.NodeFirst = causes.Words
path_cause files.UnknownObject = causes.Words
path_cause files.UnknownName = causes.Words
path_cause files.Principal = causes.Words
path_cause files.Text = causes.Words
path_cause files.Certificate = causes.Words
path_cause files.Twice = causes.Twice
path_cause files.Limit = causes.Limit
path_cause files.NoNode = causes.Words

-- the fault is one of a path file
abbrev pub IsPathFault : FileFault → Type 0
IsPathFault fault = IsFaultOf (λ cause. file_cause (path_cause cause) ≡ cause) fault
