-- What the program's relay file means, and what its lines so far do.
use Rattle.std.specs.Prelude.{◌≡◌, Bool, Option}
use Rattle.keyed_seal.specs.Keys.{Keys}
use Rattle.prin_text.specs.Labels.{Labels}
use Rattle.node_file.specs.declared.relay_file.RelayFile as code
use Rattle.node_file.specs.declared.relay_reading.RelayDraft.{RelayDraft}
use Rattle.prin_text.specs.Held.{HoldsKeys, HoldsRows}
use Rattle.prin_text.specs.LineView.{SoFar}
use Rattle.node_file.specs.RelayFile.{RelayFile, no_relay}
use Rattle.node_file.specs.declared.limits.TheConstants.{MAX_ISSUERS, MAX_NODES}

-- these keys and texts stand for the relay file: they are looked up, so their order is not kept
pub record Stand (issuer_keys node_keys : Keys) (labels : Labels) (r : RelayFile) : Type 0 where
  pub issuers : HoldsKeys issuer_keys r.issuers
  pub nodes : HoldsKeys node_keys r.nodes
  pub issuers_room : issuer_keys.room ≡ MAX_ISSUERS
  pub nodes_room : node_keys.room ≡ MAX_NODES
  pub names : HoldsRows labels.names r.names
  pub roles : HoldsRows labels.roles r.roles

-- the program's relay file stands for this
abbrev pub StandsFor : code.RelayFile → RelayFile → Type 0
StandsFor file r = Stand file.table.issuers file.table.nodes file.names r

-- what the program's lines so far say stands for this
abbrev pub IsRelayDraft : RelayDraft → RelayFile → Type 0
IsRelayDraft draft r = Stand draft.issuers draft.nodes draft.names r

-- it stands for what the lines make, of which the first is there, or is not
abbrev pub StandsSoFar : Bool → RelayDraft → Option RelayFile → Type 0
StandsSoFar begun draft so_far = SoFar IsRelayDraft no_relay begun draft so_far
