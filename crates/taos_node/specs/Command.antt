-- The top call: the words, the file, and then the work.
use Rattle.std.specs.Prelude.{◌≡◌, ◌⊎◌, ℕ, Bool, true, false, List, drop, map, All, Option, None, String}
use Rattle.std.specs.List.{AllZip}
use Rattle.std.specs.Io.KnownBytes.{Keeps}
use Rattle.std.specs.declared.alloc.Global.{Global}
use Rattle.frame_link.specs.declared.outcome.Outcome.{Outcome}
use Rattle.frame_link.specs.Outside.{outside_of}
use Rattle.frame_link.specs.Served.{Line, line, FaultCounts, IsServed}
use Rattle.frame_link.specs.Streams.{Stream, stream}
use Rattle.node_commands.specs.declared.fault.FileFault.{FileFault}
use Rattle.taos_node.specs.declared.ending.Ending.{Ending}
use Rattle.taos_node.specs.declared.ending.Ending.TheVariants as ending
use Rattle.taos_node.specs.declared.ending.Ending.TheVariants.{Usage, File, Served, Checked, Relayed, Minted, Lanes, RelayLanes, Audited, Drilled, Passed, Walleted, Replayed}
use Rattle.node_commands.specs.Files.{OpensNode, OpensPath, OpensRelay, OpensWallet, FileFails, node_means, path_means, relay_means, wallet_means}
use Rattle.taos_node.specs.Calls.{Call, LaneUsed, Touched, with_file}
use Rattle.node_commands.specs.Words.{Mean, MintWords, DrillWords, PathWords, RunWords, ServeWords, Task, Run, Check, Relay, Mint, Serve, RelayServe, Audit, Drill, Path, Wallet, AuditBytes, Replay}
use Rattle.node_commands.specs.declared.check.CheckEnd.{CheckEnd}
use Rattle.taos_node.specs.Stops.{status_of}
use Rattle.taos_node.specs.Notes.{note_of, IsNoted}
use Rattle.taos_lanes.specs.declared.lane.Lane.{Lane}
use Rattle.frame_link.specs.declared.limits.Limits.{Limits}
use Rattle.taos_lanes.specs.Workers.{LaneShown}
use Rattle.taos_monitor.specs.Changing.{Change, change}
use Rattle.taos_lanes.specs.Telling.{Telling, told_by}
use Rattle.node_journals.specs.declared.audit.AuditEnd.{AuditEnd}
use Rattle.taos_node.specs.declared.drills.serving.DrillEnd.{DrillEnd}
use Rattle.taos_node.specs.Audit.{WritesAudit, counts}
use Rattle.node_journals.specs.Audit.{AreLegalAs, IsAuditOf, WasMade}
use Rattle.taos_node.specs.Drills.{Drills}
use Rattle.taos_node.specs.Lanes.{ServesLanes}
use Rattle.taos_node.specs.RelayLanes.{IsRelayOf, RelaysDoors}
use Rattle.node_file.specs.Opening.{Opening}
use Rattle.node_file.specs.RelayFile.{RelayFile}
use Rattle.node_commands.specs.declared.minting.MintEnd.{MintEnd}
use Rattle.node_commands.specs.Minting.{Mints}
use Rattle.relay_path.specs.Domains.{DomainKnows}
use Rattle.cred_pull.specs.WalletFile.{WalletRow}
use Rattle.cred_pull.specs.WalletServing as wallets
use Rattle.node_commands.specs.declared.path.PathEnd.{PathEnd}
use Rattle.node_commands.specs.Paths.{Passes}
use Rattle.taos_node.specs.declared.audit.AuditAsked.{AuditAsked}
use Rattle.node_journals.specs.declared.audit.Form.{Form}
use Rattle.node_journals.specs.declared.audit.Form.TheVariants as form
use Rattle.taos_node.specs.declared.command.FirstAsked.{FirstAsked}
use Rattle.node_journals.specs.declared.replay.ReplayEnd.{ReplayEnd}
use Rattle.node_journals.specs.Replaying.{Replays}
use Rattle.prin_text.specs.Labels.{Labels}
use Rattle.relay_core.specs.declared.resealing.RelayTable.{RelayTable}
use Rattle.relay_core.specs.Serving.{Answers, GivesUp}
use Rattle.request_course.specs.Cells.{Node, Seen, alone_of}
use Rattle.request_course.specs.Connection.{Connects}
use Rattle.request_course.specs.World.{World, fetch_use, setting_of}
use Rattle.taos_lanes.specs.declared.opened.OpenNode.{OpenNode}
use Rattle.taos_lanes.specs.Opened.{IsNodeOf, IsOpenedBy, node_by, nothing_seen, seen_by}
use Rattle.node_commands.specs.Findings.{Checks}

-- the words are a command line
abbrev pub IsCommand : List (String Global) → Type 0
IsCommand words = (task : Task) × Mean words task

-- the words are the command that serves lanes
abbrev pub IsServe : List (String Global) → Type 0
IsServe words = (s : ServeWords) × Mean words (Serve s)

-- the words are the command that serves lanes as a relay
abbrev pub IsRelayServe : List (String Global) → Type 0
IsRelayServe words = (limits : Limits) × Mean words (RelayServe limits)

-- the words are one of the two
abbrev pub ServesDoors : List (String Global) → Type 0
ServesDoors words = IsServe words ⊎ IsRelayServe words

-- to serve a connection, of at most so many frames, and to print the journals in this form
abbrev pub audit_task : Form → ℕ → Task
audit_task form.Text frames = Audit frames
audit_task form.Bytes frames = AuditBytes frames

-- the words are to print the journals in this form, after at most so many frames
abbrev pub AsksAudit : List (String Global) → Form → ℕ → Type 0
AsksAudit words form frames = Mean words (audit_task form frames)

-- the words are a command that serves the first lane's connection, by that lane's clock
abbrev pub ReadsClock : List (String Global) → Type 0
ReadsClock words =
    ((r : RunWords) × Mean words (Run r)) ⊎ ((form : Form) × (frames : ℕ) × AsksAudit words form frames)

-- ---- what is done

module _ {X : Type 0} where
  -- the lanes, as they were and as they are
  abbrev pub lanes_in : (before after : Call X) → Change (List (LaneShown X))
  lanes_in before after = change before.lanes after.lanes

  -- what was told of the output
  abbrev pub output_in : (before after : Call X) → Change (Option (List ℕ))
  output_in before after = change before.streams.output.told after.streams.output.told

-- what a connection is answered in, of what is touched, where certificates are fetched or not
abbrev pub world_in : Bool → Touched → Seen → World
world_in pulls t seen = record {
  outside = outside_of t.clock t.relay;
  fetch = fetch_use pulls t.fetch;
  seen = seen;
}

-- what it is served over
abbrev pub with_seen : Bool → Touched → Seen → Line World
with_seen pulls t seen = line t.input t.output (world_in pulls t seen)

-- how often what it is served over failed
abbrev pub counts_of : Touched → FaultCounts
counts_of t = counts t.input.faults t.output.faults t.clock.faults

-- the first lane's clock, link and fetch were not used
pub record UsesNoLane (before after : Touched) : Type 0 where
  pub clock : after.clock ≡ before.clock
  pub link : after.relay ≡ before.relay
  pub fetch : after.fetch ≡ before.fetch

-- nothing but the file was touched
pub record LeavesRest (before after : Touched) : Type 0 where
  pub input : Keeps before.input.told after.input.told
  pub output : Keeps before.output.told after.output.told
  pub lane : UsesNoLane before after

-- A node of the opening serves the connection, of at most so many frames, from empty journals on, with
-- certificates that it fetches or without. The journals at the end are those of this connection alone:
-- all their entries are its own. What nothing failed for was answered wholly, to its end.
pub record ServesConnection (o : Opening) (pulls : Bool) (frames : ℕ) (before after : Touched)
    (outcome : Outcome) : Type 0 where
  pub node : Node
  pub is_node : IsNodeOf o node
  -- the journals at the end, whose entries are all its own
  pub seen : Seen
  pub connection : Connects (setting_of node (alone_of true true)) frames
      (with_seen pulls before nothing_seen) (with_seen pulls after seen) outcome

-- So the node serves the first lane's connection, of whatever opening it is and whatever file there
-- is, and is left like this.
abbrev pub ServesFirst : OpenNode → FirstAsked → (before after : Line LaneUsed) → OpenNode → Outcome →
    Type 0
ServesFirst opened asked before after left outcome =
    (file0 file1 : Stream) (o : Opening) → IsOpenedBy o opened →
    (served : ServesConnection o asked.pulls asked.frames (with_file file0 before)
    (with_file file1 after) outcome) × (served.seen ≡ seen_by left) × (served.node ≡ node_by opened)

-- what a connection is served over where nobody has the replies
abbrev pub unwritten : Touched → Seen → Line World
unwritten t seen = line t.input (stream None 0) (world_in false t seen)

-- A node of the opening serves the connection, of at most so many frames, from empty journals on; its
-- replies are written nowhere. The journals at the end, whose entries are all its own, are printed in
-- this form.
pub record Audits (form : Form) (o : Opening) (frames : ℕ) (before after : Touched)
    (end : AuditEnd) : Type 0 where
  pub node : Node
  pub is_node : IsNodeOf o node
  pub seen : Seen
  pub outcome : Outcome
  pub connection : Connects (setting_of node (alone_of true true)) frames
      (unwritten before nothing_seen) (unwritten after seen) outcome
  pub text : List ℕ
  pub is_text : IsAuditOf form o seen.journals text
  pub writes : WritesAudit text outcome before.output.told after.output.told end
  pub legal : WasMade end → AreLegalAs form o text

-- So the node serves the first lane's connection, and its journals are printed, of whatever opening
-- it is and whatever file there is.
abbrev pub AuditsFirst : AuditAsked → OpenNode → (before after : Line LaneUsed) → AuditEnd → Type 0
AuditsFirst asked opened before after end =
    (o : Opening) (file0 file1 : Stream) → IsOpenedBy o opened →
    Audits asked.form o asked.frames (with_file file0 before) (with_file file1 after) end

-- a load that is made was served, and nothing but the output was touched
pub record DrillsAlone (d : DrillWords) (before after : Touched) (end : DrillEnd) : Type 0 where
  pub drills : Drills d before.output.told after.output.told end
  pub file : Keeps before.file.told after.file.told
  pub input : Keeps before.input.told after.input.told
  pub lane : UsesNoLane before after

-- a request and its reply were looked over, by the node that the file opens
pub record LooksOver (before after : Touched) (end : CheckEnd) : Type 0 where
  pub node : Opening
  pub opens : OpensNode before.file after.file node
  pub checks : Checks node before.input.told after.input.told before.output.told
      after.output.told end
  pub lane : UsesNoLane before after

-- a relay of the file serves the connection, of at most so many frames
pub record ServesRelay (r : RelayFile) (frames : ℕ) (before after : Touched)
    (outcome : Outcome) : Type 0 where
  pub table : RelayTable
  pub is_relay : IsRelayOf r table
  pub served : IsServed Answers GivesUp frames
      (line before.input before.output table) (line after.input after.output table) outcome
  pub lane : UsesNoLane before after

-- a wallet of the file serves the connection, of at most so many frames
pub record ServesWallet (rows : List WalletRow) (frames : ℕ) (before after : Touched)
    (outcome : Outcome) : Type 0 where
  pub served : IsServed wallets.Answers wallets.GivesUp frames
      (line before.input before.output rows) (line after.input after.output rows) outcome
  pub lane : UsesNoLane before after

-- the texts of names and of roles that the file has
abbrev pub labels_of : RelayFile → Labels
labels_of r = record { names = r.names; roles = r.roles }

-- by what the file says a certificate is made of the words, or the first of them is refused
pub record MintsBy (r : RelayFile) (m : MintWords) (before after : Touched) (end : MintEnd) :
    Type 0 where
  pub mints : Mints r.issuers (labels_of r) m before.output.told after.output.told end
  pub input : Keeps before.input.told after.input.told
  pub lane : UsesNoLane before after

-- the domains of the file pass the certificate of the input along the route, or it stops
pub record PassesAlong (ds : List DomainKnows) (p : PathWords) (before after : Touched)
    (end : PathEnd) : Type 0 where
  pub passes : Passes ds p before.input.told after.input.told
      before.output.told after.output.told end
  pub lane : UsesNoLane before after

-- the bytes of journals were judged beside the opening that the file means
pub record JudgesJournals (before after : Touched) (end : ReplayEnd) : Type 0 where
  pub node : Opening
  pub opens : OpensNode before.file after.file node
  pub replays : Replays node before.input.told after.input.told before.output.told
      after.output.told end
  pub lane : UsesNoLane before after

-- the file that the command wants is refused by the fault
abbrev pub FileFailsFor : Task → Stream → Stream → FileFault → Type 0
FileFailsFor (Run r) = FileFails node_means
FileFailsFor Check = FileFails node_means
FileFailsFor (Relay frames) = FileFails relay_means
FileFailsFor (Mint m) = FileFails relay_means
FileFailsFor (Serve s) = FileFails node_means
FileFailsFor (RelayServe limits) = FileFails relay_means
FileFailsFor (Audit frames) = FileFails node_means
FileFailsFor (Drill d) = λ file0 file1 fault. ⊥
FileFailsFor (Path p) = FileFails path_means
FileFailsFor (Wallet frames) = FileFails wallet_means
FileFailsFor (AuditBytes frames) = FileFails node_means
FileFailsFor Replay = FileFails node_means

-- What is done where no lanes are served, by how it ends. Other words do nothing, nor is anything
-- done where memory is refused before the words are read. A file that is refused, or fails, and one
-- for which memory is refused, leaves the rest untouched; every other opens a node that serves the
-- connection, or by which a request and its reply are looked over, or a relay or a wallet that serves
-- it, or a relay by which a certificate is made, or domains along which one is passed, or a node
-- beside whose opening journals are judged.
abbrev pub RunsAlone : List (String Global) → Touched → Touched → Ending → Type 0
RunsAlone words before after Usage =
    (IsCommand words → ⊥) × Keeps before.file.told after.file.told × LeavesRest before after
RunsAlone words before after ending.NoMemory =
    Keeps before.file.told after.file.told × LeavesRest before after
RunsAlone words before after (File fault) =
    ((task : Task) × Mean words task × FileFailsFor task before.file after.file fault)
    × LeavesRest before after
RunsAlone words before after (Served outcome) =
    (r : RunWords) × Mean words (Run r) ×
    ((o : Opening) × OpensNode before.file after.file o × ServesConnection o r.pulls r.frames before after outcome)
RunsAlone words before after (Checked end) = Mean words Check × LooksOver before after end
RunsAlone words before after (Relayed outcome) =
    (frames : ℕ) × Mean words (Relay frames) ×
    ((r : RelayFile) × OpensRelay before.file after.file r × ServesRelay r frames before after outcome)
RunsAlone words before after (Minted end) =
    (m : MintWords) × Mean words (Mint m) ×
    ((r : RelayFile) × OpensRelay before.file after.file r × MintsBy r m before after end)
RunsAlone words before after (Audited end) =
    (form : Form) × (frames : ℕ) × AsksAudit words form frames ×
    ((o : Opening) × OpensNode before.file after.file o × Audits form o frames before after end)
RunsAlone words before after (Drilled end) =
    (d : DrillWords) × Mean words (Drill d) × DrillsAlone d before after end
RunsAlone words before after (Passed end) =
    (p : PathWords) × Mean words (Path p) ×
    ((ds : List DomainKnows) × OpensPath before.file after.file ds × PassesAlong ds p before after end)
RunsAlone words before after (Walleted outcome) =
    (frames : ℕ) × Mean words (Wallet frames) ×
    ((rows : List WalletRow) × OpensWallet before.file after.file rows
    × ServesWallet rows frames before after outcome)
RunsAlone words before after (Replayed end) = Mean words Replay × JudgesJournals before after end
RunsAlone words before after (Lanes end) = ⊥
RunsAlone words before after (RelayLanes end) = ⊥

module _ {X : Type 0} where
  -- a lane is as before, but for what a connection of it uses
  pub record HasOtherUse (before after : LaneShown X) : Type 0 where
    pub door : after.door ≡ before.door
    pub work : after.work ≡ before.work
    pub tally : after.tally ≡ before.tally

  -- no other lane than the first was touched, and of that only what a connection of it uses
  pub record LeavesDoors (before after : List (LaneShown X)) : Type 0 where
    pub others : drop 1 after ≡ drop 1 before
    pub all : AllZip HasOtherUse before after

  -- no lane has work in its place
  abbrev pub AreIdle : List (LaneShown X) → Type 0
  AreIdle lanes = All (λ lane. lane.work ≡ None) lanes

module _ {In Out : Type 0} (telling : Telling In Out) where
  -- What is done, by how it ends: the lanes of a node of the file's opening, or of a relay of the file,
  -- serve their doors, and the line of what they counted is written; every other ending touches no
  -- lane but what a connection of the first uses.
  abbrev pub Runs : List (String Global) → (before after : Call (In × Out)) → Ending → Type 0
  Runs words before after (Lanes end) =
      Keeps before.streams.input.told after.streams.input.told × AreIdle after.lanes
      × ((s : ServeWords) × Mean words (Serve s)
      × ((o : Opening) × OpensNode before.streams.file after.streams.file o
      × ServesLanes telling o s.pulls s.limits (lanes_in before after) (output_in before after) end))
  Runs words before after (RelayLanes end) =
      Keeps before.streams.input.told after.streams.input.told
      × ((limits : Limits) × Mean words (RelayServe limits)
      × ((r : RelayFile) × OpensRelay before.streams.file after.streams.file r
      × RelaysDoors telling r limits (lanes_in before after) (output_in before after) end))
  Runs words before after other =
      RunsAlone words before.streams after.streams other × LeavesDoors before.lanes after.lanes

-- How it ended, with what was done, where connections are told by these: the status and the note tell
-- that ending.
pub record Ends {In Out : Type 0} (input : In → Stream) (output : Out → Stream)
    (words : List (String Global)) (before after : Call (In × Out)) (notes : Change Stream)
    (status : ℕ) : Type 0 where
  pub ending : Ending
  pub runs : Runs (told_by input output) words before after ending
  pub tells : status ≡ status_of ending
  pub noted : IsNoted notes.before.told notes.after.told notes.before.faults
      notes.after.faults (note_of ending)

-- no other lane than the first was touched, nor what any shows here of its door
pub record LeavesBy {L D : Type 0} (door : L → D) (before after : List L) : Type 0 where
  pub others : drop 1 after ≡ drop 1 before
  pub doors : map door after ≡ map door before

-- no other lane than the first was touched, nor the door of any
abbrev pub LeavesLanes : {C R D P In Out : Type 0} →
    (before after : List (Lane C R D P In Out)) → Type 0
LeavesLanes before after = LeavesBy (λ lane. lane.door) before after
