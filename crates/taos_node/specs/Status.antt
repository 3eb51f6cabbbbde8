-- What the status tells, whatever was done.
use Rattle.std.specs.Prelude.{◌≡◌, ◌≢◌, ◌⊎◌, ℕ, ◌<◌, ◌≤◌, ◌-◌, ◌^◌, List, length, All, Some, String}
use Rattle.std.specs.List.{AllZip}
use Rattle.std.specs.declared.alloc.Global.{Global}
use Rattle.frame_link.specs.Frames.{framed}
use Rattle.frame_link.specs.Streams.{Stream}
use Rattle.taos_node.specs.declared.ending.Ending.{Ending}
use Rattle.node_commands.specs.Files.{IsNodeFile, IsPathFile, IsRelayFile, IsWalletFile, HasFailed, IsSteady}
use Rattle.taos_node.specs.Deciding.{FileDecides}
use Rattle.taos_node.specs.Calls.{Call, LaneUsed, Touched, DoorsTouched, with_input}
use Rattle.node_commands.specs.Words.{Mean, Task, Run, Check, Relay, Mint, Serve, RelayServe, Audit, Drill, Path, Wallet, AuditBytes, Replay}
use Rattle.taos_node.specs.Stops.{status_of}
use Rattle.taos_lanes.specs.Workers.{LaneShown}
use Rattle.taos_lanes.specs.Telling.{Telling}
use Rattle.node_file.specs.Opening.{Opening}
use Rattle.node_file.specs.RelayFile.{RelayFile}
use Rattle.relay_path.specs.Domains.{DomainKnows}
use Rattle.taos_node.specs.declared.audit.AuditAsked.{AuditAsked}
use Rattle.taos_monitor.specs.declared.connection.TheConstants.{MAX_REQUEST}
use Rattle.taos_node.specs.Command.{IsCommand, IsRelayServe, IsServe, ReadsClock, Runs, RunsAlone, ServesDoors, audit_task}

-- which files are refused, by the file that the command wants
abbrev pub FileDecidesFor : Task → Stream → Stream → ℕ → Type 0
FileDecidesFor (Run r) = FileDecides IsNodeFile
FileDecidesFor Check = FileDecides IsNodeFile
FileDecidesFor (Relay frames) = FileDecides IsRelayFile
FileDecidesFor (Mint m) = FileDecides IsRelayFile
FileDecidesFor (Serve s) = FileDecides IsNodeFile
FileDecidesFor (RelayServe limits) = FileDecides IsRelayFile
FileDecidesFor (Audit frames) = FileDecides IsNodeFile
FileDecidesFor (Drill d) = λ file0 file1 status. status ≢ 2
FileDecidesFor (Path p) = FileDecides IsPathFile
FileDecidesFor (Wallet frames) = FileDecides IsWalletFile
FileDecidesFor (AuditBytes frames) = FileDecides IsNodeFile
FileDecidesFor Replay = FileDecides IsNodeFile

-- An input of whole frames is answered to its end: where the file means something, the frames are
-- not more than may be answered, and nothing fails, the status is 0, or 6 where memory was refused.
abbrev pub EndsWell : {A : Type 0} → (A → List ℕ → Type 0) → ℕ → Touched → Touched → ℕ → Type 0
EndsWell {A} Means most before after status =
    (bytes : List ℕ) (a : A) → before.file.told ≡ Some bytes → Means a bytes →
    (frames : List (List ℕ)) → before.input.told ≡ Some (framed frames) →
    All (λ p. length p ≤ MAX_REQUEST) frames → length frames ≤ most →
    IsSteady before.file after.file → IsSteady before.input after.input →
    IsSteady before.output after.output → (status ≡ 0) ⊎ (status ≡ 6)

-- It comes to its end, or to this other one, or memory was refused, where the file opens a node and
-- nothing fails.
abbrev pub EndsOr : (other : ℕ) → (before after : Touched) → ℕ → Type 0
EndsOr other before after status =
    (bytes : List ℕ) (o : Opening) → before.file.told ≡ Some bytes → IsNodeFile o bytes →
    IsSteady before.file after.file → IsSteady before.input after.input →
    IsSteady before.output after.output → (status ≡ 0) ⊎ ((status ≡ other) ⊎ (status ≡ 6))

-- A check finds something.
abbrev pub ChecksWell : (before after : Touched) → ℕ → Type 0
ChecksWell before after status = EndsOr 11 before after status

-- A certificate is made, or a word refused, or memory, where the file means something and nothing
-- fails.
abbrev pub MintsWell : Touched → Touched → ℕ → Type 0
MintsWell before after status =
    (bytes : List ℕ) (r : RelayFile) → before.file.told ≡ Some bytes → IsRelayFile r bytes →
    IsSteady before.file after.file → IsSteady before.output after.output →
    (status ≡ 0) ⊎ ((status ≡ 12) ⊎ (status ≡ 6))

-- A certificate is passed along, or a domain refuses it, or memory, where the file means something and
-- nothing fails.
abbrev pub PassesWell : Touched → Touched → ℕ → Type 0
PassesWell before after status =
    (bytes : List ℕ) (ds : List DomainKnows) → before.file.told ≡ Some bytes →
    IsPathFile ds bytes → IsSteady before.file after.file →
    IsSteady before.input after.input → IsSteady before.output after.output →
    (status ≡ 0) ⊎ ((status ≡ 13) ⊎ (status ≡ 6))

-- Journals are judged.
abbrev pub ReplaysWell : (before after : Touched) → ℕ → Type 0
ReplaysWell before after status = EndsOr 14 before after status

-- A load is made and served, or memory is refused, where the output does not fail.
abbrev pub DrillsWell : Touched → Touched → ℕ → Type 0
DrillsWell before after status =
    IsSteady before.output after.output → (status ≡ 0) ⊎ (status ≡ 6)

-- A command comes to its end where nothing fails that it needs. Of those that serve lanes the doors
-- tell it.
abbrev pub EndsWellFor : Task → Touched → Touched → ℕ → Type 0
EndsWellFor (Run r) before after status =
    IsSteady before.clock after.clock → EndsWell IsNodeFile r.frames before after status
EndsWellFor Check before after status = ChecksWell before after status
EndsWellFor (Relay frames) before after status = EndsWell IsRelayFile frames before after status
EndsWellFor (Mint m) before after status = MintsWell before after status
EndsWellFor (Serve s) before after status = Unit {0}
EndsWellFor (RelayServe limits) before after status = Unit {0}
EndsWellFor (Audit frames) before after status =
    IsSteady before.clock after.clock → EndsWell IsNodeFile frames before after status
EndsWellFor (Drill d) before after status = DrillsWell before after status
EndsWellFor (Path p) before after status = PassesWell before after status
EndsWellFor (Wallet frames) before after status = EndsWell IsWalletFile frames before after status
EndsWellFor (AuditBytes frames) before after status =
    IsSteady before.clock after.clock → EndsWell IsNodeFile frames before after status
EndsWellFor Replay before after status = ReplaysWell before after status

-- a fault is answered only where something failed
pub record IsCaused (before after : Touched) (status : ℕ) : Type 0 where
  pub read : status ≡ 3 → HasFailed before.file after.file ⊎ HasFailed before.input after.input
  pub write : status ≡ 4 → HasFailed before.output after.output
  pub clock : status ≡ 5 → HasFailed before.clock after.clock

-- a fault is not passed over: a count that rose is answered, by its status
pub record TellsFaults (before after : Touched) (status : ℕ) : Type 0 where
  pub file : before.file.faults < after.file.faults → status ≡ 3
  pub input : before.input.faults < after.input.faults → status ≡ 3
  pub output : before.output.faults < after.output.faults → status ≡ 4

-- the words decide status 1, but where memory was refused
pub record WordsDecide (words : List (String Global)) (status : ℕ) : Type 0 where
  pub usage : status ≡ 1 → IsCommand words → ⊥
  pub no_command : (IsCommand words → ⊥) → (status ≡ 1) ⊎ (status ≡ 6)

-- What the status tells, whatever was done: the words decide status 1 and the file status 2; what
-- can come to its end does; a fault is answered where there was one, and only there.
pub record IsStatus (words : List (String Global)) (before after : Touched)
    (status : ℕ) : Type 0 where
  pub usage : WordsDecide words status
  pub file : (task : Task) → Mean words task →
      FileDecidesFor task before.file after.file status
  pub well : (task : Task) → Mean words task → EndsWellFor task before after status
  pub causes : IsCaused before after status
  pub told : TellsFaults before after status
  -- by a command that serves lanes a reading that fails ends its connection alone
  pub clock : (ServesDoors words → ⊥) → before.clock.faults < after.clock.faults → status ≡ 5
  -- and by these two alone it is told
  pub clock_of : status ≡ 5 → ReadsClock words
  -- a door's fault is told by a command that serves doors alone
  pub door_of : status ≡ 9 → ServesDoors words

module _ {X : Type 0} where
  -- the door's count stayed
  abbrev pub HasSameCount : (before after : LaneShown X) → Type 0
  HasSameCount before after = after.door.faults ≡ before.door.faults

  -- and does not stand at the largest u64
  abbrev pub HasSteadyDoor : (before after : LaneShown X) → Type 0
  HasSteadyDoor before after =
      HasSameCount before after × (before.door.faults < 2 ^ 64 - 1)

  -- What the status tells of the lanes' doors: 9 is answered where a door failed, and always where a
  -- door's count rose; where nothing fails the status is 0, or 6 where memory was refused.
  pub record TellsDoors (words : List (String Global)) (before after : Call X) (status : ℕ) :
      Type 0 where
    pub caused : status ≡ 9 → AllZip HasSteadyDoor before.lanes after.lanes → ⊥
    pub told : ServesDoors words → status ≢ 9 → AllZip HasSameCount before.lanes after.lanes
    pub well : IsServe words → (bytes : List ℕ) (o : Opening) →
        before.streams.file.told ≡ Some bytes → IsNodeFile o bytes →
        IsSteady before.streams.file after.streams.file →
        IsSteady before.streams.output after.streams.output →
        AllZip HasSteadyDoor before.lanes after.lanes → (status ≡ 0) ⊎ (status ≡ 6)
    pub relays_well : IsRelayServe words → (bytes : List ℕ) (r : RelayFile) →
        before.streams.file.told ≡ Some bytes → IsRelayFile r bytes →
        IsSteady before.streams.file after.streams.file →
        IsSteady before.streams.output after.streams.output →
        AllZip HasSteadyDoor before.lanes after.lanes → (status ≡ 0) ⊎ (status ≡ 6)

-- the same of a call
abbrev pub TellsStatus : {X : Type 0} → List (String Global) → (before after : Call X) → ℕ → Type 0
TellsStatus words before after status = IsStatus words before.streams after.streams status

-- what a run does and tells, by how it ends
pub record Does {In Out : Type 0} (telling : Telling In Out) (words : List (String Global))
    (before after : Call (In × Out)) (ending : Ending) : Type 0 where
  pub runs : Runs telling words before after ending
  pub status : IsStatus words before.streams after.streams (status_of ending)
  pub tells : TellsDoors words before after (status_of ending)

-- the same of a command that serves doors, for all words that mean it, whatever input there is
abbrev pub DoesDoors : {In Out : Type 0} → Telling In Out → Task →
    (before after : DoorsTouched (In × Out)) → Ending → Type 0
DoesDoors telling task before after ending =
    (input : Stream) (words : List (String Global)) → Mean words task →
    Does telling words (with_input input before) (with_input input after) ending

-- what is done where no lanes are served, and what its status tells, for all words that mean this
abbrev pub EndsAlone : Task → (before after : Touched) → Ending → Type 0
EndsAlone task before after ending =
    (words : List (String Global)) → Mean words task →
    RunsAlone words before after ending × IsStatus words before after (status_of ending)

-- the same, whatever the first lane is
abbrev pub EndsWithoutLanes : Task → (before after : LaneUsed → Touched) → Ending → Type 0
EndsWithoutLanes task before after ending =
    (lane : LaneUsed) → EndsAlone task (before lane) (after lane) ending

-- the same of a call that prints journals
abbrev pub AuditsAsked : {X : Type 0} → AuditAsked → (before after : Call X) → Ending → Type 0
AuditsAsked asked before after ending =
    EndsAlone (audit_task asked.form asked.frames) before.streams after.streams ending
