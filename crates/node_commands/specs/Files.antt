-- The file of a command: what its bytes mean, and why it is refused.
use Rattle.std.specs.Prelude.{◌≡◌, ◌⊎◌, ℕ, ◌+◌, ◌-◌, ◌^◌, ◌<◌, ◌≤◌, List, length, Result, Ok, Err}
use Rattle.std.specs.Io.KnownBytes.{Consumes, IsAtEnd}
use Rattle.frame_link.specs.Streams.{Stream}
use Rattle.frame_link.specs.Faults.{Rose}
use Rattle.prin_text.specs.declared.lines.fault.FileFault.{FileFault as Refusal}
use Rattle.prin_text.specs.declared.lines.fault.FileFault.TheVariants.{Line, Byte}
use Rattle.prin_text.specs.declared.lines.fault.FileFault.TheVariants as refusals
use Rattle.node_file.specs.declared.limits.TheConstants.{MAX_FILE}
use Rattle.node_file.specs.Opening.{Opening}
use Rattle.node_file.specs.OpeningFile.{Means, opening_in}
use Rattle.node_file.specs.RelayFile.{RelayFile, relay_in}
use Rattle.relay_path.specs.Domains.{DomainKnows}
use Rattle.relay_path.specs.PathFile.{path_in}
use Rattle.cred_pull.specs.WalletFile.{WalletRow, wallet_in}
use Rattle.node_commands.specs.declared.fault.FileFault.{FileFault}
use Rattle.node_commands.specs.declared.fault.FileFault.TheVariants as fault
use Rattle.node_commands.specs.declared.fault.FileFault.TheVariants.{Malformed, Refused}

-- it did not fail in between, and its count does not stand at the largest u64
abbrev pub IsSteady : Stream → Stream → Type 0
IsSteady s0 s1 = (s1.faults ≡ s0.faults) × (s0.faults < 2 ^ 64 - 1)

-- its count of faults rose in between, or stands at the largest u64
abbrev pub HasFailed : Stream → Stream → Type 0
HasFailed s0 s1 = Rose s0.faults s1.faults

-- the file's bytes mean the opening of a node, and are not too many
abbrev pub IsNodeFile : Opening → List ℕ → Type 0
IsNodeFile o bytes = Means o bytes × (length bytes ≤ MAX_FILE)

-- the file's bytes mean what a relay knows
abbrev pub IsRelayFile : RelayFile → List ℕ → Type 0
IsRelayFile r bytes = relay_in bytes ≡ Ok r

-- the file's bytes mean what domains know
abbrev pub IsPathFile : List DomainKnows → List ℕ → Type 0
IsPathFile ds bytes = path_in bytes ≡ Ok ds

-- the file's bytes mean what a wallet has
abbrev pub IsWalletFile : List WalletRow → List ℕ → Type 0
IsWalletFile rows bytes = wallet_in bytes ≡ Ok rows

-- what bytes mean, or why they are refused
abbrev pub Meaning : Type 0 → Type 0
Meaning A = List ℕ → Result A Refusal

-- what the bytes of a node file mean
abbrev pub node_means : Meaning Opening
node_means = opening_in

-- what the bytes of a relay file mean
abbrev pub relay_means : Meaning RelayFile
relay_means = relay_in

-- what the bytes of a path file mean
abbrev pub path_means : Meaning (List DomainKnows)
path_means = path_in

-- what the bytes of a wallet file mean
abbrev pub wallet_means : Meaning (List WalletRow)
wallet_means = wallet_in

-- at most one byte more than there may be was taken of it
abbrev pub TakesFew : Stream → Stream → Type 0
TakesFew file0 file1 =
    (taken : List ℕ) × Consumes file0.told file1.told taken × (length taken ≤ MAX_FILE + 1)

-- the bytes were read, and those were all, or one more than there may be
pub record IsRead (file0 file1 : Stream) (bytes : List ℕ) : Type 0 where
  pub read : Consumes file0.told file1.told bytes
  pub whole : IsAtEnd file1.told ⊎ (MAX_FILE < length bytes)
  pub few : length bytes ≤ MAX_FILE + 1

-- the file was read to its end, and means this
pub record Opens {A : Type 0} (Means : A → List ℕ → Type 0) (file0 file1 : Stream) (a : A) :
    Type 0 where
  pub bytes : List ℕ
  pub read : Consumes file0.told file1.told bytes
  pub at_end : IsAtEnd file1.told
  pub means : Means a bytes

-- the file opens the node
abbrev pub OpensNode : Stream → Stream → Opening → Type 0
OpensNode = Opens IsNodeFile

-- the file opens the relay
abbrev pub OpensRelay : Stream → Stream → RelayFile → Type 0
OpensRelay = Opens IsRelayFile

-- the file opens the domains
abbrev pub OpensPath : Stream → Stream → List DomainKnows → Type 0
OpensPath = Opens IsPathFile

-- the file opens the wallet
abbrev pub OpensWallet : Stream → Stream → List WalletRow → Type 0
OpensWallet = Opens IsWalletFile

-- what was read of the file is refused
pub record IsRefused {A : Type 0} (means : Meaning A) (file0 file1 : Stream) (why : Refusal) :
    Type 0 where
  pub bytes : List ℕ
  pub read : IsRead file0 file1 bytes
  pub refused : means bytes ≡ Err why

-- the fault that a refusal is answered by
abbrev pub fault_of : Refusal → FileFault
fault_of (Line line cause) = Refused line cause
fault_of (Byte offset) = Malformed offset
fault_of refusals.NoMemory = fault.NoMemory

-- the file could not be read, or memory was refused for its bytes
abbrev pub IsUnread : Stream → Stream → FileFault → Type 0
IsUnread file0 file1 (Refused line cause) = ⊥
IsUnread file0 file1 (Malformed offset) = ⊥
IsUnread file0 file1 fault.ReadFault = TakesFew file0 file1
IsUnread file0 file1 fault.NoMemory = TakesFew file0 file1

-- why a file is not served: what was read is refused at a line or at a byte, or could not be read, or
-- memory was refused
abbrev pub FileFails : {A : Type 0} → Meaning A → Stream → Stream → FileFault → Type 0
FileFails means file0 file1 (Refused line cause) = IsRefused means file0 file1 (Line line cause)
FileFails means file0 file1 (Malformed offset) = IsRefused means file0 file1 (Byte offset)
FileFails means file0 file1 fault.ReadFault = TakesFew file0 file1
FileFails means file0 file1 fault.NoMemory = TakesFew file0 file1

-- what comes of a file: what stands for that which it means, or why there is none
abbrev pub FileGives : {A X : Type 0} → (A → List ℕ → Type 0) → Meaning A → (A → X → Type 0) →
    Stream → Stream → Result X FileFault → Type 0
FileGives {A} Means means StandsFor file0 file1 (Ok x) =
    (a : A) × Opens Means file0 file1 a × StandsFor a x
FileGives Means means StandsFor file0 file1 (Err fault) = FileFails means file0 file1 fault

-- the same of a node file
abbrev pub NodeFileGives : {X : Type 0} → (Opening → X → Type 0) → Stream → Stream →
    Result X FileFault → Type 0
NodeFileGives = FileGives IsNodeFile node_means

-- and of a relay file
abbrev pub RelayFileGives : {X : Type 0} → (RelayFile → X → Type 0) → Stream → Stream →
    Result X FileFault → Type 0
RelayFileGives = FileGives IsRelayFile relay_means

-- and of a path file
abbrev pub PathFileGives : {X : Type 0} → (List DomainKnows → X → Type 0) → Stream → Stream →
    Result X FileFault → Type 0
PathFileGives = FileGives IsPathFile path_means

-- and of a wallet file
abbrev pub WalletFileGives : {X : Type 0} → (List WalletRow → X → Type 0) → Stream → Stream →
    Result X FileFault → Type 0
WalletFileGives = FileGives IsWalletFile wallet_means

-- the file's count of faults rose where a fault of reading is answered, and else stayed
abbrev pub FaultHasCause : Stream → Stream → FileFault → Type 0
FaultHasCause file0 file1 (Refused line cause) = file1.faults ≡ file0.faults
FaultHasCause file0 file1 (Malformed offset) = file1.faults ≡ file0.faults
FaultHasCause file0 file1 fault.ReadFault = (file0.faults ≤ file1.faults) × HasFailed file0 file1
FaultHasCause file0 file1 fault.NoMemory = file1.faults ≡ file0.faults

-- the same of what comes of a file
abbrev pub FileHasCause : {A : Type 0} → Stream → Stream → Result A FileFault → Type 0
FileHasCause {A} file0 file1 (Ok x) = file1.faults ≡ file0.faults
FileHasCause {A} file0 file1 (Err fault) = FaultHasCause file0 file1 fault
