-- What the status tells, by what was done.
use Rattle.std.proofs.Common.{◌≡◌, ◌≢◌, ℕ, ◌-◌, ◌^◌, ◌<◌, Bool, true, false, List, refl, sym, ap, subst, ◌∙◌, arith, inl, inr}
use Rattle.std.specs.Prelude.{String, not, nat_lt, ◌==◌, ◌&&◌, ◌||◌}
use Rattle.std.specs.declared.alloc.Global.{Global}
use Rattle.frame_link.specs.declared.outcome.Outcome.{Outcome}
use Rattle.frame_link.specs.declared.outcome.Outcome.TheVariants.{End, Truncated, TooLong, ReadFault, WriteFault, ClockFault, Spent, NoMemory}
use Rattle.node_file.specs.Opening.{Opening}
use Rattle.node_file.specs.RelayFile.{RelayFile}
use Rattle.prin_text.specs.declared.lines.fault.FileFault.TheVariants.{Line, Byte}
use Rattle.frame_link.specs.Faults.{Rose}
use Rattle.frame_link.specs.Served.{FaultCounts, CountsCause, IsComplete, line}
use Rattle.frame_link.specs.Streams.{Stream, stream}
use Rattle.taos_node.specs.Audit.{counts}
use Rattle.node_commands.specs.declared.check.CheckEnd.{CheckEnd}
use Rattle.node_commands.specs.declared.check.CheckEnd.TheVariants as ends
use Rattle.node_commands.specs.declared.fault.FileFault.{FileFault}
use Rattle.node_commands.specs.declared.fault.FileFault.TheVariants as fault
use Rattle.node_commands.specs.declared.fault.FileFault.TheVariants.{Malformed, Refused}
use Rattle.node_commands.specs.declared.finding.Finding.TheVariants.{Granted, Refused as Wrong}
use Rattle.node_commands.specs.Words.{IsMeaning, Mean, MintWords, RunWords, Task, Run, Check, Relay, Mint, Serve, RelayServe, Audit, Drill, Path, Wallet, task_of, AuditBytes, Replay}
use Rattle.node_commands.specs.declared.words.wanted.Wanted.{Wanted}
use Rattle.cred_pull.specs.WalletFile.{WalletRow}
use Rattle.node_commands.specs.Files.{FaultHasCause, FileFails, IsNodeFile, IsPathFile, IsRelayFile, IsSteady, IsWalletFile, Meaning, OpensNode, OpensRelay, OpensWallet, node_means, path_means, relay_means, wallet_means}
use Rattle.taos_node.specs.Deciding.{FileDecides}
use Rattle.taos_node.specs.Calls.{LaneUsed, Touched, touched}
use Rattle.std.proofs.KnownBytes.{Keeps-refl}
use Rattle.taos_node.specs.declared.ending.Ending.TheVariants.{File}
use Rattle.taos_node.specs.Command.{IsCommand, FileFailsFor, LeavesRest, ReadsClock, ServesDoors, counts_of}
use Rattle.taos_node.specs.Status.{EndsWithoutLanes, FileDecidesFor, EndsWell, EndsWellFor, ChecksWell, MintsWell, IsCaused, TellsFaults, IsStatus}
use Rattle.node_commands.specs.Findings.{CheckCauses}
use Rattle.node_commands.specs.Minting.{MintCauses}
use Rattle.node_commands.specs.declared.minting.MintEnd.{MintEnd}
use Rattle.node_commands.specs.declared.minting.MintEnd.TheVariants as made
use Rattle.std.specs.Prelude.{Option, Some, None, map, string_bytes}
use Rattle.node_commands.proofs.Meanings.{one_meaning}
use Rattle.taos_node.proofs.Commands.{decided_opened, decided_fault, not_refused, still}
use Rattle.node_commands.proofs.Meant.{IsMeantBy, node_files, path_files, relay_files, wallet_files}
use Rattle.taos_node.proofs.Stopped.{checked_status, file_status, minted_status, served_status}

pub stayed : {P : Type 0} (a b : ℕ) → b ≡ a → a < b → P
stayed a b same rose = absurd (omega (arith, same, rose))

-- one of these is none of the others
pub apart : (is : ℕ → Bool) {n other : ℕ} → is n ≡ true → is other ≡ false → n ≢ other
apart is at_one at_other e = absurd (cc (at_one, at_other, e))

-- each fault is answered, by its status
pub record AllTold (before after : Touched) (status : ℕ) : Type 0 where
  pub file : before.file.faults < after.file.faults → status ≡ 3
  pub input : before.input.faults < after.input.faults → status ≡ 3
  pub output : before.output.faults < after.output.faults → status ≡ 4
  pub clock : before.clock.faults < after.clock.faults → status ≡ 5

pub streams_told : (before after : Touched) (status : ℕ) → AllTold before after status → TellsFaults before after status
streams_told before after status t = record { file = t.file; input = t.input; output = t.output }

-- ---- words

-- what holds of the command that words mean holds of every command that they mean
pub of_command : (P : Task → Type 0) (words : List (String Global)) (a b : Task) → Mean words a → Mean words b → P a → P b
of_command P words a b is other h = subst P (one_meaning (map string_bytes words) a b is other) h

-- no words are two commands
pub two_commands : {P : Type 0} (words : List (String Global)) (a b : Task) → Mean words a → Mean words b → (a ≡ b → ⊥) → P
two_commands words a b is other apart = absurd (apart (one_meaning (map string_bytes words) a b is other))

-- What the status tells of the command that words mean: the file decides, it comes to its end, and each
-- fault is told.
pub commanded : (words : List (String Global)) (task : Task) (before after : Touched) (status : ℕ) → Mean words task → status ≢ 1 → FileDecidesFor task before.file after.file status → EndsWellFor task before after status →
    IsCaused before after status → AllTold before after status → (status ≡ 5 → ReadsClock words) → (status ≡ 9 → ServesDoors words) → IsStatus words before after status
commanded words task before after status is one file well causes told clock_of door_of = record {
  usage = record { usage = λ e. absurd (one e); no_command = λ none. absurd (none (task, is)) };
  file = λ other o. of_command (λ w. FileDecidesFor w before.file after.file status) words task other is o file;
  well = λ other o. of_command (λ w. EndsWellFor w before after status) words task other is o well;
  causes = causes;
  told = streams_told before after status told;
  clock = λ _. told.clock;
  clock_of = clock_of;
  door_of = door_of;
}

-- what was found is what the words mean
pub meant : (words : List (String Global)) {found : Option Wanted} {some wanted : Wanted} → IsMeaning words found → found ≡ Some some → some ≡ wanted → Mean words (task_of wanted)
meant words means is same = subst (λ w. Mean words (task_of w)) same (subst (IsMeaning words) is means)

-- nothing was found in words that mean nothing
pub none_meant : (words : List (String Global)) (found : Option Wanted) → IsMeaning words found → found ≡ None → IsCommand words → ⊥
none_meant words found means none command = subst (IsMeaning words) none means command.0 command.1

lacks_decides : {A : Type 0} (Means : A → List ℕ → Type 0) (t : Touched) → FileDecides Means t.file t.file 6
lacks_decides Means t = record { opens = λ bytes a told is e. omega (arith, e); refuses = λ bytes told none steady. inr refl }

unread_decides : (wanted : Task) (t : Touched) → FileDecidesFor wanted t.file t.file 6
unread_decides (Run n) t = lacks_decides IsNodeFile t
unread_decides Check t = lacks_decides IsNodeFile t
unread_decides (Relay n) t = lacks_decides IsRelayFile t
unread_decides (Mint m) t = lacks_decides IsRelayFile t
unread_decides (Serve l) t = lacks_decides IsNodeFile t
unread_decides (RelayServe l) t = lacks_decides IsRelayFile t
unread_decides (Audit n) t = lacks_decides IsNodeFile t
unread_decides (Drill d) t = λ e. omega (arith, e)
unread_decides (Path p) t = lacks_decides IsPathFile t
unread_decides (Wallet n) t = lacks_decides IsWalletFile t
unread_decides (AuditBytes n) t = lacks_decides IsNodeFile t
unread_decides Replay t = lacks_decides IsNodeFile t

unread_well : (wanted : Task) (t : Touched) → EndsWellFor wanted t t 6
unread_well (Run r) t = λ sc bytes o told opens fs whole within few sf si so. inr refl
unread_well Check t = λ bytes o told opens sf si so. inr (inr refl)
unread_well (Relay n) t = λ bytes r told opens fs whole within few sf si so. inr refl
unread_well (Mint m) t = λ bytes r told opens sf so. inr (inr refl)
unread_well (Serve l) t = tt
unread_well (RelayServe l) t = tt
unread_well (Audit n) t = λ sc bytes o told opens fs whole within few sf si so. inr refl
unread_well (Drill d) t = λ so. inr refl
unread_well (Path p) t = λ bytes ds told opens sf si so. inr (inr refl)
unread_well (Wallet n) t = λ bytes rows told opens fs whole within few sf si so. inr refl
unread_well (AuditBytes n) t = λ sc bytes o told opens fs whole within few sf si so. inr refl
unread_well Replay t = λ bytes o told opens sf si so. inr (inr refl)

-- memory was refused before the words were read, and nothing was touched
pub unread : (words : List (String Global)) (t : Touched) → IsStatus words t t 6
unread words t = record {
  usage = record { usage = λ e. absurd (omega (arith, e)); no_command = λ _. inr refl };
  file = λ wanted is. unread_decides wanted t;
  well = λ wanted is. unread_well wanted t;
  causes = record { read = λ e. absurd (omega (arith, e)); write = λ e. absurd (omega (arith, e)); clock = λ e. absurd (omega (arith, e)) };
  told = record {
    file = stayed t.file.faults t.file.faults refl;
    input = stayed t.input.faults t.input.faults refl;
    output = stayed t.output.faults t.output.faults refl;
  };
  clock = λ _. stayed t.clock.faults t.clock.faults refl;
  clock_of = λ e. absurd (omega (arith, e));
  door_of = λ e. absurd (omega (arith, e));
}

-- words that are no command, where nothing was touched
pub unused : (words : List (String Global)) (t : Touched) → (IsCommand words → ⊥) → IsStatus words t t 1
unused words t none = record {
  usage = record { usage = λ _. none; no_command = λ _. inl refl };
  file = λ wanted is. absurd (none (wanted, is));
  well = λ wanted is. absurd (none (wanted, is));
  causes = record { read = λ e. absurd (omega (arith, e)); write = λ e. absurd (omega (arith, e)); clock = λ e. absurd (omega (arith, e)) };
  told = record {
    file = stayed t.file.faults t.file.faults refl;
    input = stayed t.input.faults t.input.faults refl;
    output = stayed t.output.faults t.output.faults refl;
  };
  clock = λ _. stayed t.clock.faults t.clock.faults refl;
  clock_of = λ e. absurd (omega (arith, e));
  door_of = λ e. absurd (omega (arith, e));
}

-- ---- a file that is not served

module _ (before after : Touched) where
  -- a file that means something and was steady wanted memory
  pub lacked : {A : Type 0} (Means : A → List ℕ → Type 0) (means : Meaning A) (laws : IsMeantBy Means means) (f : FileFault) → FileFails means before.file after.file f → FaultHasCause before.file after.file f →
      (bytes : List ℕ) (a : A) → before.file.told ≡ Some bytes → Means a bytes → IsSteady before.file after.file → file_status f ≡ 6
  lacked Means means laws (Refused line cause) bad why bytes a told is sf = absurd (not_refused Means means laws before.file after.file bytes a (Line line cause) bad told is)
  lacked Means means laws (Malformed offset) bad why bytes a told is sf = absurd (not_refused Means means laws before.file after.file bytes a (Byte offset) bad told is)
  lacked Means means laws fault.ReadFault bad why bytes a told is sf = absurd (still before.file.faults after.file.faults sf why.1)
  lacked Means means laws fault.NoMemory bad why bytes a told is sf = refl

  decides_unserved : (wanted : Task) (f : FileFault) → FileFailsFor wanted before.file after.file f → FaultHasCause before.file after.file f → FileDecidesFor wanted before.file after.file (file_status f)
  decides_unserved (Run n) f bad why = decided_fault IsNodeFile node_means node_files before.file after.file f bad why
  decides_unserved Check f bad why = decided_fault IsNodeFile node_means node_files before.file after.file f bad why
  decides_unserved (Relay n) f bad why = decided_fault IsRelayFile relay_means relay_files before.file after.file f bad why
  decides_unserved (Mint m) f bad why = decided_fault IsRelayFile relay_means relay_files before.file after.file f bad why
  decides_unserved (Serve l) f bad why = decided_fault IsNodeFile node_means node_files before.file after.file f bad why
  decides_unserved (RelayServe l) f bad why = decided_fault IsRelayFile relay_means relay_files before.file after.file f bad why
  decides_unserved (Audit n) f bad why = decided_fault IsNodeFile node_means node_files before.file after.file f bad why
  decides_unserved (Drill d) f bad why = absurd bad
  decides_unserved (Path p) f bad why = decided_fault IsPathFile path_means path_files before.file after.file f bad why
  decides_unserved (Wallet n) f bad why = decided_fault IsWalletFile wallet_means wallet_files before.file after.file f bad why
  decides_unserved (AuditBytes n) f bad why = decided_fault IsNodeFile node_means node_files before.file after.file f bad why
  decides_unserved Replay f bad why = decided_fault IsNodeFile node_means node_files before.file after.file f bad why

  well_unserved : (wanted : Task) (f : FileFault) → FileFailsFor wanted before.file after.file f → FaultHasCause before.file after.file f → EndsWellFor wanted before after (file_status f)
  well_unserved (Run r) f bad why = λ clock. λ bytes a told is frames whole within few sf si so. inr (lacked IsNodeFile node_means node_files f bad why bytes a told is sf)
  well_unserved Check f bad why = λ bytes a told is sf si so. inr (inr (lacked IsNodeFile node_means node_files f bad why bytes a told is sf))
  well_unserved (Relay n) f bad why = λ bytes a told is frames whole within few sf si so. inr (lacked IsRelayFile relay_means relay_files f bad why bytes a told is sf)
  well_unserved (Mint m) f bad why = λ bytes a told is sf so. inr (inr (lacked IsRelayFile relay_means relay_files f bad why bytes a told is sf))
  well_unserved (Serve l) f bad why = tt
  well_unserved (RelayServe l) f bad why = tt
  well_unserved (Audit n) f bad why = λ clock. λ bytes a told is frames whole within few sf si so. inr (lacked IsNodeFile node_means node_files f bad why bytes a told is sf)
  well_unserved (Drill d) f bad why = absurd bad
  well_unserved (Path p) f bad why = λ bytes a told is sf si so. inr (inr (lacked IsPathFile path_means path_files f bad why bytes a told is sf))
  well_unserved (Wallet n) f bad why = λ bytes a told is frames whole within few sf si so. inr (lacked IsWalletFile wallet_means wallet_files f bad why bytes a told is sf)
  well_unserved (AuditBytes n) f bad why = λ clock. λ bytes a told is frames whole within few sf si so. inr (lacked IsNodeFile node_means node_files f bad why bytes a told is sf)
  well_unserved Replay f bad why = λ bytes a told is sf si so. inr (inr (lacked IsNodeFile node_means node_files f bad why bytes a told is sf))

  pub not_caused : (status : ℕ) → status ≢ 3 → status ≢ 4 → status ≢ 5 → IsCaused before after status
  not_caused status r w c = record { read = λ e. absurd (r e); write = λ e. absurd (w e); clock = λ e. absurd (c e) }

  file_caused : (f : FileFault) → FaultHasCause before.file after.file f → IsCaused before after (file_status f)
  file_caused (Refused line why) cause = not_caused 2 (λ e. omega (arith, e)) (λ e. omega (arith, e)) (λ e. omega (arith, e))
  file_caused (Malformed offset) cause = not_caused 2 (λ e. omega (arith, e)) (λ e. omega (arith, e)) (λ e. omega (arith, e))
  file_caused fault.ReadFault cause = record { read = λ e. inl cause.1; write = λ e. absurd (omega (arith, e)); clock = λ e. absurd (omega (arith, e)) }
  file_caused fault.NoMemory cause = record { read = λ e. absurd (omega (arith, e)); write = λ e. absurd (omega (arith, e)); clock = λ e. absurd (omega (arith, e)) }

  file_told : (f : FileFault) → FaultHasCause before.file after.file f → before.file.faults < after.file.faults → file_status f ≡ 3
  file_told (Malformed offset) cause rose = stayed before.file.faults after.file.faults cause rose
  file_told (Refused line why) cause rose = stayed before.file.faults after.file.faults cause rose
  file_told fault.ReadFault cause rose = refl
  file_told fault.NoMemory cause rose = stayed before.file.faults after.file.faults cause rose

-- it ends by one of these
abbrev pub is_file_status : ℕ → Bool
is_file_status n = (n == 2) || ((n == 3) || (n == 6))

pub file_ends : (f : FileFault) → is_file_status (file_status f) ≡ true
file_ends (Malformed offset) = refl
file_ends (Refused line cause) = refl
file_ends fault.ReadFault = refl
file_ends fault.NoMemory = refl

-- the command's file was not served, and nothing else was touched
module _ (words : List (String Global)) (before after : Touched) (wanted : Task) (f : FileFault) (command : Mean words wanted) (cause : FaultHasCause before.file after.file f) where
  pub unserved : FileFailsFor wanted before.file after.file f → after.input.faults ≡ before.input.faults → after.output.faults ≡ before.output.faults → after.clock.faults ≡ before.clock.faults → IsStatus words before after (file_status f)
  unserved bad input output clock =
      commanded words wanted before after (file_status f) command (apart is_file_status (file_ends f) refl) (decides_unserved before after wanted f bad cause) (well_unserved before after wanted f bad cause) (file_caused before after f cause)
      (record {
        file = file_told before after f cause;
        input = stayed before.input.faults after.input.faults input;
        output = stayed before.output.faults after.output.faults output;
        clock = stayed before.clock.faults after.clock.faults clock;
      })
      (λ e. absurd (apart is_file_status (file_ends f) refl e)) (λ e. absurd (apart is_file_status (file_ends f) refl e))

-- nothing but the file was touched
pub rests : (file0 file1 input output : Stream) (lane : LaneUsed) → LeavesRest (touched file0 input output lane) (touched file1 input output lane)
rests file0 file1 input output lane = record { input = Keeps-refl input.told; output = Keeps-refl output.told; lane = record { clock = refl; link = refl; fetch = refl } }

-- what is done where the command's file is refused, and what the status tells
pub refuses : (task : Task) (file0 file1 input output : Stream) (f : FileFault) → FileFailsFor task file0 file1 f → FaultHasCause file0 file1 f → EndsWithoutLanes task (touched file0 input output) (touched file1 input output) (File f)
refuses task file0 file1 input output f bad cause = λ lane words is. (
  ((task, is, bad), rests file0 file1 input output lane),
  unserved words (touched file0 input output lane) (touched file1 input output lane) task f is cause bad refl refl refl,
)

-- ---- which count rose, by the status

pub same_counts : (i o c i' o' c' : ℕ) → i' ≡ i → o' ≡ o → c' ≡ c → counts i' o' c' ≡ counts i o c
same_counts i o c i' o' c' input output clock = rw (input, output, clock) refl

pub all_same : (before after : Touched) → after.input.faults ≡ before.input.faults → after.output.faults ≡ before.output.faults → after.clock.faults ≡ before.clock.faults → counts_of after ≡ counts_of before
all_same before after = same_counts before.input.faults before.output.faults before.clock.faults after.input.faults after.output.faults after.clock.faults

-- no words, no file, no fault and no door has this status
abbrev pub is_plain : ℕ → Bool
is_plain n = (n == 0) || (nat_lt 5 n && not (n == 9))

-- where no fault is answered no count rose; else one did, and each other stayed
pub data Rises (words : List (String Global)) (before after : Touched) (status : ℕ) : Type 0 where
  stays : is_plain status ≡ true → counts_of after ≡ counts_of before → Rises words before after status
  by_read : status ≡ 3 → Rose before.input.faults after.input.faults → after.output.faults ≡ before.output.faults → after.clock.faults ≡ before.clock.faults → Rises words before after status
  by_write : status ≡ 4 → Rose before.output.faults after.output.faults → after.input.faults ≡ before.input.faults → after.clock.faults ≡ before.clock.faults → Rises words before after status
  by_clock : ReadsClock words → status ≡ 5 → Rose before.clock.faults after.clock.faults → after.input.faults ≡ before.input.faults → after.output.faults ≡ before.output.faults → Rises words before after status

module _ {words : List (String Global)} {before after : Touched} {status : ℕ} where
  -- such a status is none of words, of a file, and of a door
  apart_from : (n : ℕ) → is_plain n ≡ false → n ≢ 3 → n ≢ 4 → n ≢ 5 → Rises words before after status → status ≢ n
  apart_from n other r w c (stays is same) e = apart is_plain is other e
  apart_from n other r w c (by_read is rose o k) e = r (sym e ∙ is)
  apart_from n other r w c (by_write is rose i k) e = w (sym e ∙ is)
  apart_from n other r w c (by_clock reads is rose i o) e = c (sym e ∙ is)

  rises_caused : Rises words before after status → IsCaused before after status
  rises_caused (stays is same) = record { read = λ e. absurd (apart is_plain is refl e); write = λ e. absurd (apart is_plain is refl e); clock = λ e. absurd (apart is_plain is refl e) }
  rises_caused (by_read is rose o k) = record { read = λ e. inr rose; write = λ e. absurd (omega (arith, e, is)); clock = λ e. absurd (omega (arith, e, is)) }
  rises_caused (by_write is rose i k) = record { read = λ e. absurd (omega (arith, e, is)); write = λ e. rose; clock = λ e. absurd (omega (arith, e, is)) }
  rises_caused (by_clock reads is rose i o) = record { read = λ e. absurd (omega (arith, e, is)); write = λ e. absurd (omega (arith, e, is)); clock = λ e. rose }

  rises_told : after.file.faults ≡ before.file.faults → Rises words before after status → AllTold before after status
  rises_told same r = record { file = stayed before.file.faults after.file.faults same; input = λ up. input up r; output = λ up. output up r; clock = λ up. clocked up r }
    where
      input : before.input.faults < after.input.faults → Rises words before after status → status ≡ 3
      input up (stays is h) = stayed before.input.faults after.input.faults (ap (λ (f : FaultCounts). f.input) h) up
      input up (by_read is rose o k) = is
      input up (by_write is rose i k) = stayed before.input.faults after.input.faults i up
      input up (by_clock reads is rose i o) = stayed before.input.faults after.input.faults i up

      output : before.output.faults < after.output.faults → Rises words before after status → status ≡ 4
      output up (stays is h) = stayed before.output.faults after.output.faults (ap (λ (f : FaultCounts). f.output) h) up
      output up (by_read is rose o k) = stayed before.output.faults after.output.faults o up
      output up (by_write is rose i k) = is
      output up (by_clock reads is rose i o) = stayed before.output.faults after.output.faults o up

      clocked : before.clock.faults < after.clock.faults → Rises words before after status → status ≡ 5
      clocked up (stays is h) = stayed before.clock.faults after.clock.faults (ap (λ (f : FaultCounts). f.clock) h) up
      clocked up (by_read is rose o k) = stayed before.clock.faults after.clock.faults k up
      clocked up (by_write is rose i k) = stayed before.clock.faults after.clock.faults k up
      clocked up (by_clock reads is rose i o) = is

  rises_read : Rises words before after status → status ≡ 5 → ReadsClock words
  rises_read (stays is same) e = absurd (apart is_plain is refl e)
  rises_read (by_read is rose o k) e = absurd (omega (arith, e, is))
  rises_read (by_write is rose i k) e = absurd (omega (arith, e, is))
  rises_read (by_clock reads is rose i o) e = reads

  -- what the status tells of a command whose file was no longer read
  pub ended : (task : Task) → Mean words task → (status ≢ 2 → FileDecidesFor task before.file after.file status) → EndsWellFor task before after status → after.file.faults ≡ before.file.faults → Rises words before after status → IsStatus words before after status
  ended task is file well same r =
      commanded words task before after status is (apart_from 1 refl (λ e. omega (arith, e)) (λ e. omega (arith, e)) (λ e. omega (arith, e)) r)
      (file (apart_from 2 refl (λ e. omega (arith, e)) (λ e. omega (arith, e)) (λ e. omega (arith, e)) r)) well (rises_caused r) (rises_told same r) (rises_read r)
      (λ e. absurd (apart_from 9 refl (λ e. omega (arith, e)) (λ e. omega (arith, e)) (λ e. omega (arith, e)) r e))

-- ---- a connection that was served

-- nothing else ends it early, by what its input has and by the counts
abbrev pub IsCompleteBy : ℕ → Option (List ℕ) → FaultCounts → FaultCounts → Outcome → Type 0
IsCompleteBy limit input before after outcome =
    IsComplete (λ (n : ℕ). n) limit (line (stream input before.input) (stream None before.output) before.clock) (line (stream None after.input) (stream None after.output) after.clock) outcome

module _ (before after : Touched) where
  -- how it ended had its cause
  abbrev Causes : Outcome → Type 0
  Causes outcome = CountsCause (counts_of before) (counts_of after) outcome

  ends_well : {A : Type 0} (Means : A → List ℕ → Type 0) (most c0 c1 : ℕ) (outcome : Outcome) →
      IsCompleteBy most before.input.told (counts before.input.faults before.output.faults c0) (counts after.input.faults after.output.faults c1) outcome →
      (c1 ≡ c0) × (c0 < 2 ^ 64 - 1) → EndsWell Means most before after (served_status outcome)
  ends_well Means most c0 c1 outcome complete sc bytes a told is frames whole within few sf si so =
      let same = same_counts before.input.faults before.output.faults c0 after.input.faults after.output.faults c1 si.0 so.0 sc.0 in
      elim (complete frames whole within few (record { same = same; input = si.1; output = so.1; clock = sc.1 })) [
        | inl ended ↦ inl (ap served_status ended)
        | inr want ↦ inr (ap served_status want)
      ]

  pub serving_rises : (words : List (String Global)) (outcome : Outcome) → (outcome ≡ ClockFault → ReadsClock words) → Causes outcome → Rises words before after (served_status outcome)
  serving_rises words ReadFault reads h = by_read refl h.1 h.2 h.3
  serving_rises words WriteFault reads h = by_write refl h.1 h.2 h.3
  serving_rises words ClockFault reads h = by_clock (reads refl) refl h.1 h.2 h.3
  serving_rises words (End n) reads h = stays refl h
  serving_rises words (Truncated n) reads h = stays refl h
  serving_rises words (TooLong n) reads h = stays refl h
  serving_rises words (Spent n) reads h = stays refl h
  serving_rises words NoMemory reads h = stays refl h

-- the causes of a service without a clock are those with a clock that stood still
clockless : (i o i1 o1 c c1 : ℕ) (outcome : Outcome) → CountsCause (counts i o 0) (counts i1 o1 0) outcome → outcome ≢ ClockFault → c1 ≡ c → CountsCause (counts i o c) (counts i1 o1 c1) outcome
clockless i o i1 o1 c c1 ReadFault h other same = (h.0, h.1, h.2, same)
clockless i o i1 o1 c c1 WriteFault h other same = (h.0, h.1, h.2, same)
clockless i o i1 o1 c c1 ClockFault h other same = absurd (other refl)
clockless i o i1 o1 c c1 (End n) h other same = same_counts i o c i1 o1 c1 (ap (λ (f : FaultCounts). f.input) h) (ap (λ (f : FaultCounts). f.output) h) same
clockless i o i1 o1 c c1 (Truncated n) h other same = same_counts i o c i1 o1 c1 (ap (λ (f : FaultCounts). f.input) h) (ap (λ (f : FaultCounts). f.output) h) same
clockless i o i1 o1 c c1 (TooLong n) h other same = same_counts i o c i1 o1 c1 (ap (λ (f : FaultCounts). f.input) h) (ap (λ (f : FaultCounts). f.output) h) same
clockless i o i1 o1 c c1 (Spent n) h other same = same_counts i o c i1 o1 c1 (ap (λ (f : FaultCounts). f.input) h) (ap (λ (f : FaultCounts). f.output) h) same
clockless i o i1 o1 c c1 NoMemory h other same = same_counts i o c i1 o1 c1 (ap (λ (f : FaultCounts). f.input) h) (ap (λ (f : FaultCounts). f.output) h) same

module _ (words : List (String Global)) (r : RunWords) (before after : Touched) (outcome : Outcome) (same : after.file.faults ≡ before.file.faults) where
  pub served : (o : Opening) → Mean words (Run r) → OpensNode before.file after.file o → IsCompleteBy r.frames before.input.told (counts_of before) (counts_of after) outcome →
      Causes before after outcome → IsStatus words before after (served_status outcome)
  served o run opens complete h =
      ended (Run r) run (decided_opened IsNodeFile node_means node_files before.file after.file o (served_status outcome) opens)
      (λ clock. ends_well before after IsNodeFile r.frames before.clock.faults after.clock.faults outcome complete clock) same (serving_rises before after words outcome (λ _. inl (r, run)) h)

module _ (words : List (String Global)) (frames : ℕ) (before after : Touched) (outcome : Outcome) (same : after.file.faults ≡ before.file.faults) where
  pub relayed : (r : RelayFile) → Mean words (Relay frames) → OpensRelay before.file after.file r →
      IsCompleteBy frames before.input.told (counts before.input.faults before.output.faults 0) (counts after.input.faults after.output.faults 0) outcome →
      CountsCause (counts before.input.faults before.output.faults 0) (counts after.input.faults after.output.faults 0) outcome → outcome ≢ ClockFault → after.clock.faults ≡ before.clock.faults →
      IsStatus words before after (served_status outcome)
  relayed r relay opens complete h no_clock clock =
      let causes = clockless before.input.faults before.output.faults after.input.faults after.output.faults before.clock.faults after.clock.faults outcome h no_clock clock in
      ended (Relay frames) relay (decided_opened IsRelayFile relay_means relay_files before.file after.file r (served_status outcome) opens)
      (ends_well before after IsRelayFile frames 0 0 outcome complete (refl, omega arith)) same (serving_rises before after words outcome (λ e. absurd (no_clock e)) causes)

  -- the same of a wallet
  pub walleted : (rows : List WalletRow) → Mean words (Wallet frames) → OpensWallet before.file after.file rows →
      IsCompleteBy frames before.input.told (counts before.input.faults before.output.faults 0) (counts after.input.faults after.output.faults 0) outcome →
      CountsCause (counts before.input.faults before.output.faults 0) (counts after.input.faults after.output.faults 0) outcome → outcome ≢ ClockFault → after.clock.faults ≡ before.clock.faults →
      IsStatus words before after (served_status outcome)
  walleted rows wallet opens complete h no_clock clock =
      let causes = clockless before.input.faults before.output.faults after.input.faults after.output.faults before.clock.faults after.clock.faults outcome h no_clock clock in
      ended (Wallet frames) wallet (decided_opened IsWalletFile wallet_means wallet_files before.file after.file rows (served_status outcome) opens)
      (ends_well before after IsWalletFile frames 0 0 outcome complete (refl, omega arith)) same (serving_rises before after words outcome (λ e. absurd (no_clock e)) causes)

-- ---- a request and its reply that were looked over

module _ (before after : Touched) where
  check_rises : (words : List (String Global)) (end : CheckEnd) → after.clock.faults ≡ before.clock.faults → CheckCauses before.input.faults after.input.faults before.output.faults after.output.faults end → Rises words before after (checked_status end)
  check_rises words (ends.Done (Granted e l c)) clock h = stays refl (all_same before after h.0 h.1 clock)
  check_rises words (ends.Done (Wrong w)) clock h = stays refl (all_same before after h.0 h.1 clock)
  check_rises words ends.ReadFault clock h = by_read refl h.1 h.2 clock
  check_rises words ends.WriteFault clock h = by_write refl h.2 h.0 clock
  check_rises words ends.NoMemory clock h = stays refl (all_same before after h.0 h.1 clock)

  check_well : (end : CheckEnd) → CheckCauses before.input.faults after.input.faults before.output.faults after.output.faults end → ChecksWell before after (checked_status end)
  check_well (ends.Done (Granted e l c)) h bytes o told is sf si so = inl refl
  check_well (ends.Done (Wrong w)) h bytes o told is sf si so = inr (inl refl)
  check_well ends.ReadFault h bytes o told is sf si so = absurd (still before.input.faults after.input.faults si h.1)
  check_well ends.WriteFault h bytes o told is sf si so = absurd (still before.output.faults after.output.faults so h.2)
  check_well ends.NoMemory h bytes o told is sf si so = inr (inr refl)

pub checked : (words : List (String Global)) (before after : Touched) (o : Opening) (end : CheckEnd) → Mean words Check → OpensNode before.file after.file o →
    after.file.faults ≡ before.file.faults → after.clock.faults ≡ before.clock.faults → CheckCauses before.input.faults after.input.faults before.output.faults after.output.faults end →
    IsStatus words before after (checked_status end)
checked words before after o end check opens same clock h =
    ended Check check (decided_opened IsNodeFile node_means node_files before.file after.file o (checked_status end) opens) (check_well before after end h) same (check_rises before after words end clock h)

-- ---- a certificate that was made, or refused

module _ (before after : Touched) where
  mint_rises : (words : List (String Global)) (end : MintEnd) → after.input.faults ≡ before.input.faults → after.clock.faults ≡ before.clock.faults → MintCauses before.output.faults after.output.faults end → Rises words before after (minted_status end)
  mint_rises words made.Done input clock h = stays refl (all_same before after input h clock)
  mint_rises words (made.Refused w) input clock h = stays refl (all_same before after input h clock)
  mint_rises words made.WriteFault input clock h = by_write refl h.1 input clock
  mint_rises words made.NoMemory input clock h = stays refl (all_same before after input h clock)

  mint_well : (end : MintEnd) → MintCauses before.output.faults after.output.faults end → MintsWell before after (minted_status end)
  mint_well made.Done h bytes r told is sf so = inl refl
  mint_well (made.Refused w) h bytes r told is sf so = inr (inl refl)
  mint_well made.WriteFault h bytes r told is sf so = absurd (still before.output.faults after.output.faults so h.1)
  mint_well made.NoMemory h bytes r told is sf so = inr (inr refl)

pub minted : (words : List (String Global)) (m : MintWords) (before after : Touched) (r : RelayFile) (end : MintEnd) → Mean words (Mint m) → OpensRelay before.file after.file r →
    after.file.faults ≡ before.file.faults → after.input.faults ≡ before.input.faults → after.clock.faults ≡ before.clock.faults → MintCauses before.output.faults after.output.faults end →
    IsStatus words before after (minted_status end)
minted words m before after r end mint opens same input clock h =
    ended (Mint m) mint (decided_opened IsRelayFile relay_means relay_files before.file after.file r (minted_status end) opens) (mint_well before after end h) same (mint_rises before after words end input clock h)
