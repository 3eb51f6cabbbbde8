-- What a file means, and what comes of one that was read.
use Rattle.std.proofs.Common.{◌≡◌, ◌⊎◌, ℕ, ◌<◌, ◌≤◌, List, length, Some, Ok, Err, refl, sym, subst, arith, inl, inr}
use Rattle.std.specs.Prelude.{Option}
use Rattle.std.specs.Io.KnownBytes.{Consumes, IsAtEnd}
use Rattle.node_file.specs.Opening.{Opening}
use Rattle.node_commands.specs.declared.fault.FileFault.{FileFault}
use Rattle.node_commands.specs.Files.{FileFails, IsNodeFile, IsRead, IsPathFile, IsRelayFile, IsWalletFile, Meaning, Opens, OpensNode, fault_of, node_means, path_means, relay_means, wallet_means}
use Rattle.frame_link.specs.Streams.{Stream}
use Rattle.prin_text.specs.declared.lines.fault.FileCause.TheVariants.{Limit}
use Rattle.prin_text.specs.declared.lines.fault.FileFault.{FileFault as Refusal}
use Rattle.prin_text.specs.declared.lines.fault.FileFault.TheVariants as refusals
use Rattle.prin_text.specs.declared.lines.fault.FileFault.TheVariants.{Line, Byte}
use Rattle.node_file.specs.OpeningFile.{Means as NodeMeans, opening_in}
use Rattle.node_file.specs.RelayFile.{relay_in}
use Rattle.node_file.proofs.Whole.{meant_again}
use Rattle.relay_path.specs.PathFile.{path_in}
use Rattle.cred_pull.specs.WalletFile.{wallet_in}
use Rattle.node_file.specs.declared.limits.TheConstants.{MAX_FILE}
use Rattle.std.proofs.lemmas.Bool.{cases_lt, lt-ltb}
use Rattle.frame_link.proofs.Complete.{all_taken}

-- what a file tells is what was read to its end
pub told_is : (file0 file1 : Option (List ℕ)) (bytes read : List ℕ) → Consumes file0 file1 read → IsAtEnd file1 → file0 ≡ Some bytes → bytes ≡ read
told_is file0 file1 bytes read took at_end told = all_taken bytes read file1 (subst (λ (f : Option (List ℕ)). Consumes f file1 read) told took) at_end

-- what a file means is read of its bytes, which are not too many
pub record IsMeantBy {A : Type 0} (Means : A → List ℕ → Type 0) (means : Meaning A) : Type 0 where
  pub read : (bytes : List ℕ) (a : A) → Means a bytes → means bytes ≡ Ok a
  pub short : (bytes : List ℕ) (a : A) → Means a bytes → length bytes ≤ MAX_FILE

pub long_opening : (bytes : List ℕ) → MAX_FILE < length bytes → opening_in bytes ≡ Err (Line 0 Limit)
unfolding opening_in
long_opening bytes long = rw (lt-ltb MAX_FILE (length bytes) long) refl

pub long_relay : (bytes : List ℕ) → MAX_FILE < length bytes → relay_in bytes ≡ Err (Line 0 Limit)
unfolding relay_in
long_relay bytes long = rw (lt-ltb MAX_FILE (length bytes) long) refl

pub long_path : (bytes : List ℕ) → MAX_FILE < length bytes → path_in bytes ≡ Err (Line 0 Limit)
unfolding path_in
long_path bytes long = rw (lt-ltb MAX_FILE (length bytes) long) refl

pub long_wallet : (bytes : List ℕ) → MAX_FILE < length bytes → wallet_in bytes ≡ Err (Line 0 Limit)
unfolding wallet_in
long_wallet bytes long = rw (lt-ltb MAX_FILE (length bytes) long) refl

module _ {A : Type 0} (means : Meaning A) (long : (bytes : List ℕ) → MAX_FILE < length bytes → means bytes ≡ Err (Line 0 Limit)) where
  -- what means something is not too long
  short_by : (bytes : List ℕ) (a : A) → means bytes ≡ Ok a → length bytes ≤ MAX_FILE
  short_by bytes a is = elim (cases_lt MAX_FILE (length bytes)) [
    | inl much ↦ absurd (cc (is, long bytes much))
    | inr short ↦ omega (arith, short)
  ]

  -- so it was all that there was
  pub opens_by : (file0 file1 : Stream) (bytes : List ℕ) (a : A) → IsRead file0 file1 bytes → means bytes ≡ Ok a → Opens (λ b read. means read ≡ Ok b) file0 file1 a
  opens_by file0 file1 bytes a read is = elim read.whole [
    | inl at_end ↦ record { bytes = bytes; read = read.read; at_end = at_end; means = is }
    | inr much ↦ absurd (cc (is, long bytes much))
  ]

pub node_files : IsMeantBy IsNodeFile node_means
node_files = record { read = λ bytes o is. meant_again bytes o is.1 is.0; short = λ bytes o is. is.1 }

pub relay_files : IsMeantBy IsRelayFile relay_means
relay_files = record { read = λ bytes r is. is; short = short_by relay_means long_relay }

pub path_files : IsMeantBy IsPathFile path_means
path_files = record { read = λ bytes ds is. is; short = short_by path_means long_path }

pub wallet_files : IsMeantBy IsWalletFile wallet_means
wallet_files = record { read = λ bytes rows is. is; short = short_by wallet_means long_wallet }

-- bytes that are refused are a fault of the file
pub refusal_fails : {A : Type 0} (means : Meaning A) (file0 file1 : Stream) (bytes : List ℕ) (why : Refusal) (f : FileFault) → IsRead file0 file1 bytes → (why ≡ refusals.NoMemory) ⊎ (means bytes ≡ Err why) → f ≡ fault_of why → FileFails means file0 file1 f
refusal_fails means file0 file1 bytes why f read is same = subst (FileFails means file0 file1) (sym same) (by why is)
  where
    by : (w : Refusal) → (w ≡ refusals.NoMemory) ⊎ (means bytes ≡ Err w) → FileFails means file0 file1 (fault_of w)
    by (Line line cause) (inl none) = absurd (cc none)
    by (Line line cause) (inr e) = record { bytes = bytes; read = read; refused = e }
    by (Byte offset) (inl none) = absurd (cc none)
    by (Byte offset) (inr e) = record { bytes = bytes; read = read; refused = e }
    by refusals.NoMemory e = (bytes, read.read, read.few)

-- bytes that mean something were all there are
pub node_opens : (file0 file1 : Stream) (bytes : List ℕ) (o p : Opening) → IsRead file0 file1 bytes → NodeMeans o bytes → opening_in bytes ≡ Ok p → OpensNode file0 file1 o
node_opens file0 file1 bytes o p read spelled is =
    let short = short_by node_means long_opening bytes p is in
    elim read.whole [
      | inl at_end ↦ record { bytes = bytes; read = read.read; at_end = at_end; means = (spelled, short) }
      | inr long ↦ absurd (omega (arith, short, long))
    ]
