-- What `mint` makes of its words: the certificate that they ask for, or the first that is refused.
use Rattle.std.specs.Prelude.{◌≡◌, ℕ, ◌*◌, ◌^◌, ◌<◌, ◌≤◌, pos, List, ◌++◌, length, codes, Option, Some, None, Ok}
use Rattle.std.specs.Io.KnownBytes.{Appends, Keeps}
use Rattle.hex.specs.Hex.{encode_lower}
use Rattle.jiff.specs.Words.{parse_timestamp}
use Rattle.frame_link.specs.Faults.{Rose}
use Rattle.keyed_seal.specs.Keys.{Entries, key_of}
use Rattle.prin_term.specs.Principal.{Principal}
use Rattle.prin_text.specs.Labels.{Labels}
use Rattle.prin_text.specs.Meaning.{IsTextWithin}
use Rattle.sealed_cert.specs.Seals.{OpensIssued}
use Rattle.stmt_codec.specs.Certificates.{Certificate, IsWithinLimits}
use Rattle.node_commands.specs.Words.{MintWords}
use Rattle.node_commands.specs.declared.minting.MintWord.{MintWord}
use Rattle.node_commands.specs.declared.minting.MintWord.TheVariants as word
use Rattle.node_commands.specs.declared.minting.MintStop.{MintStop}
use Rattle.node_commands.specs.declared.minting.MintStop.TheVariants as stop
use Rattle.node_commands.specs.declared.minting.MintEnd.{MintEnd}
use Rattle.node_commands.specs.declared.minting.MintEnd.TheVariants as ends

-- the text is an instant so many whole seconds behind the beginning of 1970
abbrev pub IsMoment : List ℕ → ℕ → Type 0
IsMoment text seconds =
    (parse_timestamp text ≡ Ok (pos (seconds * 1000000000))) × (seconds < 2 ^ 64)

-- the text is that of the beginning, or there is none and the beginning is 0
abbrev pub Begins : Option (List ℕ) → ℕ → Type 0
Begins None from = from ≡ 0
Begins (Some text) from = IsMoment text from

-- these are the words' beginning and end
abbrev pub AreTimes : MintWords → (from until : ℕ) → Type 0
AreTimes m from until = Begins m.from from × IsMoment m.until until

-- the words have no such
abbrev pub HasNoTimes : MintWords → Type 0
HasNoTimes m = (from until : ℕ) → Begins m.from from → IsMoment m.until until → ⊥

-- the text is no principal
abbrev pub IsNobody : Labels → List ℕ → Type 0
IsNobody labels text = (p : Principal) → IsTextWithin labels p text → ⊥

-- the text is that of who is quoted, or there is none and nobody is quoted
abbrev pub IsQuoted : Labels → Option (List ℕ) → Option Principal → Type 0
IsQuoted labels None None = Unit {0}
IsQuoted labels None (Some p) = ⊥
IsQuoted labels (Some text) None = ⊥
IsQuoted labels (Some text) (Some p) = IsTextWithin labels p text

-- there is a text, and it is no principal
abbrev pub IsBadQuote : Labels → Option (List ℕ) → Type 0
IsBadQuote labels None = ⊥
IsBadQuote labels (Some text) = IsNobody labels text

-- the words ask for this certificate
pub record AsksFor (labels : Labels) (m : MintWords) (c : Certificate) : Type 0 where
  pub issuer : c.issuer ≡ m.issuer
  pub serial : c.serial ≡ m.serial
  pub begins : Begins m.from c.from
  pub moment : IsMoment m.until c.until
  pub quoted : IsQuoted labels m.quoted c.quoted
  pub left : IsTextWithin labels c.left m.left
  pub right : IsTextWithin labels c.right m.right

-- the order in which words are looked at
abbrev pub rank : MintWord → ℕ
rank word.Issuer = 0
rank word.Time = 1
rank word.Quoted = 2
rank word.Left = 3
rank word.Right = 4
rank word.Large = 5

module _ (issuers : Entries) (labels : Labels) (m : MintWords) where
  -- what is wrong where a word is refused
  abbrev pub IsWrong : MintWord → Type 0
  IsWrong word.Issuer = key_of issuers m.issuer ≡ None
  IsWrong word.Time = HasNoTimes m
  IsWrong word.Quoted = IsBadQuote labels m.quoted
  IsWrong word.Left = IsNobody labels m.left
  IsWrong word.Right = IsNobody labels m.right
  IsWrong word.Large = (c : Certificate) × AsksFor labels m c × ¬ IsWithinLimits c

  -- the word is wrong, and none that is looked at before it
  pub record IsFirstWrong (w : MintWord) : Type 0 where
    pub wrong : IsWrong w
    pub right_before : (v : MintWord) → rank v < rank w → IsWrong v → ⊥

  -- the bytes are the certificate that the words ask for, and open under its issuer's seal
  pub record IsMinted (bytes : List ℕ) : Type 0 where
    pub certificate : Certificate
    pub asked : AsksFor labels m certificate
    pub opens : OpensIssued issuers bytes certificate

  -- why there is none: a word is refused, or memory
  abbrev pub IsStopped : MintStop → Type 0
  IsStopped (stop.Wrong w) = IsFirstWrong w
  IsStopped stop.NoMemory = Unit {0}

-- the line of a certificate: its bytes in lower case hex
abbrev pub minted_line : List ℕ → List ℕ
minted_line bytes = encode_lower bytes ++ codes "\n"

-- What is printed, by how it ends: the line of the certificate, or a proper front of it.
abbrev pub Mints : Entries → Labels → MintWords → Option (List ℕ) → Option (List ℕ) → MintEnd →
    Type 0
Mints issuers labels m out0 out1 ends.Done =
    (bytes : List ℕ) × IsMinted issuers labels m bytes × Appends out0 out1 (minted_line bytes)
Mints issuers labels m out0 out1 (ends.Refused w) =
    IsFirstWrong issuers labels m w × Keeps out0 out1
Mints issuers labels m out0 out1 ends.WriteFault =
    (bytes : List ℕ) × IsMinted issuers labels m bytes
    × ((part more : List ℕ) × (minted_line bytes ≡ part ++ more) × (0 < length more)
    × Appends out0 out1 part)
Mints issuers labels m out0 out1 ends.NoMemory = Keeps out0 out1

-- the output's count rose where a fault of writing is answered, and else stayed
abbrev pub MintCauses : ℕ → ℕ → MintEnd → Type 0
MintCauses out0 out1 ends.Done = out1 ≡ out0
MintCauses out0 out1 (ends.Refused w) = out1 ≡ out0
MintCauses out0 out1 ends.WriteFault = (out0 ≤ out1) × Rose out0 out1
MintCauses out0 out1 ends.NoMemory = out1 ≡ out0
