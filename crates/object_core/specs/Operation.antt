-- Operations, as mathematics has them.
use Rattle.std.specs.Prelude.{ℕ, ◌≤◌, ◌<◌, ◌^◌, List, length, All}
use Rattle.prin_term.specs.declared.limits.TheConstants.{ENTRY_NODES}
use Rattle.prin_term.specs.Refusal.{FitsLimits}
use Rattle.byte_fields.specs.Steps.{IsByte, AreBytes}
use Rattle.prin_term.specs.View.{Grant}
use Rattle.object_core.specs.declared.limits.TheConstants.{MAX_CONTENT, MAX_ENTRIES, MAX_RIGHTS}

-- what is asked of a guarded object, or at it of the node
pub data Op : Type 0 where
  -- gives the content
  Read : Op
  -- replaces the content
  Write : (content : List ℕ) → Op
  -- replaces the access list
  SetList : (list : List Grant) → Op
  -- holds the certificates that are presented, in common
  Hold : Op
  -- removes the certificates of a digest, those of every channel and those held in common
  Discard : (digest : List ℕ) → Op
  -- removes what is kept of a channel
  Forget : (channel : ℕ) → Op
  -- removes what has expired
  Sweep : Op
  -- withdraws an issuer: none of its certificates is held from then on
  Withdraw : (issuer : ℕ) → Op

-- the right that an operation needs: 1 read, 2 write, 4 control, 8 manage
abbrev pub right_of : Op → ℕ
right_of Read = 1
right_of (Write content) = 2
right_of (SetList list) = 4
right_of Hold = 8
right_of (Discard digest) = 8
right_of (Forget channel) = 8
right_of Sweep = 8
right_of (Withdraw issuer) = 8

-- ---- limits

-- bytes, not more than a content may have
abbrev pub IsContent : List ℕ → Type 0
IsContent content = (length content ≤ MAX_CONTENT) × All IsByte content

-- an entry has a right, and its term is within the limits of a list
pub record FitsGrant (g : Grant) : Type 0 where
  pub rights : (1 ≤ g.rights) × (g.rights ≤ MAX_RIGHTS)
  pub who : FitsLimits ENTRY_NODES g.who

-- entries that fit, not more than a list may have
abbrev pub IsAccessList : List Grant → Type 0
IsAccessList list = (length list ≤ MAX_ENTRIES) × All FitsGrant list

-- 32 bytes
abbrev pub IsDigest : List ℕ → Type 0
IsDigest digest = AreBytes 32 digest

-- what the operation carries is within the limits
abbrev pub FitsOperation : Op → Type 0
FitsOperation Read = Unit {0}
FitsOperation (Write content) = IsContent content
FitsOperation (SetList list) = IsAccessList list
FitsOperation Hold = Unit {0}
FitsOperation (Discard digest) = IsDigest digest
FitsOperation (Forget channel) = channel < 2 ^ 32
FitsOperation Sweep = Unit {0}
FitsOperation (Withdraw issuer) = issuer < 2 ^ 32
