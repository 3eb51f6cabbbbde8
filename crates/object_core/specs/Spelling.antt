-- The bytes of a content, of an access list and of an operation, and which bytes begin with them.
use Rattle.std.specs.Prelude.{◌≡◌, ◌+◌, ℕ, List, [], ◌∷◌, ◌++◌, length, drop}
use Rattle.std.specs.Int.{w16, w32, to_be_bytes}
use Rattle.std.specs.List.{flat_map}
use Rattle.prin_term.specs.Principal.{spelling}
use Rattle.byte_fields.specs.Steps.{counted}
use Rattle.prin_term.specs.View.{Grant}
use Rattle.object_core.specs.Operation.{Op, Read, Write, SetList, Hold, Discard, Forget, Sweep, Withdraw}
use Rattle.object_core.specs.Operation.{IsContent, IsAccessList, FitsOperation}

-- a content, after its length
abbrev pub content_bytes : List ℕ → List ℕ
content_bytes content = counted w16 content

-- an entry of an access list: its rights, then who has them
abbrev pub grant_bytes : Grant → List ℕ
grant_bytes g = g.rights ∷ spelling g.who

-- the entries of an access list, after their count
abbrev pub list_bytes : List Grant → List ℕ
list_bytes list = length list ∷ flat_map grant_bytes list

-- the byte that names an operation
abbrev pub kind_of : Op → ℕ
kind_of Read = 1
kind_of (Write content) = 2
kind_of (SetList list) = 3
kind_of Hold = 4
kind_of (Discard digest) = 5
kind_of (Forget channel) = 6
kind_of Sweep = 7
kind_of (Withdraw issuer) = 8

-- what an operation says besides its name
abbrev pub op_fields : Op → List ℕ
op_fields Read = []
op_fields (Write content) = content_bytes content
op_fields (SetList list) = list_bytes list
op_fields Hold = []
op_fields (Discard digest) = digest
op_fields (Forget channel) = to_be_bytes w32 channel
op_fields Sweep = []
op_fields (Withdraw issuer) = to_be_bytes w32 issuer

-- ---- at an offset

-- the bytes from an offset on begin with this content, which is within the limit
pub record IsContentAt (bytes : List ℕ) (at : ℕ) (content : List ℕ) : Type 0 where
  pub text : (rest : List ℕ) × (drop at bytes ≡ content_bytes content ++ rest)
  pub limits : IsContent content

-- the bytes from an offset on begin with this list, which is within the limits
pub record IsListAt (bytes : List ℕ) (at : ℕ) (list : List Grant) : Type 0 where
  pub text : (rest : List ℕ) × (drop at bytes ≡ list_bytes list ++ rest)
  pub limits : IsAccessList list

-- the bytes from an offset on begin with the fields of this operation, which is within the limits
pub record IsOperationAt (bytes : List ℕ) (at : ℕ) (op : Op) : Type 0 where
  pub text : (rest : List ℕ) × (drop at bytes ≡ op_fields op ++ rest)
  pub limits : FitsOperation op

-- the same of an operation of this kind, whose fields end at this offset
abbrev pub IsOperationUpTo : List ℕ → (kind at : ℕ) → Op → ℕ → Type 0
IsOperationUpTo bytes kind at op end =
    (kind_of op ≡ kind) × IsOperationAt bytes at op × (end ≡ at + length (op_fields op))
