-- Which terms bytes spell, and where bytes that spell none are refused, without reading them from
-- left to right.
use Rattle.std.specs.Prelude.{◌≡◌, ◌⊎◌, ℕ, ◌+◌, ◌-◌, ◌<◌, ◌≤◌, max, List, [], ◌∷◌, ◌++◌, length}
use Rattle.std.specs.Prelude.{drop, false, true}
use Rattle.prin_term.specs.declared.fault.TermFault.{TermFault}
use Rattle.prin_term.specs.declared.fault.TermFault.TheVariants.{Tag, Short, TooDeep, TooLarge}
use Rattle.prin_term.specs.declared.fault.TermFault.TheVariants.{NoMemory}
use Rattle.prin_term.specs.declared.limits.TheConstants.{MAX_DEPTH}
use Rattle.prin_term.specs.Principal.{Principal, node_count, depth, spelling, HasSpelling, is_tag}
use Rattle.prin_term.specs.Kind.{Kind, tag_of}

-- a term within the limits, of at most so many nodes
pub record FitsLimits (nodes : ℕ) (term : Principal) : Type 0 where
  pub numbers : HasSpelling term
  pub nodes_fit : node_count term ≤ nodes
  pub depth_fits : depth term ≤ MAX_DEPTH

-- The bytes from an offset on begin with the spelling of this term, which is within the limits.
pub record IsTermAt (nodes : ℕ) (bytes : List ℕ) (at : ℕ) (term : Principal) : Type 0 where
  pub text : (rest : List ℕ) × (drop at bytes ≡ spelling term ++ rest)
  pub limits : FitsLimits nodes term

-- The beginning of a term, up to a place where a tag is due: nothing yet, or the tag of a compound
-- and the beginning of its first operand, or its tag, its first operand, and the beginning of the
-- second.
pub data Beginning : Type 0 where
  -- nothing yet
  Here : Beginning
  -- the tag of a compound of two, and the beginning of its first operand
  InFirst : Kind → Beginning → Beginning
  -- its tag, its first operand, and the beginning of the second
  InSecond : Kind → Principal → Beginning → Beginning
  -- the tag of a role, and the beginning of its principal
  InBase : Beginning → Beginning

-- the bytes of a beginning
abbrev pub before : Beginning → List ℕ
before Here = []
before (InFirst kind p) = tag_of kind ∷ before p
before (InSecond kind a p) = tag_of kind ∷ (spelling a ++ before p)
before (InBase p) = 5 ∷ before p

-- how many tags stand in a beginning
abbrev pub count_of : Beginning → ℕ
count_of Here = 0
count_of (InFirst kind p) = 1 + count_of p
count_of (InSecond kind a p) = 1 + (node_count a + count_of p)
count_of (InBase p) = 1 + count_of p

-- the depth of the deepest tag in a beginning
abbrev pub height_of : Beginning → ℕ
height_of Here = 0
height_of (InFirst kind p) = 1 + height_of p
height_of (InSecond kind a p) = 1 + max (depth a) (height_of p)
height_of (InBase p) = 1 + height_of p

-- how many compounds are open after a beginning, so that the tag due there is one deeper
abbrev pub level_of : Beginning → ℕ
level_of Here = 0
level_of (InFirst kind p) = 1 + level_of p
level_of (InSecond kind a p) = 1 + level_of p
level_of (InBase p) = 1 + level_of p

-- the numbers of the terms in a beginning fit four bytes
abbrev pub NumbersFit : Beginning → Type 0
NumbersFit Here = Unit {0}
NumbersFit (InFirst kind p) = NumbersFit p
NumbersFit (InSecond kind a p) = HasSpelling a × NumbersFit p
NumbersFit (InBase p) = NumbersFit p

-- a tag stands at the front of the bytes
abbrev pub BeginsWithTag : List ℕ → Type 0
BeginsWithTag [] = ⊥
BeginsWithTag (b ∷ rest) = is_tag b ≡ true

-- a byte that is no tag stands at the front of the bytes
abbrev pub BeginsWithOther : List ℕ → Type 0
BeginsWithOther [] = ⊥
BeginsWithOther (b ∷ rest) = is_tag b ≡ false

-- The bytes end where a tag is due, or in the number of an atom or of a role, with so many levels
-- and nodes left.
pub data EndsInTerm (levels nodes : ℕ) (bytes : List ℕ) : Type 0 where
  at_tag : bytes ≡ [] → EndsInTerm levels nodes bytes
  in_atom : (tag : ℕ) (front : List ℕ) → (tag ≡ 1) ⊎ (tag ≡ 2) → 0 < levels → 0 < nodes
      → length front < 4 → bytes ≡ tag ∷ front → EndsInTerm levels nodes bytes
  in_role : (base : Principal) (front : List ℕ) → HasSpelling base → depth base < levels
      → node_count base < nodes → length front < 4 → bytes ≡ 5 ∷ (spelling base ++ front)
      → EndsInTerm levels nodes bytes

-- what is wrong where a tag is due, at an offset, with so many levels and nodes left
abbrev pub IsWrongAt : ℕ → ℕ → List ℕ → ℕ → TermFault → Type 0
IsWrongAt levels nodes bytes offset (Tag o) = BeginsWithOther bytes × (o ≡ offset)
IsWrongAt levels nodes bytes offset (TooDeep o) = BeginsWithTag bytes × (levels ≡ 0) × (o ≡ offset)
IsWrongAt levels nodes bytes offset (TooLarge o) =
    BeginsWithTag bytes × (0 < levels) × (nodes ≡ 0) × (o ≡ offset)
IsWrongAt levels nodes bytes offset (Short o) =
    EndsInTerm levels nodes bytes × (o ≡ offset + length bytes)
IsWrongAt levels nodes bytes offset NoMemory = ⊥

-- The bytes are refused with this fault: they begin as a term does, within the limits, up to a
-- place where a tag is due and what stands there is wrong. The first of the bytes is at an offset.
pub record IsRefused
    (levels nodes : ℕ) (bytes : List ℕ) (offset : ℕ) (fault : TermFault) : Type 0 where
  pub beginning : Beginning
  pub rest : List ℕ
  pub text : bytes ≡ before beginning ++ rest
  pub numbers : NumbersFit beginning
  pub height_fits : height_of beginning ≤ levels
  pub count_fits : count_of beginning ≤ nodes
  pub wrong : IsWrongAt (levels - level_of beginning) (nodes - count_of beginning) rest
      (offset + length (before beginning)) fault
