-- Principals, as mathematics has them, and the one spelling of each.
use Rattle.std.specs.Prelude.{ℕ, ◌+◌, ◌<◌, ◌^◌, max, List, [], ◌∷◌, ◌++◌, Bool, nat_lt, ◌&&◌}
use Rattle.std.specs.Int.{w32, to_be_bytes}

-- a key, a name, or a compound
pub data Principal : Type 0 where
  -- a key, by its number
  Key : ℕ → Principal
  -- a name, by its number
  Name : ℕ → Principal
  -- both together
  And : Principal → Principal → Principal
  -- the first, when it quotes the second
  Quoting : Principal → Principal → Principal
  -- the principal in the role of this number
  InRole : Principal → ℕ → Principal
  -- the first on behalf of the second
  For : Principal → Principal → Principal

-- the principals directly under p; a role is a number, and none of them
abbrev pub operands : Principal → List Principal
operands (Key k) = []
operands (Name n) = []
operands (And a b) = a ∷ b ∷ []
operands (Quoting a b) = a ∷ b ∷ []
operands (InRole a r) = a ∷ []
operands (For a b) = a ∷ b ∷ []

-- p and all that stands under it, in pre-order
abbrev pub subterms : Principal → List Principal
subterms (Key k) = Key k ∷ []
subterms (Name n) = Name n ∷ []
subterms (And a b) = And a b ∷ (subterms a ++ subterms b)
subterms (Quoting a b) = Quoting a b ∷ (subterms a ++ subterms b)
subterms (InRole a r) = InRole a r ∷ subterms a
subterms (For a b) = For a b ∷ (subterms a ++ subterms b)

-- how many nodes
abbrev pub node_count : Principal → ℕ
node_count (Key k) = 1
node_count (Name n) = 1
node_count (And a b) = 1 + (node_count a + node_count b)
node_count (Quoting a b) = 1 + (node_count a + node_count b)
node_count (InRole a r) = 1 + node_count a
node_count (For a b) = 1 + (node_count a + node_count b)

-- how many nodes on the longest way down
abbrev pub depth : Principal → ℕ
depth (Key k) = 1
depth (Name n) = 1
depth (And a b) = 1 + max (depth a) (depth b)
depth (Quoting a b) = 1 + max (depth a) (depth b)
depth (InRole a r) = 1 + depth a
depth (For a b) = 1 + max (depth a) (depth b)

-- its bytes, the one spelling
abbrev pub spelling : Principal → List ℕ
spelling (Key k) = 1 ∷ to_be_bytes w32 k
spelling (Name n) = 2 ∷ to_be_bytes w32 n
spelling (And a b) = 3 ∷ (spelling a ++ spelling b)
spelling (Quoting a b) = 4 ∷ (spelling a ++ spelling b)
spelling (InRole a r) = 5 ∷ (spelling a ++ to_be_bytes w32 r)
spelling (For a b) = 6 ∷ (spelling a ++ spelling b)

-- its numbers fit four bytes, so it has a spelling
abbrev pub HasSpelling : Principal → Type 0
HasSpelling (Key k) = k < 2 ^ 32
HasSpelling (Name n) = n < 2 ^ 32
HasSpelling (And a b) = HasSpelling a × HasSpelling b
HasSpelling (Quoting a b) = HasSpelling a × HasSpelling b
HasSpelling (InRole a r) = HasSpelling a × (r < 2 ^ 32)
HasSpelling (For a b) = HasSpelling a × HasSpelling b

-- the byte begins a term
abbrev pub is_tag : ℕ → Bool
is_tag b = nat_lt 0 b && nat_lt b 7
