-- The node of a number, by what the number's principal is.
use Rattle.std.proofs.Common.{◌≡◌, ℕ, List, slice_get, Some, sym, ◌∙◌, length, get_or}
use Rattle.std.proofs.lemmas.Option.{slice_get-get_or, slice_get_within}
use Rattle.prin_term.specs.Principal.{Principal, Key, Name, And, Quoting, InRole, For}
use Rattle.taos_calculus.specs.declared.line.Node.{Node}
use Rattle.taos_calculus.specs.Tables.{shape, named, OperandsBelow, IsNodeTable}
use Rattle.taos_calculus.proofs.Naming.{named_reads, operands_below}
use Rattle.goal_search.specs.NumberedRows.{IsNamed}

-- the node of a number whose principal is a compound of two
pub record Pair (nodes : List Node) (form : ℕ → ℕ → Node) (i : ℕ) (a b : Principal) : Type 0 where
  pub x : ℕ
  pub y : ℕ
  pub node : slice_get nodes i ≡ Some (form x y)
  pub left : IsNamed nodes x a
  pub right : IsNamed nodes y b

-- the node of a number whose principal is one in a role
pub record Holder (nodes : List Node) (i : ℕ) (a : Principal) (r : ℕ) : Type 0 where
  pub x : ℕ
  pub node : slice_get nodes i ≡ Some (Node.AsRole x r)
  pub holder : IsNamed nodes x a

module _ (nodes : List Node) (table : IsNodeTable nodes) where
  -- the node of a number, whatever it is
  record Standing (i : ℕ) (q : Principal) : Type 0 where
    node : Node
    stands : slice_get nodes i ≡ Some node
    is : shape (named nodes) node ≡ q
    below : OperandsBelow (length nodes) node

  standing : (i : ℕ) (q : Principal) → IsNamed nodes i q → Standing i q
  standing i q n =
      let node : Node = get_or nodes i (Node.Key 0) in
      let s : slice_get nodes i ≡ Some node = slice_get-get_or nodes i (Node.Key 0) n.0 in
      record {
        node = node;
        stands = s;
        is = sym (named_reads nodes table i node s) ∙ n.1;
        below = operands_below i (length nodes) node (table.ordered i node s) (slice_get_within nodes i node s);
      }

  pub and_at : (i : ℕ) (a b : Principal) → IsNamed nodes i (And a b) → Pair nodes Node.And i a b
  and_at i a b n = let s : Standing i (And a b) = standing i (And a b) n in go s.node s.stands s.is s.below
    where
      go : (node : Node) → slice_get nodes i ≡ Some node → shape (named nodes) node ≡ And a b → OperandsBelow (length nodes) node → Pair nodes Node.And i a b
      go (Node.And x y) s e h = record { x = x; y = y; node = s; left = (h.0, cc); right = (h.1, cc) }
      go node s e h = absurd (cc)

  pub quoting_at : (i : ℕ) (a b : Principal) → IsNamed nodes i (Quoting a b) → Pair nodes Node.Quote i a b
  quoting_at i a b n = let s : Standing i (Quoting a b) = standing i (Quoting a b) n in go s.node s.stands s.is s.below
    where
      go : (node : Node) → slice_get nodes i ≡ Some node → shape (named nodes) node ≡ Quoting a b → OperandsBelow (length nodes) node → Pair nodes Node.Quote i a b
      go (Node.Quote x y) s e h = record { x = x; y = y; node = s; left = (h.0, cc); right = (h.1, cc) }
      go node s e h = absurd (cc)

  pub for_at : (i : ℕ) (a b : Principal) → IsNamed nodes i (For a b) → Pair nodes Node.For i a b
  for_at i a b n = let s : Standing i (For a b) = standing i (For a b) n in go s.node s.stands s.is s.below
    where
      go : (node : Node) → slice_get nodes i ≡ Some node → shape (named nodes) node ≡ For a b → OperandsBelow (length nodes) node → Pair nodes Node.For i a b
      go (Node.For x y) s e h = record { x = x; y = y; node = s; left = (h.0, cc); right = (h.1, cc) }
      go node s e h = absurd (cc)

  pub role_at : (i : ℕ) (a : Principal) (r : ℕ) → IsNamed nodes i (InRole a r) → Holder nodes i a r
  role_at i a r n = let s : Standing i (InRole a r) = standing i (InRole a r) n in go s.node s.stands s.is s.below
    where
      go : (node : Node) → slice_get nodes i ≡ Some node → shape (named nodes) node ≡ InRole a r → OperandsBelow (length nodes) node → Holder nodes i a r
      go (Node.AsRole x m) s e h = let same_role : m ≡ r = cc in record { x = x; node = rw same_role at s; holder = (h, cc) }
      go node s e h = absurd (cc)

  pub key_at : (i k : ℕ) → IsNamed nodes i (Key k) → slice_get nodes i ≡ Some (Node.Key k)
  key_at i k n = let s : Standing i (Key k) = standing i (Key k) n in go s.node s.stands s.is
    where
      go : (node : Node) → slice_get nodes i ≡ Some node → shape (named nodes) node ≡ Key k → slice_get nodes i ≡ Some (Node.Key k)
      go (Node.Key j) s e = let q : j ≡ k = cc in rw q at s
      go node s e = absurd (cc)

  pub name_at : (i k : ℕ) → IsNamed nodes i (Name k) → slice_get nodes i ≡ Some (Node.Name k)
  name_at i k n = let s : Standing i (Name k) = standing i (Name k) n in go s.node s.stands s.is
    where
      go : (node : Node) → slice_get nodes i ≡ Some node → shape (named nodes) node ≡ Name k → slice_get nodes i ≡ Some (Node.Name k)
      go (Node.Name j) s e = let q : j ≡ k = cc in rw q at s
      go node s e = absurd (cc)
