-- A principal is looked for by the node that it would have.
use Rattle.std.proofs.Common.{◌≡◌, ◌≢◌, ℕ, ◌<◌, List, [], Option, None, Some, slice_get, get_or, length, refl, sym, ap, ap₂, ◌∙◌, Contains, lit<}
use Rattle.std.specs.Prelude.{MatchOption}
use Rattle.std.proofs.lemmas.List.Elements.{All-contains}
use Rattle.std.proofs.lemmas.Option.{slice_get-get_or, slice_get_within}
use Rattle.prin_term.specs.Kind.{Kind, And, Quoting, For, pair}
use Rattle.prin_term.specs.Principal.{Principal, InRole, operands}
use Rattle.taos_calculus.specs.declared.line.Node.{Node}
use Rattle.taos_calculus.specs.Tables.{IsNodeTable, OperandsBelow, named, shape}
use Rattle.taos_calculus.proofs.Naming.{named_reads, operands_below}
use Rattle.taos_calculus.proofs.Numbers.{Numbered, numbered_operands}
use Rattle.term_pool.specs.Interning.{node_pair}
use Rattle.term_pool.proofs.Interned.{shape_apart, shape-pair, pair_below}

module _ (nodes : List Node) (table : IsNodeTable nodes) where
  -- no number of the table is that of p
  abbrev pub Absent : Principal → Type 0
  Absent p = (i : ℕ) → i < length nodes → named nodes i ≢ p

  -- the number is that of p
  abbrev pub IsAt : Principal → ℕ → Type 0
  IsAt p i = (i < length nodes) × (named nodes i ≡ p)

  -- by its node
  pub sought : (node : Node) (p : Principal) → OperandsBelow (length nodes) node → shape (named nodes) node ≡ p → (r : Option ℕ) →
      MatchOption r ((i : ℕ) → slice_get nodes i ≡ Some node → ⊥) (λ i. slice_get nodes i ≡ Some node) → MatchOption r (Absent p) (IsAt p)
  sought node p low is (Some i) at = (slice_get_within nodes i node at, named_reads nodes table i node at ∙ is)
  sought node p low is None none = λ i h e.
      let x : Node = get_or nodes i (Node.Key 0) in
      let at : slice_get nodes i ≡ Some x = slice_get-get_or nodes i (Node.Key 0) h in
      let same : x ≡ node = shape_apart nodes table x node (operands_below i (length nodes) x (table.ordered i x at) h) low (sym (named_reads nodes table i x at) ∙ e ∙ sym is) in
      none i (at ∙ ap (λ (n : Node). Some n) same)

  -- what lacks an operand is not there
  pub absent_with : (p part : Principal) → Contains (operands p) part → Absent part → Absent p
  absent_with p part c none i h e =
      let (j, low, is) = All-contains (λ q. Numbered nodes table [] [] q) (operands p) part (numbered_operands nodes table [] [] p (i, h, e)) c in
      none j low is

  pub absent_first : (kind : Kind) (a b : Principal) → Absent a → Absent (pair kind a b)
  absent_first And a b none = absent_with (pair And a b) a (0, lit< tt, refl) none
  absent_first Quoting a b none = absent_with (pair Quoting a b) a (0, lit< tt, refl) none
  absent_first For a b none = absent_with (pair For a b) a (0, lit< tt, refl) none

  pub absent_second : (kind : Kind) (a b : Principal) → Absent b → Absent (pair kind a b)
  absent_second And a b none = absent_with (pair And a b) b (1, lit< tt, refl) none
  absent_second Quoting a b none = absent_with (pair Quoting a b) b (1, lit< tt, refl) none
  absent_second For a b none = absent_with (pair For a b) b (1, lit< tt, refl) none

  pub sought_pair : (kind : Kind) (a b : Principal) (x y : ℕ) (node : Node) → IsAt a x → IsAt b y → node ≡ node_pair kind x y → (r : Option ℕ) →
      MatchOption r ((i : ℕ) → slice_get nodes i ≡ Some node → ⊥) (λ i. slice_get nodes i ≡ Some node) → MatchOption r (Absent (pair kind a b)) (IsAt (pair kind a b))
  sought_pair kind a b x y node h k e r m =
      sought node (pair kind a b) (rw e (pair_below kind (length nodes) x y h.0 k.0))
      (ap (shape (named nodes)) e ∙ shape-pair (named nodes) kind x y ∙ ap₂ (pair kind) h.1 k.1) r m

  pub sought_role : (a : Principal) (role x : ℕ) → IsAt a x → (r : Option ℕ) →
      MatchOption r ((i : ℕ) → slice_get nodes i ≡ Some (Node.AsRole x role) → ⊥) (λ i. slice_get nodes i ≡ Some (Node.AsRole x role)) → MatchOption r (Absent (InRole a role)) (IsAt (InRole a role))
  sought_role a role x h r m = sought (Node.AsRole x role) (InRole a role) h.0 (ap (λ q. InRole q role) h.1) r m

  pub absent_base : (a : Principal) (role : ℕ) → Absent a → Absent (InRole a role)
  absent_base a role none = absent_with (InRole a role) a (0, lit< tt, refl) none
