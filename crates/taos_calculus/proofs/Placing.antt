-- A table of nodes, node by node.
use Rattle.std.proofs.Common.{◌≡◌, ◌↔◌, inl, inr, ℕ, ◌+◌, ◌<◌, Bool, true, false, List, Option, Some, None, slice_get, length, take, get_or, refl, sym, ◌∙◌, subst, arith, Contains, IfSome, IsTrue}
use Rattle.std.proofs.lemmas.List.{length-take-le, get_or-take}
use Rattle.std.proofs.lemmas.Option.{none-some, same_Some, slice_get_within, slice_get-get_or, get_or_from_slice_get}
use Rattle.std.proofs.lemmas.Bool.{cases_order, cases_lt}
use Rattle.taos_calculus.specs.declared.line.Node.{Node}
use Rattle.taos_calculus.specs.Tables.{IsNodeTable}
use Rattle.taos_calculus.specs.Walking.{IsPlaced}

at_some : (o : Option Node) (node : Node) (b : Bool) (P : Node → Type 0) → o ≡ Some node → IfSome o (λ n. IsTrue b ↔ P n) → IsTrue b ↔ P node
at_some None node b P e h = absurd (none-some node e)
at_some (Some n) node b P e h = subst (λ (m : Node). IsTrue b ↔ P m) (same_Some n node e) h

module _ (nodes : List Node) where
  -- what stands before a place is in the front
  in_take : (i j : ℕ) (node : Node) → i < j → j < length nodes → slice_get nodes i ≡ Some node → Contains (take j nodes) node
  in_take i j node h fits e =
      (i, omega (arith, length-take-le j nodes (omega arith)), get_or-take j nodes i node h ∙ get_or_from_slice_get nodes i node node e)

  pub table_placed : IsNodeTable nodes → (k : ℕ) (node : Node) → slice_get nodes k ≡ Some node → IsPlaced nodes k node
  table_placed table k node e = record {
    ordered = table.ordered k node e;
    first = λ c.
        let fits : k < length nodes = slice_get_within nodes k node e in
        let low : c.0 < k = omega (arith, c.1, length-take-le k nodes (omega arith)) in
        let at : get_or nodes c.0 node ≡ node = sym (get_or-take k nodes c.0 node low) ∙ c.2 in
        let stands : slice_get nodes c.0 ≡ Some node = slice_get-get_or nodes c.0 node (omega arith) ∙ (cc) in
        let same : c.0 ≡ k = table.distinct c.0 k node stands e in
        omega arith;
  }

  pub placed_table : ((k : ℕ) (node : Node) → k < length nodes → slice_get nodes k ≡ Some node → IsPlaced nodes k node) → IsNodeTable nodes
  placed_table placed = record {
    ordered = λ i node e. (placed i node (slice_get_within nodes i node e) e).ordered;
    distinct = λ i j node e f. elim (cases_order i j) [
      | inl same ↦ same
      | inr (inl below) ↦ absurd ((placed j node (slice_get_within nodes j node f) f).first (in_take i j node below (slice_get_within nodes j node f) e))
      | inr (inr above) ↦ absurd ((placed i node (slice_get_within nodes i node e) e).first (in_take j i node above (slice_get_within nodes i node e) f))
    ];
  }

  pub placed_more : (i : ℕ) → ((k : ℕ) (node : Node) → k < i → slice_get nodes k ≡ Some node → IsPlaced nodes k node) →
      IfSome (slice_get nodes i) (λ node. IsTrue true ↔ IsPlaced nodes i node) →
      (k : ℕ) (node : Node) → k < i + 1 → slice_get nodes k ≡ Some node → IsPlaced nodes k node
  placed_more i before here k node h e = elim (cases_lt k i) [
    | inl below ↦ before k node below e
    | inr above ↦
        let same : i ≡ k = omega arith in
        (at_some (slice_get nodes k) node true (IsPlaced nodes k) e
        (subst (λ (n : ℕ). IfSome (slice_get nodes n) (λ m. IsTrue true ↔ IsPlaced nodes n m)) same here)).0 refl
  ]

  pub not_placed : (i : ℕ) → i < length nodes → IfSome (slice_get nodes i) (λ node. IsTrue false ↔ IsPlaced nodes i node) → IsNodeTable nodes → false ≡ true
  not_placed i fits here table =
      let e : slice_get nodes i ≡ Some (get_or nodes i (Node.Key 0)) = slice_get-get_or nodes i (Node.Key 0) fits in
      (at_some (slice_get nodes i) (get_or nodes i (Node.Key 0)) false (IsPlaced nodes i) e here).1 (table_placed table i (get_or nodes i (Node.Key 0)) e)
