-- Anchors by the numbers of a table, found through the pool of its principals.
use Rattle.std.proofs.Common.{◌≡◌, ◌⊎◌, inl, inr, ℕ, List, [], ◌∷◌, ◌++◌, Some, slice_get, length, sym, ap, subst, ◌∙◌, arith, Contains}
use Rattle.std.proofs.lemmas.List.Elements.{Contains-append_left, Contains-push}
use Rattle.std.proofs.lemmas.Option.{none-some, slice_get-get_or, slice_get_within, get_or_from_slice_get}
use Rattle.prin_term.specs.declared.term.Anchor.{Anchor}
use Rattle.prin_term.specs.Principal.{Principal, Key, Name}
use Rattle.taos_calculus.specs.declared.line.Node.{Node}
use Rattle.taos_calculus.specs.Tables.{IsNodeTable, named, principals_of, shape}
use Rattle.taos_calculus.proofs.Building.{slice_get-front, slice_get-back}
use Rattle.taos_calculus.proofs.Naming.{length-principals_of, named_reads}
use Rattle.term_pool.proofs.Interned.{pushed_at}
use Rattle.goal_search.specs.declared.search.Anchored.{Anchored}
use Rattle.goal_search.specs.NumberedRows.{IsNamed}
use Rattle.goal_search.specs.Searching.{AreAnchored, IsAnchored}
use Rattle.goal_search.proofs.ByNumber.{key_at, name_at}

module _ (nodes : List Node) (table : IsNodeTable nodes) (terms : List Principal) (same : principals_of nodes ≡ terms) where
  -- what stands at a number of the pool is the number's principal
  pub stands_named : (i : ℕ) (p : Principal) → slice_get terms i ≡ Some p → IsNamed nodes i p
  stands_named i p e =
      let f : slice_get (principals_of nodes) i ≡ Some p = subst (λ (xs : List Principal). slice_get xs i ≡ Some p) (sym same) e in
      (omega (arith, slice_get_within (principals_of nodes) i p f, length-principals_of nodes), get_or_from_slice_get (principals_of nodes) i p (Key 0) f)

  -- a node's principal stands in the pool at its number
  pub node_stands : (i : ℕ) (node : Node) → slice_get nodes i ≡ Some node → slice_get terms i ≡ Some (shape (named nodes) node)
  node_stands i node e =
      subst (λ (xs : List Principal). slice_get xs i ≡ Some (shape (named nodes) node)) same
      (slice_get-get_or (principals_of nodes) i (Key 0) (omega (arith, slice_get_within nodes i node e, length-principals_of nodes)) ∙
      ap (λ (q : Principal). Some q) (named_reads nodes table i node e))

  pub key_stands : (i k : ℕ) → slice_get terms i ≡ Some (Key k) → slice_get nodes i ≡ Some (Node.Key k)
  key_stands i k e = key_at nodes table i k (stands_named i (Key k) e)

  pub name_stands : (i k : ℕ) → slice_get terms i ≡ Some (Name k) → slice_get nodes i ≡ Some (Node.Name k)
  name_stands i k e = name_at nodes table i k (stands_named i (Name k) e)

-- no anchor has been looked at
pub anchored_none : (nodes : List Node) → AreAnchored nodes [] []
anchored_none nodes = record {
  sound = λ k link e. absurd (none-some link e);
  all = λ i c d anchor e f g. absurd (none-some anchor e);
}

module _ (nodes : List Node) (table : IsNodeTable nodes) (anchors : List Anchor) (links : List Anchored) (a : Anchor) (before : AreAnchored nodes anchors links) where
  still : (link : Anchored) → IsAnchored nodes anchors link → IsAnchored nodes (anchors ++ a ∷ []) link
  still link is = record {
    place = is.place;
    anchor = is.anchor;
    stands = slice_get-front anchors (a ∷ []) is.place is.anchor is.stands;
    key_is = is.key_is;
    name_is = is.name_is;
  }

  -- one more, whose key or name is not in the table
  pub anchored_skip : ((c d : ℕ) → slice_get nodes c ≡ Some (Node.Key a.key) → slice_get nodes d ≡ Some (Node.Name a.name) → ⊥) → AreAnchored nodes (anchors ++ a ∷ []) links
  anchored_skip none = record {
    sound = λ k link e. still link (before.sound k link e);
    all = λ i c d anchor e f g. go i c d anchor f g (pushed_at anchors a anchor i e);
  }
    where
      go : (i c d : ℕ) (anchor : Anchor) → slice_get nodes c ≡ Some (Node.Key anchor.key) → slice_get nodes d ≡ Some (Node.Name anchor.name) →
          (slice_get anchors i ≡ Some anchor) ⊎ ((i ≡ length anchors) × (a ≡ anchor)) → Contains links (record { key = c; name = d })
      go i c d anchor f g (inl e) = before.all i c d anchor e f g
      go i c d anchor f g (inr (at, q)) = absurd (none c d (rw (← q) at f) (rw (← q) at g))

  -- one more, by its numbers
  pub anchored_step : (link : Anchored) → slice_get nodes link.key ≡ Some (Node.Key a.key) → slice_get nodes link.name ≡ Some (Node.Name a.name) →
      AreAnchored nodes (anchors ++ a ∷ []) (links ++ link ∷ [])
  anchored_step link key name = record {
    sound = λ k x e. sound k x (pushed_at links link x k e);
    all = λ i c d anchor e f g. go i c d anchor f g (pushed_at anchors a anchor i e);
  }
    where
      sound : (k : ℕ) (x : Anchored) → (slice_get links k ≡ Some x) ⊎ ((k ≡ length links) × (link ≡ x)) → IsAnchored nodes (anchors ++ a ∷ []) x
      sound k x (inl e) = still x (before.sound k x e)
      sound k x (inr (at, q)) =
          subst (λ (y : Anchored). IsAnchored nodes (anchors ++ a ∷ []) y) q
          (record { place = length anchors; anchor = a; stands = slice_get-back anchors (a ∷ []) 0 (length anchors) (omega arith); key_is = key; name_is = name })

      go : (i c d : ℕ) (anchor : Anchor) → slice_get nodes c ≡ Some (Node.Key anchor.key) → slice_get nodes d ≡ Some (Node.Name anchor.name) →
          (slice_get anchors i ≡ Some anchor) ⊎ ((i ≡ length anchors) × (a ≡ anchor)) → Contains (links ++ link ∷ []) (record { key = c; name = d })
      go i c d anchor f g (inl e) = Contains-append_left links (link ∷ []) (record { key = c; name = d }) (before.all i c d anchor e f g)
      go i c d anchor f g (inr (at, q)) =
          let one : link.key ≡ c = table.distinct link.key c (Node.Key a.key) key (rw (← q) at f) in
          let two : link.name ≡ d = table.distinct link.name d (Node.Name a.name) name (rw (← q) at g) in
          let is : link ≡ record { key = c; name = d } = λ k. record { key = one k; name = two k } in
          subst (λ (y : Anchored). Contains (links ++ link ∷ []) y) is (Contains-push links link)
