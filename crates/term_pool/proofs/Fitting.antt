-- The terms of lines over a table are members of it, so a table of them is no larger.
use Rattle.std.proofs.Common.{◌≡◌, ℕ, ◌<◌, ◌≤◌, List, [], ◌∷◌, ◌++◌, length, refl, sym, ap, ◌∙◌, arith, All, Contains, lit<}
use Rattle.std.specs.List.{flat_map}
use Rattle.std.proofs.lemmas.List.Elements.{All-nil, All-cons, All-append, All-weaker, All-contains, All-head, All-tail}
use Rattle.prin_term.specs.declared.term.Anchor.{Anchor}
use Rattle.prin_term.specs.Principal.{Principal, Key, Name, And, Quoting, InRole, For, subterms, operands}
use Rattle.taos_calculus.specs.Rules.{Claim}
use Rattle.taos_calculus.specs.declared.line.Node.{Node}
use Rattle.taos_calculus.specs.declared.line.Fact.{Fact}
use Rattle.taos_calculus.specs.declared.line.Line.{Line}
use Rattle.taos_calculus.specs.Canonical.{post_order, terms_of}
use Rattle.stmt_codec.specs.Distinct.{met}
use Rattle.taos_calculus.specs.Tables.{IsNodeTable, IsBelow, judgement, named, principals_of}
use Rattle.taos_calculus.proofs.Induction.{All-one, All-two}
use Rattle.taos_calculus.proofs.Naming.{length-principals_of}
use Rattle.stmt_codec.proofs.Firsts.{met-append}
use Rattle.taos_calculus.proofs.Numbers.{Numbered, numbered_operands, number_member}
use Rattle.term_pool.specs.Carrying.{FactFits, CarriesLines}
use Rattle.term_pool.proofs.Few.{met_few, post_in}

All-flat_map : {X Y : Type 0} (P : Y → Type 0) (f : X → List Y) (xs : List X) → All (λ x. All P (f x)) xs → All P (flat_map f xs)
All-flat_map P f [] all = All-nil P
All-flat_map P f (x ∷ xs) all =
    All-append P (f x) (flat_map f xs) (All-head (λ y. All P (f y)) x xs all) (All-flat_map P f xs (All-tail (λ y. All P (f y)) x xs all))

-- with a principal of a table its parts are members of it
module _ (nodes : List Node) (table : IsNodeTable nodes) (anchors : List Anchor) (claims : List Claim) where
  abbrev Has : Principal → Type 0
  Has q = Numbered nodes table anchors claims q

  operands_have : (q : Principal) → Has q → All Has (operands q)
  operands_have q u = numbered_operands nodes table anchors claims q u

  pub parts_have : (q : Principal) → Has q → All Has (subterms q)
  parts_have (Key k) u = All-one Has (Key k) u
  parts_have (Name n) u = All-one Has (Name n) u
  parts_have (And a b) u =
      All-cons Has (And a b) (subterms a ++ subterms b) u
      (All-append Has (subterms a) (subterms b) (parts_have a (operands_have (And a b) u 0 a (lit< tt))) (parts_have b (operands_have (And a b) u 1 b (lit< tt))))
  parts_have (Quoting a b) u =
      All-cons Has (Quoting a b) (subterms a ++ subterms b) u
      (All-append Has (subterms a) (subterms b) (parts_have a (operands_have (Quoting a b) u 0 a (lit< tt))) (parts_have b (operands_have (Quoting a b) u 1 b (lit< tt))))
  parts_have (For a b) u =
      All-cons Has (For a b) (subterms a ++ subterms b) u
      (All-append Has (subterms a) (subterms b) (parts_have a (operands_have (For a b) u 0 a (lit< tt))) (parts_have b (operands_have (For a b) u 1 b (lit< tt))))
  parts_have (InRole a r) u =
      All-cons Has (InRole a r) (subterms a) u (parts_have a (operands_have (InRole a r) u 0 a (lit< tt)))

module _ (nodes : List Node) (table : IsNodeTable nodes) where
  abbrev In : Principal → Type 0
  In q = Contains (principals_of nodes) q

  pub posts_in : (i : ℕ) → i < length nodes → All In (post_order (named nodes i))
  posts_in i h =
      let q : Principal = named nodes i in
      All-weaker (Contains (subterms q)) In (λ p c. number_member nodes table [] [] p (All-contains (Has nodes table [] []) (subterms q) p (parts_have nodes table [] [] q (i, h, refl)) c)) (post_order q) (post_in q)

  abbrev PostIn : Principal → Type 0
  PostIn q = All In (post_order q)

  terms_in : (f : Fact) → IsBelow (length nodes) f → All PostIn (terms_of (judgement (named nodes) f))
  terms_in (Fact.Speaks a b) h = All-two PostIn (named nodes a) (named nodes b) (posts_in a h.0) (posts_in b h.1)
  terms_in (Fact.Says w a b) h =
      All-cons PostIn (named nodes w) (named nodes a ∷ named nodes b ∷ []) (posts_in w h.0) (All-two PostIn (named nodes a) (named nodes b) (posts_in a h.1) (posts_in b h.2))

  lines_in : (lines : List Line) → All (λ (l : Line). IsBelow (length nodes) l.fact) lines →
      All In (flat_map post_order (flat_map (λ (l : Line). terms_of (judgement (named nodes) l.fact)) lines))
  lines_in lines below =
      All-flat_map In post_order (flat_map (λ (l : Line). terms_of (judgement (named nodes) l.fact)) lines)
      (All-flat_map PostIn (λ (l : Line). terms_of (judgement (named nodes) l.fact)) lines
      (All-weaker (λ (l : Line). IsBelow (length nodes) l.fact) (λ (l : Line). All PostIn (terms_of (judgement (named nodes) l.fact))) (λ l h. terms_in l.fact h) lines below))

  -- the next line's terms have room
  pub next_fits : (used : List ℕ) (lines : List Line) (new : List Node) (out : List Line) (f : Fact) → length nodes ≤ 1296 → All (λ (l : Line). IsBelow (length nodes) l.fact) lines →
      IsBelow (length nodes) f → CarriesLines nodes used lines new out → FactFits nodes new f
  next_fits used lines new out f few below h c =
      let qs : List Principal = flat_map post_order (flat_map (λ (l : Line). terms_of (judgement (named nodes) l.fact)) lines) in
      let ps : List Principal = flat_map post_order (terms_of (judgement (named nodes) f)) in
      let all : All In (qs ++ ps) = All-append In qs ps (lines_in lines below) (All-flat_map In post_order (terms_of (judgement (named nodes) f)) (terms_in f h)) in
      let is : met (principals_of new) ps ≡ met [] (qs ++ ps) = ap (λ (t : List Principal). met t ps) c.grown ∙ sym (met-append [] qs ps) in
      omega (arith, ap length is, met_few [] (qs ++ ps) (principals_of nodes) all, length-principals_of nodes, few)

  -- the table of all lines is no larger
  pub carried_fits : (used : List ℕ) (lines : List Line) (new : List Node) (out : List Line) → length nodes ≤ 1296 → All (λ (l : Line). IsBelow (length nodes) l.fact) lines →
      CarriesLines nodes used lines new out → length new ≤ 1296
  carried_fits used lines new out few below c =
      let qs : List Principal = flat_map post_order (flat_map (λ (l : Line). terms_of (judgement (named nodes) l.fact)) lines) in
      omega (arith, ap length c.grown, met_few [] qs (principals_of nodes) (lines_in lines below), length-principals_of nodes, length-principals_of new, few)
