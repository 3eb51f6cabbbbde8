-- Parts whose table is canonical are the parts of the lines that they mean, and so their bytes are the one spelling of these.
use Rattle.std.proofs.Common.{◌≡◌, ℕ, ◌<◌, List, [], ◌∷◌, Some, slice_get, length, map, get_or, refl, sym, ap, ap₂, ◌∙◌, subst, arith, All}
use Rattle.std.proofs.lemmas.List.{ext_get_or, get_or-map, length-map}
use Rattle.std.proofs.lemmas.List.Sums.{position_or_len_is}
use Rattle.std.proofs.lemmas.List.Elements.{All-head, All-tail}
use Rattle.std.proofs.lemmas.Option.{slice_get-get_or}
use Rattle.std.proofs.lemmas.Bool.{false_from_ne_true}
use Rattle.prin_term.specs.Principal.{Principal, Key}
use Rattle.taos_calculus.specs.declared.line.Node.{Node}
use Rattle.taos_calculus.specs.declared.line.Fact.{Fact}
use Rattle.taos_calculus.specs.declared.line.Line.{Line}
use Rattle.taos_calculus.specs.Tables.{Parts, parts_of, shape, OperandsBelow, IsBelow, IsNodeTable, principals_of, named, judgement, meaning, lines_of}
use Rattle.stmt_codec.specs.Distinct.{same_principal}
use Rattle.taos_calculus.specs.Canonical.{IsCanonical}
use Rattle.taos_calculus.specs.Spelling.{place_in, node_of, fact_of, line_of, numbered, parts_spelling, proof_spelling}
use Rattle.taos_calculus.proofs.Naming.{length-principals_of, named_reads, named_apart}
use Rattle.stmt_codec.proofs.Same.{same_principal-true, same_principal-itself}
use Rattle.taos_calculus.proofs.Distinct.{canonical_nodes}

node_again : (p : ℕ → Principal) (number : Principal → ℕ) (n : ℕ) → ((i : ℕ) → i < n → number (p i) ≡ i) → (node : Node) → OperandsBelow n node → node_of number (shape p node) ≡ node
node_again p number n back (Node.Key k) h = refl
node_again p number n back (Node.Name k) h = refl
node_again p number n back (Node.And a b) h = ap₂ Node.And (back a h.0) (back b h.1)
node_again p number n back (Node.Quote a b) h = ap₂ Node.Quote (back a h.0) (back b h.1)
node_again p number n back (Node.AsRole a r) h = ap (λ (i : ℕ). Node.AsRole i r) (back a h)
node_again p number n back (Node.For a b) h = ap₂ Node.For (back a h.0) (back b h.1)

fact_again : (p : ℕ → Principal) (number : Principal → ℕ) (n : ℕ) → ((i : ℕ) → i < n → number (p i) ≡ i) → (fact : Fact) → IsBelow n fact → fact_of number (judgement p fact) ≡ fact
fact_again p number n back (Fact.Speaks a b) h = ap₂ Fact.Speaks (back a h.0) (back b h.1)
fact_again p number n back (Fact.Says a b c) h = let x : number (p a) ≡ a = back a h.0 in let y : number (p b) ≡ b = back b h.1 in let z : number (p c) ≡ c = back c h.2 in cc

line_again : (p : ℕ → Principal) (number : Principal → ℕ) (n : ℕ) → ((i : ℕ) → i < n → number (p i) ≡ i) → (l : Line) → IsBelow n l.fact → line_of number (meaning p l) ≡ l
line_again p number n back l h = let e : fact_of number (judgement p l.fact) ≡ l.fact = fact_again p number n back l.fact h in λ i. record { fact = e i; step = l.step }

lines_again : (p : ℕ → Principal) (number : Principal → ℕ) (n : ℕ) → ((i : ℕ) → i < n → number (p i) ≡ i) → (lines : List Line) → All (λ l. IsBelow n l.fact) lines →
    map (line_of number) (map (meaning p) lines) ≡ lines
lines_again p number n back [] h = refl
lines_again p number n back (l ∷ lines) h =
    ap₂ (λ (x : Line) (xs : List Line). x ∷ xs) (line_again p number n back l (All-head (λ (m : Line). IsBelow n m.fact) l lines h))
    (lines_again p number n back lines (All-tail (λ (m : Line). IsBelow n m.fact) l lines h))

module _ (nodes : List Node) (table : IsNodeTable nodes) where
  -- a principal stands at its number
  pub place_in-named : (i : ℕ) → i < length nodes → place_in (principals_of nodes) (named nodes i) ≡ i
  place_in-named i h =
      position_or_len_is (same_principal (named nodes i)) (principals_of nodes) i (Key 0) (omega (arith, length-principals_of nodes))
      (λ k lt. false_from_ne_true (same_principal (named nodes i) (named nodes k)) (λ t.
      let same : i ≡ k = named_apart nodes table i k h (omega arith) (same_principal-true (named nodes i) (named nodes k) t) in
      omega arith))
      (λ lt. same_principal-itself (named nodes i))

  nodes_again : map (node_of (place_in (principals_of nodes))) (principals_of nodes) ≡ nodes
  nodes_again =
      ext_get_or (Node.Key 0) (map (node_of (place_in (principals_of nodes))) (principals_of nodes)) nodes
      (length-map (principals_of nodes) (node_of (place_in (principals_of nodes))) ∙ length-principals_of nodes)
      (λ i h.
      let fits : i < length nodes = omega (arith, length-map (principals_of nodes) (node_of (place_in (principals_of nodes))), length-principals_of nodes) in
      let node : Node = get_or nodes i (Node.Key 0) in
      let e : slice_get nodes i ≡ Some node = slice_get-get_or nodes i (Node.Key 0) fits in
      get_or-map (node_of (place_in (principals_of nodes))) (principals_of nodes) i (Key 0) (Node.Key 0) (omega (arith, length-principals_of nodes)) ∙
      ap (node_of (place_in (principals_of nodes))) (named_reads nodes table i node e) ∙
      node_again (named nodes) (place_in (principals_of nodes)) i (λ j lt. place_in-named j (omega arith)) node (table.ordered i node e))

-- the parts of the lines that they mean
pub numbered-lines_of : (parts : Parts) → IsCanonical parts → numbered (lines_of parts) ≡ parts
numbered-lines_of parts h =
    let table : IsNodeTable parts.nodes = canonical_nodes parts h in
    let a : map (node_of (place_in (principals_of parts.nodes))) (principals_of parts.nodes) ≡ parts.nodes = nodes_again parts.nodes table in
    let b : map (line_of (place_in (principals_of parts.nodes))) (lines_of parts) ≡ parts.lines
    = lines_again (named parts.nodes) (place_in (principals_of parts.nodes)) (length parts.nodes) (place_in-named parts.nodes table) parts.lines h.within in
    let same : parts_of (map (node_of (place_in (principals_of parts.nodes))) (principals_of parts.nodes)) (map (line_of (place_in (principals_of parts.nodes))) (lines_of parts)) ≡ parts
    = λ i. record { nodes = a i; lines = b i } in
    subst (λ (t : List Principal). parts_of (map (node_of (place_in t)) t) (map (line_of (place_in t)) (lines_of parts)) ≡ parts) h.table same

-- their bytes
pub spelling_is : (parts : Parts) (nodes : List Node) (lines : List Line) → IsCanonical parts → nodes ≡ parts.nodes → lines ≡ parts.lines →
    parts_spelling (parts_of nodes lines) ≡ proof_spelling (lines_of parts)
unfolding proof_spelling
spelling_is parts nodes lines h a b =
    let same : parts_of nodes lines ≡ parts = λ i. record { nodes = a i; lines = b i } in
    ap parts_spelling (same ∙ sym (numbered-lines_of parts h))
