-- Lines over principals have parts: their canonical table has operands first, and names each principal of each line.
use Rattle.std.proofs.Common.{◌≡◌, inl, inr, ℕ, ◌<◌, ◌≤◌, false, List, [], ◌∷◌, ◌++◌, Some, slice_get, length, map, take, get_or, refl, sym, ap, ap₂, ◌∙◌, subst, append_assoc, arith, All, Contains, lit<}
use Rattle.std.specs.List.{flat_map, list_any}
use Rattle.std.proofs.lemmas.List.{append-nil, take_at, take-append-le, get_or_at, get_or_append_left, get_or_default, get_or-map, get_or-take, length-map, length-append, length-take-le, take_all}
use Rattle.std.proofs.lemmas.List.Sums.{fails_before_first, passes_at_first}
use Rattle.std.proofs.lemmas.List.Elements.{All-nil, All-cons, All-weaker, Contains-append_left, Contains-push}
use Rattle.std.proofs.lemmas.Map.Views.{Contains-from_any}
use Rattle.std.proofs.lemmas.Option.{slice_get_within, get_or_from_slice_get}
use Rattle.std.proofs.lemmas.Bool.{cases_Bool, cases_lt, both_ways}
use Rattle.prin_term.specs.Principal.{Principal, Key, Name, And, Quoting, InRole, For, operands}
use Rattle.taos_calculus.specs.declared.line.Node.{Node}
use Rattle.taos_calculus.specs.declared.line.Line.{Line as FlatLine}
use Rattle.taos_calculus.specs.Rules.{Judgement, SpeaksFor, Says, Line}
use Rattle.taos_calculus.specs.Tables.{shape, OperandsBelow, IsBelow, grown, principals_of, named, judgement, meaning, lines_of}
use Rattle.stmt_codec.specs.Distinct.{same_principal, met}
use Rattle.taos_calculus.specs.Canonical.{post_order, terms_of, canonical_table}
use Rattle.taos_calculus.specs.Spelling.{place_in, node_of, fact_of, line_of, numbered}
use Rattle.taos_calculus.specs.Having.{HaveParts}
use Rattle.taos_calculus.proofs.Induction.{All-one, All-two}
use Rattle.stmt_codec.proofs.Same.{same_principal-true, same_principal-itself}
use Rattle.stmt_codec.proofs.Firsts.{met-there, met-new, met-append, met-grows, first_of_each-met}
use Rattle.taos_calculus.proofs.Walks.{All-front, All-back}

-- each one's operands stand before it
abbrev IsClosed : List Principal → Type 0
IsClosed t = (k : ℕ) → k < length t → All (Contains (take k t)) (operands (get_or t k (Key 0)))

closed_push : (t : List Principal) (p : Principal) → IsClosed t → All (Contains t) (operands p) → IsClosed (t ++ p ∷ [])
closed_push t p closed all k h = elim (cases_lt k (length t)) [
  | inl below ↦
      subst (λ (xs : List Principal). All (Contains xs) (operands (get_or (t ++ p ∷ []) k (Key 0)))) (sym (take-append-le k t (p ∷ []) (omega arith)))
      (subst (λ (q : Principal). All (Contains (take k t)) (operands q)) (sym (get_or_append_left t (p ∷ []) (Key 0) k below)) (closed k below))
  | inr above ↦
      let last : length t ≡ k = omega (arith, length-append t (p ∷ [])) in
      subst (λ (xs : List Principal). All (Contains xs) (operands (get_or (t ++ p ∷ []) k (Key 0)))) (sym (take_at t (p ∷ []) k last))
      (subst (λ (q : Principal). All (Contains t) (operands q)) (sym (get_or_at t p [] (Key 0) k last)) all)
]

-- a table with operands first, in which p stands
record Holds (t : List Principal) (p : Principal) : Type 0 where
  closed : IsClosed t
  here : Contains t p

stays : (t ps : List Principal) (q : Principal) → Contains t q → Contains (met t ps) q
stays t ps q c = let (more, e) = met-grows t ps in subst (λ (xs : List Principal). Contains xs q) (sym e) (Contains-append_left t more q c)

holds_one : (t : List Principal) (p : Principal) → IsClosed t → All (Contains t) (operands p) → Holds (met t (p ∷ [])) p
holds_one t p closed all = elim (cases_Bool (list_any (same_principal p) t)) [
  | inl there ↦ subst (λ (xs : List Principal). Holds xs p) (sym (met-there t p [] there)) (record { closed = closed; here = Contains-from_any same_principal-true p t there })
  | inr new ↦ subst (λ (xs : List Principal). Holds xs p) (sym (met-new t p [] new)) (record { closed = closed_push t p closed all; here = Contains-push t p })
]

abbrev HoldsAfter : Principal → Type 0
HoldsAfter p = (t : List Principal) → IsClosed t → Holds (met t (post_order p)) p

holds_pair : (x a b : Principal) → operands x ≡ a ∷ b ∷ [] → HoldsAfter a → HoldsAfter b → (t : List Principal) → IsClosed t →
    Holds (met t (post_order a ++ post_order b ++ x ∷ [])) x
holds_pair x a b e f g t closed =
    let ha : Holds (met t (post_order a)) a = f t closed in
    let ta : List Principal = met t (post_order a) in
    let hb : Holds (met ta (post_order b)) b = g ta ha.closed in
    let tb : List Principal = met ta (post_order b) in
    let both : All (Contains tb) (operands x) = rw e (All-two (Contains tb) a b (stays ta (post_order b) a ha.here) hb.here) in
    let same : met t (post_order a ++ post_order b ++ x ∷ []) ≡ met tb (x ∷ [])
    = met-append t (post_order a ++ post_order b) (x ∷ []) ∙ ap (λ (l : List Principal). met l (x ∷ [])) (met-append t (post_order a) (post_order b)) in
    subst (λ (xs : List Principal). Holds xs x) (sym same) (holds_one tb x hb.closed both)

holds_after : (p : Principal) → HoldsAfter p
holds_after (Key k) t closed = holds_one t (Key k) closed (All-nil (Contains t))
holds_after (Name n) t closed = holds_one t (Name n) closed (All-nil (Contains t))
holds_after (And a b) t closed = holds_pair (And a b) a b refl (holds_after a) (holds_after b) t closed
holds_after (Quoting a b) t closed = holds_pair (Quoting a b) a b refl (holds_after a) (holds_after b) t closed
holds_after (For a b) t closed = holds_pair (For a b) a b refl (holds_after a) (holds_after b) t closed
holds_after (InRole a r) t closed =
    let ha : Holds (met t (post_order a)) a = holds_after a t closed in
    let ta : List Principal = met t (post_order a) in
    subst (λ (xs : List Principal). Holds xs (InRole a r)) (sym (met-append t (post_order a) (InRole a r ∷ [])))
    (holds_one ta (InRole a r) ha.closed (All-one (Contains ta) a ha.here))

record HoldsAll (t ps : List Principal) : Type 0 where
  closed : IsClosed t
  all : All (Contains t) ps

holds_all : (ps t : List Principal) → IsClosed t → HoldsAll (met t (flat_map post_order ps)) ps
holds_all [] t closed = record { closed = closed; all = All-nil (Contains t) }
holds_all (p ∷ ps) t closed =
    let h : Holds (met t (post_order p)) p = holds_after p t closed in
    let tp : List Principal = met t (post_order p) in
    let rest : HoldsAll (met tp (flat_map post_order ps)) ps = holds_all ps tp h.closed in
    let tt' : List Principal = met tp (flat_map post_order ps) in
    subst (λ (xs : List Principal). HoldsAll xs (p ∷ ps)) (sym (met-append t (post_order p) (flat_map post_order ps)))
    (record { closed = rest.closed; all = All-cons (Contains tt') p ps (stays tp (flat_map post_order ps) p h.here) rest.all })

-- where a principal of a front stands
module _ (t : List Principal) where
  place_before : (k j : ℕ) (q : Principal) → j < k → j < length t → get_or t j (Key 0) ≡ q → place_in t q < k
  place_before k j q h inside at = elim (cases_lt (place_in t q) k) [
    | inl below ↦ below
    | inr above ↦
        let fails : same_principal q (get_or t j (Key 0)) ≡ false = fails_before_first (same_principal q) t j (Key 0) (omega arith) in
        absurd (both_ways (same_principal q q) (rw at at fails) (same_principal-itself q))
  ]

  place_front : (k : ℕ) (q : Principal) → k ≤ length t → Contains (take k t) q → place_in t q < k
  place_front k q fits c =
      let low : c.0 < k = omega (arith, c.1, length-take-le k t fits) in
      let inside : c.0 < length t = omega arith in
      let at : get_or t c.0 (Key 0) ≡ q = get_or_default t c.0 (Key 0) q inside ∙ sym (get_or-take k t c.0 q low) ∙ c.2 in
      place_before k c.0 q low inside at

  at_place : (q : Principal) → place_in t q < length t → get_or t (place_in t q) (Key 0) ≡ q
  at_place q h = sym (same_principal-true q (get_or t (place_in t q) (Key 0)) (passes_at_first (same_principal q) t (Key 0) h))

shape_again : (f : ℕ → Principal) (number : Principal → ℕ) (x : Principal) → All (λ q. f (number q) ≡ q) (operands x) → shape f (node_of number x) ≡ x
shape_again f number (Key k) h = refl
shape_again f number (Name n) h = refl
shape_again f number (And a b) h = ap₂ And (h 0 a (lit< tt)) (h 1 a (lit< tt))
shape_again f number (Quoting a b) h = ap₂ Quoting (h 0 a (lit< tt)) (h 1 a (lit< tt))
shape_again f number (InRole a r) h = ap (λ (q : Principal). InRole q r) (h 0 a (lit< tt))
shape_again f number (For a b) h = ap₂ For (h 0 a (lit< tt)) (h 1 a (lit< tt))

below_again : (n : ℕ) (number : Principal → ℕ) (x : Principal) → All (λ q. number q < n) (operands x) → OperandsBelow n (node_of number x)
below_again n number (Key k) h = tt
below_again n number (Name m) h = tt
below_again n number (And a b) h = (h 0 a (lit< tt), h 1 a (lit< tt))
below_again n number (Quoting a b) h = (h 0 a (lit< tt), h 1 a (lit< tt))
below_again n number (InRole a r) h = h 0 a (lit< tt)
below_again n number (For a b) h = (h 0 a (lit< tt), h 1 a (lit< tt))

judged_again : (p : ℕ → Principal) (number : Principal → ℕ) (j : Judgement) → All (λ q. p (number q) ≡ q) (terms_of j) → judgement p (fact_of number j) ≡ j
judged_again p number (SpeaksFor a b) h = ap₂ SpeaksFor (h 0 a (lit< tt)) (h 1 a (lit< tt))
judged_again p number (Says a b c) h =
    let x : p (number a) ≡ a = h 0 a (lit< tt) in let y : p (number b) ≡ b = h 1 a (lit< tt) in let z : p (number c) ≡ c = h 2 a (lit< tt) in cc

below_judged : (n : ℕ) (number : Principal → ℕ) (j : Judgement) → All (λ q. number q < n) (terms_of j) → IsBelow n (fact_of number j)
below_judged n number (SpeaksFor a b) h = (h 0 a (lit< tt), h 1 a (lit< tt))
below_judged n number (Says a b c) h = (h 0 a (lit< tt), h 1 a (lit< tt), h 2 a (lit< tt))

abbrev all_terms : List Line → List Principal
all_terms lines = flat_map (λ l. terms_of l.fact) lines

lines_mean : (p : ℕ → Principal) (number : Principal → ℕ) (lines : List Line) → All (λ q. p (number q) ≡ q) (all_terms lines) →
    map (meaning p) (map (line_of number) lines) ≡ lines
lines_mean p number [] h = refl
lines_mean p number (l ∷ lines) h =
    let e : judgement p (fact_of number l.fact) ≡ l.fact = judged_again p number l.fact (All-front (λ q. p (number q) ≡ q) (terms_of l.fact) (all_terms lines) h) in
    let first : meaning p (line_of number l) ≡ l = λ i. record { fact = e i; step = l.step } in
    ap₂ (λ (x : Line) (xs : List Line). x ∷ xs) first (lines_mean p number lines (All-back (λ q. p (number q) ≡ q) (terms_of l.fact) (all_terms lines) h))

lines_within : (n : ℕ) (number : Principal → ℕ) (lines : List Line) → All (λ q. number q < n) (all_terms lines) → All (λ l. IsBelow n l.fact) (map (line_of number) lines)
lines_within n number [] h = All-nil (λ (m : FlatLine). IsBelow n m.fact)
lines_within n number (l ∷ lines) h =
    All-cons (λ (m : FlatLine). IsBelow n m.fact) (line_of number l) (map (line_of number) lines)
    (below_judged n number l.fact (All-front (λ q. number q < n) (terms_of l.fact) (all_terms lines) h))
    (lines_within n number lines (All-back (λ q. number q < n) (terms_of l.fact) (all_terms lines) h))

-- a table with operands first, as nodes and back
module _ (t : List Principal) (closed : IsClosed t) where
  abbrev number : Principal → ℕ
  number q = place_in t q

  operands_at : (k : ℕ) → k < length t → All (λ q. number q < k) (operands (get_or t k (Key 0)))
  operands_at k h = All-weaker (Contains (take k t)) (λ q. number q < k) (λ q c. place_front t k q (omega arith) c) (operands (get_or t k (Key 0))) (closed k h)

  grown_again : (front rest : List Principal) → t ≡ front ++ rest → grown front (map (node_of number) rest) ≡ t
  grown_again front [] e = sym (e ∙ append-nil front)
  grown_again front (x ∷ rest) e =
      let k : ℕ = length front in
      let len : length t ≡ length (front ++ x ∷ rest) = ap length e in
      let inside : length front < length t = omega (arith, length-append front (x ∷ rest)) in
      let at : get_or t (length front) (Key 0) ≡ x = ap (λ (xs : List Principal). get_or xs (length front) (Key 0)) e ∙ get_or_at front x rest (Key 0) (length front) refl in
      let low : All (λ q. number q < length front) (operands x) = subst (λ (y : Principal). All (λ q. number q < length front) (operands y)) at (operands_at (length front) inside) in
      let reads : All (λ q. get_or front (number q) (Key 0) ≡ q) (operands x)
      = All-weaker (λ q. number q < length front) (λ q. get_or front (number q) (Key 0) ≡ q)
      (λ q lt. sym (get_or_append_left front (x ∷ rest) (Key 0) (number q) lt) ∙ ap (λ (xs : List Principal). get_or xs (number q) (Key 0)) (sym e) ∙ at_place t q (omega arith))
      (operands x) low in
      let same : shape (λ i. get_or front i (Key 0)) (node_of number x) ≡ x = shape_again (λ i. get_or front i (Key 0)) number x reads in
      ap (λ (y : Principal). grown (front ++ y ∷ []) (map (node_of number) rest)) same ∙ grown_again (front ++ x ∷ []) rest (e ∙ sym (append_assoc front (x ∷ []) rest))

  table_again : principals_of (map (node_of number) t) ≡ t
  table_again = grown_again [] t refl

  ordered_again : (i : ℕ) (node : Node) → slice_get (map (node_of number) t) i ≡ Some node → OperandsBelow i node
  ordered_again i node e =
      let inside : i < length t = omega (arith, slice_get_within (map (node_of number) t) i node e, length-map t (node_of number)) in
      let is : node ≡ node_of number (get_or t i (Key 0))
      = sym (get_or_from_slice_get (map (node_of number) t) i node (Node.Key 0) e) ∙ get_or-map (node_of number) t i (Key 0) (Node.Key 0) inside in
      subst (OperandsBelow i) (sym is) (below_again i number (get_or t i (Key 0)) (operands_at i inside))

pub lines_have_parts : (lines : List Line) → HaveParts lines
lines_have_parts lines =
    let t : List Principal = canonical_table lines in
    let e : met [] (flat_map post_order (all_terms lines)) ≡ canonical_table lines = first_of_each-met (flat_map post_order (all_terms lines)) in
    let holds : HoldsAll (canonical_table lines) (all_terms lines)
    = subst (λ (xs : List Principal). HoldsAll xs (all_terms lines)) e (holds_all (all_terms lines) [] (λ k h. absurd (omega arith))) in
    let low : All (λ q. place_in (canonical_table lines) q < length (canonical_table lines)) (all_terms lines)
    = All-weaker (Contains (canonical_table lines)) (λ q. place_in (canonical_table lines) q < length (canonical_table lines))
    (λ q c. place_front (canonical_table lines) (length (canonical_table lines)) q (omega arith)
    (subst (λ (xs : List Principal). Contains xs q) (sym (take_all (length (canonical_table lines)) (canonical_table lines) (omega arith))) c))
    (all_terms lines) holds.all in
    let again : principals_of (map (node_of (place_in (canonical_table lines))) (canonical_table lines)) ≡ canonical_table lines = table_again (canonical_table lines) holds.closed in
    let names : All (λ q. named (map (node_of (place_in (canonical_table lines))) (canonical_table lines)) (place_in (canonical_table lines) q) ≡ q) (all_terms lines)
    = All-weaker (λ q. place_in (canonical_table lines) q < length (canonical_table lines))
    (λ q. named (map (node_of (place_in (canonical_table lines))) (canonical_table lines)) (place_in (canonical_table lines) q) ≡ q)
    (λ q lt. ap (λ (xs : List Principal). get_or xs (place_in (canonical_table lines) q) (Key 0)) again ∙ at_place (canonical_table lines) q lt)
    (all_terms lines) low in
    let mean : lines_of (numbered lines) ≡ lines = lines_mean (named (numbered lines).nodes) (place_in (canonical_table lines)) lines names in
    record {
      canonical = record {
        ordered = ordered_again (canonical_table lines) holds.closed;
        within = lines_within (length (numbered lines).nodes) (place_in (canonical_table lines)) lines
            (rw (length-map (canonical_table lines) (node_of (place_in (canonical_table lines)))) low);
        table = again ∙ ap canonical_table (sym mean);
      };
      mean = mean;
    }
