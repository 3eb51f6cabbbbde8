-- Whole proofs: what is read is spelled, and what is spelled is read.
use Rattle.std.proofs.Common.{◌≡◌, inl, inr, ℕ, zero, suc, ◌+◌, ◌^◌, ◌<◌, ◌≤◌, Bool, true, false, cond, ltb, List, [], ◌∷◌, ◌++◌, Some, slice_get, length, get_or, take, drop, ◌-◌, Result, Ok, Err, refl, sym, ap, ap₂, subst, ◌∙◌, append_assoc, append-nil, arith, length-append, length-drop, All}
use Rattle.std.specs.Prelude.{IfOk, MatchResult}
use Rattle.std.specs.List.{flat_map}
use Rattle.std.specs.Int.{w16, w32, to_be_bytes}
use Rattle.std.proofs.lemmas.Bool.{cases_Bool, ltb-false, le-ltb, lt-ltb, and_parts, and_from, false≢true}
use Rattle.std.proofs.lemmas.List.{drop_all, drop-take, take_at, length-take-le}
use Rattle.std.proofs.lemmas.List.Elements.{All-weaker}
use Rattle.std.proofs.lemmas.Option.{none-some, same_Some, slice_get_within, get_or_from_slice_get, slice_get-get_or}
use Rattle.prin_term.specs.Principal.{Principal}
use Rattle.byte_fields.specs.Steps.{◌>>=◌, Gives, bytes_at}
use Rattle.byte_fields.proofs.FieldLaws.{IsBytes, IsBytes-take, TakesAt, TakesAt-within, bytes_takes, bytes_again}
use Rattle.byte_fields.proofs.ReaderLaws.{Reads, reads_followed, reads_made, reads_as, reads_counted}
use Rattle.byte_fields.proofs.Results.{bind_ok, ok_is, gives_found, gives_only}
use Rattle.stmt_codec.specs.Distinct.{same_principal}
use Rattle.stmt_codec.proofs.Same.{same_principal-true, same_principal-itself}
use Rattle.byte_fields.specs.declared.fault.FormatFault.{FormatFault as ProofFault}
use Rattle.byte_fields.specs.declared.fault.FormatFault.TheVariants.{Malformed, NoMemory}
use Rattle.taos_calculus.specs.declared.line.Node.{Node}
use Rattle.taos_calculus.specs.declared.line.Fact.{Fact}
use Rattle.taos_calculus.specs.declared.line.Line.{Line}
use Rattle.taos_calculus.specs.declared.proof.TheConstants.{MAX_NODES, MAX_LINES}
use Rattle.taos_calculus.specs.Tables.{Parts, parts_of, OperandsBelow, IsBelow, principals_of, lines_of}
use Rattle.taos_calculus.specs.Canonical.{canonical_table}
use Rattle.taos_calculus.specs.Limits.{IsProofParts}
use Rattle.taos_calculus.specs.Rules.{Line as Meaning}
use Rattle.taos_calculus.specs.Spelling.{numbered, node_bytes, line_bytes, parts_spelling, proof_spelling}
use Rattle.taos_calculus.specs.Spells.{NodeFits, LineFits, FitsProof, Spells}
use Rattle.byte_fields.specs.Formats.{ended}
use Rattle.taos_calculus.specs.ProofReading.{nodes_at, lines_at, parts_at, same_principals, is_canonical, proof_from, proof_of, proof_filling}
use Rattle.taos_calculus.proofs.Placed.{FitFrom, reads_counted_placed}
use Rattle.taos_calculus.proofs.ProofReaders.{FitsNode, FitsFact, reads_u16, reads_u32, reads_node, reads_line}
use Rattle.taos_calculus.proofs.Numbering.{lines_have_parts}
use Rattle.taos_calculus.proofs.Spelled.{spelling_is}

-- ---- parts

abbrev FitsLine : ℕ → Line → Type 0
FitsLine n l = FitsFact n l.fact × LineFits l

pub record FitsParts (parts : Parts) : Type 0 where
  pub few_nodes : length parts.nodes ≤ MAX_NODES
  pub nodes : FitFrom FitsNode 0 parts.nodes
  pub few_lines : length parts.lines ≤ MAX_LINES
  pub lines : All (FitsLine (length parts.nodes)) parts.lines

abbrev nodes_bytes : List Node → List ℕ
nodes_bytes nodes = to_be_bytes w16 (length nodes) ++ flat_map node_bytes nodes

abbrev lines_bytes : List Line → List ℕ
lines_bytes lines = to_be_bytes w32 (length lines) ++ flat_map line_bytes lines

abbrev Anyhow : {A : Type 0} → A → A → Type 0
Anyhow a b = Unit {0}

in_parts : (parts : Parts) → nodes_bytes parts.nodes ++ lines_bytes parts.lines ≡ parts_spelling parts
in_parts parts = sym (append_assoc (nodes_bytes parts.nodes) (to_be_bytes w32 (length parts.lines)) (flat_map line_bytes parts.lines))

module _ (bytes : List ℕ) where
  reads_nodes : Reads bytes (nodes_at bytes) nodes_bytes (λ xs. (length xs ≤ MAX_NODES) × FitFrom FitsNode 0 xs)
  unfolding nodes_at
  reads_nodes = reads_counted_placed 1296 (2 ^ 16) Malformed node_bytes FitsNode (omega arith) (reads_u16 bytes) (λ before. reads_node bytes (length before))

  reads_lines : (n : ℕ) → Reads bytes (lines_at bytes n) lines_bytes (λ xs. (length xs ≤ MAX_LINES) × All (FitsLine n) xs)
  unfolding lines_at
  reads_lines n =
      reads_as lines_bytes (λ xs. (length xs ≤ MAX_LINES) × All (FitsLine n) xs)
      (reads_counted 1762560 (2 ^ 32) Malformed line_bytes (FitsLine n) Anyhow (omega arith) (reads_u32 bytes)
      (λ before. reads_as line_bytes (λ l. FitsLine n l × All (λ b. Anyhow b l) before) (reads_line bytes n) (λ l is. ((is, λ k d below. tt), refl)) (λ l is. is.0)))
      (λ xs is. ((is.0, is.1), refl))
      (λ xs is. (is.0, is.1, λ i j d below within. tt))

  pub reads_parts : Reads bytes (parts_at bytes) parts_spelling FitsParts
  unfolding parts_at
  reads_parts =
      reads_made (λ (x : List Node × List Line). parts_of x.0 x.1) (λ (p : Parts). (p.nodes, p.lines)) parts_spelling FitsParts
      (reads_followed reads_nodes (λ nodes _. reads_lines (length nodes)))
      (λ x is. (record { few_nodes = is.0.0; nodes = is.0.1; few_lines = is.1.0; lines = is.1.1 }, in_parts (parts_of x.0 x.1)))
      (λ p is. (((is.few_nodes, is.nodes), (is.few_lines, is.lines)), sym (in_parts p), refl))

-- ---- what fits

fit_at : {A : Type 0} (Fits : ℕ → A → Type 0) (n : ℕ) (xs : List A) → FitFrom Fits n xs → (i k : ℕ) (x : A) → k ≡ n + i → slice_get xs i ≡ Some x → Fits k x
fit_at Fits n [] fit i k x at e = absurd (none-some x e)
fit_at {A} Fits n (y ∷ xs) fit zero k x at e =
    let here : n ≡ k = omega arith in
    subst (λ (m : ℕ). Fits m x) here (subst (λ (z : A). Fits n z) (same_Some y x e) fit.0)
fit_at Fits n (y ∷ xs) fit (suc i) k x at e = fit_at Fits (suc n) xs fit.1 i k x (omega arith) e

fit_from : {A : Type 0} (Fits : ℕ → A → Type 0) (n : ℕ) (xs : List A) → ((i k : ℕ) (x : A) → k ≡ n + i → slice_get xs i ≡ Some x → Fits k x) → FitFrom Fits n xs
fit_from Fits n [] each = tt
fit_from Fits n (x ∷ xs) each = (each 0 n x (omega arith) refl, fit_from Fits (suc n) xs (λ i k y at e. each (suc i) k y (omega arith) e))

node_ordered : (n : ℕ) (node : Node) → FitsNode n node → OperandsBelow n node
node_ordered n (Node.Key k) h = tt
node_ordered n (Node.Name k) h = tt
node_ordered n (Node.And a b) h = (h.0.0, h.1.0)
node_ordered n (Node.Quote a b) h = (h.0.0, h.1.0)
node_ordered n (Node.AsRole a r) h = h.0.0
node_ordered n (Node.For a b) h = (h.0.0, h.1.0)

node_numbers : (n : ℕ) (node : Node) → FitsNode n node → NodeFits node
node_numbers n (Node.Key k) h = h
node_numbers n (Node.Name k) h = h
node_numbers n (Node.And a b) h = tt
node_numbers n (Node.Quote a b) h = tt
node_numbers n (Node.AsRole a r) h = h.1
node_numbers n (Node.For a b) h = tt

node_fits : (n : ℕ) (node : Node) → n < 2 ^ 16 → OperandsBelow n node → NodeFits node → FitsNode n node
node_fits n (Node.Key k) few h g = g
node_fits n (Node.Name k) few h g = g
node_fits n (Node.And a b) few h g = ((h.0, omega (arith, h.0, few)), (h.1, omega (arith, h.1, few)))
node_fits n (Node.Quote a b) few h g = ((h.0, omega (arith, h.0, few)), (h.1, omega (arith, h.1, few)))
node_fits n (Node.AsRole a r) few h g = ((h, omega (arith, h, few)), g)
node_fits n (Node.For a b) few h g = ((h.0, omega (arith, h.0, few)), (h.1, omega (arith, h.1, few)))

fact_below : (n : ℕ) (fact : Fact) → FitsFact n fact → IsBelow n fact
fact_below n (Fact.Speaks left right) h = (h.0.0, h.1.0)
fact_below n (Fact.Says who left right) h = (h.0.0, h.1.0.0, h.1.1.0)

fact_fits : (n : ℕ) (fact : Fact) → n < 2 ^ 16 → IsBelow n fact → FitsFact n fact
fact_fits n (Fact.Speaks left right) few h = ((h.0, omega (arith, h.0, few)), (h.1, omega (arith, h.1, few)))
fact_fits n (Fact.Says who left right) few h = ((h.0, omega (arith, h.0, few)), ((h.1, omega (arith, h.1, few)), (h.2, omega (arith, h.2, few))))

same_principals-true : (ps qs : List Principal) → same_principals ps qs ≡ true → ps ≡ qs
same_principals-true [] [] e = refl
same_principals-true (p ∷ ps) (q ∷ qs) e =
    let parts = and_parts (same_principal p q) (same_principals ps qs) e in
    ap₂ (λ (x : Principal) (xs : List Principal). x ∷ xs) (same_principal-true p q parts.0) (same_principals-true ps qs parts.1)
same_principals-true _ _ e = absurd (false≢true e)

same_principals-itself : (ps : List Principal) → same_principals ps ps ≡ true
same_principals-itself [] = refl
same_principals-itself (p ∷ ps) = and_from (same_principal p p) (same_principals ps ps) (same_principal-itself p) (same_principals-itself ps)

-- parts that fit are those of a proof where the test holds
pub canonical_fits : (parts : Parts) → FitsParts parts → is_canonical parts ≡ true → FitsProof parts
unfolding is_canonical
canonical_fits parts fits e = record {
  proof = record {
    canonical = record {
      ordered = λ i node at. node_ordered i node (fit_at FitsNode 0 parts.nodes fits.nodes i i node (omega arith) at);
      within = All-weaker (FitsLine (length parts.nodes)) (λ l. IsBelow (length parts.nodes) l.fact) (λ l h. fact_below (length parts.nodes) l.fact h.0) parts.lines fits.lines;
      table = same_principals-true (principals_of parts.nodes) (canonical_table (lines_of parts)) e;
    };
    nodes_fit = fits.few_nodes;
    lines_fit = fits.few_lines;
  };
  nodes = λ i d below. node_numbers i (get_or parts.nodes i d) (fit_at FitsNode 0 parts.nodes fits.nodes i i (get_or parts.nodes i d) (omega arith) (slice_get-get_or parts.nodes i d below));
  lines = All-weaker (FitsLine (length parts.nodes)) LineFits (λ l h. h.1) parts.lines fits.lines;
}

pub canonical_test : (parts : Parts) → IsProofParts parts → is_canonical parts ≡ true
unfolding is_canonical
canonical_test parts is =
    subst (λ (ps : List Principal). same_principals (principals_of parts.nodes) ps ≡ true) is.canonical.table (same_principals-itself (principals_of parts.nodes))

proof_fits : (parts : Parts) → FitsProof parts → FitsParts parts
proof_fits parts fits = record {
  few_nodes = fits.proof.nodes_fit;
  nodes = fit_from FitsNode 0 parts.nodes (λ i k node at e.
      let within = slice_get_within parts.nodes i node e in
      let same : i ≡ k = omega arith in
      let numbers : NodeFits node = subst NodeFits (get_or_from_slice_get parts.nodes i node node e) (fits.nodes i node within) in
      subst (λ (m : ℕ). FitsNode m node) same (node_fits i node (omega (arith, within, fits.proof.nodes_fit)) (fits.proof.canonical.ordered i node e) numbers));
  few_lines = fits.proof.lines_fit;
  lines = λ i d below.
      (fact_fits (length parts.nodes) (get_or parts.lines i d).fact (omega (arith, fits.proof.nodes_fit)) (fits.proof.canonical.within i d below), fits.lines i d below);
}

-- ---- the whole

-- what is read is spelled
pub from_takes : (bytes : List ℕ) (at : ℕ) → IsBytes bytes → at ≤ length bytes → (parts : Parts) → proof_from bytes at ≡ Ok parts → FitsProof parts × (drop at bytes ≡ proof_spelling (lines_of parts))
unfolding proof_from
from_takes bytes at ok le parts e =
    let x = bind_ok (parts_at bytes at) (λ x. cond (is_canonical x.0) (cond (ltb x.1 (length bytes)) (Err (Malformed x.1)) (Ok x.0)) (Err (Malformed at))) parts e in
    let t = (reads_parts bytes).takes ok at x.0 le x.1 in
    let g = then_refused (is_canonical x.0.0) (ltb x.0.1 (length bytes)) (Malformed x.0.1) (Malformed at) x.0.0 parts x.2 in
    let past : length bytes ≤ x.0.1 = ltb-false _ _ g.1 in
    let nothing : drop x.0.1 bytes ≡ [] = drop_all x.0.1 bytes past in
    let whole : drop at bytes ≡ parts_spelling x.0.0 = t.0.parts ∙ ap (λ (l : List ℕ). parts_spelling x.0.0 ++ l) nothing ∙ append-nil (parts_spelling x.0.0) in
    let fits = canonical_fits x.0.0 t.1 g.0 in
    subst (λ (p : Parts). FitsProof p × (drop at bytes ≡ proof_spelling (lines_of p))) g.2 (fits, whole ∙ spelling_is x.0.0 x.0.0.nodes x.0.0.lines fits.proof.canonical refl refl)
  where
    then_refused : {A E : Type 0} (b c : Bool) (f g : E) (x y : A) → cond b (cond c (Err f) (Ok x)) (Err g) ≡ Ok y → (b ≡ true) × (c ≡ false) × (x ≡ y)
    then_refused true true f g x y e = absurd cc
    then_refused true false f g x y e = (refl, refl, cc)
    then_refused false c f g x y e = absurd cc

-- a spelling is read up to its end, whatever follows
pub parts_in : (bytes rest : List ℕ) (at : ℕ) (parts : Parts) → FitsProof parts → drop at bytes ≡ proof_spelling (lines_of parts) ++ rest → parts_at bytes at ≡ Ok (parts, at + length (proof_spelling (lines_of parts)))
parts_in bytes rest at parts fits e =
    let same : parts_spelling parts ≡ proof_spelling (lines_of parts) = spelling_is parts parts.nodes parts.lines fits.proof.canonical refl refl in
    (reads_parts bytes).again at parts rest (proof_fits parts fits) (e ∙ ap (λ (l : List ℕ). l ++ rest) (sym same)) ∙ ap (λ (l : List ℕ). Ok (parts, at + length l)) same

-- what is spelled is read
pub from_again : (bytes : List ℕ) (at : ℕ) (parts : Parts) → FitsProof parts → drop at bytes ≡ proof_spelling (lines_of parts) → proof_from bytes at ≡ Ok parts
unfolding proof_from
from_again bytes at parts fits e =
    let read = parts_in bytes [] at parts fits (e ∙ sym (append-nil (proof_spelling (lines_of parts)))) in
    let len : length bytes - at ≡ length (proof_spelling (lines_of parts)) = sym (length-drop at bytes) ∙ ap length e in
    let end : ltb (at + length (proof_spelling (lines_of parts))) (length bytes) ≡ false = le-ltb _ _ (omega (arith, len)) in
    rw (read, canonical_test parts fits.proof, end) refl

pub proof_takes : (bytes : List ℕ) → IsBytes bytes → (parts : Parts) → proof_of bytes ≡ Ok parts → Spells parts bytes
proof_takes bytes ok parts e =
    let t = from_takes bytes 0 ok (omega arith) parts e in
    record { limits = t.0; text = t.1 }

pub proof_again : (bytes : List ℕ) (parts : Parts) → Spells parts bytes → proof_of bytes ≡ Ok parts
proof_again bytes parts is = from_again bytes 0 parts is.limits is.text

-- the spelling of lines is read as their parts
pub lines_again : (lines : List Meaning) → FitsProof (numbered lines) → proof_of (proof_spelling lines) ≡ Ok (numbered lines)
lines_again lines fits =
    proof_again (proof_spelling lines) (numbered lines) (record { limits = fits; text = ap proof_spelling (sym (lines_have_parts lines).mean) })

-- bytes spell one proof at most
pub spelled_once : (p q : Parts) (bytes : List ℕ) → Spells p bytes → Spells q bytes → p ≡ q
spelled_once p q bytes is_p is_q = ok_is ProofFault p q (sym (proof_again bytes p is_p) ∙ proof_again bytes q is_q)

-- a spelling does not begin another
pub none_longer : (p q : Parts) (front more : List ℕ) → Spells p front → Spells q (front ++ more) → more ≡ []
none_longer p q front more is_p is_q =
    let short = parts_in (front ++ more) more 0 p is_p.limits (ap (λ (l : List ℕ). l ++ more) is_p.text) in
    let long = parts_in (front ++ more) [] 0 q is_q.limits (is_q.text ∙ sym (append-nil (proof_spelling (lines_of q)))) in
    let one : Parts × ℕ = (p, 0 + length (proof_spelling (lines_of p))) in
    let other : Parts × ℕ = (q, 0 + length (proof_spelling (lines_of q))) in
    let ends : 0 + length (proof_spelling (lines_of p)) ≡ 0 + length (proof_spelling (lines_of q)) = ap (λ (x : Parts × ℕ). x.1) (ok_is ProofFault one other (sym short ∙ long)) in
    let front_len : length front ≡ length (proof_spelling (lines_of p)) = ap length is_p.text in
    let whole_len : length (front ++ more) ≡ length (proof_spelling (lines_of q)) = ap length is_q.text in
    none_of more (omega (arith, ends, front_len, whole_len, length-append front more))
  where
    none_of : (more : List ℕ) → length more ≤ 0 → more ≡ []
    none_of [] le = refl
    none_of (b ∷ more) le = absurd (omega (arith, le))

-- bytes behind a spelling are refused at the first of them
pub longer_refused : (parts : Parts) (bytes more : List ℕ) → Spells parts bytes → 0 < length more → proof_of (bytes ++ more) ≡ Err (Malformed (length bytes))
unfolding proof_from
longer_refused parts bytes more is some =
    let text = proof_spelling (lines_of parts) in
    let read = parts_in (bytes ++ more) more 0 parts is.limits (ap (λ (l : List ℕ). l ++ more) is.text) in
    let len : length bytes ≡ length text = ap length is.text in
    let end : ltb (0 + length text) (length (bytes ++ more)) ≡ true = lt-ltb _ _ (omega (arith, len, some, length-append bytes more)) in
    let place : 0 + length text ≡ length bytes = omega (arith, len) in
    rw (read, canonical_test parts is.limits.proof, end, place) refl

-- ---- what becomes of parts that were read

pub parts_refused : (bytes : List ℕ) (at : ℕ) (f : ProofFault) → parts_at bytes at ≡ Err f → proof_from bytes at ≡ Err f
unfolding proof_from
parts_refused bytes at f e = rw e refl

module _ (bytes : List ℕ) (at : ℕ) (ok : IsBytes bytes) (within : at ≤ length bytes) (parts : Parts) (end : ℕ) (read : parts_at bytes at ≡ Ok (parts, end)) where
  test_fails : ¬ IsProofParts parts → is_canonical parts ≡ false
  test_fails is_none = elim (cases_Bool (is_canonical parts)) [
    | inl holds ↦
        let x : Parts × ℕ = (parts, end) in
        absurd (is_none (canonical_fits parts ((reads_parts bytes).takes ok at x within read).1 holds).proof)
    | inr fails ↦ fails
  ]

  pub not_canonical : ¬ IsProofParts parts → proof_from bytes at ≡ Err (Malformed at)
  unfolding proof_from
  not_canonical is_none = rw (read, test_fails is_none) refl

  pub bytes_left : IsProofParts parts → end < length bytes → proof_from bytes at ≡ Err (Malformed end)
  unfolding proof_from
  bytes_left is lt =
      let left : ltb end (length bytes) ≡ true = lt-ltb _ _ lt in
      rw (read, canonical_test parts is, left) refl

  pub all_read : IsProofParts parts → length bytes ≤ end → proof_from bytes at ≡ Ok parts
  unfolding proof_from
  all_read is le =
      let past : ltb end (length bytes) ≡ false = le-ltb _ _ le in
      rw (read, canonical_test parts is, past) refl

-- ---- a proof that fills a part of the bytes

abbrev pub lines_spelling : Parts → List ℕ
lines_spelling parts = proof_spelling (lines_of parts)

abbrev pub Fills : ℕ → Parts → Type 0
Fills n parts = FitsProof parts × (length (lines_spelling parts) ≡ n)

some_bytes : (parts : Parts) → FitsProof parts → 0 < length (lines_spelling parts)
some_bytes parts fits =
    let same : parts_spelling parts ≡ lines_spelling parts = spelling_is parts parts.nodes parts.lines fits.proof.canonical refl refl in
    let some : 0 < length (parts_spelling parts) = omega arith in
    subst (λ (l : List ℕ). 0 < length l) same some

pub reads_filling : (bytes : List ℕ) (n : ℕ) → Reads bytes (proof_filling bytes n) lines_spelling (Fills n)
unfolding proof_filling
reads_filling bytes n = record {
  takes = λ ok at x le e.
      let a = bind_ok (bytes_at (ended bytes) n bytes at) (λ text. proof_from (take (at + n) bytes) at >>= λ parts. Ok (parts, text.1)) x e in
      let b = bind_ok (proof_from (take (at + n) bytes) at) (λ parts. Ok (parts, a.0.1)) x a.2 in
      let made : Parts × ℕ = (b.0, a.0.1) in
      let t = bytes_takes (ended bytes) n bytes at a.0 a.1 in
      let fits_in : at + n ≤ length bytes = omega (arith, TakesAt-within bytes at a.0.0 a.0.1 le t.0, t.0.end_is, t.1) in
      let front = from_takes (take (at + n) bytes) at (IsBytes-take (at + n) bytes ok) (omega (arith, length-take-le (at + n) bytes fits_in)) b.0 b.1 in
      let text : a.0.0 ≡ lines_spelling b.0 = filled bytes at n a.0.0 (drop a.0.1 bytes) t.1 t.0.parts fits_in ∙ front.1 in
      subst (λ (y : Parts × ℕ). TakesAt bytes at (lines_spelling y.0) y.1 × Fills n y.0) (ok_is ProofFault made x b.2)
      (subst (λ (l : List ℕ). TakesAt bytes at l a.0.1) text t.0, (front.0, ap length (sym text) ∙ t.1));
  again = λ at parts rest fits e.
      let len : length bytes - at ≡ length (lines_spelling parts) + length rest = sym (length-drop at bytes) ∙ ap length e ∙ length-append (lines_spelling parts) rest in
      let fits_in : at + n ≤ length bytes = omega (arith, len, fits.1, some_bytes parts fits.0) in
      let first = bytes_again (ended bytes) n bytes (lines_spelling parts) rest at fits.1 e in
      let second = from_again (take (at + n) bytes) at parts fits.0 (sym (filled bytes at n (lines_spelling parts) rest fits.1 e fits_in)) in
      rw (first, second) (ap (λ (k : ℕ). Ok (parts, at + k)) (sym fits.1));
}
  where
    -- the text of so many bytes is what stands at the offset in their front
    filled : (bytes : List ℕ) (at n : ℕ) (text rest : List ℕ) → length text ≡ n → drop at bytes ≡ text ++ rest → at + n ≤ length bytes → text ≡ drop at (take (at + n) bytes)
    filled bytes at n text rest len e fits = sym (take_at text rest n len) ∙ ap (take n) (sym e) ∙ sym (drop-take at n bytes)

module _ (bytes : List ℕ) (at n : ℕ) (le : at ≤ length bytes) (text : List ℕ × ℕ) (there : bytes_at (ended bytes) n bytes at ≡ Ok text) where
  end_is : text.1 ≡ at + n
  end_is = let t = bytes_takes (ended bytes) n bytes at text there in omega (arith, t.0.end_is, t.1)

  end_in : text.1 ≤ length bytes
  end_in = TakesAt-within bytes at text.0 text.1 le (bytes_takes (ended bytes) n bytes at text there).0

  pub front_within : at ≤ length (take text.1 bytes)
  front_within = omega (arith, end_is, end_in, length-take-le text.1 bytes end_in)

  pub filled_read : (parts : Parts) → proof_from (take text.1 bytes) at ≡ Ok parts → proof_filling bytes n at ≡ Ok (parts, text.1)
  unfolding proof_filling
  filled_read parts e =
      let read : proof_from (take (at + n) bytes) at ≡ Ok parts = ap (λ (k : ℕ). proof_from (take k bytes) at) (sym end_is) ∙ e in
      rw (there, read) refl

  pub filled_refused : (f : ProofFault) → proof_from (take text.1 bytes) at ≡ Err f → proof_filling bytes n at ≡ Err f
  unfolding proof_filling
  filled_refused f e =
      let refused : proof_from (take (at + n) bytes) at ≡ Err f = ap (λ (k : ℕ). proof_from (take k bytes) at) (sym end_is) ∙ e in
      rw (there, refused) refl

-- ---- what the whole reader answers

pub is_found : (bytes : List ℕ) (r : Result Parts ProofFault) → IsBytes bytes → Gives NoMemory (λ p. p) r (proof_of bytes) → IfOk r (λ p. Spells p bytes)
is_found bytes r fits given = gives_found (λ (p : Parts). Spells p bytes) NoMemory (λ p. p) r (proof_of bytes) given (λ p e. proof_takes bytes fits p e)

pub is_only : (bytes : List ℕ) (r : Result Parts ProofFault) → Gives NoMemory (λ p. p) r (proof_of bytes) → (p : Parts) → Spells p bytes → MatchResult r (λ x. x ≡ p) (λ f. f ≡ NoMemory)
is_only bytes r given p is = gives_only NoMemory (λ p. p) r (proof_of bytes) p given (proof_again bytes p is)
