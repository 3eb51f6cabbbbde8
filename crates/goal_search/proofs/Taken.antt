-- What is taken into a pool, by the table of its nodes.
use Rattle.std.proofs.Common.{◌≡◌, ℕ, ◌≤◌, ◌*◌, [], List, Bool, true, false, zero, suc, ◌-◌, ◌++◌, cond, take, refl, Some, length, ap, map, sym, ◌∙◌, arith}
use Rattle.std.specs.Prelude.{replicate, slice_index_or}
use Rattle.std.proofs.lemmas.List.{length-replicate}
use Rattle.prin_term.specs.Principal.{Principal, Key}
use Rattle.taos_calculus.specs.declared.line.Node.{Node}
use Rattle.taos_calculus.specs.Rules.{Claim}
use Rattle.taos_calculus.specs.Tables.{named, principals_of}
use Rattle.taos_calculus.proofs.Naming.{length-principals_of}
use Rattle.term_pool.specs.declared.cited.Cited.{Cited}
use Rattle.term_pool.specs.Claims.{claim_by}
use Rattle.term_pool.specs.Pool.{Pooled}
use Rattle.goal_search.specs.Asked.{IsHolding, MakeClaims}
use Rattle.goal_search.proofs.Choosing.{none_marked}
use Rattle.goal_search.specs.Taking.{Holds, Widens, principal_at}

module _ (pool : Pooled) (nodes : List Node) (same : principals_of nodes ≡ pool.terms) where
  -- the table names what the pool holds
  pub names_same : (i : ℕ) → named nodes i ≡ principal_at pool i
  names_same i = ap (λ (xs : List Principal). slice_index_or xs i (Key 0)) same

  pub count_same : length nodes ≡ length pool.terms
  count_same = sym (length-principals_of nodes) ∙ ap length same

  -- what the pool makes of the certificates, the table does
  pub makes_claims : (held : List Cited) (claims : List Claim) (taken : List Bool) → Holds pool held claims taken → length held ≡ length claims → MakeClaims (named nodes) held claims taken
  makes_claims held claims taken g count = record {
    count = count;
    claims_are = λ i c e t. g.claims_are i c e t ∙ ap (λ (xs : List Principal). Some (claim_by (λ k. slice_index_or xs k (Key 0)) c)) (sym same);
  }

  pub holding_of : (held : List Cited) (claims : List Claim) (taken marks : List Bool) → Holds pool held claims taken → length held ≤ 64 → length taken ≡ length held →
      marks ≡ replicate (length taken) false → IsHolding (length nodes) held taken marks
  holding_of held claims taken marks g few count none = record {
    held_in = λ i c e t. rw count_same (g.held_in i c e t);
    few = few;
    placed = g.placed;
    count = count;
    among = (ap length none ∙ length-replicate {A = Bool} (length taken) false, λ i e. absurd (none_marked (length taken) i (rw none at e)));
  }

  pub list_same : (numbers : List ℕ) → map (named nodes) numbers ≡ map (principal_at pool) numbers
  list_same numbers = ap (λ (xs : List Principal). map (λ i. slice_index_or xs i (Key 0)) numbers) same

-- after the certificates, the subject and the list there is room to spare
pub taken_few : (a b c d : Pooled) (certs subject list : ℕ) → a.terms ≡ [] → Widens a b (16 * certs) → Widens b c subject → Widens c d (16 * list) →
    certs ≤ 64 → subject ≤ 16 → list ≤ 8 → length d.terms ≤ 1296
taken_few a b c d certs subject list none first second third certs_fit subject_fits list_fits =
    omega (arith, ap length none, first.few, second.few, third.few)

-- what is filled up from nothing
pub resized : (ok : Bool) (new old : List Bool) (n len : ℕ) → new ≡ cond ok (take n old ++ replicate (n - len) false) old → ok ≡ true → old ≡ [] → len ≡ length old → new ≡ replicate n false
resized ok new old n len is fine none count =
    is ∙ ap (λ (b : Bool). cond b (take n old ++ replicate (n - len) false) old) fine ∙ ap (λ (xs : List Bool). take n xs ++ replicate (n - len) false) none ∙
    nothing n ∙ ap (λ (k : ℕ). replicate k false) (omega (arith, count, ap length none))
  where
    nothing : (k : ℕ) → take k [] ++ replicate (n - len) false ≡ replicate (n - len) false
    nothing zero = refl
    nothing (suc k) = refl
