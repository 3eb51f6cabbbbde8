-- A question that is taken in is ready to be decided.
use Rattle.std.proofs.Common.{◌≡◌, ℕ, zero, suc, ◌+◌, ◌*◌, ◌<◌, ◌≤◌, List, [], ◌∷◌, Some, slice_get, length, map, refl, ap, subst, ◌∙◌, arith}
use Rattle.std.specs.Prelude.{option_map}
use Rattle.std.proofs.lemmas.Nat.{mul-le}
use Rattle.std.proofs.lemmas.Option.{none-some, same_Some, slice_get-map}
use Rattle.taos_calculus.proofs.Induction.{All-at}
use Rattle.term_pool.specs.declared.found.Pair.{Pair}
use Rattle.term_pool.specs.declared.found.Found.{Found}
use Rattle.term_pool.specs.declared.cited.Cited.{Cited}
use Rattle.taos_saturate.specs.declared.held.Held.{Held}
use Rattle.term_pool.specs.Finding.{IsFound}
use Rattle.term_pool.specs.Claims.{CitedIn}
use Rattle.term_pool.specs.Finding.{statement_of}
use Rattle.taos_saturate.specs.Held.{IsGathered}
use Rattle.taos_saturate.specs.Saturating.{IsReady}
use Rattle.taos_saturate.proofs.Growing.{with_found}

-- the cells of the largest table
pub cells_few : (w n l : ℕ) → l ≡ w * (w + n) → w ≤ 1296 → n ≤ 64 → l ≤ 1762560
cells_few w n l e h k = omega (arith, e, mul-le w (w + n) 1296 1360 h (omega (arith, h, k)))

-- the certificate of a statement
stated_at : (cited : List Cited) (k : ℕ) (p : Pair) → slice_get (map statement_of cited) k ≡ Some p → (c : Cited) × (slice_get cited k ≡ Some c) × (statement_of c ≡ p)
stated_at [] k p e = absurd (none-some p e)
stated_at (c ∷ cited) zero p e = (c, refl, same_Some (statement_of c) p e)
stated_at (c ∷ cited) (suc k) p e = stated_at cited k p e

module _ (h : Held) (g : IsGathered h) (f : Found) where
  pub ready_new : IsFound f → f.width ≡ length h.table.nodes.items → f.statements ≡ h.table.found.statements → IsReady (with_found h.table f)
  ready_new found width statements = record {
    found = found;
    width_is = width;
    nodes_fit = omega (arith, g.few);
    table = g.table;
    anchors_fit = omega (arith, g.few_anchors);
    cited_fit = omega (arith, g.few_cited);
    statements_in = λ k p e.
        let at : slice_get (map statement_of h.table.cited.items) k ≡ Some p = rw (ap (λ s. s.items) statements, g.stated) at e in
        let (c, stands, is) = stated_at h.table.cited.items k p at in
        let below : CitedIn (length h.table.nodes.items) c = All-at (CitedIn (length h.table.nodes.items)) h.table.cited.items k c g.cited_in stands in
        subst (λ (q : Pair). (q.left < length h.table.nodes.items) × (q.right < length h.table.nodes.items)) is (below.left, below.right);
    cited_in = λ k c e.
        let below : CitedIn (length h.table.nodes.items) c = All-at (CitedIn (length h.table.nodes.items)) h.table.cited.items k c g.cited_in e in
        (below.speaker, (k, rw (ap (λ s. s.items) statements, g.stated) (slice_get-map statement_of h.table.cited.items k ∙ ap (option_map statement_of) e)));
  }
