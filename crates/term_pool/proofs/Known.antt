-- Terms that were carried before.
use Rattle.std.proofs.Common.{◌≡◌, ◌≢◌, ◌⊎◌, inl, inr, ℕ, ◌<◌, true, List, [], ◌∷◌, Some, slice_get, get_or, set, length, refl, sym, ap, ◌∙◌, arith, All, Contains}
use Rattle.std.specs.Prelude.{replicate}
use Rattle.std.specs.List.{list_any}
use Rattle.std.proofs.lemmas.List.{get_or-replicate, get_or-set_same, get_or-set_other, length-set, length-replicate}
use Rattle.std.proofs.lemmas.List.Elements.{All-head, All-tail}
use Rattle.std.proofs.lemmas.List.Folds.{list_any_at}
use Rattle.std.proofs.lemmas.Option.{slice_get-get_or, slice_get_within, get_or_from_slice_get}
use Rattle.prin_term.specs.Principal.{Principal}
use Rattle.stmt_codec.specs.Distinct.{met, same_principal}
use Rattle.stmt_codec.proofs.Firsts.{met-there}
use Rattle.stmt_codec.proofs.Same.{same_principal-itself}
use Rattle.taos_calculus.specs.Canonical.{post_order}
use Rattle.taos_calculus.specs.declared.line.Node.{Node}
use Rattle.taos_calculus.specs.Tables.{IsNodeTable, named, principals_of}
use Rattle.term_pool.specs.Carrying.{AreCarried}
use Rattle.term_pool.specs.Interning.{TakesIn}
use Rattle.term_pool.proofs.Fitting.{posts_in}
use Rattle.term_pool.proofs.Interned.{length_grown, named_stays}
use Rattle.term_pool.proofs.Orders.{same_or_not}

-- what is in a list is met there
member_met : (table : List Principal) (p : Principal) → Contains table p → list_any (same_principal p) table ≡ true
member_met table p c = list_any_at (same_principal p) table c.0 p c.1 (rw c.2 (same_principal-itself p))

met-all : (table ps : List Principal) → All (Contains table) ps → met table ps ≡ table
met-all table [] all = refl
met-all table (p ∷ ps) all =
    met-there table p ps (member_met table p (All-head (Contains table) p ps all)) ∙ met-all table ps (All-tail (Contains table) p ps all)

-- what is there is taken in as it is
pub taken_known : (nodes : List Node) (table : IsNodeTable nodes) (k : ℕ) (p : Principal) → k < length nodes → named nodes k ≡ p → TakesIn nodes nodes (post_order p) p k
taken_known nodes table k p h e = record {
  table = table;
  grown = rw (← e) (sym (met-all (principals_of nodes) (post_order (named nodes k)) (posts_in nodes table k h)));
  within = h;
  named_is = e;
}

-- nothing is carried yet
pub carried_none : (nodes : List Node) (n : ℕ) → n ≡ length nodes → AreCarried nodes [] (replicate n 65535)
carried_none nodes n e = record {
  long = long ∙ e;
  same = λ i k at ne.
      let low : i < n = omega (arith, slice_get_within {A = ℕ} (replicate n 65535) i k at, long) in
      absurd (ne (sym (get_or_from_slice_get (replicate n 65535) i k 0 at) ∙ get_or-replicate n i 65535 0 low));
}
  where
    long : length {A = ℕ} (replicate n 65535) ≡ n
    long = length-replicate {A = ℕ} n 65535

-- one more is carried
pub carried_more : (nodes old new : List Node) (numbers : List ℕ) (ps : List Principal) (id number : ℕ) → id < length nodes → AreCarried nodes old numbers →
    TakesIn old new ps (named nodes id) number → AreCarried nodes new (set numbers id number)
carried_more nodes old new numbers ps id number inside c t = record {
  long = length-set numbers id number ∙ c.long;
  same = λ i k at ne. go i k at ne (same_or_not i id);
}
  where
    go : (i k : ℕ) → slice_get (set numbers id number) i ≡ Some k → k ≢ 65535 → (i ≡ id) ⊎ (i ≢ id) → (k < length new) × (named new k ≡ named nodes i)
    go i k at ne (inl q) =
        let is : k ≡ number = sym (get_or_from_slice_get (set numbers id number) i k 0 at) ∙ ap (λ n. get_or (set numbers id number) n 0) q ∙ get_or-set_same numbers id number 0 (omega (arith, inside, c.long)) in
        rw (is, q) (t.within, t.named_is)
    go i k at ne (inr n) =
        let low : i < length numbers = omega (arith, slice_get_within (set numbers id number) i k at, length-set numbers id number) in
        let read : get_or numbers i 0 ≡ k = sym (get_or-set_other numbers id i number 0 n) ∙ get_or_from_slice_get (set numbers id number) i k 0 at in
        let (h, e) = c.same i k (slice_get-get_or numbers i 0 low ∙ ap (λ (m : ℕ). Some m) read) ne in
        (omega (arith, h, length_grown old new ps (named nodes id) number t), named_stays old new ps (named nodes id) number t k h ∙ e)
