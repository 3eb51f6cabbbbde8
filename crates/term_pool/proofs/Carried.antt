-- A number of one table, by its operands, and its principal in another table.
use Rattle.std.proofs.Common.{◌≡◌, ◌⊎◌, inl, inr, ℕ, ◌<◌, ◌≤◌, List, [], ◌∷◌, ◌++◌, Some, slice_get, get_or, length, refl, sym, ap, ap₂, subst, ◌∙◌, arith}
use Rattle.std.specs.List.{flat_map}
use Rattle.std.proofs.lemmas.List.{append-nil}
use Rattle.std.proofs.lemmas.Option.{slice_get-get_or}
use Rattle.prin_term.specs.Kind.{Kind, And, Quoting, For, pair}
use Rattle.prin_term.specs.Principal.{Principal, Key, Name, InRole}
use Rattle.taos_calculus.specs.declared.line.Node.{Node}
use Rattle.taos_calculus.specs.declared.line.Fact.{Fact}
use Rattle.taos_calculus.specs.Rules.{SpeaksFor, Says}
use Rattle.taos_calculus.specs.Canonical.{post_order}
use Rattle.stmt_codec.specs.Distinct.{met}
use Rattle.taos_calculus.specs.Tables.{shape, IsNodeTable, named, principals_of}
use Rattle.taos_calculus.proofs.Naming.{named_reads}
use Rattle.stmt_codec.proofs.Firsts.{met-append}
use Rattle.term_pool.specs.Interning.{Fits, TakesIn, node_pair}
use Rattle.term_pool.specs.Carrying.{CarriesFact}
use Rattle.term_pool.proofs.Interned.{fits_front, fits_next, length_grown, named_stays}

-- the node at a number that has two operands
pub record PairAt (nodes : List Node) (i a b : ℕ) (n : Node) : Type 0 where
  pub kind : Kind
  pub is : n ≡ node_pair kind a b
  pub named_is : named nodes i ≡ pair kind (named nodes a) (named nodes b)
  pub a_low : a < i
  pub b_low : b < i

pub record RoleAt (nodes : List Node) (i a r : ℕ) : Type 0 where
  pub named_is : named nodes i ≡ InRole (named nodes a) r
  pub a_low : a < i

module _ (nodes : List Node) (table : IsNodeTable nodes) (i : ℕ) (h : i < length nodes) where
  stands : (n : Node) → get_or nodes i (Node.Key 0) ≡ n → slice_get nodes i ≡ Some n
  stands n e = slice_get-get_or nodes i (Node.Key 0) h ∙ ap (λ (x : Node). Some x) e

  pub atom_named : (n : Node) → get_or nodes i (Node.Key 0) ≡ n → ((k : ℕ) × (n ≡ Node.Key k)) ⊎ ((k : ℕ) × (n ≡ Node.Name k)) → (p : ℕ → Principal) →
      (shape p n ≡ named nodes i) × (post_order (named nodes i) ≡ shape p n ∷ [])
  atom_named n e (inl (k, q)) p =
      let r : named nodes i ≡ Key k = named_reads nodes table i (Node.Key k) (stands (Node.Key k) (e ∙ q)) in
      (rw q (sym r), rw (r, q) refl)
  atom_named n e (inr (k, q)) p =
      let r : named nodes i ≡ Name k = named_reads nodes table i (Node.Name k) (stands (Node.Name k) (e ∙ q)) in
      (rw q (sym r), rw (r, q) refl)

  pub role_at : (a r : ℕ) → get_or nodes i (Node.Key 0) ≡ Node.AsRole a r → RoleAt nodes i a r
  role_at a r e = record {
    named_is = named_reads nodes table i (Node.AsRole a r) (stands (Node.AsRole a r) e);
    a_low = table.ordered i (Node.AsRole a r) (stands (Node.AsRole a r) e);
  }

  pub pair_at : (a b : ℕ) (n : Node) → n ≡ get_or nodes i (Node.Key 0) →
      (get_or nodes i (Node.Key 0) ≡ Node.And a b) ⊎ ((get_or nodes i (Node.Key 0) ≡ Node.Quote a b) ⊎ (get_or nodes i (Node.Key 0) ≡ Node.For a b)) → PairAt nodes i a b n
  pair_at a b n e (inl q) =
      let s : slice_get nodes i ≡ Some (Node.And a b) = stands (Node.And a b) q in
      let low : (a < i) × (b < i) = table.ordered i (Node.And a b) s in
      record { kind = And; is = e ∙ q; named_is = named_reads nodes table i (Node.And a b) s; a_low = low.0; b_low = low.1 }
  pair_at a b n e (inr (inl q)) =
      let s : slice_get nodes i ≡ Some (Node.Quote a b) = stands (Node.Quote a b) q in
      let low : (a < i) × (b < i) = table.ordered i (Node.Quote a b) s in
      record { kind = Quoting; is = e ∙ q; named_is = named_reads nodes table i (Node.Quote a b) s; a_low = low.0; b_low = low.1 }
  pair_at a b n e (inr (inr q)) =
      let s : slice_get nodes i ≡ Some (Node.For a b) = stands (Node.For a b) q in
      let low : (a < i) × (b < i) = table.ordered i (Node.For a b) s in
      record { kind = For; is = e ∙ q; named_is = named_reads nodes table i (Node.For a b) s; a_low = low.0; b_low = low.1 }

-- two terms, and three, one after another
two_posts : (a b : Principal) → flat_map post_order (a ∷ b ∷ []) ≡ post_order a ++ post_order b
two_posts a b = ap (λ (l : List Principal). post_order a ++ l) (append-nil (post_order b))

three_posts : (a b c : Principal) → flat_map post_order (a ∷ b ∷ c ∷ []) ≡ post_order a ++ (post_order b ++ post_order c)
three_posts a b c = ap (λ (l : List Principal). post_order a ++ (post_order b ++ l)) (append-nil (post_order c))

pub speaks_first : (new : List Node) (a b : Principal) → Fits new (flat_map post_order (a ∷ b ∷ [])) → Fits new (post_order a)
speaks_first new a b f = fits_front new (post_order a) (post_order b) (subst (λ (ps : List Principal). Fits new ps) (two_posts a b) f)

pub speaks_second : (n0 n1 : List Node) (a b : Principal) (x : ℕ) → TakesIn n0 n1 (post_order a) a x → Fits n0 (flat_map post_order (a ∷ b ∷ [])) → Fits n1 (post_order b)
speaks_second n0 n1 a b x t f = fits_next n0 n1 (post_order a) a x t (post_order b) (subst (λ (ps : List Principal). Fits n0 ps) (two_posts a b) f)

pub says_first : (new : List Node) (a b c : Principal) → Fits new (flat_map post_order (a ∷ b ∷ c ∷ [])) → Fits new (post_order a)
says_first new a b c f = fits_front new (post_order a) (post_order b ++ post_order c) (subst (λ (ps : List Principal). Fits new ps) (three_posts a b c) f)

says_rest : (n0 n1 : List Node) (a b c : Principal) (x : ℕ) → TakesIn n0 n1 (post_order a) a x → Fits n0 (flat_map post_order (a ∷ b ∷ c ∷ [])) → Fits n1 (post_order b ++ post_order c)
says_rest n0 n1 a b c x t f = fits_next n0 n1 (post_order a) a x t (post_order b ++ post_order c) (subst (λ (ps : List Principal). Fits n0 ps) (three_posts a b c) f)

pub says_second : (n0 n1 : List Node) (a b c : Principal) (x : ℕ) → TakesIn n0 n1 (post_order a) a x → Fits n0 (flat_map post_order (a ∷ b ∷ c ∷ [])) → Fits n1 (post_order b)
says_second n0 n1 a b c x t f = fits_front n1 (post_order b) (post_order c) (says_rest n0 n1 a b c x t f)

pub says_third : (n0 n1 n2 : List Node) (a b c : Principal) (x y : ℕ) → TakesIn n0 n1 (post_order a) a x → TakesIn n1 n2 (post_order b) b y →
    Fits n0 (flat_map post_order (a ∷ b ∷ c ∷ [])) → Fits n2 (post_order c)
says_third n0 n1 n2 a b c x y t u f = fits_next n1 n2 (post_order b) b y u (post_order c) (says_rest n0 n1 a b c x t f)

pub carries_speaks : (nodes n0 n1 n2 : List Node) (l r x y : ℕ) → TakesIn n0 n1 (post_order (named nodes l)) (named nodes l) x → TakesIn n1 n2 (post_order (named nodes r)) (named nodes r) y →
    CarriesFact nodes n0 n2 (Fact.Speaks l r) (Fact.Speaks x y)
carries_speaks nodes n0 n1 n2 l r x y t u =
    let a : Principal = named nodes l in
    let b : Principal = named nodes r in
    let x_is : named n2 x ≡ a = named_stays n1 n2 (post_order b) b y u x t.within ∙ t.named_is in
    record {
      table = u.table;
      grown = u.grown ∙ ap (λ (p : List Principal). met p (post_order b)) t.grown ∙ sym (ap (met (principals_of n0)) (two_posts a b) ∙ met-append (principals_of n0) (post_order a) (post_order b));
      below = (omega (arith, t.within, length_grown n1 n2 (post_order b) b y u), u.within);
      says = ap₂ SpeaksFor x_is u.named_is;
    }

pub carries_says : (nodes n0 n1 n2 n3 : List Node) (w l r x y z : ℕ) → TakesIn n0 n1 (post_order (named nodes w)) (named nodes w) x → TakesIn n1 n2 (post_order (named nodes l)) (named nodes l) y →
    TakesIn n2 n3 (post_order (named nodes r)) (named nodes r) z → CarriesFact nodes n0 n3 (Fact.Says w l r) (Fact.Says x y z)
carries_says nodes n0 n1 n2 n3 w l r x y z t u v =
    let a : Principal = named nodes w in
    let b : Principal = named nodes l in
    let c : Principal = named nodes r in
    let up : length n1 ≤ length n2 = length_grown n1 n2 (post_order b) b y u in
    let up' : length n2 ≤ length n3 = length_grown n2 n3 (post_order c) c z v in
    let x_is : named n3 x ≡ a = named_stays n2 n3 (post_order c) c z v x (omega (arith, t.within)) ∙ named_stays n1 n2 (post_order b) b y u x t.within ∙ t.named_is in
    let y_is : named n3 y ≡ b = named_stays n2 n3 (post_order c) c z v y u.within ∙ u.named_is in
    record {
      table = v.table;
      grown = v.grown ∙ ap (λ (p : List Principal). met p (post_order c)) (u.grown ∙ ap (λ (p : List Principal). met p (post_order b)) t.grown) ∙
          sym (ap (met (principals_of n0)) (three_posts a b c) ∙ met-append (principals_of n0) (post_order a) (post_order b ++ post_order c) ∙ met-append (met (principals_of n0) (post_order a)) (post_order b) (post_order c));
      below = (omega (arith, t.within), omega (arith, u.within), v.within);
      says = (λ k. Says (x_is k) (y_is k) (v.named_is k));
    }
