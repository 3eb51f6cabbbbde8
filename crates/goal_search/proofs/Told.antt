-- What lines tell, and lines that tell more.
use Rattle.std.proofs.Common.{◌≡◌, ◌⊎◌, inl, inr, ℕ, zero, suc, ◌+◌, ◌*◌, ◌<◌, List, [], ◌∷◌, ◌++◌, slice_get, Some, refl, sym, ◌∙◌, ap, subst, length, arith}
use Rattle.std.specs.Prelude.{option_map}
use Rattle.std.proofs.lemmas.List.{map-append}
use Rattle.std.proofs.lemmas.Option.{same_Some, none-some, slice_get-map, slice_get_within}
use Rattle.taos_calculus.specs.declared.line.Fact.{Fact}
use Rattle.taos_calculus.specs.declared.line.Line.{Line}
use Rattle.taos_calculus.specs.declared.line.Step.{Step}
use Rattle.taos_calculus.specs.Numbered.{Gives, facts_at, left, right, role, said}
use Rattle.taos_calculus.specs.declared.line.Node.{Node}
use Rattle.taos_calculus.proofs.Naming.{operands_below}
use Rattle.taos_calculus.specs.Tables.{named, OperandsBelow}
use Rattle.taos_calculus.specs.Tables.{IsBelow}
use Rattle.taos_calculus.proofs.Building.{slice_get-front, slice_get-back}
use Rattle.taos_calculus.proofs.Induction.{All-at}
use Rattle.term_pool.specs.Claims.{CitedIn, claim_by}
use Rattle.term_pool.specs.declared.cited.Cited.{Cited}
use Rattle.term_pool.specs.declared.found.Found.{Found}
use Rattle.term_pool.specs.declared.found.Pair.{Pair}
use Rattle.term_pool.specs.Finding.{IsFound, HasCell, CellOf, of_speaks, of_says, IsFirstOf, facts_in, pair, statement_of}
use Rattle.term_pool.proofs.Keeping.{each_gives-more}
use Rattle.term_pool.proofs.Orders.{same_or_not}
use Rattle.goal_search.specs.Searching.{Core, IsReady, about, claims_in}
use Rattle.goal_search.specs.Telling.{IsTelling, IsTold, TellsMore, TellsOf, TellsPassed, TellsSaid, TellsHeard, IsFactIn, speaking, saying, of_number, of_statement}

-- where a statement stands, it stands first somewhere
same_pair : (x : Pair) (l r : ℕ) → (x ≡ pair l r) ⊎ (x ≡ pair l r → ⊥)
same_pair x l r = two (same_or_not x.left l) (same_or_not x.right r)
  where
    two : (x.left ≡ l) ⊎ (x.left ≡ l → ⊥) → (x.right ≡ r) ⊎ (x.right ≡ r → ⊥) → (x ≡ pair l r) ⊎ (x ≡ pair l r → ⊥)
    two (inl p) (inl q) = inl (λ i. record { left = p i; right = q i })
    two (inl p) (inr n) = inr (λ e. n (ap (λ (z : Pair). z.right) e))
    two (inr n) q = inr (λ e. n (ap (λ (z : Pair). z.left) e))

later_place : (x : Pair) (xs : List Pair) (k l r : ℕ) → slice_get (x ∷ xs) k ≡ Some (pair l r) → (x ≡ pair l r → ⊥) → (j : ℕ) × (slice_get xs j ≡ Some (pair l r))
later_place x xs zero l r e n = absurd (n (same_Some x (pair l r) e))
later_place x xs (suc j) l r e n = (j, e)

none_before : (x : Pair) (xs : List Pair) (l r m : ℕ) → (x ≡ pair l r → ⊥) →
    ((i : ℕ) → i < m → slice_get xs i ≡ Some (pair l r) → ⊥) → (i : ℕ) → i < suc m → slice_get (x ∷ xs) i ≡ Some (pair l r) → ⊥
none_before x xs l r m n none zero h f = n (same_Some x (pair l r) f)
none_before x xs l r m n none (suc i) h f = none i (omega arith) f

first_place : (xs : List Pair) (k l r : ℕ) → slice_get xs k ≡ Some (pair l r) → (m : ℕ) × IsFirstOf xs l r m
first_place [] k l r e = absurd (none-some (pair l r) e)
first_place (x ∷ xs) k l r e = go (same_pair x l r) (λ j f. first_place xs j l r f)
  where
    go : (x ≡ pair l r) ⊎ (x ≡ pair l r → ⊥) → ((j : ℕ) → slice_get xs j ≡ Some (pair l r) → (m : ℕ) × IsFirstOf xs l r m) → (m : ℕ) × IsFirstOf (x ∷ xs) l r m
    go (inl p) below = (0, record { stands = ap (λ (z : Pair). Some z) p; first = λ m h. absurd (omega arith) })
    go (inr n) below =
        let (j, f) = later_place x xs k l r e n in
        let (m, is) = below j f in
        (suc m, record { stands = is.stands; first = none_before x xs l r m n is.first })

module _ (s : Core) (ready : IsReady s) where
  -- the numbers of a certificate are of the table
  pub cited_below : (i : ℕ) (c : Cited) → slice_get s.cited i ≡ Some c → CitedIn (length s.nodes) c
  cited_below i c e = All-at (CitedIn (length s.nodes)) s.cited i c ready.cited_in e

  -- the operands of a node are numbers of the table
  pub node_below : (i : ℕ) (node : Node) → slice_get s.nodes i ≡ Some node → OperandsBelow (length s.nodes) node
  node_below i node e = operands_below i (length s.nodes) node (ready.table.ordered i node e) (slice_get_within s.nodes i node e)

  -- a fact that may stand in the lines has its place there
  pub fact_below : (f : Found) (fact : Fact) → IsTelling s f → IsFactIn s fact → HasCell f fact
  fact_below f fact t (speaking {left} {right} h k e) =
      subst (λ n. IsBelow n fact) (sym t.width_is) (subst (IsBelow (length s.nodes)) (sym e) (h, k))
  fact_below f fact t (saying {who} {c} i h g e) =
      let b : CitedIn (length s.nodes) c = cited_below i c g in
      subst (λ n. IsBelow n fact) (sym t.width_is) (subst (IsBelow (length s.nodes)) (sym e) (h, b.left, b.right))

  pub fact_celled : (f : Found) (fact : Fact) → IsTelling s f → IsFactIn s fact → (c : ℕ) × CellOf f fact c
  fact_celled f fact t (speaking {left} {right} h k e) =
      subst (λ (x : Fact). (c : ℕ) × CellOf f x c) (sym e)
      (left * f.width + right, of_speaks (subst (λ n. left < n) (sym t.width_is) h) (subst (λ n. right < n) (sym t.width_is) k) refl)
  fact_celled f fact t (saying {who} {c} i h g e) =
      let stands : slice_get f.statements.items i ≡ Some (pair c.left c.right) =
      subst (λ (xs : List Pair). slice_get xs i ≡ Some (pair c.left c.right)) (sym t.stated)
      (slice_get-map statement_of s.cited i ∙ ap (option_map statement_of) g) in
      let (m, is) = first_place f.statements.items i c.left c.right stands in
      subst (λ (x : Fact). (c : ℕ) × CellOf f x c) (sym e)
      ((f.width + m) * f.width + who, of_says m (subst (λ n. who < n) (sym t.width_is) h) is refl)

  -- one line more
  module _ (f g : Found) (fact : Fact) (step : Step) (telling : IsTelling s f) (found : IsFound g) (width : g.width ≡ f.width)
      (statements : g.statements ≡ f.statements) (lines : g.lines.items ≡ f.lines.items ++ record { fact = fact; step = step } ∷ [])
      (gives : Gives s.nodes s.anchors (claims_in (about s)) (facts_in f) fact step) where
    facts_more : facts_in g ≡ facts_in f ++ fact ∷ []
    facts_more = ap facts_at lines ∙ map-append (λ (l : Line). l.fact) f.lines.items (record { fact = fact; step = step } ∷ [])

    pub told_more : TellsMore s f g
    told_more = record {
      telling = record {
        found = found;
        width_is = width ∙ telling.width_is;
        stated = ap (λ v. v.items) statements ∙ telling.stated;
        anchors_fit = telling.anchors_fit;
        sound = rw lines (each_gives-more s.nodes s.anchors (claims_in (about s)) [] f.lines.items (record { fact = fact; step = step }) telling.sound gives);
      };
      kept = λ x (k, e). (k, ap (λ (xs : List Fact). slice_get xs k) facts_more ∙ slice_get-front (facts_in f) (fact ∷ []) k x e);
    }

    pub told_now : IsTold g fact
    told_now = (
      length (facts_in f),
      ap (λ (xs : List Fact). slice_get xs (length (facts_in f))) facts_more ∙ slice_get-back (facts_in f) (fact ∷ []) 0 (length (facts_in f)) (omega arith),
    )

pub more_none : (s : Core) (f : Found) → IsTelling s f → TellsMore s f f
more_none s f t = record { telling = t; kept = λ x k. k }

pub more_then : (s : Core) (f g h : Found) → TellsMore s f g → TellsMore s g h → TellsMore s f h
more_then s f g h m n = record { telling = n.telling; kept = λ x k. n.kept x (m.kept x k) }

module _ (s : Core) (f g : Found) (more : TellsMore s f g) where
  pub of_kept : (row number : ℕ) → TellsOf s f row number → TellsOf s g row number
  of_kept row number t fact is = more.kept fact (t fact is)

  pub passed_kept : (a c : ℕ) → TellsPassed s f a c → TellsPassed s g a c
  passed_kept a c (inl e) = inl e
  passed_kept a c (inr t) = inr (of_kept a c t)

  pub said_kept : (i : ℕ) (c : Cited) (t : ℕ) → TellsSaid s f i c t → TellsSaid s g i c t
  said_kept i c t (inl k) = inl (of_kept (length s.nodes + i) t k)
  said_kept i c t (inr k) = inr (of_kept c.speaker t k)

-- a number that is in the row of another is told so
pub told_speaks : (s : Core) (f : Found) (row number : ℕ) → row < length s.nodes → TellsOf s f row number → IsTold f (Fact.Speaks row number)
told_speaks s f row number h t = t (Fact.Speaks row number) (of_number h refl)

pub told_says : (s : Core) (f : Found) (i who : ℕ) (c : Cited) → slice_get s.cited i ≡ Some c → TellsOf s f (length s.nodes + i) who → IsTold f (Fact.Says who c.left c.right)
told_says s f i who c e t = t (Fact.Says who c.left c.right) (of_statement i e refl refl)

module _ (s : Core) (facts : List Fact) where
  abbrev pub GivesIn : Fact → Step → Type 0
  GivesIn fact step = Gives s.nodes s.anchors (claims_in (about s)) facts fact step

  pub gives_left : {a b : ℕ} (from to : ℕ) → slice_get s.nodes from ≡ Some (Node.And a b) → a ≡ to → GivesIn (Fact.Speaks from to) Step.Left
  gives_left {a} {b} from to e q = subst (λ (t : ℕ). GivesIn (Fact.Speaks from t) Step.Left) q (left {b = b} e)

  pub gives_right : {a b : ℕ} (from to : ℕ) → slice_get s.nodes from ≡ Some (Node.And a b) → b ≡ to → GivesIn (Fact.Speaks from to) Step.Right
  gives_right {a} {b} from to e q = subst (λ (t : ℕ). GivesIn (Fact.Speaks from t) Step.Right) q (right {a = a} e)

  pub gives_role : {a r : ℕ} (from to : ℕ) → slice_get s.nodes to ≡ Some (Node.AsRole a r) → a ≡ from → GivesIn (Fact.Speaks from to) Step.Role
  gives_role from to e q = subst (λ (t : ℕ). GivesIn (Fact.Speaks t to) Step.Role) q (role e)

  -- a certificate says what it states, and so does one that states the same
  pub gives_said : (i : ℕ) (c d : Cited) (who : ℕ) → slice_get s.cited i ≡ Some c → c.speaker ≡ who → c.left ≡ d.left → c.right ≡ d.right →
      GivesIn (Fact.Says who d.left d.right) (Step.Said i)
  gives_said i c d who e qw ql qr =
      let stands : slice_get (claims_in (about s)) i ≡ Some (claim_by (named s.nodes) c) =
      slice_get-map (claim_by (named s.nodes)) s.cited i ∙ ap (option_map (claim_by (named s.nodes))) e in
      said {claim = claim_by (named s.nodes) c} stands (ap (named s.nodes) (sym qw)) (ap (named s.nodes) (sym ql)) (ap (named s.nodes) (sym qr))

-- what a certificate gives is told still, and told of what was told before
module _ (s : Core) (f g h : Found) (from to : ℕ) (since : TellsMore s f g) (more : TellsMore s g h) where
  pub heard_still : (i : ℕ) → TellsHeard s f g from to i → TellsHeard s f h from to i
  heard_still i t = record {
    handed = λ c e p q k. more.kept (Fact.Speaks from to) (t.handed c e p q k);
    delegated = λ c a b e p q u v k. more.kept (Fact.Speaks from to) (t.delegated c a b e p q u v k);
  }

  pub heard_since : (i : ℕ) → TellsHeard s g h from to i → TellsHeard s f h from to i
  heard_since i t = record {
    handed = λ c e p q k. t.handed c e p q (said_kept s f g since i c to k);
    delegated = λ c a b e p q u v k. t.delegated c a b e p q u v (said_kept s f g since i c a k);
  }

  pub heard_next : (n : ℕ) → ((i : ℕ) → i < n → TellsHeard s f g from to i) → TellsHeard s g h from to n →
      (i : ℕ) → i < n + 1 → TellsHeard s f h from to i
  heard_next n before now i b = go (same_or_not i n)
    where
      go : (i ≡ n) ⊎ (i ≡ n → ⊥) → TellsHeard s f h from to i
      go (inl e) = subst (λ k. TellsHeard s f h from to k) (sym e) (heard_since n now)
      go (inr ne) = heard_still i (before i (below_else ne))
        where
          below_else : (i ≡ n → ⊥) → i < n
          below_else other = omega (arith, b, other)

-- where it is told that the one speaks for the other, each certificate's part of that is told
pub heard_told : (s : Core) (f g : Found) (from to : ℕ) → IsTold g (Fact.Speaks from to) → (i : ℕ) → TellsHeard s f g from to i
heard_told s f g from to told i = record {
  handed = λ c e p q k. told;
  delegated = λ c a b e p q u v k. told;
}

-- who says a statement is told, once it is wherever its certificate's speaker speaks for it
pub said_told : (s : Core) (ready : IsReady s) (f g : Found) (more : TellsMore s f g) (i who : ℕ) (c : Cited) → slice_get s.cited i ≡ Some c → TellsSaid s f i c who →
    (IsTold g (Fact.Speaks c.speaker who) → IsTold g (Fact.Says who c.left c.right)) → IsTold g (Fact.Says who c.left c.right)
said_told s ready f g more i who c e (inl t) then = more.kept (Fact.Says who c.left c.right) (told_says s f i who c e t)
said_told s ready f g more i who c e (inr t) then =
    then (more.kept (Fact.Speaks c.speaker who) (told_speaks s f c.speaker who (cited_below s ready i c e).speaker t))

-- what one certificate hands off, and then delegates, it gives
pub heard_one : (s : Core) (f g h : Found) (from to i : ℕ) (since : TellsMore s f g) (more : TellsMore s g h) →
    ((c : Cited) → slice_get s.cited i ≡ Some c → TellsSaid s f i c c.right → IsTold g (Fact.Speaks c.left c.right)) →
    ((c : Cited) (a b : ℕ) → slice_get s.cited i ≡ Some c → slice_get s.nodes c.left ≡ Some (Node.Quote b a) →
    slice_get s.nodes c.right ≡ Some (Node.For b a) → TellsSaid s g i c a → IsTold h (Fact.Speaks c.left c.right)) → TellsHeard s f h from to i
heard_one s f g h from to i since more handed delegated = record {
  handed = λ c e p q k. rw (p, q) (more.kept (Fact.Speaks c.left c.right) (handed c e (subst (λ x. TellsSaid s f i c x) q k)));
  delegated = λ c a b e p q u v k.
      rw (p, q) (delegated c a b e (subst (λ x. slice_get s.nodes x ≡ Some (Node.Quote b a)) p u)
      (subst (λ x. slice_get s.nodes x ≡ Some (Node.For b a)) q v) (said_kept s f g since i c a k));
}

-- certificates of one number are one
pub same_cited : (s : Core) (i : ℕ) (c d : Cited) → slice_get s.cited i ≡ Some c → slice_get s.cited i ≡ Some d → c ≡ d
same_cited s i c d e f = same_Some c d (sym e ∙ f)
