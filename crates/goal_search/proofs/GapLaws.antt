-- What is left to do about a row, or what shows that nothing is.
use Rattle.std.proofs.Common.{◌≡◌, inl, ℕ, Option, Some, None, MatchOption, slice_get, sym, subst, ◌∙◌, Contains}
use Rattle.std.proofs.lemmas.Option.{same_Some}
use Rattle.taos_calculus.specs.declared.line.Node.{Node}
use Rattle.term_pool.specs.declared.cited.Cited.{Cited}
use Rattle.goal_search.specs.declared.look.Gap.TheVariants.{Number}
use Rattle.goal_search.specs.Edges.{IsDelegation}
use Rattle.goal_search.specs.Gaps.{IsGap, IsOpenIn, IsPassedOnIn, RefusesIn}
use Rattle.goal_search.specs.Goals.{WhoSays}
use Rattle.goal_search.specs.NumberedRows.{IsUnheardAt}
use Rattle.goal_search.specs.Reasons.{IsEdge, IsSaid, onward}
use Rattle.goal_search.specs.Searching.{Core, about, claims_in, Has, IsNumber, IsReady, IsRow}
use Rattle.goal_search.proofs.EdgeLaws.{heard_by_right, heard_by_delegator}
use Rattle.goal_search.proofs.Told.{cited_below, same_cited}

-- what is so where nothing is found, may be less
pub for_none : {X N M : Type 0} (o : Option X) (S : X → Type 0) → (N → M) → MatchOption o N S → MatchOption o M S
for_none None S f n = f n
for_none (Some x) S f m = m

module _ (s : Core) where
  -- a number that an edge gives
  pub edge_gap : (row from to : ℕ) → IsRow s row → IsNumber s from → IsNumber s to → Has s row from → (Has s row to → ⊥) → IsEdge (about s) (Has s) from to → IsGap s (Number row to from)
  edge_gap row from to row_in from_in to_in has lacks edge = (row_in, to_in, lacks, onward from_in has edge)

  -- a row that has the one number is passed it on, and one that lacks the other has nothing to pass
  pub there_passed : (row i j : ℕ) → Has s row j → IsPassedOnIn s row i j
  there_passed row i j h = record {
    quoting = λ a b c d e f k. inl h;
    for_both = λ a b c d e f k. inl h;
    role_under = λ a c r e f k. inl h;
  }

  pub lacks_passed : (row i j : ℕ) → (Has s row i → ⊥) → IsPassedOnIn s row i j
  lacks_passed row i j n = record {
    quoting = λ a b c d e f k. absurd (n k);
    for_both = λ a b c d e f k. absurd (n k);
    role_under = λ a c r e f k. absurd (n k);
  }

module _ (s : Core) (ready : IsReady s) (row i : ℕ) (row_in : IsRow s row) (it : Cited) (stands : slice_get s.cited i ≡ Some it) (lacking : IsOpenIn s row i) where
  pub right_gap : IsEdge (about s) (Has s) it.left it.right → IsGap s (Number row it.right it.left)
  right_gap edge =
      let b = cited_below s ready i it stands in
      edge_gap s row it.left it.right row_in b.left b.right (lacking it stands).0 (lacking it stands).1 edge

  pub handed_is : IsSaid (about s) (Has s) i it it.right → IsGap s (Number row it.right it.left)
  handed_is said = right_gap (heard_by_right s i it it stands stands said)

  pub delegated_is : (a b : ℕ) → IsDelegation s i a b → IsSaid (about s) (Has s) i it a → IsGap s (Number row it.right it.left)
  delegated_is a b d said = right_gap (heard_by_delegator s i a b it it stands stands d said)

-- a certificate that its right side does not say, and no delegator
module _ (s : Core) (i : ℕ) (c : Cited) (stands : slice_get s.cited i ≡ Some c) (refused : RefusesIn s (WhoSays c.left c.right) c.right) where
  pub unheard_none : ((a b : ℕ) → IsDelegation s i a b → ⊥) → IsUnheardAt s.nodes (claims_in (about s)) (Contains s.wanted) (Has s) c.left c.right
  unheard_none none = record {
    by_right = refused;
    by_delegator = λ a b el er. absurd (none a b (record { cited = c; stands = stands; left_is = el; right_is = er }));
  }

  pub unheard_some : (who b : ℕ) → IsDelegation s i who b → RefusesIn s (WhoSays c.left c.right) who → IsUnheardAt s.nodes (claims_in (about s)) (Contains s.wanted) (Has s) c.left c.right
  unheard_some who b d also = record {
    by_right = refused;
    by_delegator = λ a b' el er.
        let same : d.cited ≡ c = same_cited s i d.cited c d.stands stands in
        let left_is : slice_get s.nodes c.left ≡ Some (Node.Quote b who) = subst (λ (x : Cited). slice_get s.nodes x.left ≡ Some (Node.Quote b who)) same d.left_is in
        let one : Node.Quote b who ≡ Node.Quote b' a = same_Some (Node.Quote b who) (Node.Quote b' a) (sym left_is ∙ el) in
        let is : who ≡ a = cc in
        subst (λ (x : ℕ). RefusesIn s (WhoSays c.left c.right) x) is also;
  }
