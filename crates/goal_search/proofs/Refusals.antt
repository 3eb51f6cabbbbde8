-- What wanted rows refuse, and which row is to be wanted where they do not.
use Rattle.std.proofs.Common.{false, ◌≡◌, inl, inr, ℕ, ◌+◌, ◌<◌, List, Some, slice_get, slice_index, get_or, length, sym, ◌∙◌, ap, subst, Contains, arith}
use Rattle.std.specs.Prelude.{IsTrue, option_map}
use Rattle.std.proofs.lemmas.List.{get_or_default}
use Rattle.std.proofs.lemmas.List.Elements.{All-contains}
use Rattle.std.proofs.lemmas.Option.{slice_get-map, slice_get_within}
use Rattle.taos_calculus.specs.Tables.{named}
use Rattle.taos_calculus.proofs.Naming.{named_apart}
use Rattle.term_pool.specs.declared.cited.Cited.{Cited}
use Rattle.term_pool.specs.Claims.{CitedIn, claim_by}
use Rattle.goal_search.specs.Goals.{ForWhom, WhoSays}
use Rattle.goal_search.specs.Gaps.{IsUnwanted, IsSayingRow, RefusesIn, SaysAll}
use Rattle.goal_search.specs.NumberedRows.{BeginsAt}
use Rattle.goal_search.specs.Reasons.{IsAlike, IsPassed, IsSaid}
use Rattle.goal_search.specs.Searching.{Core, about, claims_in, Has, IsBegun, IsNumber, IsReady, IsRow, from_itself, from_speakers}
use Rattle.goal_search.proofs.ByCited.{begins_cited}
use Rattle.goal_search.proofs.Told.{cited_below, same_cited}

-- false is not true
pub never : IsTrue false → ⊥
never t = cc

-- what stands at a place of a list is in it
pub stands_in : (xs : List ℕ) (k x : ℕ) → k < length xs → x ≡ get_or xs k x → Contains xs x
stands_in xs k x h e = (k, h, sym e)

pub read_at : (xs : List ℕ) (k x : ℕ) → k < length xs → x ≡ get_or xs k x → x ≡ slice_index xs k
read_at xs k x h e = e ∙ get_or_default xs k x 0 h

pub place_in : (xs : List ℕ) (x : ℕ) → Contains xs x → (k : ℕ) × (k < length xs) × (slice_index xs k ≡ x)
place_in xs x (k, h, e) = (k, h, get_or_default xs k 0 x h ∙ e)

module _ (s : Core) (ready : IsReady s) where
  wanted_row : (row : ℕ) → Contains s.wanted row → IsRow s row × IsBegun (about s) (Has s) row
  wanted_row row c = All-contains (λ x. IsRow s x × IsBegun (about s) (Has s) x) s.wanted row ready.wanted c

  pub row_wanted : (row : ℕ) → Contains s.wanted row → IsRow s row
  row_wanted row c = (wanted_row row c).0

  pub begun_number : (row : ℕ) → Contains s.wanted row → IsNumber s row → Has s row row
  begun_number row c h = go (wanted_row row c).1
    where
      go : IsBegun (about s) (Has s) row → Has s row row
      go (from_itself b k) = k
      go (from_speakers k e p all) = absurd (omega (arith, p, h))

  pub begun_statement : (row i : ℕ) → Contains s.wanted row → row ≡ length s.nodes + i → SaysAll s row i
  begun_statement row i c at = go (wanted_row row c).1
    where
      go : IsBegun (about s) (Has s) row → SaysAll s row i
      go (from_itself b k) = absurd (omega (arith, at, b))
      go (from_speakers {d} k e p all) = λ j x y ex ey alike.
          let here : k ≡ i = omega (arith, at, p) in
          let same : y ≡ d = same_cited s i y d ey (ap (slice_get s.cited) (sym here) ∙ e) in
          all j x ex (subst (λ (z : Cited). IsAlike x z) same alike)

  pub says_begins : (row i : ℕ) (c : Cited) → slice_get s.cited i ≡ Some c → SaysAll s row i → BeginsAt s.nodes (claims_in (about s)) (Has s) (WhoSays c.left c.right) row
  says_begins row i c e says =
      let b : CitedIn (length s.nodes) c = cited_below s ready i c e in
      begins_cited s.nodes ready.table s.cited ready.cited_in (Has s) c.left c.right row b.left b.right (λ j x ex p q. says j x c ex e (p, q))

  pub begins_says : (row i : ℕ) (c : Cited) → slice_get s.cited i ≡ Some c → BeginsAt s.nodes (claims_in (about s)) (Has s) (WhoSays c.left c.right) row → SaysAll s row i
  begins_says row i c e begins j x y ex ey alike =
      let same : y ≡ c = same_cited s i y c ey e in
      let el : x.left ≡ c.left = alike.0 ∙ ap (λ (z : Cited). z.left) same in
      let er : x.right ≡ c.right = alike.1 ∙ ap (λ (z : Cited). z.right) same in
      let (w, at, h) = begins j (claim_by (named s.nodes) x) (slice_get-map (claim_by (named s.nodes)) s.cited j ∙ ap (option_map (claim_by (named s.nodes))) ex)
      (ap (named s.nodes) el) (ap (named s.nodes) er) in
      subst (λ (n : ℕ). Has s row n) (named_apart s.nodes ready.table w x.speaker at.0 (cited_below s ready j x ex).speaker at.1) h

  -- the row of one that neither passes nor is refused is not wanted
  pub side_open : (left right : ℕ) → IsNumber s left → (IsPassed (Has s) left right → ⊥) → (RefusesIn s (ForWhom left) right → ⊥) → IsUnwanted s left
  side_open left right h passed refused = (
    omega (arith, h),
    λ w. refused (record { row = left; finished = w; begins = begun_number left w h; lacks = λ k. passed (inr k) }),
  )

  pub saying_open : (i who row : ℕ) (c : Cited) → slice_get s.cited i ≡ Some c → IsSayingRow s i row → (IsSaid (about s) (Has s) i c who → ⊥) →
      (RefusesIn s (WhoSays c.left c.right) who → ⊥) → IsUnwanted s row
  saying_open i who row c e (inl at) said refused = (
    omega (arith, at, slice_get_within s.cited i c e),
    λ w. refused (record {
      row = row;
      finished = w;
      begins = says_begins row i c e (begun_statement row i w at);
      lacks = λ k. said (inl (subst (λ (r : ℕ). Has s r who) at k));
    }),
  )
  saying_open i who row c e (inr (d, f, at, says)) said refused =
      let same : d ≡ c = same_cited s i d c f e in
      let is : row ≡ c.speaker = at ∙ ap (λ (z : Cited). z.speaker) same in (
        omega (arith, is, (cited_below s ready i c e).speaker),
        λ w. refused (record {
          row = row;
          finished = w;
          begins = says_begins row i c e says;
          lacks = λ k. said (inr (subst (λ (r : ℕ). Has s r who) is k));
        }),
      )

  -- no wanted row refuses, where each one that has the goal's beginning has the answer
  pub no_refusal : (left right : ℕ) → ((k : ℕ) → k < length s.wanted → Has s (slice_index s.wanted k) left → Has s (slice_index s.wanted k) right) → RefusesIn s (ForWhom left) right → ⊥
  no_refusal left right all r =
      let (k, h, e) = place_in s.wanted r.row r.finished in
      r.lacks (subst (λ (x : ℕ). Has s x right) e (all k h (subst (λ (x : ℕ). Has s x left) (sym e) r.begins)))

  pub no_saying_refusal : (i who : ℕ) (c : Cited) → slice_get s.cited i ≡ Some c →
      ((k : ℕ) → k < length s.wanted → (Has s (slice_index s.wanted k) who → ⊥) → SaysAll s (slice_index s.wanted k) i → ⊥) → RefusesIn s (WhoSays c.left c.right) who → ⊥
  no_saying_refusal i who c e none r =
      let (k, h, q) = place_in s.wanted r.row r.finished in
      none k h (λ z. r.lacks (subst (λ (x : ℕ). Has s x who) q z))
      (subst (λ (x : ℕ). SaysAll s x i) (sym q) (begins_says r.row i c e r.begins))
