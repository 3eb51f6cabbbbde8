-- The certificates that a proof without waste cites say different things.
use Rattle.std.proofs.Common.{◌≡◌, ◌≢◌, ⊎_elim, ℕ, zero, suc, ◌<◌, List, [], ◌∷◌, ◌++◌, length, get_or, Some, slice_get, AllPairs, Contains, refl, sym, ◌∙◌, ap, subst, arith}
use Rattle.std.proofs.lemmas.Bool.{cases_order}
use Rattle.std.proofs.lemmas.Option.{none-some, same_Some, get_or_from_slice_get, slice_get_within}
use Rattle.prin_term.specs.declared.term.Anchor.{Anchor}
use Rattle.taos_calculus.specs.declared.line.Step.{Step}
use Rattle.taos_calculus.specs.Rules.{Claim, Judgement, Says, Line, Follows, same, chain, left, right, both, quoting, for_both, role, role_under, anchored, said, lift, join, hand_off, delegate, EachFollows}
use Rattle.taos_calculus.specs.Tidy.{cites_of, IsTidy}

module _ (anchors : List Anchor) (certs : List Claim) where
  -- a line that cites a claim says what that says
  cited_says : (earlier : List Judgement) (l : Line) (k : ℕ) → Follows anchors certs earlier l → Contains (cites_of l.step) k →
      (c : Claim) × (slice_get certs k ≡ Some c) × (l.fact ≡ Says c.speaker c.left c.right)
  cited_says earlier l k (said {claim} {i} e) (zero, lt, is) = let here : i ≡ k = is in (claim, subst (λ n. slice_get certs n ≡ Some claim) here e, refl)
  cited_says earlier l k (said {claim} {i} e) (suc n, lt, is) = absurd (omega arith)
  cited_says earlier l k same (n, lt, is) = absurd (omega arith)
  cited_says earlier l k (chain p q) (n, lt, is) = absurd (omega arith)
  cited_says earlier l k left (n, lt, is) = absurd (omega arith)
  cited_says earlier l k right (n, lt, is) = absurd (omega arith)
  cited_says earlier l k (both p q) (n, lt, is) = absurd (omega arith)
  cited_says earlier l k (quoting p q) (n, lt, is) = absurd (omega arith)
  cited_says earlier l k (for_both p q) (n, lt, is) = absurd (omega arith)
  cited_says earlier l k role (n, lt, is) = absurd (omega arith)
  cited_says earlier l k (role_under p) (n, lt, is) = absurd (omega arith)
  cited_says earlier l k (anchored e) (n, lt, is) = absurd (omega arith)
  cited_says earlier l k (lift p q) (n, lt, is) = absurd (omega arith)
  cited_says earlier l k (join p q) (n, lt, is) = absurd (omega arith)
  cited_says earlier l k (hand_off p) (n, lt, is) = absurd (omega arith)
  cited_says earlier l k (delegate p) (n, lt, is) = absurd (omega arith)

  each_at : (earlier : List Judgement) (lines : List Line) (i : ℕ) (l : Line) → EachFollows anchors certs earlier lines → slice_get lines i ≡ Some l →
      (before : List Judgement) × Follows anchors certs before l
  each_at earlier [] i l f e = absurd (none-some l e)
  each_at earlier (x ∷ xs) zero l f e = (earlier, subst (Follows anchors certs earlier) (same_Some x l e) f.0)
  each_at earlier (x ∷ xs) (suc i) l f e = each_at (earlier ++ x.fact ∷ []) xs i l f.1 e

-- a step cites one certificate at most
one_cite : (step : Step) (j k : ℕ) → Contains (cites_of step) j → Contains (cites_of step) k → j ≡ k
one_cite (Step.Said i) j k (zero, lt, e) (zero, lt', e') = let p : i ≡ j = e in let q : i ≡ k = e' in sym p ∙ q
one_cite (Step.Said i) j k (suc n, lt, e) b = absurd (omega arith)
one_cite (Step.Said i) j k (zero, lt, e) (suc n, lt', e') = absurd (omega arith)
one_cite _ j k (n, lt, e) b = absurd (omega arith)

at_line : (lines : List Line) (i : ℕ) (l d : Line) → slice_get lines i ≡ Some l → get_or lines i d ≡ l
at_line lines i l d e = get_or_from_slice_get lines i l d e

-- lines with one fact are one line
one_line : (lines : List Line) → AllPairs (λ l m. l.fact ≢ m.fact) lines → (i j : ℕ) (l m : Line) →
    slice_get lines i ≡ Some l → slice_get lines j ≡ Some m → l.fact ≡ m.fact → i ≡ j
one_line lines apart i j l m a b e =
    ⊎_elim (λ (s : i ≡ j). s)
    (λ h. ⊎_elim
    (λ (lt : i < j). absurd (apart i j l lt (slice_get_within lines j m b)
    (ap (λ (x : Line). x.fact) (at_line lines i l l a) ∙ (e ∙ sym (ap (λ (x : Line). x.fact) (at_line lines j m l b))))))
    (λ (gt : j < i). absurd (apart j i l gt (slice_get_within lines i l a)
    (ap (λ (x : Line). x.fact) (at_line lines j m l b) ∙ (sym e ∙ sym (ap (λ (x : Line). x.fact) (at_line lines i l l a)))))) h)
    (cases_order i j)

-- what one claim says is one fact
one_fact : (f g : Judgement) (c d : Claim) → f ≡ Says c.speaker c.left c.right → g ≡ Says d.speaker d.left d.right → c ≡ d → f ≡ g
one_fact f g c d p q e = p ∙ (ap (λ (x : Claim). Says x.speaker x.left x.right) e ∙ sym q)

-- no two of the cited certificates say the same: two lines would have one fact
pub claims_apart : (anchors : List Anchor) (cites : List Claim) (lines : List Line) (places : List ℕ) → length cites ≡ length places →
    EachFollows anchors cites [] lines → IsTidy lines places → AllPairs (λ c d. c ≢ d) cites
claims_apart anchors cites lines places long follow tidy i j d lt within alike =
    let (li, l, at_i, has_i) = tidy.cited i (omega arith) in
    let (lj, m, at_j, has_j) = tidy.cited j (omega arith) in
    let (bi, fi) = each_at anchors cites [] lines li l follow at_i in
    let (bj, fj) = each_at anchors cites [] lines lj m follow at_j in
    let (ci, ei, si) = cited_says anchors cites bi l i fi has_i in
    let (cj, ej, sj) = cited_says anchors cites bj m j fj has_j in
    let one : ci ≡ cj = sym (get_or_from_slice_get cites i ci d ei) ∙ (alike ∙ get_or_from_slice_get cites j cj d ej) in
    let facts : l.fact ≡ m.fact = one_fact l.fact m.fact ci cj si sj one in
    let where_same : li ≡ lj = one_line lines tidy.distinct li lj l m at_i at_j facts in
    let line_same : l ≡ m = same_Some l m (sym at_i ∙ (ap (slice_get lines) where_same ∙ at_j)) in
    let number_same : i ≡ j = one_cite m.step i j (subst (λ (x : Line). Contains (cites_of x.step) i) line_same has_i) has_j in
    omega arith
