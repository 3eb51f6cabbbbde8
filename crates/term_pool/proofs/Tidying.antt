-- A proof that is handed out, with its certificates.
use Rattle.std.proofs.Common.{◌≡◌, ◌≢◌, ℕ, suc, ◌+◌, ◌-◌, ◌<◌, List, [], ◌∷◌, Some, slice_get, get_or, length, map, refl, sym, ap, subst, ◌∙◌, arith, All, Contains, lit<}
use Rattle.std.specs.Prelude.{AllPairs, option_map}
use Rattle.std.proofs.lemmas.List.{length-map, get_or-map}
use Rattle.std.proofs.lemmas.Option.{same_Some, slice_get-map, slice_get-get_or, get_or_from_slice_get}
use Rattle.prin_term.specs.Principal.{Principal}
use Rattle.taos_calculus.specs.declared.line.Node.{Node}
use Rattle.taos_calculus.specs.declared.line.Fact.{Fact}
use Rattle.taos_calculus.specs.declared.line.Line.{Line}
use Rattle.taos_calculus.specs.declared.line.Step.{Step}
use Rattle.taos_calculus.specs.Question.{Question, AreCited, no_cite, a_cite, IsProofOf}
use Rattle.taos_calculus.specs.Rules.{Claim, Judgement, SpeaksFor, last_fact, Line as Meaning}
use Rattle.taos_calculus.specs.Tables.{IsNodeTable, IsBelow, judgement, meaning, named, parts_of, lines_of}
use Rattle.taos_calculus.specs.Tidy.{premises_of, cites_of, moved}
use Rattle.taos_calculus.proofs.Naming.{named_apart}
use Rattle.term_pool.specs.declared.cited.Cited.{Cited}
use Rattle.term_pool.specs.Citing.{IsCite, UsedBelow}
use Rattle.term_pool.specs.Carrying.{CarriesLines}
use Rattle.term_pool.specs.Claims.{ArePlacesApart, chosen_by, cited_or, place_at}
use Rattle.term_pool.specs.Claims.{claim_by}
use Rattle.term_pool.specs.Extract.{IsExtract}
use Rattle.term_pool.specs.Taking.{Findings, AreFoundFor}
use Rattle.taos_calculus.specs.Numbered.{facts_at}
use Rattle.term_pool.proofs.Recited.{said_cites}
use Rattle.term_pool.proofs.Keeping.{line_stands}
use Rattle.term_pool.proofs.Proving.{old_line, all_follow, last_at}

judgement_apart : (nodes : List Node) (table : IsNodeTable nodes) (f g : Fact) → IsBelow (length nodes) f → IsBelow (length nodes) g → judgement (named nodes) f ≡ judgement (named nodes) g → f ≡ g
judgement_apart nodes table (Fact.Speaks a b) (Fact.Speaks c d) h k e =
    let p : a ≡ c = named_apart nodes table a c h.0 k.0 (cc) in
    let q : b ≡ d = named_apart nodes table b d h.1 k.1 (cc) in cc
judgement_apart nodes table (Fact.Says w a b) (Fact.Says v c d) h k e =
    let o : w ≡ v = named_apart nodes table w v h.0 k.0 (cc) in
    let p : a ≡ c = named_apart nodes table a c h.1 k.1 (cc) in
    let q : b ≡ d = named_apart nodes table b d h.2 k.2 (cc) in cc
judgement_apart nodes table f g h k e = absurd (cc)

premises_kept : (cite : ℕ → ℕ) (step : Step) → premises_of (moved (λ i. i) cite step) ≡ premises_of step
premises_kept cite Step.Same = refl
premises_kept cite (Step.Chain i j) = refl
premises_kept cite Step.Left = refl
premises_kept cite Step.Right = refl
premises_kept cite (Step.Both i j) = refl
premises_kept cite (Step.Quote i j) = refl
premises_kept cite (Step.For i j) = refl
premises_kept cite Step.Role = refl
premises_kept cite (Step.RoleUnder i) = refl
premises_kept cite (Step.Anchor i) = refl
premises_kept cite (Step.Said i) = refl
premises_kept cite (Step.Lift i j) = refl
premises_kept cite (Step.Join i j) = refl
premises_kept cite (Step.HandOff i) = refl
premises_kept cite (Step.Delegate i) = refl

cites_moved : (cite : ℕ → ℕ) (step : Step) (n : ℕ) → Contains (cites_of step) n → Contains (cites_of (moved (λ i. i) cite step)) (cite n)
cites_moved cite (Step.Said k) n c = (0, lit< tt, ap cite (said_cites k n c))
cites_moved cite step n c = absurd (let h : c.0 < 0 = c.1 in omega arith)

are_cited : (p : ℕ → Principal) (cited : List Cited) (used : List ℕ) → All (λ k. k < length cited) used →
    AreCited (map (chosen_by p) cited) (map (place_at cited) used) (map (λ k. claim_by p (cited_or cited k)) used)
are_cited p cited [] all = no_cite
are_cited p cited (k ∷ used) all =
    let h : k < length cited = all 0 k (omega arith) in
    let fits : k < length (map (chosen_by p) cited) = omega (arith, h, length-map cited (chosen_by p)) in
    a_cite (k, fits, get_or-map (chosen_by p) cited k (record { place = 0; speaker = 0; left = 0; right = 0 }) (place_at cited k, claim_by p (cited_or cited k)) h)
    (are_cited p cited used (λ i d b. all (suc i) d (omega arith)))

module _ (q : Question) (f : Findings) (found : AreFoundFor q f) (goal i j : ℕ) (stands : slice_get (facts_at f.lines) goal ≡ Some (Fact.Speaks i j)) (lines : List Line) (used : List ℕ) (new : List Node) (out : List Line)
    (x : IsExtract f.lines goal lines) (u : UsedBelow lines (length f.cited) used) (c : CarriesLines f.nodes used lines new out) where
  abbrev nodes : List Node
  nodes = f.nodes

  abbrev cited : List Cited
  cited = f.cited

  abbrev claims : List Claim
  claims = map (claim_by (named nodes)) cited

  below : (k : ℕ) (l : Line) → slice_get lines k ≡ Some l → IsBelow (length nodes) l.fact
  below k l e = let (n, at) = x.from_line k l e in found.below n l.fact at

  apart : ArePlacesApart (map (chosen_by (named nodes)) cited)
  apart = subst ArePlacesApart found.chosen_is found.places_apart

  abbrev the_claim : ℕ → Claim
  the_claim k = claim_by (named nodes) (cited_or cited k)

  abbrev said : List Claim
  said = map the_claim used

  claim_stands : (a k : ℕ) (y : Claim) → slice_get used a ≡ Some k → slice_get (claims) k ≡ Some y → slice_get said a ≡ Some y
  claim_stands a k y e f =
      let fits : k < length cited = u.below a k e in
      let at : slice_get (claims) k ≡ Some (the_claim k)
      = slice_get-map (claim_by (named nodes)) cited k ∙ ap (option_map (claim_by (named nodes))) (slice_get-get_or cited k (record { place = 0; speaker = 0; left = 0; right = 0 }) fits) in
      let same : the_claim k ≡ y = same_Some (the_claim k) y (sym at ∙ f) in
      slice_get-map the_claim used a ∙ ap (option_map the_claim) e ∙ ap (λ (z : Claim). Some z) same

  meaning_at : (k : ℕ) (m : Line) → slice_get out k ≡ Some m → slice_get (lines_of (parts_of new out)) k ≡ Some (meaning (named new) m)
  meaning_at k m e = slice_get-map (meaning (named new)) out k ∙ ap (option_map (meaning (named new))) e

  lines_long : length (lines_of (parts_of new out)) ≡ length lines
  lines_long = omega (arith, length-map out (meaning (named new)), c.long)

  ends_with : last_fact (lines_of (parts_of new out)) ≡ Some (SpeaksFor (named nodes i) (named nodes j))
  ends_with =
      let (g, first, g_is) = line_stands f.lines goal (Fact.Speaks i j) stands in
      let (l, some, at, is) = x.ends g first in
      let (m, there, carried) = c.each (length lines - 1) l at in
      last_at (lines_of (parts_of new out)) (length lines - 1) (meaning (named new) m) (omega (arith, some, lines_long)) (meaning_at (length lines - 1) m there) ∙
      ap (λ (z : Judgement). Some z) (carried.says ∙ ap (judgement (named nodes)) (is ∙ g_is))

  distinct : AllPairs (λ l m. l.fact ≢ m.fact) (lines_of (parts_of new out))
  distinct a b d lt inside same =
      let la : a < length out = omega (arith, lt, inside, length-map out (meaning (named new))) in
      let lb : b < length out = omega (arith, inside, length-map out (meaning (named new))) in
      let no : Line = record { fact = Fact.Speaks 0 0; step = Step.Same } in
      let ma : Line = get_or out a no in
      let mb : Line = get_or out b no in
      let (xa, ea, ca) = old_line nodes used lines new out c a ma (slice_get-get_or out a no la) in
      let (xb, eb, cb) = old_line nodes used lines new out c b mb (slice_get-get_or out b no lb) in
      let ga : get_or (lines_of (parts_of new out)) a d ≡ meaning (named new) ma = get_or-map (meaning (named new)) out a no d la in
      let gb : get_or (lines_of (parts_of new out)) b d ≡ meaning (named new) mb = get_or-map (meaning (named new)) out b no d lb in
      let says : judgement (named nodes) xa.fact ≡ judgement (named nodes) xb.fact
      = sym ca.says ∙ ap (λ (m : Meaning). m.fact) (sym ga) ∙ same ∙ ap (λ (m : Meaning). m.fact) gb ∙ cb.says in
      let fact : xa.fact ≡ xb.fact = judgement_apart nodes found.table xa.fact xb.fact (below a xa ea) (below b xb eb) says in
      x.distinct found.distinct a b no lt (omega (arith, inside, lines_long))
      (ap (λ (l : Line). l.fact) (get_or_from_slice_get lines a xa no ea) ∙ fact ∙ sym (ap (λ (l : Line). l.fact) (get_or_from_slice_get lines b xb no eb)))

  used_later : (k : ℕ) → k + 1 < length (lines_of (parts_of new out)) →
      (a : ℕ) × (l : Meaning) × (k < a) × (slice_get (lines_of (parts_of new out)) a ≡ Some l) × Contains (premises_of l.step) k
  used_later k lt =
      let (a, l, later, at, names) = x.used k (omega (arith, lt, lines_long)) in
      let (m, stands, carried) = c.each a l at in
      (a, meaning (named new) m, later, meaning_at a m stands, subst (λ (s : Step). Contains (premises_of s) k) (sym carried.recited.is) (rw (premises_kept carried.recited.cite l.step) names))

  each_cited : (k : ℕ) → k < length (map (place_at cited) used) → (a : ℕ) × (l : Meaning) × (slice_get (lines_of (parts_of new out)) a ≡ Some l) × Contains (cites_of l.step) k
  each_cited k lt =
      let fits : k < length used = omega (arith, lt, length-map used (place_at cited)) in
      let n : ℕ = get_or used k 0 in
      let at : slice_get used k ≡ Some n = slice_get-get_or used k 0 fits in
      let q : IsCite lines n = u.only k n at in
      let (m, stands, carried) = c.each q.at q.line q.stands in
      let same : carried.recited.cite n ≡ k = u.apart (carried.recited.cite n) k n (carried.recited.stands n q.names) at in (
        q.at,
        meaning (named new) m,
        meaning_at q.at m stands,
        subst (λ (s : Step). Contains (cites_of s) k) (sym carried.recited.is)
            (subst (λ z. Contains (cites_of (moved (λ y. y) carried.recited.cite q.line.step)) z) same (cites_moved carried.recited.cite q.line.step n q.names)),
      )

  chosen_stands : (k : ℕ) → k < length cited → slice_get (map (chosen_by (named nodes)) cited) k ≡ Some (place_at cited k, the_claim k)
  chosen_stands k fits =
      slice_get-map (chosen_by (named nodes)) cited k ∙ ap (option_map (chosen_by (named nodes))) (slice_get-get_or cited k (record { place = 0; speaker = 0; left = 0; right = 0 }) fits)

  cites_apart : AllPairs (λ a b. a ≢ b) (map (place_at cited) used)
  cites_apart a b d lt inside same =
      let lb : b < length used = omega (arith, inside, length-map used (place_at cited)) in
      let la : a < length used = omega (arith, lt, lb) in
      let na : ℕ = get_or used a 0 in
      let nb : ℕ = get_or used b 0 in
      let ea : slice_get used a ≡ Some na = slice_get-get_or used a 0 la in
      let eb : slice_get used b ≡ Some nb = slice_get-get_or used b 0 lb in
      let places : place_at cited na ≡ place_at cited nb = sym (get_or-map (place_at cited) used a 0 d la) ∙ same ∙ get_or-map (place_at cited) used b 0 d lb in
      let one : na ≡ nb = apart na nb (place_at cited nb) (the_claim na) (the_claim nb)
      (chosen_stands na (u.below a na ea) ∙ (λ k. Some (places k, the_claim na))) (chosen_stands nb (u.below b nb eb)) in
      let equal : a ≡ b = u.apart a b nb (ea ∙ ap (λ (z : ℕ). Some z) one) eb in
      omega (arith, lt, equal)

  pub is_proof : IsProofOf q (named nodes i) (named nodes j) (lines_of (parts_of new out)) (map (place_at cited) used)
  is_proof = record {
    said = said;
    cited = rw found.chosen_is (are_cited (named nodes) cited used (λ k d b. u.below k (get_or used k d) (slice_get-get_or used k d b)));
    proves = record {
      follow = all_follow nodes found.table used new q.anchors (claims) said claim_stands [] lines out c.long c.each (x.valid nodes q.anchors claims found.follow);
      last = ends_with;
    };
    tidy = record { distinct = distinct; used = used_later; cited = each_cited; apart = cites_apart };
  }
