-- What is cut out of lines that were found can be handed out.
use Rattle.std.proofs.Common.{◌≡◌, ℕ, ◌<◌, ◌≤◌, List, [], Some, slice_get, get_or, length, map, subst, arith, All, Contains}
use Rattle.std.proofs.lemmas.List.{length-map}
use Rattle.std.proofs.lemmas.Option.{slice_get-get_or, slice_get_within}
use Rattle.prin_term.specs.declared.term.Anchor.{Anchor}
use Rattle.taos_calculus.specs.declared.line.Node.{Node}
use Rattle.taos_calculus.specs.declared.line.Fact.{Fact}
use Rattle.taos_calculus.specs.declared.line.Line.{Line}
use Rattle.taos_calculus.specs.declared.line.Step.{Step}
use Rattle.taos_calculus.specs.Limits.{IsProofParts}
use Rattle.taos_calculus.specs.Numbered.{Gives, said}
use Rattle.taos_calculus.specs.Rules.{Claim}
use Rattle.taos_calculus.specs.Tables.{IsBelow, named, parts_of, lines_of}
use Rattle.taos_calculus.specs.Tidy.{cites_of, premises_of}
use Rattle.term_pool.specs.Carrying.{CarriesLines}
use Rattle.term_pool.specs.Citing.{HasPlace, UsedBelow}
use Rattle.term_pool.specs.Claims.{claim_by, place_at}
use Rattle.term_pool.specs.Extract.{IsExtract}
use Rattle.term_pool.specs.Taking.{Findings, AreFound, ProvesGoal}
use Rattle.term_pool.proofs.Recited.{none_in, said_cites}
use Rattle.term_pool.proofs.Fitting.{carried_fits}
use Rattle.term_pool.proofs.Keeping.{gives_before}
use Rattle.term_pool.proofs.Ordered.{in_order}
use Rattle.term_pool.proofs.Proving.{carried_parts}
use Rattle.term_pool.proofs.Tidying.{is_proof}

-- a certificate that is cited is there
said_in : (nodes : List Node) (anchors : List Anchor) (claims : List Claim) (earlier : List Fact) (fact : Fact) (x : ℕ) → Gives nodes anchors claims earlier fact (Step.Said x) → x < length claims
said_in nodes anchors claims earlier fact x (said {claim} n pw pl pr) = slice_get_within claims x claim n

cite_in : (nodes : List Node) (anchors : List Anchor) (claims : List Claim) (earlier : List Fact) (fact : Fact) (step : Step) (k : ℕ) →
    Gives nodes anchors claims earlier fact step → Contains (cites_of step) k → k < length claims
cite_in nodes anchors claims earlier fact (Step.Said x) k g c = subst (λ (z : ℕ). z < length claims) (said_cites x k c) (said_in nodes anchors claims earlier fact x g)
cite_in nodes anchors claims earlier fact step k g c = absurd (none_in k c)

module _ (f : Findings) (found : AreFound f) where
  abbrev claims : List Claim
  claims = map (claim_by (named f.nodes)) f.cited

  pub ordered : (k i : ℕ) (l : Line) → slice_get f.lines k ≡ Some l → Contains (premises_of l.step) i → i < k
  ordered = in_order f.nodes found.0.anchors claims f.lines found.1.follow

  module _ (goal : ℕ) (lines : List Line) (x : IsExtract f.lines goal lines) where
    pub lines_below : (a : ℕ) (l : Line) → slice_get lines a ≡ Some l → IsBelow (length f.nodes) l.fact
    lines_below a l e = let (n, at) = x.from_line a l e in found.1.below n l.fact at

    module _ (used : List ℕ) (u : UsedBelow lines (length f.cited) used) where
      pub have_places : (a m : ℕ) (l : Line) → slice_get lines a ≡ Some l → Contains (cites_of l.step) m → HasPlace used m
      have_places a m l e c =
          let (front, stand, gives) = gives_before f.nodes found.0.anchors claims [] lines a l (x.valid f.nodes found.0.anchors claims found.1.follow) e in
          let inside : m < length claims = cite_in f.nodes found.0.anchors claims front l.fact l.step m gives c in
          u.all m (omega (arith, inside, length-map f.cited (claim_by (named f.nodes)))) (record { at = a; line = l; stands = e; names = c })

      pub used_within : All (λ m. m < length f.cited) used
      used_within m d b = u.below m (get_or used m d) (slice_get-get_or used m d b)

      module _ (new : List Node) (out : List Line) (c : CarriesLines f.nodes used lines new out) where
        pub handed_parts : length f.nodes ≤ 1296 → length f.lines ≤ 1762560 → IsProofParts (parts_of new out)
        handed_parts few short =
            let below : All (λ (l : Line). IsBelow (length f.nodes) l.fact) lines = λ a d b. lines_below a (get_or lines a d) (slice_get-get_or lines a d b) in
            carried_parts f.nodes used lines new out c (carried_fits f.nodes found.1.table used lines new out few below c) (omega (arith, x.short, short))

        pub handed_proof : ProvesGoal f goal (lines_of (parts_of new out)) (map (place_at f.cited) used)
        handed_proof q left right asked stands = is_proof q f asked goal left right stands lines used new out x u c
