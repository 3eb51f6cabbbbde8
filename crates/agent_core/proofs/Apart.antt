-- The certificates that a proof without waste cites are all different, and no two say the same.
use Rattle.std.proofs.Common.{◌≡◌, ◌≢◌, ℕ, List, [], length, get_or, AllPairs, sym, ◌∙◌, ap, arith}
use Rattle.std.proofs.lemmas.List.{length-map, get_or-map}
use Rattle.prin_term.specs.declared.term.Anchor.{Anchor}
use Rattle.stmt_codec.specs.Certificates.{Certificate}
use Rattle.taos_calculus.specs.Question.{claim_of}
use Rattle.taos_calculus.specs.Rules.{Line, EachFollows}
use Rattle.taos_calculus.specs.Tidy.{IsTidy}
use Rattle.taos_calculus.proofs.Apart.{claims_apart}
use Rattle.denial_link.specs.Revived.{claims}

-- no two are one certificate: they would say the same
pub cites_apart : (anchors : List Anchor) (cites : List Certificate) (lines : List Line) (places : List ℕ) → length cites ≡ length places →
    EachFollows anchors (claims cites) [] lines → IsTidy lines places → AllPairs (λ c d. c ≢ d) cites
cites_apart anchors cites lines places long follow tidy i j d lt within alike =
    let same : length (claims cites) ≡ length cites = length-map cites claim_of in
    let at_i : get_or (claims cites) i (claim_of d) ≡ claim_of (get_or cites i d) = get_or-map claim_of cites i d (claim_of d) (omega arith) in
    let at_j : get_or (claims cites) j (claim_of d) ≡ claim_of (get_or cites j d) = get_or-map claim_of cites j d (claim_of d) within in
    claims_apart anchors (claims cites) lines places (same ∙ long) follow tidy i j (claim_of d) lt (omega arith) (at_i ∙ (ap claim_of alike ∙ sym at_j))
