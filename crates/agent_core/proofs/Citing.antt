-- What a decider's proof cites of the live certificates.
use Rattle.std.proofs.Common.{◌≡◌, ℕ, ◌<◌, true, List, ◌∷◌, length, map, Option, Some, None, All, Contains, slice_get, refl, sym, ap, ap₂, ◌∙◌, subst, arith}
use Rattle.std.specs.List.{cons_option}
use Rattle.std.specs.Option.{option_map}
use Rattle.std.proofs.lemmas.List.Elements.{All-nil, All-cons}
use Rattle.std.proofs.lemmas.Option.{slice_get-map, slice_get-get_or, slice_get_within}
use Rattle.stmt_codec.specs.Certificates.{Certificate, is_live, IsLive}
use Rattle.stmt_codec.proofs.Living.{is_live-true}
use Rattle.prin_term.specs.declared.term.Anchor.{Anchor}
use Rattle.prin_term.specs.Principal.{Principal}
use Rattle.prin_term.specs.View.{Grant}
use Rattle.taos_calculus.specs.Rules.{Claim, Line, Proves, SpeaksFor}
use Rattle.taos_calculus.specs.Tidy.{IsTidy}
use Rattle.taos_calculus.specs.Question.{Question, question_of, claim_of, picked, AreCited, no_cite, a_cite, IsProofOf}
use Rattle.proof_cache.specs.Cached.{Cached, lease_of}
use Rattle.agent_core.specs.Granted.{IsProofFor}
use Rattle.taos_calculus.proofs.Asking.{picked-at}
use Rattle.denial_link.specs.Revived.{at_places, claims}
use Rattle.agent_core.specs.Judged.{live_marks}
use Rattle.agent_core.specs.State.{Ask}

pub record Cites (certs : List Certificate) (moment : ℕ) (places : List ℕ) (said : List Claim) : Type 0 where
  pub inside : All (λ i. i < length certs) places
  pub says : claims (at_places certs places) ≡ said
  pub alive : All (IsLive moment) (at_places certs places)

-- one certificate more
cites_one : (certs : List Certificate) (moment place : ℕ) (claim : Claim) (places : List ℕ) (said : List Claim) → Cites certs moment places said → (o : Option Certificate) → slice_get certs place ≡ o →
    option_map claim_of o ≡ Some claim → option_map (is_live moment) o ≡ Some true → Cites certs moment (place ∷ places) (claim ∷ said)
cites_one certs moment place claim places said rest None at says lives = absurd cc
cites_one certs moment place claim places said rest (Some c) at says lives =
    let here : claim_of c ≡ claim = cc in
    let live : is_live moment c ≡ true = cc in
    let list : at_places certs (place ∷ places) ≡ c ∷ at_places certs places = ap (λ (o : Option Certificate). cons_option o (at_places certs places)) at in
    record {
      inside = All-cons (λ i. i < length certs) place places (slice_get_within certs place c at) rest.inside;
      says = ap claims list ∙ ap₂ (λ (x : Claim) (xs : List Claim). x ∷ xs) here rest.says;
      alive = subst (All (IsLive moment)) (sym list) (All-cons (IsLive moment) c (at_places certs places) (is_live-true moment c live) rest.alive);
    }

module _ (certs : List Certificate) (moment : ℕ) where
  cite_at : (place : ℕ) (claim : Claim) (places : List ℕ) (said : List Claim) → Contains (picked 0 (map claim_of certs) (live_marks certs moment)) (place, claim) → Cites certs moment places said → Cites certs moment (place ∷ places) (claim ∷ said)
  cite_at place claim places said has rest =
      let p = picked-at 0 (map claim_of certs) (live_marks certs moment) has.0 place claim (slice_get-get_or (picked 0 (map claim_of certs) (live_marks certs moment)) has.0 (place, claim) has.1 ∙ ap Some has.2) in
      let e : p.number ≡ place = omega (arith, p.place_is) in
      let says : option_map claim_of (slice_get certs p.number) ≡ Some claim = sym (slice_get-map claim_of certs p.number) ∙ p.stands in
      let lives : option_map (is_live moment) (slice_get certs p.number) ≡ Some true = sym (slice_get-map (is_live moment) certs p.number) ∙ p.marked in
      cites_one certs moment place claim places said rest (slice_get certs place) refl
      (subst (λ i. option_map claim_of (slice_get certs i) ≡ Some claim) e says)
      (subst (λ i. option_map (is_live moment) (slice_get certs i) ≡ Some true) e lives)

  pub cited : {places : List ℕ} {said : List Claim} → AreCited (picked 0 (map claim_of certs) (live_marks certs moment)) places said → Cites certs moment places said
  cited no_cite = record { inside = All-nil (λ i. i < length certs); says = refl; alive = All-nil (IsLive moment) }
  cited (a_cite {place = place} {claim = claim} {places = places} {said = said} has rest) = cite_at place claim places said has (cited rest)

module _ (anchors : List Anchor) (certs : List Certificate) (moment : ℕ) (a : Ask) (q : Question)
    (asked : q ≡ question_of anchors certs (live_marks certs moment) a.subject a.list) (who : Principal) (lines : List Line) (places : List ℕ) (p : IsProofOf q a.subject who lines places) where
  pub cites : Cites certs moment places p.said
  cites = cited certs moment (subst (λ (x : Question). AreCited x.chosen places p.said) asked p.cited)

  pub proof_made : (entry : ℕ) (e : Grant) (c : Cached) → slice_get a.list entry ≡ Some e → e.who ≡ who → c.subject ≡ a.subject → c.who ≡ who → c.proof ≡ lines → c.cites ≡ at_places certs places → c.lease ≡ lease_of c.cites →
      IsProofFor anchors certs moment a entry c
  proof_made entry e c stands same subject_is who_is proof_is cites_are lease =
      let said : p.said ≡ claims c.cites = sym (ap claims cites_are ∙ cites.says) in
      let one : Proves anchors p.said lines (SpeaksFor a.subject who) = subst (λ (x : Question). Proves x.anchors p.said lines (SpeaksFor a.subject who)) asked p.proves in
      let two : Proves anchors (claims c.cites) lines (SpeaksFor a.subject who) = subst (λ (cs : List Claim). Proves anchors cs lines (SpeaksFor a.subject who)) said one in
      let three : Proves anchors (claims c.cites) c.proof (SpeaksFor a.subject who) = subst (λ (ls : List Line). Proves anchors (claims c.cites) ls (SpeaksFor a.subject who)) (sym proof_is) two in
      let four : Proves anchors (claims c.cites) c.proof (SpeaksFor c.subject who) = subst (λ (x : Principal). Proves anchors (claims c.cites) c.proof (SpeaksFor x who)) (sym subject_is) three in
      record {
        grant = e;
        stands = stands;
        subject_is = subject_is;
        who_is = who_is ∙ sym same;
        places = places;
        inside = cites.inside;
        cites_are = cites_are;
        alive = subst (All (IsLive moment)) (sym cites_are) cites.alive;
        proves = subst (λ (x : Principal). Proves anchors (claims c.cites) c.proof (SpeaksFor c.subject x)) (sym who_is) four;
        tidy = subst (λ (ls : List Line). IsTidy ls places) (sym proof_is) p.tidy;
        lease_is = lease;
      }
