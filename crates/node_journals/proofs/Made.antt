-- What is granted of a drill's load, and by which proofs.
use Rattle.std.proofs.Common.{◌≡◌, ℕ, zero, suc, ◌<◌, List, [], ◌∷◌, ◌++◌, bit_and, Some, slice_get, All, refl, sym, ◌∙◌, ap, subst, inl, inr, arith}
use Rattle.std.proofs.lemmas.List.Elements.{All-nil, All-cons, All-head, All-tail}
use Rattle.std.proofs.lemmas.Option.{none-some, same_Some}
use Rattle.prin_term.specs.declared.term.Anchor.{Anchor}
use Rattle.prin_term.specs.Principal.{Key, Name}
use Rattle.prin_term.specs.View.{Grant}
use Rattle.stmt_codec.specs.Certificates.{Certificate, live}
use Rattle.taos_calculus.specs.Monitor.{Grants}
use Rattle.denial_link.specs.Revived.{at_places, claims}
use Rattle.proof_cache.specs.Cached.{Cached, lease_of}
use Rattle.agent_core.specs.declared.told.Told.{Told}
use Rattle.agent_core.specs.declared.asked.Denial.{Denial}
use Rattle.agent_core.specs.State.{Plan, Asks, Judged}
use Rattle.agent_core.specs.Journals.{Entry, entry, IsJudged}
use Rattle.agent_core.specs.Granted.{IsProofFor}
use Rattle.agent_core.specs.Asked.{IsGrantedBy, IsDeniedBy, IsGrantedAt, IsDeniedAt}
use Rattle.taos_drill.specs.Opened.{issuer_anchor, reader}
use Rattle.taos_drill.specs.Sent.{drill_certificate}
use Rattle.taos_drill.proofs.Readable.{channel_speaks}
use Rattle.node_journals.specs.Load.{load_ask, IsLoadList, AsksAt, IsLoadJournal}
use Rattle.node_journals.proofs.Fronts.{at_front}
use Rattle.node_journals.proofs.States.{load_judged}

-- a proof for a channel, as one is made under the load of a drill
pub record IsMade (k : ℕ) (c : Cached) : Type 0 where
  pub subject : c.subject ≡ Key k
  pub who : c.who ≡ Name 1
  pub cites : All (λ x. x ≡ drill_certificate k) c.cites
  pub lease : 1000 < c.lease

-- what a moment and a list are that an Ask is judged by
pub judged_parts : (m n : ℕ) (cs ds : List Certificate) → Judged m cs ≡ Judged n ds → (m ≡ n) × (cs ≡ ds)
judged_parts m n cs ds e = (cc, cc)

-- the one element of a list
pub only : {X : Type 0} (x : X) (i : ℕ) (y : X) → slice_get (x ∷ []) i ≡ Some y → (i ≡ 0) × (x ≡ y)
only x zero y h = (refl, same_Some x y h)
only x (suc i) y h = absurd (none-some y h)

-- what is picked from one certificate
picked : (x : Certificate) (places : List ℕ) → All (λ y. y ≡ x) (at_places (x ∷ []) places)
picked x [] = All-nil (λ y. y ≡ x)
picked x (zero ∷ places) = All-cons (λ y. y ≡ x) x (at_places (x ∷ []) places) refl (picked x places)
picked x (suc i ∷ places) = picked x places

-- the certificates of the load end late
late : (k : ℕ) (xs : List Certificate) → All (λ x. x ≡ drill_certificate k) xs → 1000 < lease_of xs
late k [] all = omega arith
late k (x ∷ xs) all =
    let here : x.until ≡ 4294967296 = ap (λ (c : Certificate). c.until) (All-head (λ y. y ≡ drill_certificate k) x xs all) in
    let rest : 1000 < lease_of xs = late k xs (All-tail (λ y. y ≡ drill_certificate k) x xs all) in
    omega arith

-- the proof of a grant is one for the channel
module _ (anchors : List Anchor) (k n e : ℕ) (c : Cached) where
  by_reader : IsProofFor anchors (drill_certificate k ∷ []) 1000 (load_ask k n (reader ∷ [])) e c → IsMade k c
  by_reader p =
      let cites : All (λ x. x ≡ drill_certificate k) c.cites = subst (All (λ x. x ≡ drill_certificate k)) (sym p.cites_are) (picked (drill_certificate k) p.places) in
      record {
        subject = p.subject_is;
        who = p.who_is ∙ ap (λ (g : Grant). g.who) (sym (only reader e p.grant p.stands).1);
        cites = cites;
        lease = subst (λ (l : ℕ). 1000 < l) (sym p.lease_is) (late k c.cites cites);
      }

  nothing : IsProofFor anchors (drill_certificate k ∷ []) 1000 (load_ask k n []) e c → ⊥
  nothing p = none-some p.grant p.stands

module _ (plan : Plan) (journal : List Entry) (load : IsLoadJournal plan journal) where
  -- what an Ask of the load is judged by
  judged_so : (before rest : List Entry) (k n moment : ℕ) (list : List Grant) (certs : List Certificate) (told : Told) →
      journal ≡ before ++ entry (Asks (load_ask k n list)) told ∷ rest → IsJudged plan before (load_ask k n list) moment certs →
      (moment ≡ 1000) × (certs ≡ drill_certificate k ∷ [])
  judged_so before rest k n moment list certs told is judged =
      judged_parts moment 1000 certs (drill_certificate k ∷ []) (sym judged ∙ load_judged plan journal load before rest k n list told is)

  granted_by : (k n at e : ℕ) (list : List Grant) (c : Cached) → IsGrantedAt plan journal (load_ask k n list) at e c →
      IsGrantedBy plan.anchors (drill_certificate k ∷ []) 1000 (load_ask k n list) e c
  granted_by k n at e list c g =
      let (moment, certs) = judged_so g.before g.stands.rest k n g.moment list g.certs Told.Miss g.stands.is g.judged in
      subst (λ (m : ℕ). IsGrantedBy plan.anchors (drill_certificate k ∷ []) m (load_ask k n list) e c) moment
      (subst (λ (cs : List Certificate). IsGrantedBy plan.anchors cs g.moment (load_ask k n list) e c) certs g.granted)

  -- an Ask of the load that is granted is on the list that name 1 may read, and the proof is one for its channel
  pub granted_made : (k n at e : ℕ) (list : List Grant) (c : Cached) → IsLoadList list → IsGrantedAt plan journal (load_ask k n list) at e c →
      (list ≡ reader ∷ []) × IsMade k c
  granted_made k n at e list c l g =
      let proof = (granted_by k n at e list c g).proof in
      elim l [
        | inl is ↦ (is, by_reader plan.anchors k n e c (subst (λ (xs : List Grant). IsProofFor plan.anchors (drill_certificate k ∷ []) 1000 (load_ask k n xs) e c) is proof))
        | inr is ↦ absurd (nothing plan.anchors k n e c (subst (λ (xs : List Grant). IsProofFor plan.anchors (drill_certificate k ∷ []) 1000 (load_ask k n xs) e c) is proof))
      ]

  -- it stands where it was granted
  pub granted_at : (k n at e : ℕ) (list : List Grant) (c : Cached) → IsGrantedAt plan journal (load_ask k n list) at e c → AsksAt journal at k n list Told.Miss
  granted_at k n at e list c g =
      subst (λ (p : ℕ). AsksAt journal p k n list Told.Miss) g.stands.placed (at_front journal g.before (entry (Asks (load_ask k n list)) Told.Miss) g.stands.rest g.stands.is)

-- ---- the grant

one_is_not_none : bit_and 1 1 ≡ 0 → ⊥
one_is_not_none e = let one : ◌≡◌ {A = ℕ} 1 0 = e in omega arith

pub reader_granted : (k : ℕ) → Grants (issuer_anchor ∷ []) (claims (live (drill_certificate k ∷ []) 1000)) (Key k) (reader ∷ []) 1
reader_granted k = record { place = 0; entry = reader; stands = refl; has_right = one_is_not_none; speaks = channel_speaks k }

module _ (plan : Plan) (journal : List Entry) (load : IsLoadJournal plan journal) where
  pub denied_by : (k n at : ℕ) (list : List Grant) (denial : Denial) → IsDeniedAt plan journal (load_ask k n list) at denial →
      IsDeniedBy plan.anchors (drill_certificate k ∷ []) 1000 (load_ask k n list) denial
  denied_by k n at list denial d =
      let (moment, certs) = judged_so plan journal load d.before d.stands.rest k n d.moment list d.certs Told.Miss d.stands.is d.judged in
      subst (λ (m : ℕ). IsDeniedBy plan.anchors (drill_certificate k ∷ []) m (load_ask k n list) denial) moment
      (subst (λ (cs : List Certificate). IsDeniedBy plan.anchors cs d.moment (load_ask k n list) denial) certs d.denied)

  pub not_denied : (at k n : ℕ) (denial : Denial) → IsDeniedAt plan journal (load_ask k n (reader ∷ [])) at denial → ⊥
  not_denied at k n denial d =
      (denied_by k n at (reader ∷ []) denial d).none
      (subst (λ (anchors : List Anchor). Grants anchors (claims (live (drill_certificate k ∷ []) 1000)) (Key k) (reader ∷ []) 1) (sym load.planned.anchors) (reader_granted k))
