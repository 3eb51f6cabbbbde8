-- A lemma that serves is a proof of the question that is asked now, and a proof from commons is a
-- lemma.
use Rattle.std.proofs.Common.{◌≡◌, ◌≢◌, ℕ, ◌+◌, zero, suc, Bool, false, true, List, [], ◌∷◌, map, length, get_or, AllPairs, Option, Some, None, slice_get, Contains, refl, sym, ap, ap₂, subst, ◌∙◌, arith}
use Rattle.std.specs.Prelude.{IsTrue, Result, Ok, Err, IsErr, IfOk}
use Rattle.std.specs.List.{AllZip}
use Rattle.std.specs.Option.{option_map}
use Rattle.std.proofs.lemmas.Option.{none-some, same_Some, slice_get-map, get_or_from_slice_get}
use Rattle.std.proofs.lemmas.List.{length-map}
use Rattle.prin_term.specs.declared.term.Anchor.{Anchor}
use Rattle.prin_term.specs.Principal.{Principal}
use Rattle.prin_term.specs.View.{Grant}
use Rattle.stmt_codec.specs.Certificates.{Certificate}
use Rattle.taos_calculus.specs.declared.decide.Taken.{Taken}
use Rattle.taos_calculus.specs.Question.{Question, question_of, picked, claim_of, claims_of, AreCited, no_cite, a_cite, IsProofOf, MayAnswer}
use Rattle.taos_calculus.specs.Rules.{Claim, Line, SpeaksFor, Proves}
use Rattle.taos_calculus.specs.Tables.{lines_of}
use Rattle.taos_calculus.specs.Tidy.{IsTidy}
use Rattle.taos_calculus.proofs.Apart.{claims_apart}
use Rattle.taos_calculus.proofs.Asking.{picked-at, has-picked}
use Rattle.taos_calculus.proofs.Staying.{derives_more}
use Rattle.lemma_memo.specs.Memory.{Lemma, Memo, StandsAt, Begins, Serves, NoneServes, IsSound, Remembers, told, kept, passed, failed, after_use}
use Rattle.lemma_memo.specs.Question.{FitsQuestion, TellsSound, Recalls, Keeps, recalls_none, recalls_one, recalls_not, keeps_none, keeps_one}
use Rattle.lemma_memo.proofs.Lists.{there, contained, placed, zip_length, zip_at}

-- ---- what is known of a question

module _ (anchors : List Anchor) (certs : List Certificate) (chosen : List Bool) where
  -- each chosen certificate with its place
  abbrev picks : List (ℕ × Claim)
  picks = picked 0 (map claim_of certs) chosen

  pick_at : (place : ℕ) (c : Claim) → Contains picks (place, c) → slice_get (map claim_of certs) place ≡ Some c
  pick_at place c has =
      let (k, at) = placed picks (place, c) has in
      let p = picked-at 0 (map claim_of certs) chosen k place c at in
      let is : p.number ≡ place = omega (arith, p.place_is) in
      subst (λ n. slice_get (map claim_of certs) n ≡ Some c) is p.stands

  pub fits_question : (old new : Memo) (subject : Principal) (list : List Grant) → Begins old new anchors certs chosen → FitsQuestion (question_of anchors certs chosen subject list) new
  fits_question old new subject list begins = record {
    anchors = λ same. (begins.same.0 same).1 ∙ sym (ap (λ (m : Memo). m.anchors) begins.others);
    chosen = λ same place c at.
        let (choice, common) = (begins.here same place c).0 at in
        let (k, stands) = has-picked 0 (map claim_of certs) chosen place (claim_of c) (slice_get-map claim_of certs place ∙ ap (option_map claim_of) choice.stands) choice.marked in
        let here : 0 + place ≡ place = omega arith in
        contained picks k (place, claim_of c) (subst (λ n. slice_get picks k ≡ Some (n, claim_of c)) here stands);
    once = λ same place c d a b. same_Some c d (sym (pick_at place c a) ∙ pick_at place d b);
  }

pub fits_after : (q : Question) (m : Memo) (l : Lemma) → FitsQuestion q m → FitsQuestion q (after_use l m)
fits_after q m l fits = record { anchors = fits.anchors; chosen = fits.chosen; once = fits.once }

-- ---- a lemma is a proof

module _ (q : Question) (m : Memo) (fits : FitsQuestion q m) (same : IsTrue m.same) where
  cited_all : (places : List ℕ) (cites : List Certificate) → AllZip (StandsAt m) places cites → AreCited q.chosen places (map claim_of cites)
  cited_all [] [] z = no_cite
  cited_all [] (c ∷ cs) z = absurd z
  cited_all (p ∷ ps) [] z = absurd z
  cited_all (p ∷ ps) (c ∷ cs) z = a_cite (fits.chosen same p c z.0) (cited_all ps cs z.1)

  -- what is cited at places is what stands there
  said_are : {places : List ℕ} {said : List Claim} → AreCited q.chosen places said → (cites : List Certificate) → AllZip (StandsAt m) places cites → said ≡ map claim_of cites
  said_are no_cite [] z = refl
  said_are no_cite (c ∷ cs) z = absurd z
  said_are (a_cite has rest) [] z = absurd z
  said_are (a_cite {place = place} {claim = claim} {places = places} {said = said} has rest) (c ∷ cs) z =
      ap₂ (λ (x : Claim) (xs : List Claim). x ∷ xs) (fits.once same place claim (claim_of c) has (fits.chosen same place c z.0)) (said_are rest cs z.1)

  module _ (l : Lemma) (sound : IsSound m.anchors l) (places : List ℕ) (z : AllZip (StandsAt m) places l.cites) where
    claims_differ : AllPairs (λ c d. c ≢ d) (map claim_of l.cites)
    claims_differ = claims_apart m.anchors (map claim_of l.cites) l.lines sound.places (length-map l.cites claim_of ∙ sym sound.long) sound.proves.follow sound.tidy

    claim_at : (i : ℕ) (c : Certificate) (d : Claim) → slice_get l.cites i ≡ Some c → get_or (map claim_of l.cites) i d ≡ claim_of c
    claim_at i c d at = get_or_from_slice_get (map claim_of l.cites) i (claim_of c) d (slice_get-map claim_of l.cites i ∙ ap (option_map claim_of) at)

    -- certificates at one place would be one, and say the same
    places_differ : AllPairs (λ p r. p ≢ r) places
    places_differ i j d lt within alike =
        let long : length places ≡ length l.cites = zip_length (StandsAt m) places l.cites z in
        let (c, at_i) = there l.cites i (omega arith) in
        let (e, at_j) = there l.cites j (omega arith) in
        let (p, is_i, stands_i) = zip_at (StandsAt m) places l.cites i c z at_i in
        let (r, is_j, stands_j) = zip_at (StandsAt m) places l.cites j e z at_j in
        let one : p ≡ r = sym (get_or_from_slice_get places i p d is_i) ∙ (alike ∙ get_or_from_slice_get places j r d is_j) in
        let alone : c ≡ e = same_Some c e (same_Some (Some c) (Some e) (sym stands_i ∙ (ap (slice_get m.here) one ∙ stands_j))) in
        let more : length (map claim_of l.cites) ≡ length l.cites = length-map l.cites claim_of in
        claims_differ i j (claim_of c) lt (omega arith) (claim_at i c (claim_of c) at_i ∙ (ap claim_of alone ∙ sym (claim_at j e (claim_of c) at_j)))

    proof_itself : IsProofOf q l.left l.right l.lines places
    proof_itself = record {
      said = map claim_of l.cites;
      cited = cited_all places l.cites z;
      proves = subst (λ (a : List Anchor). Proves a (map claim_of l.cites) l.lines (SpeaksFor l.left l.right)) (sym (fits.anchors same)) sound.proves;
      tidy = record {
        distinct = sound.tidy.distinct;
        used = sound.tidy.used;
        cited = λ k h. sound.tidy.cited k (omega (arith, sound.long, zip_length (StandsAt m) places l.cites z));
        apart = places_differ;
      };
    }

    pub proof_again : (left right : Principal) (lines : List Line) → l.left ≡ left → l.right ≡ right → lines ≡ l.lines → IsProofOf q left right lines places
    proof_again left right lines left_is right_is lines_are =
        subst (λ (x : Principal). IsProofOf q x right lines places) left_is
        (subst (λ (x : Principal). IsProofOf q l.left x lines places) right_is
        (subst (λ (x : List Line). IsProofOf q l.left l.right x places) (sym lines_are) proof_itself))

-- ---- a proof is a lemma

pub tells_sound : (q : Question) (m : Memo) (left right : Principal) (t : Taken) → FitsQuestion q m → IsProofOf q left right (lines_of t.proof) t.cites.items → TellsSound m left right t
tells_sound q m left right t fits p l is =
    let said : p.said ≡ map claim_of l.cites = said_are q m fits is.same p.cited l.cites is.tells.cites in
    record {
      proves =
          subst (λ (a : List Anchor). Proves a (map claim_of l.cites) l.lines (SpeaksFor l.left l.right)) (fits.anchors is.same)
          (subst (λ (x : List Claim). Proves q.anchors x l.lines (SpeaksFor l.left l.right)) said
          (subst (λ (x : List Line). Proves q.anchors p.said x (SpeaksFor l.left l.right)) is.tells.lines
          (subst (λ (x : Principal). Proves q.anchors p.said (lines_of t.proof) (SpeaksFor x l.right)) (sym is.left_is)
          (subst (λ (x : Principal). Proves q.anchors p.said (lines_of t.proof) (SpeaksFor left x)) (sym is.right_is) p.proves))));
      places = t.cites.items;
      long = zip_length (StandsAt m) t.cites.items l.cites is.tells.cites;
      tidy = subst (λ (x : List Line). IsTidy x t.cites.items) is.tells.lines p.tidy;
    }

-- ---- what a decider with a memory answers

-- what a sound lemma that serves says is derivable
cited_among : (chosen : List (ℕ × Claim)) {places : List ℕ} {said : List Claim} → AreCited chosen places said → (i : ℕ) (c : Claim) → slice_get said i ≡ Some c → (k : ℕ) × (slice_get (map (λ (x : ℕ × Claim). x.1) chosen) k ≡ Some c)
cited_among chosen no_cite i c e = absurd (none-some c e)
cited_among chosen (a_cite {place = place} {claim = claim} has rest) zero c e =
    let (k, at) = placed chosen (place, claim) has in
    (k, slice_get-map (λ (x : ℕ × Claim). x.1) chosen k ∙ (ap (option_map (λ (x : ℕ × Claim). x.1)) at ∙ e))
cited_among chosen (a_cite has rest) (suc i) c e = cited_among chosen rest i c e

pub may_answer : (q : Question) (left right : Principal) (lines : List Line) (places : List ℕ) → IsProofOf q left right lines places → MayAnswer q left right
may_answer q left right lines places p = derives_more q.anchors p.said (claims_of q) (cited_among q.chosen p.cited) (SpeaksFor left right) (record { lines = lines; proves = p.proves })

-- where no lemma is looked for none serves
pub not_looked : {E : Type 0} (m : Memo) (left right : Principal) (r : Result Taken E) → m.same ≡ false → Remembers {E = E} m left right m r
not_looked m left right (Ok t) off = passed (λ l s. absurd (let q : false ≡ true = sym off ∙ s.same in cc))
not_looked m left right (Err e) off = failed

module _ (q : Question) (m : Memo) (fits : FitsQuestion q m) (left right : Principal) where
  pub served : (l : Lemma) → IsSound m.anchors l → Serves m left right l → MayAnswer q left right
  served l sound s = may_answer q left right l.lines s.cites.0 (proof_again q m fits s.same l sound s.cites.0 s.cites.1 left right l.lines s.left_is s.right_is refl)

  -- by the answer of a look for a lemma's proof
  abbrev pub Means : {E : Type 0} → Memo → Option (Result Taken E) → Type 0
  Means {E} new None = (new ≡ m) × NoneServes m left right
  Means {E} new (Some r) = Remembers {E = E} m left right new r × FitsQuestion q new × IfOk r (λ t. IsProofOf q left right (lines_of t.proof) t.cites.items)

  pub recall_means : {E : Type 0} {new : Memo} {o : Option (Result Taken E)} → Recalls {E = E} m left right new o → Means {E = E} new o
  recall_means (recalls_none none) = (refl, none)
  recall_means (recalls_one {l = l} {t = t} sound s tells) =
      (told s tells, fits_after q m l fits, proof_again q m fits s.same l sound t.cites.items tells.cites left right (lines_of t.proof) s.left_is s.right_is tells.lines)
  recall_means recalls_not = (failed, fits, tt)

  pub recall_none : {E : Type 0} {new : Memo} (o : Option (Result Taken E)) → ((r : Result Taken E) → o ≡ Some r → ⊥) → Recalls {E = E} m left right new o → (new ≡ m) × NoneServes m left right
  recall_none None none r = recall_means r
  recall_none (Some x) none r = absurd (none x refl)

  pub no_proof : {E : Type 0} (r : Result Taken E) → IsErr r → Remembers {E = E} m left right m r
  no_proof (Ok t) h = absurd cc
  no_proof (Err e) h = failed

  pub keep_means : {E : Type 0} {new : Memo} {t : Taken} → NoneServes m left right → Keeps m left right t new → Remembers {E = E} m left right new (Ok t) × FitsQuestion q new
  keep_means none keeps_none = (passed none, fits)
  keep_means none (keeps_one {l = l} is) = (kept none is, fits_after q m l fits)
