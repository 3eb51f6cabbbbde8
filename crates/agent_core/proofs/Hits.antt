-- Where an Ask is told a hit, its entry is granted by a kept proof: cached equals uncached.
use Rattle.std.proofs.Common.{◌≡◌, ℕ, ◌+◌, ◌<◌, ◌≤◌, Bool, true, ◌==◌, nat_le, nat_lt, List, [], ◌∷◌, ◌++◌, length}
use Rattle.std.proofs.Common.{get_or, find, bit_and, position, All, Contains, Option, Some, None, slice_get, suc, inl, inr, refl, sym, ◌∙◌, ap, subst, arith}
use Rattle.std.specs.List.{list_any}
use Rattle.std.proofs.lemmas.Bool.{cond_both, cond-true, cond-false, and_parts, not-true, eqb-false, cases_Bool}
use Rattle.std.proofs.lemmas.Option.{slice_get-get_or, same_Some, none-some}
use Rattle.std.proofs.lemmas.List.Elements.{All-weaker, All-map, Contains-append_left}
use Rattle.std.proofs.lemmas.List.Folds.{Any-from_list_any}
use Rattle.std.proofs.lemmas.List.Quantifiers.{position-Some}
use Rattle.prin_term.specs.declared.term.Anchor.{Anchor}
use Rattle.prin_term.specs.Principal.{Principal}
use Rattle.prin_term.specs.View.{Grant}
use Rattle.stmt_codec.specs.Certificates.{Certificate, live}
use Rattle.stmt_codec.proofs.Living.{live-to}
use Rattle.taos_calculus.specs.Rules.{Judgement, SpeaksFor, Derivable}
use Rattle.taos_calculus.specs.Question.{claim_of}
use Rattle.taos_calculus.specs.Monitor.{HasRight, MaySpeak}
use Rattle.taos_calculus.proofs.Induction.{All-at}
use Rattle.taos_calculus.proofs.Staying.{derives_more}
use Rattle.denial_link.specs.Revived.{claims}
use Rattle.denial_link.proofs.Members.{Contains-to_map}
use Rattle.proof_cache.specs.Cached.{Cached}
use Rattle.proof_cache.specs.Cache.{is_for}
use Rattle.proof_cache.proofs.Marks.{is_kept_for}
use Rattle.agent_core.specs.declared.told.Told.{Told}
use Rattle.agent_core.specs.Held.{channel_of}
use Rattle.agent_core.specs.State.{Plan, State, Ask, Asks, Answer, Judged, own_of, swept, brought, asking, moment_of, next}
use Rattle.agent_core.specs.Caches.{unlapsed, gives_right, is_served, first_hit, hit_or_miss}
use Rattle.agent_core.specs.Granted.{IsKeptProofFor}
use Rattle.agent_core.specs.Journals.{Entry, entry, state_after, cache_after, told_of, IsJudged, MayFollow, IsLegalJournal, IsVerdict, Granted, granted}
use Rattle.agent_core.specs.Laws.{IsBacked, HitIsGranted}
use Rattle.agent_core.proofs.Clocks.{moment_later}
use Rattle.agent_core.proofs.Making.{front_legal}
use Rattle.agent_core.proofs.Backed.{All-both, unlapsed_swept, cache_backed, lease_of-least, own_more}

hit_some : (o : Option ℕ) (e : ℕ) → Told.Hit e ≡ hit_or_miss o → o ≡ Some e
hit_some None e h = let no : ⊥ = cc in absurd no
hit_some (Some k) e h = cc

-- what is found is there, and passes
pub find_there : {X : Type 0} (p : X → Bool) (xs : List X) (x : X) → find p xs ≡ Some x → Contains xs x × (p x ≡ true)
find_there p [] x h = absurd (none-some x h)
find_there p (y ∷ ys) x h =
    elim (cases_Bool (p y)) [
      | inl e ↦
          let same : y ≡ x = same_Some y x (sym (cond-true (p y) (Some y) (find p ys) e) ∙ h) in
          ((0, omega arith, same), subst (λ z. p z ≡ true) same e)
      | inr e ↦
          let (more, passes) = find_there p ys x (sym (cond-false (p y) (Some y) (find p ys) e) ∙ h) in
          ((suc more.0, omega (arith, more.1), more.2), passes)
    ]

-- what a swept state judges by
abbrev pub judged_certs : State → Ask → List Certificate
judged_certs t a = (t.own a.channel ++ brought t a) ++ t.commons

-- an Ask is told at once, or judged by what the swept state has
module _ (t : State) (a : Ask) where
  pub judged_as : (moment : ℕ) (certs : List Certificate) → (asking t a).1 ≡ Judged moment certs → (moment ≡ t.clock) × (certs ≡ judged_certs t a)
  judged_as moment certs =
      cond_both (nat_le a.seq (t.last a.channel)) _ _ (λ (r : State × Answer). r.1 ≡ Judged moment certs → (moment ≡ t.clock) × (certs ≡ judged_certs t a))
      (λ _ h. let no : ⊥ = cc in absurd no)
      (λ _. cond_both (nat_lt 32 (length (t.own a.channel) + length (brought t a))) _ _
      (λ (r : State × Answer). r.1 ≡ Judged moment certs → (moment ≡ t.clock) × (certs ≡ judged_certs t a))
      (λ _ h. let no : ⊥ = cc in absurd no) (λ _ h. (cc, cc)))

  -- only what is judged is told as a hit
  judged_where_hit : (cache : List Cached) (e : ℕ) → Told.Hit e ≡ told_of cache (Asks a) (asking t a).1 → (asking t a).1 ≡ Judged t.clock (judged_certs t a)
  judged_where_hit cache e =
      cond_both (nat_le a.seq (t.last a.channel)) _ _ (λ (r : State × Answer). Told.Hit e ≡ told_of cache (Asks a) r.1 → r.1 ≡ Judged t.clock (judged_certs t a))
      (λ _ h. let no : ⊥ = cc in absurd no)
      (λ _. cond_both (nat_lt 32 (length (t.own a.channel) + length (brought t a))) _ _
      (λ (r : State × Answer). Told.Hit e ≡ told_of cache (Asks a) r.1 → r.1 ≡ Judged t.clock (judged_certs t a))
      (λ _ h. let no : ⊥ = cc in absurd no) (λ _ h. refl))

-- a proof by certificates that are all among others is one by the others
pub derivable_among : (anchors : List Anchor) (cites certs : List Certificate) (fact : Judgement) →
    All (Contains certs) cites → Derivable anchors (claims cites) fact → Derivable anchors (claims certs) fact
derivable_among anchors cites certs fact all d =
    let said : All (Contains (claims certs)) (claims cites) =
    All-map (Contains (claims certs)) claim_of cites
    (All-weaker (Contains certs) (λ c. Contains (claims certs) (claim_of c)) (λ c h. Contains-to_map claim_of certs c h) cites all) in
    derives_more anchors (claims cites) (claims certs)
    (λ i c e.
    let (k, lt, is) = All-at (Contains (claims certs)) (claims cites) i c said e in
    (k, slice_get-get_or (claims certs) k c lt ∙ ap Some is))
    fact d

right_of_test : (g : Grant) (right : ℕ) → gives_right right g ≡ true → HasRight g right
right_of_test g right h = eqb-false (bit_and g.rights right) 0 (not-true (bit_and g.rights right == 0) h)

-- the first that passes is there, and passes
pub first_passes : (p : Grant → Bool) (list : List Grant) (e : ℕ) (subject : Principal) → position p list ≡ Some e → (g : Grant) × (slice_get list e ≡ Some g) × (p g ≡ true)
first_passes p list e subject found =
    let any : Grant = record { rights = 0; who = subject } in
    let (lt, pass, first) = position-Some p list e any found in
    (get_or list e any, slice_get-get_or list e any lt, pass)

module _ (plan : Plan) (t : State) (a : Ask) (on : channel_of a.subject ≡ Some a.channel) where
  -- the cites of a backed proof of the Ask's subject are live, and judged by
  cites_live : (c : Cached) → c.subject ≡ a.subject → IsBacked plan t c → All (Contains (live (judged_certs t a) t.clock)) c.cites
  cites_live c same b =
      let late : All (λ (d : Certificate). c.lease ≤ d.until) c.cites =
      subst (λ n. All (λ (d : Certificate). n ≤ d.until) c.cites) (sym b.lease_is) (lease_of-least c.cites) in
      let here : All (Contains (t.own a.channel ++ t.commons)) c.cites =
      subst (λ o. All (Contains (own_of t o ++ t.commons)) c.cites) (ap channel_of same ∙ on) b.held in
      let ahead : t.clock < c.lease = b.ahead in
      All-weaker (λ (d : Certificate). ((d.from ≤ t.clock) × (c.lease ≤ d.until)) × Contains (t.own a.channel ++ t.commons) d) (Contains (live (judged_certs t a) t.clock))
      (λ d h. live-to (judged_certs t a) t.clock d
      (own_more plan (t.own a.channel) (t.own a.channel ++ brought t a) t.commons (λ x i. Contains-append_left (t.own a.channel) (brought t a) x i) d h.1)
      (h.0.0, omega (arith, h.0.1, ahead)))
      c.cites (All-both (λ (d : Certificate). (d.from ≤ t.clock) × (c.lease ≤ d.until)) (Contains (t.own a.channel ++ t.commons)) c.cites
      (All-both (λ (d : Certificate). d.from ≤ t.clock) (λ (d : Certificate). c.lease ≤ d.until) c.cites b.begun late) here)

  -- a backed proof that is kept for an entry with the right grants it
  kept_for : (c : Cached) (e : ℕ) (g : Grant) → slice_get a.list e ≡ Some g → gives_right a.right g ≡ true → is_for a.subject g.who c ≡ true → IsBacked plan t c →
      IsKeptProofFor plan.anchors (judged_certs t a) t.clock a e c
  kept_for c e g at right test b =
      let (s, w) = is_kept_for a.subject g.who c test in
      record {
        grant = g;
        stands = at;
        has_right = right_of_test g a.right right;
        subject_is = s;
        who_is = w;
        alive = cites_live c s b;
        proves = b.proves;
        lease_is = b.lease_is;
        ahead = b.ahead;
      }

module _ (plan : Plan) (before : List Entry) (a : Ask) (e : ℕ) (legal : IsLegalJournal plan (before ++ entry (Asks a) (Told.Hit e) ∷ [])) where
  abbrev pub hit_state : State
  hit_state = swept plan.keep (moment_of (state_after plan before) a.reading) (state_after plan before)

  abbrev pub hit_cache : List Cached
  hit_cache = unlapsed (moment_of (state_after plan before) a.reading) (cache_after plan before)

  hit_may : MayFollow plan before (entry (Asks a) (Told.Hit e))
  hit_may = legal before (entry (Asks a) (Told.Hit e)) [] refl

  pub hit_judged : (next plan (state_after plan before) (Asks a)).1 ≡ Judged hit_state.clock (judged_certs hit_state a)
  hit_judged = judged_where_hit hit_state a (cache_after plan before) e hit_may.tells

  hit_first : first_hit hit_cache a ≡ Some e
  hit_first = hit_some (first_hit hit_cache a) e (hit_may.tells ∙ ap (told_of (cache_after plan before) (Asks a)) hit_judged)

  hit_backed : All (IsBacked plan hit_state) hit_cache
  hit_backed =
      unlapsed_swept plan plan.keep (moment_of (state_after plan before) a.reading) (state_after plan before) (cache_after plan before) (moment_later (state_after plan before) a.reading)
      (cache_backed plan before (front_legal plan before (entry (Asks a) (Told.Hit e) ∷ []) legal))

  -- the proof that is kept for the entry grants it
  pub hit_proof : (moment : ℕ) (certs : List Certificate) (g : Grant) (c : Cached) → IsJudged plan before a moment certs → slice_get a.list e ≡ Some g →
      find (is_for a.subject g.who) (unlapsed moment (cache_after plan before)) ≡ Some c → IsKeptProofFor plan.anchors certs moment a e c
  hit_proof moment certs g c judged at found =
      let (m, cs) = judged_as hit_state a moment certs judged in
      let (h, at', pass) = first_passes (is_served hit_cache a.subject a.right) a.list e a.subject hit_first in
      let same : h ≡ g = same_Some h g (sym at' ∙ at) in
      let right : gives_right a.right g ≡ true = subst (λ (x : Grant). gives_right a.right x ≡ true) same (and_parts (gives_right a.right h) (list_any (is_for a.subject h.who) hit_cache) pass).0 in
      let (there, test) = find_there (is_for a.subject g.who) hit_cache c (subst (λ n. find (is_for a.subject g.who) (unlapsed n (cache_after plan before)) ≡ Some c) m found) in
      let backed : IsBacked plan hit_state c = subst (IsBacked plan hit_state) there.2 (hit_backed there.0 c there.1) in
      subst (λ n. IsKeptProofFor plan.anchors certs n a e c) (sym m)
      (subst (λ (xs : List Certificate). IsKeptProofFor plan.anchors xs hit_state.clock a e c) (sym cs)
      (kept_for plan hit_state a hit_may.meant.0 c e g at right test backed))

  -- and there is one
  pub hit_found : (c : Cached) × IsKeptProofFor plan.anchors (judged_certs hit_state a) hit_state.clock a e c
  hit_found =
      let (h, at, pass) = first_passes (is_served hit_cache a.subject a.right) a.list e a.subject hit_first in
      let (right, any) = and_parts (gives_right a.right h) (list_any (is_for a.subject h.who) hit_cache) pass in
      let (k, c, lt, is, same) = Any-from_list_any (is_for a.subject h.who) hit_cache any in
      (c, kept_for plan hit_state a hit_may.meant.0 c e h at right same (subst (IsBacked plan hit_state) is (hit_backed k c lt)))

-- a kept proof for an entry makes the verdict a grant
pub kept_grants : (plan : Plan) (before : List Entry) (a : Ask) (e moment : ℕ) (certs : List Certificate) (c : Cached) → IsJudged plan before a moment certs →
    IsKeptProofFor plan.anchors certs moment a e c → IsVerdict plan before a Granted
kept_grants plan before a e moment certs c judged k =
    let d : Derivable plan.anchors (claims (live certs moment)) (SpeaksFor c.subject c.who) =
    derivable_among plan.anchors c.cites (live certs moment) (SpeaksFor c.subject c.who) k.alive (record { lines = c.proof; proves = k.proves }) in
    let speaks : MaySpeak plan.anchors (claims (live certs moment)) a.subject k.grant.who =
    subst (λ (p : Principal). MaySpeak plan.anchors (claims (live certs moment)) p k.grant.who) k.subject_is
    (subst (λ (p : Principal). MaySpeak plan.anchors (claims (live certs moment)) c.subject p) k.who_is d) in
    granted judged (record { place = e; entry = k.grant; stands = k.stands; has_right = k.has_right; speaks = speaks })

pub hit_granted : (plan : Plan) → HitIsGranted plan
hit_granted plan before a e legal =
    let (c, k) = hit_found plan before a e legal in
    kept_grants plan before a e (hit_state plan before a e legal).clock (judged_certs (hit_state plan before a e legal) a) c (hit_judged plan before a e legal) k
