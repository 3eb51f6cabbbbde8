-- Causes of two statuses do not stand together: the causes are exact.
use Rattle.std.proofs.Common.{◌≡◌, ◌⊎◌, ℕ, ◌+◌, ◌<◌, ◌≤◌, false, List, [], ◌∷◌, length, slice_get, refl, sym, ap, subst, ◌∙◌, inl, inr, arith}
use Rattle.std.specs.Prelude.{◌==◌}
use Rattle.std.proofs.lemmas.Bool.{cases_Bool, eqb-true, eq-eqb, false≢true}
use Rattle.std.proofs.lemmas.Option.{none-some}
use Rattle.denial_link.specs.declared.link.Link.{Link}
use Rattle.object_core.specs.Operation.{Op, Hold, Discard, Withdraw}
use Rattle.taos_wire.specs.Request.{Request}
use Rattle.taos_wire.specs.Reply.{status_of}
use Rattle.agent_core.specs.declared.limits.TheConstants.{MAX_OWN, MAX_COMMONS, MAX_WITHDRAWN}
use Rattle.agent_core.specs.declared.told.Told.{Told}
use Rattle.agent_core.specs.Held.{is_withdrawn}
use Rattle.agent_core.specs.Journals.{Entry, entry, state_after, cache_after, Granted, Denied, IsVerdict}
use Rattle.agent_core.specs.State.{Plan, Ask, Holds, Withdraws, brought, new_commons}
use Rattle.agent_core.proofs.Few.{one_verdict}
use Rattle.request_course.specs.AtObject.{Seeking}
use Rattle.request_course.specs.Causes.{TookStep, AllDid, CausesEnd, done, no_place, commons_full, nowhere_held, issuers_full, CausesRuling, object_full, shard_full, number_used, own_full, denied, granted, HasCauseOf, malformed, unknown_channel, bad_seal, cert_refused, relay_failed, unknown_object, ruled, CausesAreExact}
use Rattle.request_course.specs.Cells.{Node, Journals, AreLegal, Place, in_shard}
use Rattle.request_course.specs.Completeness.{HasStepped, state_met, HasAsked, ask_in}
use Rattle.request_course.specs.Course.{Arrival, its_seeking, Used}
use Rattle.request_course.specs.Credentials.{LinkCall, AreOpened}
use Rattle.request_course.specs.Effects.{IsDone}
use Rattle.request_course.specs.Operations.{effect_of}
use Rattle.request_course.proofs.Agreeing.{Comes, all_agree}
use Rattle.request_course.proofs.Caused.{caused}
use Rattle.request_course.proofs.Complete.{moved, same_sought}
use Rattle.request_course.proofs.Judging.{met, verdict_fits, held_fits, withdrawn_fits}

two_ops : (digest : List ℕ) (op : Op) → op ≡ Hold → op ≡ Discard digest → ⊥
two_ops digest op hold discard = let both : Hold ≡ Discard digest = sym hold ∙ discard in cc

not_hold : (issuer : ℕ) (op : Op) → op ≡ Hold → op ≡ Withdraw issuer → ⊥
not_hold issuer op hold withdraw = let both : Hold ≡ Withdraw issuer = sym hold ∙ withdraw in cc

not_discard : (digest : List ℕ) (issuer : ℕ) (op : Op) → op ≡ Discard digest → op ≡ Withdraw issuer → ⊥
not_discard digest issuer op discard withdraw = let both : Discard digest ≡ Withdraw issuer = sym discard ∙ withdraw in cc

module _ (n : Node) (J : Journals) (legal : AreLegal n J) (own : List Place) (x : Seeking) where
  -- ---- what the shards did

  -- a Hold for which there is no room is not done
  refused : (shard : ℕ) (told : Told) → x.request.op ≡ Hold → (s : HasStepped n J own shard (Holds x.certs) told) →
      MAX_COMMONS < length (state_met n J own s).commons + length (new_commons (state_met n J own s) x.certs) → AllDid n J own x → ⊥
  refused shard told hold s more did =
      let took : TookStep n J own x shard told = record { event = Holds x.certs; effect_is = ap (λ (op : Op). effect_of op x.certs x.reading) hold; step = s } in
      let tells = (legal.shards shard s.plan s.planned s.before (entry (Holds x.certs) told) s.stands.rest s.stands.is).tells in
      let met_state = state_after s.plan s.before in
      held_fits (cache_after s.plan s.before) met_state x.certs (new_commons met_state x.certs) (subst IsDone tells (did shard told took)) more

  -- nor is a Withdraw for which there is none
  withheld : (issuer shard : ℕ) (told : Told) → x.request.op ≡ Withdraw issuer → (s : HasStepped n J own shard (Withdraws issuer) told) →
      is_withdrawn (state_met n J own s).withdrawn issuer ≡ false → MAX_WITHDRAWN ≤ length (state_met n J own s).withdrawn → AllDid n J own x → ⊥
  withheld issuer shard told withdraw s other full did =
      let took : TookStep n J own x shard told = record { event = Withdraws issuer; effect_is = ap (λ (op : Op). effect_of op x.certs x.reading) withdraw; step = s } in
      let tells = (legal.shards shard s.plan s.planned s.before (entry (Withdraws issuer) told) s.stands.rest s.stands.is).tells in
      withdrawn_fits s.plan (cache_after s.plan s.before) (state_after s.plan s.before) issuer (subst IsDone tells (did shard told took)) other full

  ends_agree : (s t : ℕ) → CausesEnd n J own x s → CausesEnd n J own x t → s ≡ t
  ends_agree s t (done all b c) (no_place {shard} plan planned target at none did) = absurd (none (all shard target).0 (all shard target).1)
  ends_agree s t (done all did c) (commons_full {shard} {told} hold step more) = absurd (refused shard told hold step more did)
  ends_agree s t (done all did some) (nowhere_held digest is b none) = absurd (none (some digest is))
  ends_agree s t (no_place {shard} plan planned target at none did) (done all b c) = absurd (none (all shard target).0 (all shard target).1)
  ends_agree s t (no_place plan planned target at none did) (commons_full {shard} {told} hold step more) = absurd (refused shard told hold step more did)
  ends_agree s t (no_place {shard} plan planned target at none did) (nowhere_held digest is all nothing) = absurd (none (all shard target).0 (all shard target).1)
  ends_agree s t (commons_full {shard} {told} hold step more) (done all did c) = absurd (refused shard told hold step more did)
  ends_agree s t (commons_full {shard} {told} hold step more) (no_place plan planned target at none did) = absurd (refused shard told hold step more did)
  ends_agree s t (commons_full hold step more) (nowhere_held digest is all none) = absurd (two_ops digest x.request.op hold is)
  ends_agree s t (nowhere_held digest is b none) (done all did some) = absurd (none (some digest is))
  ends_agree s t (nowhere_held digest is all nothing) (no_place {shard} plan planned target at none did) = absurd (none (all shard target).0 (all shard target).1)
  ends_agree s t (nowhere_held digest is all none) (commons_full hold step more) = absurd (two_ops digest x.request.op hold is)
  ends_agree s t (done all did c) (issuers_full {shard} {issuer} {told} is step other full) = absurd (withheld issuer shard told is step other full did)
  ends_agree s t (no_place plan planned target at none did) (issuers_full {shard} {issuer} {told} is step other full) = absurd (withheld issuer shard told is step other full did)
  ends_agree s t (commons_full hold step more) (issuers_full {shard} {issuer} {told} is also other full) = absurd (not_hold issuer x.request.op hold is)
  ends_agree s t (nowhere_held digest discard all none) (issuers_full {shard} {issuer} {told} is step other full) = absurd (not_discard digest issuer x.request.op discard is)
  ends_agree s t (issuers_full {shard} {issuer} {told} is step other full) (done all did c) = absurd (withheld issuer shard told is step other full did)
  ends_agree s t (issuers_full {shard} {issuer} {told} is step other full) (no_place plan planned target at none did) = absurd (withheld issuer shard told is step other full did)
  ends_agree s t (issuers_full {shard} {issuer} {told} is step other full) (commons_full hold also more) = absurd (not_hold issuer x.request.op hold is)
  ends_agree s t (issuers_full {shard} {issuer} {told} is step other full) (nowhere_held digest discard all none) = absurd (not_discard digest issuer x.request.op discard is)
  ends_agree s t _ _ = refl

  -- ---- what an Ask met

  data AtAsk (plan : Plan) (before : List Entry) (a : Ask) : ℕ → Type 0 where
    old : a.seq ≤ (met plan before a).last a.channel → AtAsk plan before a 5
    many : (met plan before a).last a.channel < a.seq → MAX_OWN < length ((met plan before a).own a.channel) + length (brought (met plan before a) a) → AtAsk plan before a 7
    barred : (why : Link) → IsVerdict plan before a (Denied why) → AtAsk plan before a 1
    passed : {status : ℕ} → IsVerdict plan before a Granted → CausesEnd n J own x status → AtAsk plan before a status

  module _ (plan : Plan) (before : List Entry) (a : Ask) where
    old_or_judged : (s : ℕ) → a.seq ≤ (met plan before a).last a.channel → AtAsk plan before a s → s ≡ 5
    old_or_judged s le (old less) = refl
    old_or_judged s le (many new more) = absurd (omega (arith, le, new))
    old_or_judged s le (barred why v) = absurd (omega (arith, le, (verdict_fits plan before a (Denied why) v).0))
    old_or_judged s le (passed v end) = absurd (omega (arith, le, (verdict_fits plan before a Granted v).0))

    many_or_judged : (s : ℕ) → (met plan before a).last a.channel < a.seq → MAX_OWN < length ((met plan before a).own a.channel) + length (brought (met plan before a) a) → AtAsk plan before a s → s ≡ 7
    many_or_judged s lt over (old le) = absurd (omega (arith, le, lt))
    many_or_judged s lt over (many new more) = refl
    many_or_judged s lt over (barred why v) = absurd (omega (arith, over, (verdict_fits plan before a (Denied why) v).1))
    many_or_judged s lt over (passed v end) = absurd (omega (arith, over, (verdict_fits plan before a Granted v).1))

    asks_agree : (s t : ℕ) → AtAsk plan before a s → AtAsk plan before a t → s ≡ t
    asks_agree s t (old le) y = sym (old_or_judged t le y)
    asks_agree s t (many new more) y = sym (many_or_judged t new more y)
    asks_agree s t (barred why v) (old le) = old_or_judged s le (barred why v)
    asks_agree s t (barred why v) (many new more) = many_or_judged s new more (barred why v)
    asks_agree s t (barred why v) (barred other w) = refl
    asks_agree s t (barred why v) (passed w end) = absurd (one_verdict plan before a why w v)
    asks_agree s t (passed v end) (old le) = old_or_judged s le (passed v end)
    asks_agree s t (passed v end) (many new more) = many_or_judged s new more (passed v end)
    asks_agree s t (passed v end) (barred why w) = absurd (one_verdict plan before a why v w)
    asks_agree s t (passed v end) (passed w other) = ends_agree s t end other

  -- ---- what came to its object

  abbrev HasMet : ℕ → Type 0
  HasMet s = (k : HasAsked n J own x) × AtAsk k.step.plan k.step.before (ask_in n J own k) s

  ways : (s : ℕ) → CausesRuling n J own x s → ((own ≡ []) × (s ≡ 10)) ⊎ HasMet s
  ways s (object_full none at) = inl (none, refl)
  ways s (shard_full plan planned none at) = inl (none, refl)
  ways s (number_used k le) = inr (k, old le)
  ways s (own_full k new more) = inr (k, many new more)
  ways s (denied why k v) = inr (k, barred why v)
  ways s (granted k v end) = inr (k, passed v end)

  never_asked : own ≡ [] → HasAsked n J own x → ⊥
  never_asked none k = none-some (in_shard x.shard k.step.place) (sym (ap (λ (l : List Place). slice_get l 0) none) ∙ k.first)

  ways_agree : (s t : ℕ) → ((own ≡ []) × (s ≡ 10)) ⊎ HasMet s → ((own ≡ []) × (t ≡ 10)) ⊎ HasMet t → s ≡ t
  ways_agree s t (inl x) (inl y) = x.1 ∙ sym y.1
  ways_agree s t (inl (none, is)) (inr (k, first)) = absurd (never_asked none k)
  ways_agree s t (inr (k, first)) (inl (none, is)) = absurd (never_asked none k)
  ways_agree s t (inr (k, first)) (inr (l, second)) =
      asks_agree l.step.plan l.step.before (ask_in n J own l) s t (moved n J own x k l (λ p b a. AtAsk p b a s) first) second

  pub rulings_agree : (s t : ℕ) → CausesRuling n J own x s → CausesRuling n J own x t → s ≡ t
  rulings_agree s t a b = ways_agree s t (ways s a) (ways t b)

-- ---- the whole

module _ (n : Node) (J : Journals) (payload : List ℕ) (used : Used) where
  record AtObject (r : Request) (status : ℕ) : Type 0 where
    arrival : Arrival n payload
    reading : ℕ
    called : used.calls ≡ arrival.calls
    read : used.readings ≡ reading ∷ []
    ruling : CausesRuling n J used.places (its_seeking n arrival reading) status

  comes : (s : ℕ) → HasCauseOf n J payload used s → Comes n payload used.calls AtObject s
  comes s (malformed none) = inl (none, refl)
  comes s (unknown_channel r spelled none) = inr (r, spelled, inl (none, refl))
  comes s (bad_seal r key spelled keyed other) = inr (r, spelled, inr (key, keyed, inl (other, refl)))
  comes s (cert_refused {r} {key} {index} {code} asked first) =
      inr (r, asked.spelled, inr (key, asked.keyed, inr (asked.seal, inl ((index, code, first), refl))))
  comes s (relay_failed {r} {key} {index} asked first) =
      inr (r, asked.spelled, inr (key, asked.keyed, inr (asked.seal, inr (inl ((index, first), refl)))))
  comes s (unknown_object {r} {key} {certs} opened none) =
      let asked = opened.asked in
      inr (r, asked.spelled, inr (key, asked.keyed, inr (asked.seal, inr (inr ((certs, opened.opened), inl (none, refl))))))
  comes s (ruled t reading called read ruling) =
      let asked = t.arrived.presented.asked in
      let opened = subst (λ (l : List LinkCall). AreOpened n.relay_key t.request.certs l t.certs) (sym called) t.arrived.presented.opened in
      inr (
        t.request,
        asked.spelled,
        inr (
          t.key,
          asked.keyed,
          inr (
            asked.seal,
            inr (inr (
              (t.certs, opened),
              inr (t.object, t.arrived.there, record { arrival = t; reading = reading; called = called; read = read; ruling = ruling }),
            )),
          ),
        ),
      )

  first_is : (a b : ℕ) → a ∷ [] ≡ b ∷ [] → a ≡ b
  first_is a b e = cc

  module _ (legal : AreLegal n J) where
    objects_agree : (s t : ℕ) (r : Request) → AtObject r s → AtObject r t → s ≡ t
    objects_agree s t r x y =
        let reading = first_is x.reading y.reading (sym x.read ∙ y.read) in
        let sought = same_sought n payload x.arrival y.arrival x.reading (sym x.called ∙ y.called) ∙ ap (λ (k : ℕ). its_seeking n y.arrival k) reading in
        rulings_agree n J legal used.places (its_seeking n y.arrival y.reading) s t (subst (λ (z : Seeking). CausesRuling n J used.places z s) sought x.ruling) y.ruling

    pub causes_agree : (s t : ℕ) → HasCauseOf n J payload used s → HasCauseOf n J payload used t → s ≡ t
    causes_agree s t a b = all_agree n payload used.calls AtObject s t (objects_agree s t) (comes s a) (comes t b)

pub causes_are_exact : (n : Node) → CausesAreExact n
causes_are_exact n past J payload used sent legal course = (its_cause, other_way)
  where
    its_cause : (status_of sent.reply ≡ 11 → ⊥) → HasCauseOf n J payload used (status_of sent.reply)
    its_cause known = caused n past J payload used sent legal course known

    other_way : (status : ℕ) → HasCauseOf n J payload used status → (status_of sent.reply ≡ status) ⊎ (status_of sent.reply ≡ 11)
    other_way status c = elim (cases_Bool (status_of sent.reply == 11)) [
      | inl is ↦ inr (eqb-true (status_of sent.reply) 11 is)
      | inr not ↦ inl (causes_agree n J payload used legal (status_of sent.reply) status (its_cause (λ same. false≢true (sym not ∙ eq-eqb (status_of sent.reply) 11 same))) c)
    ]
