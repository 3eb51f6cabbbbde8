-- The cause of a turn by its status, both ways; and what a pulled request presents.
use Rattle.std.proofs.Common.{◌≡◌, ◌≢◌, ◌⊎◌, ℕ, List, [], ◌∷◌, ◌++◌, refl, sym, ap, subst, subst₂, ◌∙◌, inl, inr, append-nil}
use Rattle.std.proofs.lemmas.List.Elements.{All-head, All-tail}
use Rattle.std.specs.Prelude.{All}
use Rattle.sealed_cert.specs.Seals.{Opens, sealed as sealed_cert}
use Rattle.stmt_codec.specs.Certificates.{Certificate}
use Rattle.taos_wire.specs.Request.{Request, IsAsked}
use Rattle.taos_wire.specs.Reply.{Sent, status_of}
use Rattle.taos_wire.proofs.RequestLaws.{sealed_spells, spelled_once}
use Rattle.cred_pull.specs.Fetching as fetching
use Rattle.cred_pull.specs.Fetching.{Texts, Pull, Gave}
use Rattle.cred_pull.specs.Pulled.{ArePulled, IsFailedAt}
use Rattle.cred_pull.specs.Pulling.{within, with_pulled, forms_of}
use Rattle.cred_pull.proofs.Bytes.{pulled_fits, pulled_open}
use Rattle.cred_pull.proofs.Walks.{never_both}
use Rattle.request_course.specs.Cells.{Node, Journals, AreLegal}
use Rattle.request_course.specs.Causes.{HasCauseOf}
use Rattle.request_course.specs.Course.{Used, uses, pulled_payload, TurnAfter, plain, pull_failed, unfetched, unpulled, pull_stopped, pulled}
use Rattle.request_course.specs.Credentials.{LinkCall, Comes, by_node, by_relay, AreOpened, none_more, one_more}
use Rattle.request_course.specs.PullCauses as causes
use Rattle.request_course.specs.PullCauses.{HasTurnCause, TurnCausesAreExact, PulledArePresented}
use Rattle.request_course.proofs.CausesApart.{causes_are_exact}
use Rattle.request_course.proofs.CertWalks.{opens_once, relayed_alone}
use Rattle.request_course.proofs.Whole.{as_used, none_fetched, fetch_is_none, same_texts, same_asked, one_payload, one_rest}

failed_or_gave : (texts : Texts) (ps qs : List Pull) → fetching.Failed ∷ ps ≡ Gave texts ∷ qs → ⊥
failed_or_gave texts ps qs e = cc

module _ (n : Node) (past J : Journals) (payload : List ℕ) (legal : AreLegal n J) where
  -- the cause of a turn
  turn_caused : (used : Used) (sent : Sent) → TurnAfter n past J payload used sent → status_of sent.reply ≢ 11 → HasTurnCause n J payload used (status_of sent.reply)
  turn_caused used sent (plain c) known = causes.plain (none_fetched n past J payload used sent c) ((causes_are_exact n past J payload used sent legal c).0 known)
  turn_caused used sent (pull_failed asked) known = causes.pull_failed asked refl
  turn_caused used sent (pull_stopped {r} {fetched} {calls} {place} asked failed) known =
      causes.pull_stopped asked refl (subst (λ (l : List LinkCall). IsFailedAt n.relay_key (within r.certs fetched) l place) (sym (append-nil calls)) failed)
  turn_caused used sent (pulled {r} {key} {fetched} {calls} {certs} {used = later} asked opened c) known =
      let cause = (causes_are_exact n past J (pulled_payload n key r certs) later sent legal c).0 known in
      let is = as_used n past J (pulled_payload n key r certs) later sent c in
      causes.pulled later.calls asked (ap (λ (u : Used). Gave fetched ∷ u.pulls) is) opened refl (subst (λ (u : Used). HasCauseOf n J (pulled_payload n key r certs) u (status_of sent.reply)) is cause)
  turn_caused used sent _ known = absurd (known refl)

  abbrev Has : Sent → ℕ → Type 0
  Has sent status = (status_of sent.reply ≡ status) ⊎ (status_of sent.reply ≡ 11)

  -- the link's failure at a fetched certificate, and all that were pulled, exclude each other
  not_both : (r q : Request) (k l : List ℕ) → IsAsked n.channels payload r k → IsAsked n.channels payload q l → (texts others : Texts) → texts ≡ others → (calls by rest more : List LinkCall) (place : ℕ) (certs : List Certificate) →
      IsFailedAt n.relay_key (within r.certs texts) calls place → ArePulled n.relay_key (within q.certs others) by certs → calls ++ rest ≡ by ++ more → ⊥
  not_both r q k l asked again texts others alike calls by rest more place certs failed opened e =
      let request = (same_asked n payload r q k l asked again).0 in
      let looked : within r.certs texts ≡ within q.certs others = ap (λ (z : Request). within z.certs texts) request ∙ ap (within q.certs) alike in
      never_both n.relay_key (within q.certs others) calls by rest more place certs (subst (λ (ts : Texts). IsFailedAt n.relay_key ts calls place) looked failed) opened e

  -- a turn has the status of each cause
  turn_has : (used : Used) (sent : Sent) → TurnAfter n past J payload used sent → (status : ℕ) → HasTurnCause n J payload used status → Has sent status
  turn_has used sent (plain c) status (causes.plain none cause) = (causes_are_exact n past J payload used sent legal c).1 status cause
  turn_has used sent (plain c) status (causes.pull_failed asked is) = absurd (fetch_is_none fetching.Failed [] (sym is ∙ none_fetched n past J payload used sent c))
  turn_has used sent (plain c) status (causes.pull_stopped {fetched} asked is failed) = absurd (fetch_is_none (Gave fetched) [] (sym is ∙ none_fetched n past J payload used sent c))
  turn_has used sent (plain c) status (causes.pulled {fetched} later asked is opened all cause) = absurd (fetch_is_none (Gave fetched) [] (sym is ∙ none_fetched n past J payload used sent c))
  turn_has used sent (pull_failed asked) status (causes.plain none cause) = absurd (fetch_is_none fetching.Failed [] none)
  turn_has used sent (pull_failed asked) status (causes.pull_failed again is) = inl refl
  turn_has used sent (pull_failed asked) status (causes.pull_stopped {fetched} again is failed) = absurd (failed_or_gave fetched [] [] is)
  turn_has used sent (pull_failed asked) status (causes.pulled {fetched} later again is opened all cause) = absurd (failed_or_gave fetched [] [] is)
  turn_has used sent (unfetched asked) status cause = inr refl
  turn_has used sent (unpulled asked interrupted) status cause = inr refl
  turn_has used sent (pull_stopped {fetched} asked failed) status (causes.plain none cause) = absurd (fetch_is_none (Gave fetched) [] none)
  turn_has used sent (pull_stopped {fetched} asked failed) status (causes.pull_failed again is) = absurd (failed_or_gave fetched [] [] (sym is))
  turn_has used sent (pull_stopped asked failed) status (causes.pull_stopped again is stopped) = inl refl
  turn_has used sent (pull_stopped {r} {key} {fetched} {calls} {place} asked failed) status (causes.pulled {r = q} {key = k} {fetched = texts} {calls = by} {certs} later again is opened all cause) =
      absurd (not_both r q key k asked again fetched texts (same_texts fetched texts [] [] is) calls by [] later place certs failed opened all)
  turn_has used sent (pulled {fetched} {used = later} asked opened c) status (causes.plain none cause) = absurd (fetch_is_none (Gave fetched) later.pulls none)
  turn_has used sent (pulled {fetched} {used = later} asked opened c) status (causes.pull_failed again is) = absurd (failed_or_gave fetched [] later.pulls (sym is))
  turn_has used sent (pulled {r} {key} {fetched} {calls} {certs} {used = later} asked opened c) status (causes.pull_stopped {r = q} {key = k} {fetched = texts} {place} again is failed) =
      absurd (not_both q r k key again asked texts fetched (sym (same_texts fetched texts later.pulls [] is)) used.calls calls [] later.calls place certs failed opened (append-nil used.calls))
  turn_has used sent (pulled {r} {key} {fetched} {calls} {certs} {used = later} asked opened c) status (causes.pulled {r = q} {key = k} {fetched = texts} {calls = by} {certs = ds} more again is opens all cause) =
      let alike = same_texts fetched texts later.pulls [] is in
      let one = one_payload n payload r q key k asked again fetched texts alike calls by later.calls more certs ds opened opens all in
      let rest = one_rest n payload r q key k asked again fetched texts alike calls by later.calls more certs ds opened opens all in
      let used_so = as_used n past J (pulled_payload n key r certs) later sent c ∙ ap (λ (l : List LinkCall). uses later.readings l later.places) rest in
      (causes_are_exact n past J (pulled_payload n key r certs) later sent legal c).1 status
      (subst₂ (λ (p : List ℕ) (u : Used). HasCauseOf n J p u status) (sym one) (sym used_so) cause)

pub turn_causes_are_exact : (n : Node) → TurnCausesAreExact n
turn_causes_are_exact n past J payload used sent legal turn = (turn_caused n past J payload legal used sent turn, turn_has n past J payload legal used sent turn)

-- ---- what a pulled request presents

module _ (key : List ℕ) where
  -- what opens by itself opens by no call, to the same
  own_form : (text : List ℕ) (calls : List LinkCall) (c d : Certificate) → Opens key text c → Comes key text calls d → (calls ≡ []) × (d ≡ c)
  own_form text calls c d opens (by_node other) = (refl, opens_once key text d c other opens)
  own_form text calls c d opens (by_relay {new} is) = absurd (relayed_alone key text new c d opens is)

  -- forms under the relay's seal open by no call
  forms_alone : (certs all : List Certificate) (calls : List LinkCall) → All (λ c. Opens key (sealed_cert 2 key c) c) certs → AreOpened key (forms_of key certs) calls all → (calls ≡ []) × (all ≡ certs)
  forms_alone [] all calls opens none_more = (refl, refl)
  forms_alone (c ∷ certs) all calls opens (one_more {first} {calls = rest} {c = d} {certs = ds} comes more) =
      let (none, same) = own_form (sealed_cert 2 key c) first c d (All-head (λ x. Opens key (sealed_cert 2 key x) x) c certs opens) comes in
      let (nothing, others) = forms_alone certs ds rest (All-tail (λ x. Opens key (sealed_cert 2 key x) x) c certs opens) more in
      (ap (λ (l : List LinkCall). l ++ rest) none ∙ nothing, ap (λ (x : Certificate). x ∷ ds) same ∙ ap (λ (l : List Certificate). c ∷ l) others)

  -- texts, and forms behind them
  presented_first : (texts : Texts) (certs all : List Certificate) (calls : List LinkCall) → All (λ c. Opens key (sealed_cert 2 key c) c) certs → AreOpened key (texts ++ forms_of key certs) calls all →
      (own : List Certificate) × AreOpened key texts calls own × (all ≡ own ++ certs)
  presented_first [] certs all calls opens come =
      let (none, same) = forms_alone certs all calls opens come in
      ([], subst (λ (l : List LinkCall). AreOpened key [] l []) (sym none) none_more, same)
  presented_first (text ∷ texts) certs all calls opens (one_more {first} {calls = rest} {c} {certs = ds} comes more) =
      let (own, opened, are) = presented_first texts certs ds rest opens more in
      (c ∷ own, one_more comes opened, ap (λ (l : List Certificate). c ∷ l) are)

pub pulled_are_presented : (n : Node) → PulledArePresented n
pulled_are_presented n payload key r fetched calls certs asked opened t =
    let q = with_pulled n.relay_key r certs in
    let fits = pulled_fits n.relay_key r fetched calls certs asked.spelled.limits opened in
    let same : t.request ≡ q = spelled_once t.request q (pulled_payload n key r certs) t.arrived.presented.asked.spelled (sealed_spells key q fits) in
    presented_first n.relay_key r.certs certs t.certs t.calls (pulled_open n.relay_key (within r.certs fetched) calls certs opened)
    (subst (λ (z : Request). AreOpened n.relay_key z.certs t.calls t.certs) same t.arrived.presented.opened)
