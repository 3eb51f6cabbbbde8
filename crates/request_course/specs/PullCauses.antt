-- The cause of each reply where certificates are fetched, and what a pulled request presents.
use Rattle.std.specs.Prelude.{◌≡◌, ◌≢◌, ◌⊎◌, ℕ, List, [], ◌∷◌, ◌++◌}
use Rattle.stmt_codec.specs.Certificates.{Certificate}
use Rattle.taos_wire.specs.Request.{Request, IsAsked}
use Rattle.taos_wire.specs.Reply.{Sent, status_of}
use Rattle.cred_pull.specs.Fetching.{Texts, Gave, Failed}
use Rattle.cred_pull.specs.Pulled.{ArePulled, IsFailedAt}
use Rattle.cred_pull.specs.Pulling.{within}
use Rattle.request_course.specs.Cells.{Node, Journals, AreLegal}
use Rattle.request_course.specs.Causes.{HasCauseOf}
use Rattle.request_course.specs.Course.{Arrival, Used, uses, TurnAfter, pulled_payload}
use Rattle.request_course.specs.Credentials.{LinkCall, AreOpened}

module _ (n : Node) (J : Journals) (payload : List ℕ) (used : Used) where
  -- the calls of the link behind those of the pull, with what else was used
  abbrev pub behind : List LinkCall → Used
  behind calls = uses used.readings calls used.places

  -- The cause of each status but that of memory that was refused: that of the payload as it was sent, for
  -- which nothing was fetched; the fetch failed; the link failed at a fetched certificate; or the cause of
  -- the payload with what was pulled.
  pub data HasTurnCause : ℕ → Type 0 where
    plain : {status : ℕ} → used.pulls ≡ [] → HasCauseOf n J payload used status → HasTurnCause status
    pull_failed : {r : Request} {key : List ℕ} → IsAsked n.channels payload r key →
        used.pulls ≡ Failed ∷ [] → HasTurnCause 15
    pull_stopped : {r : Request} {key : List ℕ} {fetched : Texts} {place : ℕ} →
        IsAsked n.channels payload r key → used.pulls ≡ Gave fetched ∷ [] →
        IsFailedAt n.relay_key (within r.certs fetched) used.calls place → HasTurnCause 8
    pulled : {status : ℕ} {r : Request} {key : List ℕ} {fetched : Texts} {calls : List LinkCall}
        {certs : List Certificate} (later : List LinkCall) →
        IsAsked n.channels payload r key → used.pulls ≡ Gave fetched ∷ [] →
        ArePulled n.relay_key (within r.certs fetched) calls certs → used.calls ≡ calls ++ later →
        HasCauseOf n J (pulled_payload n key r certs) (behind later) status → HasTurnCause status

-- A reply has the cause of its status, and where a cause stands the reply has its status; but for memory
-- that was refused.
abbrev pub TurnCausesAreExact : Node → Type 0
TurnCausesAreExact n =
    (past J : Journals) (payload : List ℕ) (used : Used) (sent : Sent) → AreLegal n J →
    TurnAfter n past J payload used sent →
    (status_of sent.reply ≢ 11 → HasTurnCause n J payload used (status_of sent.reply)) ×
    ((status : ℕ) → HasTurnCause n J payload used status →
    (status_of sent.reply ≡ status) ⊎ (status_of sent.reply ≡ 11))

-- What a pulled request has when it comes to its object is what it presented, each opened by a call of the
-- link or by none, and behind it what was pulled; no other call is made for it.
abbrev pub PulledArePresented : Node → Type 0
PulledArePresented n =
    (payload key : List ℕ) (r : Request) (fetched : Texts) (calls : List LinkCall)
    (certs : List Certificate) → IsAsked n.channels payload r key →
    ArePulled n.relay_key (within r.certs fetched) calls certs →
    (t : Arrival n (pulled_payload n key r certs)) →
    (own : List Certificate) × AreOpened n.relay_key r.certs t.calls own × (t.certs ≡ own ++ certs)
