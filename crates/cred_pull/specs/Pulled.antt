-- Pulled certificates: which of those that were fetched open, by which calls of the link, and where
-- a pull of them stops.
use Rattle.std.specs.Prelude.{◌≡◌, ◌≢◌, ℕ, ◌<◌, ◌≤◌, List, [], ◌∷◌, ◌++◌, length}
use Rattle.stmt_codec.specs.Certificates.{Certificate}
use Rattle.relay_core.specs.declared.message.TheConstants.{MAX_CERT}
use Rattle.relay_core.specs.Credentials.{LinkAnswer, LinkCall, call, Failed, Comes, IsIssued, IsRefused}

-- what one fetched text comes to, by these calls: a certificate; or none, where it is refused, or
-- too long for any certificate, which is not sent
pub data IsOpened (key text : List ℕ) : List LinkCall → List Certificate → Type 0 where
  comes : {calls : List LinkCall} {c : Certificate} →
      length text ≤ MAX_CERT → Comes key text calls c →
      IsOpened key text calls (c ∷ [])
  refused : {calls : List LinkCall} {code : ℕ} →
      length text ≤ MAX_CERT → IsRefused key text calls code →
      IsOpened key text calls []
  too_long :
      MAX_CERT < length text →
      IsOpened key text [] []

-- the texts come to these certificates, one by one, by these calls
pub data ArePulled (key : List ℕ) : List (List ℕ) → List LinkCall → List Certificate → Type 0 where
  none_more : ArePulled key [] [] []
  one_more : {text : List ℕ} {first calls : List LinkCall} {own certs : List Certificate}
      {texts : List (List ℕ)} →
      IsOpened key text first own → ArePulled key texts calls certs →
      ArePulled key (text ∷ texts) (first ++ calls) (own ++ certs)

-- the texts before the place were pulled, by these calls; this one is next
pub record StopsAt (key : List ℕ) (texts : List (List ℕ)) (place : ℕ) (text : List ℕ)
    (before : List LinkCall) : Type 0 where
  pub front : List (List ℕ)
  pub rest : List (List ℕ)
  pub whole : texts ≡ front ++ text ∷ rest
  pub there : length front ≡ place
  pub certs : List Certificate
  pub pulled : ArePulled key front before certs

-- for the text of this place, which was sent to the link, the link failed
pub record IsFailedAt (key : List ℕ) (texts : List (List ℕ)) (calls : List LinkCall) (place : ℕ) :
    Type 0 where
  pub text : List ℕ
  -- the calls for those before the place
  pub before : List LinkCall
  pub stops : StopsAt key texts place text before
  pub short : length text ≤ MAX_CERT
  pub issued : IsIssued text
  pub calls_are : calls ≡ before ++ call text Failed ∷ []

-- memory was refused: after all were pulled; or at this one, perhaps after the link answered, which
-- did not fail
pub data IsInterrupted (key : List ℕ) (texts : List (List ℕ)) (calls : List LinkCall) :
    Type 0 where
  at_end : {certs : List Certificate} →
      ArePulled key texts calls certs →
      IsInterrupted key texts calls
  at_text : {place : ℕ} (text : List ℕ) →
      StopsAt key texts place text calls →
      IsInterrupted key texts calls
  after_call : {place : ℕ} (text : List ℕ) (before : List LinkCall) (answer : LinkAnswer) →
      StopsAt key texts place text before → IsIssued text → answer ≢ Failed →
      calls ≡ before ++ call text answer ∷ [] →
      IsInterrupted key texts calls
