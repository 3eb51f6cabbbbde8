-- The certificates that a request presents, in order, by their bytes.
use Rattle.std.specs.Prelude.{◌≡◌, ◌≢◌, ℕ, List, [], ◌∷◌, ◌++◌, length}
use Rattle.stmt_codec.specs.Certificates.{Certificate}
pub use Rattle.relay_core.specs.Credentials.{LinkAnswer, Resealed, Refused, Lacked, Failed, LinkCall, call, IsIssued, IsResealed, Comes, by_node, by_relay, IsRefused, malformed, bad_seal, refused, bad_reseal, AnswersAs, IsToldAs, CountsAs, FailedAs, WasCalled, LinkUse, link_use, IsLinked, IsQuiet}

-- the bytes come to these certificates, one by one, by these calls
pub data AreOpened (key : List ℕ) : List (List ℕ) → List LinkCall → List Certificate → Type 0 where
  none_more : AreOpened key [] [] []
  one_more : {text : List ℕ} {first calls : List LinkCall} {c : Certificate}
      {texts : List (List ℕ)} {certs : List Certificate} →
      Comes key text first c → AreOpened key texts calls certs →
      AreOpened key (text ∷ texts) (first ++ calls) (c ∷ certs)

-- those before the index were opened, by these calls; this one is next
pub record StopsAt (key : List ℕ) (texts : List (List ℕ)) (index : ℕ) (text : List ℕ)
    (before : List LinkCall) : Type 0 where
  -- the certificates before the index, which were opened
  pub front : List (List ℕ)
  pub rest : List (List ℕ)
  pub whole : texts ≡ front ++ text ∷ rest
  pub place : length front ≡ index
  pub certs : List Certificate
  pub opened : AreOpened key front before certs

-- the first that comes to no certificate has this index, and the code says why
pub record IsFirstRefused (key : List ℕ) (texts : List (List ℕ)) (calls : List LinkCall)
    (index code : ℕ) : Type 0 where
  pub text : List ℕ
  -- the calls for those before the index
  pub before : List LinkCall
  -- the calls for this one
  pub last : List LinkCall
  pub stops : StopsAt key texts index text before
  pub refused : IsRefused key text last code
  pub calls_are : calls ≡ before ++ last

-- the first that comes to no certificate has this index: for it the link failed
pub record IsFirstFailed (key : List ℕ) (texts : List (List ℕ)) (calls : List LinkCall)
    (index : ℕ) : Type 0 where
  pub text : List ℕ
  -- the calls for those before the index
  pub before : List LinkCall
  pub stops : StopsAt key texts index text before
  pub issued : IsIssued text
  pub calls_are : calls ≡ before ++ call text Failed ∷ []

-- all were opened; or memory was refused at this one, perhaps after the link answered, which did
-- not fail
pub data IsInterrupted (key : List ℕ) (texts : List (List ℕ)) (calls : List LinkCall) :
    Type 0 where
  at_end : {certs : List Certificate} →
      AreOpened key texts calls certs →
      IsInterrupted key texts calls
  at_text : {index : ℕ} (text : List ℕ) →
      StopsAt key texts index text calls →
      IsInterrupted key texts calls
  after_call : {index : ℕ} (text : List ℕ) (before : List LinkCall) (answer : LinkAnswer) →
      StopsAt key texts index text before → IsIssued text → answer ≢ Failed →
      calls ≡ before ++ call text answer ∷ [] →
      IsInterrupted key texts calls
