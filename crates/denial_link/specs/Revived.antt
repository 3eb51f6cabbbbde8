-- Certificates that are not live, taken as if they were.
use Rattle.std.specs.Prelude.{◌≡◌, ◌↔◌, ℕ, ◌++◌, List, slice_get, map, filter_map}
use Rattle.stmt_codec.specs.Certificates.{Certificate, live}
use Rattle.taos_calculus.specs.Rules.{Claim}
use Rattle.taos_calculus.specs.Monitor.{MaySpeak}
use Rattle.taos_calculus.specs.Question.{Question, MayAnswer, claim_of}
use Rattle.prin_term.specs.declared.term.Anchor.{Anchor}
use Rattle.prin_term.specs.Principal.{Principal}
use Rattle.prin_term.specs.View.{Grant}

-- what the calculus takes of certificates
abbrev pub claims : List Certificate → List Claim
claims certs = map claim_of certs

-- the certificates at the places
abbrev pub at_places : List Certificate → List ℕ → List Certificate
at_places certs places = filter_map (slice_get certs) places

-- the live certificates, and those at the places
abbrev pub revived : List Certificate → ℕ → List ℕ → List Certificate
revived certs moment places = live certs moment ++ at_places certs places

-- the question is about the live certificates and those at the places
pub record AsksWith (q : Question) (anchors : List Anchor) (certs : List Certificate)
    (moment : ℕ) (places : List ℕ) (subject : Principal) (list : List Grant) : Type 0 where
  pub answers : (left right : Principal) →
      MayAnswer q left right ↔ MaySpeak anchors (claims (revived certs moment places)) left right
  pub subject_is : q.subject ≡ subject
  pub list_is : q.list ≡ map (λ (e : Grant). e.who) list
