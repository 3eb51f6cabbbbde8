-- What a decider is asked about, and what it answers.
use Rattle.std.specs.Prelude.{◌≡◌, ◌⊎◌, ℕ, ◌+◌, ◌≤◌, Bool, true, false, List}
use Rattle.std.specs.Prelude.{[], ◌∷◌, length, map, All, Any, Contains}
use Rattle.prin_term.specs.declared.limits.TheConstants.{ENTRY_NODES}
use Rattle.prin_term.specs.declared.term.Anchor.{Anchor}
use Rattle.prin_term.specs.Principal.{Principal, subterms, node_count}
use Rattle.prin_term.specs.View.{Grant}
use Rattle.stmt_codec.specs.Certificates.{Certificate, speaker_of}
use Rattle.taos_calculus.specs.declared.decide.TheConstants.{MAX_ANCHORS, MAX_CERTS, MAX_ENTRIES}
use Rattle.taos_calculus.specs.Rules.{Claim, Line, SpeaksFor, Proves}
use Rattle.taos_calculus.specs.Monitor.{MaySpeak}
use Rattle.taos_calculus.specs.Tidy.{IsTidy}

-- what the calculus takes of a certificate
abbrev pub claim_of : Certificate → Claim
claim_of c = record { speaker = speaker_of c; left = c.left; right = c.right }

-- the elements that are marked, each with its place, where the first one has the place `at`
abbrev pub picked : {X : Type 0} → ℕ → List X → List Bool → List (ℕ × X)
picked at [] marks = []
picked at (x ∷ xs) [] = []
picked at (x ∷ xs) (true ∷ marks) = (at, x) ∷ picked (at + 1) xs marks
picked at (x ∷ xs) (false ∷ marks) = picked (at + 1) xs marks

-- the anchors, the chosen certificates with their places, who asks, and who is on the list
pub record Question : Type 0 where
  pub anchors : List Anchor
  -- each chosen certificate's place with what it says
  pub chosen : List (ℕ × Claim)
  pub subject : Principal
  pub list : List Principal

-- the question of these
abbrev pub question_of : List Anchor → List Certificate →
    List Bool → Principal → List Grant → Question
question_of anchors certs chosen subject list = record {
  anchors = anchors;
  chosen = picked 0 (map claim_of certs) chosen;
  subject = subject;
  list = map (λ (e : Grant). e.who) list;
}

-- what the chosen certificates say, in order
abbrev pub claims_of : Question → List Claim
claims_of q = map (λ (c : ℕ × Claim). c.1) q.chosen

-- the limits of a question
pub record IsAskable (anchors : List Anchor) (certs : List Certificate)
    (chosen : List Bool) (subject : Principal) (list : List Grant) : Type 0 where
  pub anchors_fit : length anchors ≤ MAX_ANCHORS
  pub certs_fit : length certs ≤ MAX_CERTS
  -- there is a mark for each certificate
  pub chosen_fit : length chosen ≡ length certs
  pub subject_fits : node_count subject ≤ ENTRY_NODES
  pub list_fits : length list ≤ MAX_ENTRIES
  pub entries_fit : All (λ (e : Grant). node_count e.who ≤ ENTRY_NODES) list

-- p is a part of the subject or of an entry
abbrev pub IsTermOf : Question → Principal → Type 0
IsTermOf q p =
    Contains (subterms q.subject) p ⊎ Any (λ (who : Principal). Contains (subterms who) p) q.list

-- `left => right` is derivable
abbrev pub MayAnswer : Question → Principal → Principal → Type 0
MayAnswer q left right = MaySpeak q.anchors (claims_of q) left right

-- each place is that of a chosen certificate, which makes the claim at the same number
pub data AreCited (chosen : List (ℕ × Claim)) : List ℕ → List Claim → Type 0 where
  no_cite : AreCited chosen [] []
  a_cite : {place : ℕ} {claim : Claim} {places : List ℕ} {said : List Claim} →
      Contains chosen (place, claim) → AreCited chosen places said →
      AreCited chosen (place ∷ places) (claim ∷ said)

-- a proof without waste of `left => right` from the cited certificates
pub record IsProofOf (q : Question) (left right : Principal)
    (lines : List Line) (cites : List ℕ) : Type 0 where
  -- what the cited certificates say, in the order of the cites
  pub said : List Claim
  pub cited : AreCited q.chosen cites said
  pub proves : Proves q.anchors said lines (SpeaksFor left right)
  pub tidy : IsTidy lines cites
