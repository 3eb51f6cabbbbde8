-- The reference monitor: what is granted.
use Rattle.std.specs.Prelude.{◌≡◌, ◌≢◌, ℕ, ◌<◌, List, Some, slice_get, bit_and}
use Rattle.prin_term.specs.declared.term.Anchor.{Anchor}
use Rattle.prin_term.specs.Principal.{Principal}
use Rattle.prin_term.specs.View.{Grant}
use Rattle.taos_calculus.specs.Rules.{Claim, SpeaksFor, Derivable}

-- the entry has the right
abbrev pub HasRight : Grant → ℕ → Type 0
HasRight entry right = bit_and entry.rights right ≢ 0

-- `left => right` is derivable
abbrev pub MaySpeak : List Anchor → List Claim → Principal → Principal → Type 0
MaySpeak anchors claims left right = Derivable anchors claims (SpeaksFor left right)

-- the first entry with the right of which P holds
pub record FirstEntry (list : List Grant) (right : ℕ)
    (P : Grant → Type 0) (place : ℕ) (entry : Grant) : Type 0 where
  pub stands : slice_get list place ≡ Some entry
  pub has_right : HasRight entry right
  pub holds : P entry
  -- no entry before it has the right and P
  pub first : (k : ℕ) (e : Grant) → k < place →
      slice_get list k ≡ Some e → HasRight e right → P e → ⊥

-- the subject is derivable to some entry with the right
pub record Grants (anchors : List Anchor) (claims : List Claim)
    (subject : Principal) (list : List Grant) (right : ℕ) : Type 0 where
  pub place : ℕ
  pub entry : Grant
  pub stands : slice_get list place ≡ Some entry
  pub has_right : HasRight entry right
  pub speaks : MaySpeak anchors claims subject entry.who
