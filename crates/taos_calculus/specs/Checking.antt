-- What a check of a proof tells, over principals.
use Rattle.std.specs.Prelude.{◌≡◌, ◌≢◌, ℕ, List, [], Some, Result, Ok, Err}
use Rattle.std.specs.Prelude.{slice_get, take, length, map}
use Rattle.std.specs.declared.alloc.Global.{Global}
use Rattle.std.specs.declared.sync.Arc.{Arc}
use Rattle.prin_term.specs.declared.term.Anchor.{Anchor}
use Rattle.prin_term.specs.Principal.{Principal}
use Rattle.stmt_codec.specs.declared.cert.Cert.{Cert}
use Rattle.stmt_codec.specs.Certificates.{certificate}
use Rattle.taos_calculus.specs.declared.check.Conclusion.{Conclusion}
use Rattle.taos_calculus.specs.declared.check.BadLine.{BadLine}
use Rattle.taos_calculus.specs.declared.line.Fact.{Fact}
use Rattle.taos_calculus.specs.Rules.{Claim, Line, SpeaksFor, Follows}
use Rattle.taos_calculus.specs.Rules.{EachFollows, last_fact, Proves}
use Rattle.taos_calculus.specs.Tables.{Parts, named, lines_of, IsBelow}
use Rattle.taos_calculus.specs.Tidy.{facts}
use Rattle.taos_calculus.specs.Question.{claim_of}

-- what the certificates behind the handles say, in order
abbrev pub said_by : List (Arc Cert Global) → List Claim
said_by handles = map (λ (c : Arc Cert Global). claim_of (certificate c.value.body)) handles

-- k is the number of the first line that does not follow, or of all lines where they follow and
-- conclude nothing
pub data IsBad (anchors : List Anchor) (claims : List Claim) (lines : List Line) : ℕ → Type 0 where
  -- those before it follow, and it does not
  stops : {k : ℕ} {l : Line} →
      EachFollows anchors claims [] (take k lines) → slice_get lines k ≡ Some l →
      ¬ Follows anchors claims (facts (take k lines)) l →
      IsBad anchors claims lines k
  -- all follow, and there is none, or the last is a Says
  concludes_nothing : {k : ℕ} →
      k ≡ length lines → EachFollows anchors claims [] lines →
      ((left right : Principal) → last_fact lines ≢ Some (SpeaksFor left right)) →
      IsBad anchors claims lines k

-- the lines prove that the one number speaks for the other
pub record Concludes (anchors : List Anchor) (claims : List Claim)
    (parts : Parts) (left right : ℕ) : Type 0 where
  pub below : IsBelow (length parts.nodes) (Fact.Speaks left right)
  pub proves : Proves anchors claims (lines_of parts)
      (SpeaksFor (named parts.nodes left) (named parts.nodes right))

-- what the answer of a check tells
abbrev pub IsChecked : List Anchor → List Claim → Parts → Result Conclusion BadLine → Type 0
IsChecked anchors claims parts (Ok c) = Concludes anchors claims parts c.left c.right
IsChecked anchors claims parts (Err e) = IsBad anchors claims (lines_of parts) e.line
