-- What is left to do about a row that is wanted.
use Rattle.std.specs.Prelude.{◌≡◌, ◌⊎◌, ℕ, ◌+◌, Some, slice_get, length, Contains}
use Rattle.taos_calculus.specs.declared.line.Node.{Node}
use Rattle.term_pool.specs.declared.cited.Cited.{Cited}
use Rattle.goal_search.specs.declared.look.Gap.{Gap}
use Rattle.goal_search.specs.declared.look.Gap.TheVariants.{Number, Row}
use Rattle.goal_search.specs.declared.refusing.Side.{Side}
use Rattle.goal_search.specs.declared.refusing.Side.TheVariants.{Passed, Refused, Open}
use Rattle.goal_search.specs.declared.search.Anchored.{Anchored}
use Rattle.goal_search.specs.Goals.{Goal, ForWhom, WhoSays}
use Rattle.goal_search.specs.NumberedRows.{RefusesAt, IsUnheardAt}
use Rattle.goal_search.specs.Reasons.{IsPassed, IsReason, IsSaid, IsAlike}
use Rattle.goal_search.specs.Searching.{Core, Has, IsNumber, IsRow, about, claims_in}

-- some wanted row begins with the goal and lacks the number
abbrev pub RefusesIn : Core → Goal ℕ → ℕ → Type 0
RefusesIn s goal number =
    RefusesAt s.nodes (claims_in (about s)) (Contains s.wanted) (Has s) goal number

-- it is a row that is not wanted
abbrev pub IsUnwanted : Core → ℕ → Type 0
IsUnwanted s row = IsRow s row × (Contains s.wanted row → ⊥)

-- the row has the speaker of each certificate that makes the statement of this one
abbrev pub SaysAll : Core → ℕ → ℕ → Type 0
SaysAll s row number =
    (i : ℕ) (c d : Cited) → slice_get s.cited i ≡ Some c →
    slice_get s.cited number ≡ Some d → IsAlike c d → Has s row c.speaker

-- the row tells who says the certificate's statement, once it is begun: its own, or the speaker's
-- if that has all speakers
abbrev pub IsSayingRow : Core → ℕ → ℕ → Type 0
IsSayingRow s number row =
    (row ≡ length s.nodes + number) ⊎
    ((c : Cited) × (slice_get s.cited number ≡ Some c) × (row ≡ c.speaker) ×
    SaysAll s row number)

-- whether a speaks for c: it is known, or some wanted row refuses it, or a row is to be wanted
abbrev pub IsSide : Core → ℕ → ℕ → Side → Type 0
IsSide s a c Passed = IsPassed (Has s) a c
IsSide s a c Refused = RefusesIn s (ForWhom a) c
IsSide s a c (Open row) = IsUnwanted s row

-- the same of whether t says the statement of a certificate
abbrev pub IsSayingSide : Core → ℕ → Cited → ℕ → Side → Type 0
IsSayingSide s number c t Passed = IsSaid (about s) (Has s) number c t
IsSayingSide s number c t Refused = RefusesIn s (WhoSays c.left c.right) t
IsSayingSide s number c t (Open row) = IsUnwanted s row

-- a number that may be put into a row, or a row that may be wanted
abbrev pub IsGap : Core → Gap → Type 0
IsGap s (Number row number reason) =
    IsRow s row × IsNumber s number × (Has s row number → ⊥) ×
    IsReason (about s) (Has s) row number reason
IsGap s (Row row) = IsUnwanted s row

-- what a conjunction or a role gives the row is there
pub record IsFormed (s : Core) (row number : ℕ) : Type 0 where
  pub left : (a b : ℕ) → slice_get s.nodes number ≡ Some (Node.And a b) →
      Has s row number → Has s row a
  pub right : (a b : ℕ) → slice_get s.nodes number ≡ Some (Node.And a b) →
      Has s row number → Has s row b
  pub both : (a b : ℕ) → slice_get s.nodes number ≡ Some (Node.And a b) →
      Has s row a → Has s row b → Has s row number
  pub role : (a r : ℕ) → slice_get s.nodes number ≡ Some (Node.AsRole a r) →
      Has s row a → Has s row number

-- the anchor's name is there with its key
abbrev pub IsNamedIn : Core → ℕ → Anchored → Type 0
IsNamedIn s row link = Has s row link.key → Has s row link.name

-- what the form of one number gives the row of another is there, or refused
pub record IsPassedOnIn (s : Core) (row i j : ℕ) : Type 0 where
  pub quoting : (a b c d : ℕ) → slice_get s.nodes i ≡ Some (Node.Quote a b) →
      slice_get s.nodes j ≡ Some (Node.Quote c d) → Has s row i →
      Has s row j ⊎ RefusesIn s (ForWhom a) c ⊎ RefusesIn s (ForWhom b) d
  pub for_both : (a b c d : ℕ) → slice_get s.nodes i ≡ Some (Node.For a b) →
      slice_get s.nodes j ≡ Some (Node.For c d) → Has s row i →
      Has s row j ⊎ RefusesIn s (ForWhom a) c ⊎ RefusesIn s (ForWhom b) d
  pub role_under : (a c r : ℕ) → slice_get s.nodes i ≡ Some (Node.AsRole a r) →
      slice_get s.nodes j ≡ Some (Node.AsRole c r) → Has s row i →
      Has s row j ⊎ RefusesIn s (ForWhom a) c

-- the form of a node, which is passed on to nodes of the same form alone; 0 where it is passed on to none
abbrev pub form_of : Node → ℕ
form_of (Node.Quote a b) = 1
form_of (Node.For a b) = 2
form_of (Node.AsRole a r) = r + 3
form_of (Node.Key k) = 0
form_of (Node.Name n) = 0
form_of (Node.And a b) = 0

-- what the certificate gives the row is there, or the certificate is not heard
abbrev pub IsHandedIn : Core → ℕ → ℕ → Type 0
IsHandedIn s row number =
    (c : Cited) → slice_get s.cited number ≡ Some c → Has s row c.left →
    Has s row c.right ⊎
    IsUnheardAt s.nodes (claims_in (about s)) (Contains s.wanted) (Has s)
    c.left c.right

-- the row has the left side of the certificate and lacks the right one
abbrev pub IsOpenIn : Core → ℕ → ℕ → Type 0
IsOpenIn s row number =
    (c : Cited) → slice_get s.cited number ≡ Some c →
    Has s row c.left × (Has s row c.right → ⊥)
