-- What a denial names: the first thing that is missing.
use Rattle.std.specs.Prelude.{◌≡◌, ℕ, ◌+◌, ◌<◌, ◌++◌, List, ◌∷◌, slice_get, Contains, All, sum_by}
use Rattle.std.specs.Prelude.{Option, Some, MatchOption}
use Rattle.prin_term.specs.declared.term.Anchor.{Anchor}
use Rattle.prin_term.specs.Principal.{Principal, operands, subterms, node_count}
use Rattle.prin_term.specs.View.{Grant}
use Rattle.stmt_codec.specs.Certificates.{Certificate, IsDead, IsEarly}
use Rattle.taos_calculus.specs.Rules.{Claim}
use Rattle.taos_calculus.specs.Monitor.{HasRight, MaySpeak, FirstEntry}
use Rattle.denial_link.specs.declared.link.Link.{Link}
use Rattle.denial_link.specs.declared.link.Link.TheVariants.{Expired, Early, Missing, NoEntry}
use Rattle.denial_link.specs.declared.revive.Revival.{Revival}
use Rattle.denial_link.specs.Needed.{IsNeeded, IsRevived}
use Rattle.denial_link.specs.Order.{IsAt}
use Rattle.denial_link.specs.Revived.{claims}

-- some part of the subject speaks for p
abbrev pub IsReached : List Anchor → List Claim → Principal → Principal → Type 0
IsReached anchors said subject p =
    (s : Principal) × Contains (subterms subject) s × MaySpeak anchors said s p

-- The first part of p that is not reached while all that stands directly under it is: its place in
-- pre-order. The walk goes from p, which is not reached, to the first operand that is not, and ends
-- where there is none.
pub data Lacks (Reached : Principal → Type 0) : Principal → ℕ → Type 0 where
  -- all that stands directly under p is reached
  here : {p : Principal} → All Reached (operands p) → Lacks Reached p 0
  -- q is the first operand that is not reached; the part lacks under it
  below : {p q : Principal} {k n : ℕ} (front rest : List Principal) →
      operands p ≡ front ++ q ∷ rest → All Reached front → (Reached q → ⊥) → Lacks Reached q k →
      n ≡ 1 + sum_by node_count front + k → Lacks Reached p n

-- no entry before this place has the right and this too
abbrev pub NoneBefore : List Grant → ℕ → (Grant → Type 0) → ℕ → Type 0
NoneBefore list right P n =
    (k : ℕ) (e : Grant) → k < n → slice_get list k ≡ Some e → HasRight e right → P e → ⊥

-- no entry has the right and this too
abbrev pub NoEntryWith : List Grant → ℕ → (Grant → Type 0) → Type 0
NoEntryWith list right P =
    (k : ℕ) (e : Grant) → slice_get list k ≡ Some e → HasRight e right → P e → ⊥

-- the place of the first entry that has the right and this too, or none where no entry has both
abbrev pub FindsEntry : List Grant → ℕ → (Grant → Type 0) → Option ℕ → Type 0
FindsEntry list right P place =
    MatchOption place (NoEntryWith list right P) (λ k. (e : Grant) × FirstEntry list right P k e)

-- the same, of the entries before an end
abbrev pub FindsBefore : List Grant → ℕ → (Grant → Type 0) → ℕ → Option ℕ → Type 0
FindsBefore list right P end place =
    MatchOption place (NoneBefore list right P end)
    (λ k. (k < end) × (e : Grant) × FirstEntry list right P k e)

-- the first entry that all certificates would do for, with the certificate that is needed, or none
-- where they would do for no entry
abbrev pub FindsRevived : List Anchor → List Certificate → ℕ → Principal → List Grant → ℕ →
    Option Revival → Type 0
FindsRevived anchors certs moment subject list right found =
    MatchOption found (NoEntryWith list right (λ e. MaySpeak anchors (claims certs) subject e.who))
    (λ r. IsRevived anchors certs moment subject list right r)

-- what a denial names, where nothing is granted
pub data IsFirstLink (anchors : List Anchor) (certs : List Certificate) (moment : ℕ)
    (subject : Principal) (list : List Grant) (right : ℕ) : Link → Type 0 where
  -- no entry has the right
  no_entry : NoEntryWith list right (λ e. Unit {0}) →
      IsFirstLink anchors certs moment subject list right NoEntry
  -- all certificates together would do for some entry with the right: the first of these, and the
  -- certificate that is needed, which has ended
  expired : {k c : ℕ} (e : Grant) →
      FirstEntry list right (λ g. MaySpeak anchors (claims certs) subject g.who) k e →
      IsNeeded anchors certs moment subject e.who c → IsAt certs (IsDead moment) c →
      IsFirstLink anchors certs moment subject list right (Expired k c)
  -- the same, where that one has neither begun nor ended
  early : {k c : ℕ} (e : Grant) →
      FirstEntry list right (λ g. MaySpeak anchors (claims certs) subject g.who) k e →
      IsNeeded anchors certs moment subject e.who c → IsAt certs (IsEarly moment) c →
      IsFirstLink anchors certs moment subject list right (Early k c)
  -- they would do for none: the first entry with the right, and the first part of it that lacks
  missing : {k n : ℕ} (e : Grant) →
      FirstEntry list right (λ g. Unit {0}) k e →
      NoEntryWith list right (λ g. MaySpeak anchors (claims certs) subject g.who) →
      Lacks (IsReached anchors (claims certs) subject) e.who n →
      IsFirstLink anchors certs moment subject list right (Missing k n)

-- no two links are the first one
abbrev pub HasOneLink : List Anchor → List Certificate → ℕ → Principal → List Grant → ℕ → Type 0
HasOneLink anchors certs moment subject list right =
    (a b : Link) → IsFirstLink anchors certs moment subject list right a →
    IsFirstLink anchors certs moment subject list right b → a ≡ b
