-- The proof of a grant, made for it or kept before.
use Rattle.std.specs.Prelude.{◌≡◌, ℕ, ◌<◌, List, length, Some, slice_get, All, Contains}
use Rattle.prin_term.specs.declared.term.Anchor.{Anchor}
use Rattle.prin_term.specs.View.{Grant}
use Rattle.stmt_codec.specs.Certificates.{Certificate, IsLive, live}
use Rattle.taos_calculus.specs.Rules.{SpeaksFor, Proves}
use Rattle.taos_calculus.specs.Monitor.{HasRight, MaySpeak}
use Rattle.taos_calculus.specs.Tidy.{IsTidy}
use Rattle.denial_link.specs.Revived.{at_places, claims}
use Rattle.proof_cache.specs.Cached.{Cached, lease_of}
use Rattle.agent_core.specs.State.{Ask}

-- by the live certificates the Ask's subject speaks for the entry of this number
pub record IsGrantedEntry (anchors : List Anchor) (certs : List Certificate) (moment : ℕ)
    (a : Ask) (entry : ℕ) : Type 0 where
  pub grant : Grant
  pub stands : slice_get a.list entry ≡ Some grant
  pub speaks : MaySpeak anchors (claims (live certs moment)) a.subject grant.who

-- a proof of it without waste, which cites live certificates alone
pub record IsProofFor (anchors : List Anchor) (certs : List Certificate) (moment : ℕ)
    (a : Ask) (entry : ℕ) (c : Cached) : Type 0 where
  pub grant : Grant
  pub stands : slice_get a.list entry ≡ Some grant
  pub subject_is : c.subject ≡ a.subject
  pub who_is : c.who ≡ grant.who
  -- where the cited certificates stand among all
  pub places : List ℕ
  pub inside : All (λ i. i < length certs) places
  pub cites_are : c.cites ≡ at_places certs places
  pub alive : All (IsLive moment) c.cites
  pub proves : Proves anchors (claims c.cites) c.proof (SpeaksFor c.subject c.who)
  -- nothing in the proof or among its cites is without use
  pub tidy : IsTidy c.proof places
  pub lease_is : c.lease ≡ lease_of c.cites

-- a proof that was kept for the entry, which has the right: it cites live certificates alone
pub record IsKeptProofFor (anchors : List Anchor) (certs : List Certificate) (moment : ℕ)
    (a : Ask) (entry : ℕ) (c : Cached) : Type 0 where
  pub grant : Grant
  pub stands : slice_get a.list entry ≡ Some grant
  pub has_right : HasRight grant a.right
  pub subject_is : c.subject ≡ a.subject
  pub who_is : c.who ≡ grant.who
  pub alive : All (Contains (live certs moment)) c.cites
  pub proves : Proves anchors (claims c.cites) c.proof (SpeaksFor c.subject c.who)
  pub lease_is : c.lease ≡ lease_of c.cites
  -- its lease has not ended
  pub ahead : moment < c.lease
