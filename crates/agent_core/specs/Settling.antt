-- What an Ask that is to be judged comes to, by what it was handed out, for the bodies alone.
use Rattle.std.specs.Prelude.{◌≡◌, ℕ, ◌<◌, List, length}
use Rattle.std.specs.Arc.{arc_value}
use Rattle.prin_term.specs.declared.term.Anchor.{Anchor}
use Rattle.stmt_codec.specs.Certificates.{Certificate}
use Rattle.denial_link.specs.declared.link.Link.{Link}
use Rattle.denial_link.specs.declared.link.Link.TheVariants as links
use Rattle.proof_cache.specs.Cached.{cached}
use Rattle.proof_cache.specs.declared.cached.Cached.{Cached as CachedValue}
use Rattle.agent_core.specs.declared.asked.Settled.{Settled}
use Rattle.agent_core.specs.declared.asked.Settled.TheVariants as settled
use Rattle.agent_core.specs.declared.whole_ask.settling.Settlement.{Settlement}
use Rattle.agent_core.specs.declared.whole_ask.settling.Settlement.TheVariants as settlement
use Rattle.agent_core.specs.declared.told.Told.{Told}
use Rattle.agent_core.specs.declared.told.Answer.{Answer}
use Rattle.agent_core.specs.State.{Plan, Ask, Event, Asks}
use Rattle.agent_core.specs.Answers.{SteppedTo}
use Rattle.agent_core.specs.Asked.{FoundRoom, IsGrantedBy, IsDeniedBy}
use Rattle.agent_core.specs.Steps.{JournalSeen, Other, StepsTo, StepRefused}

-- the certificate that a link names is one of these
abbrev pub IsPlaceIn : List Certificate → Link → Type 0
IsPlaceIn certs (links.Expired entry place) = place < length certs
IsPlaceIn certs (links.Early entry place) = place < length certs
IsPlaceIn certs (links.Missing entry node) = Unit {0}
IsPlaceIn certs links.NoEntry = Unit {0}

module _ (anchors : List Anchor) (certs : List Certificate) (moment : ℕ) (a : Ask) where
  -- the Ask comes to this: it is granted by a proof, or denied
  abbrev pub Settles : Settlement → Type 0
  Settles (settlement.Granted e c) =
      IsGrantedBy anchors certs moment a e (cached (arc_value {X = CachedValue} c))
  Settles (settlement.Denied denial) = IsDeniedBy anchors certs moment a denial

-- the Ask's step at its shard
pub record StepsAsk (plan : Plan) (earlier later : JournalSeen) (a : Ask)
    (place : ℕ) (answer : Answer) : Type 0 where
  pub step : SteppedTo plan earlier later (Asks a) place answer

-- what became of a proof that the event was to keep for an Ask: a step tells it, or there was no
-- room for one
abbrev pub KeptAs : Plan → JournalSeen → JournalSeen → Event → Settled → Type 0
KeptAs plan earlier later keeps settled.NoNeed = ⊥
KeptAs plan earlier later keeps settled.Kept =
    (keep : ℕ) × StepsTo plan earlier later keeps keep (Other Told.Kept)
KeptAs plan earlier later keeps (settled.Dropped cause) =
    (keep : ℕ) × StepsTo plan earlier later keeps keep (Other (Told.Dropped cause))
KeptAs plan earlier later keeps (settled.NoRoom n) =
    StepRefused plan earlier later × (length later.journal ≡ plan.limit) × (n ≡ plan.limit)

-- memory was refused to the Ask's step: the journal was not found full
pub record RefusesAsk (plan : Plan) (earlier later : JournalSeen) : Type 0 where
  pub refused : StepRefused plan earlier later
  pub room : FoundRoom plan earlier.journal later.journal
