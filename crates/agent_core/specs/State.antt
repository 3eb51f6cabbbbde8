-- A shard's plain state, and how each event changes it. No kept proof occurs in it.
use Rattle.std.specs.Prelude.{ℕ, ◌+◌, ◌-◌, max, Bool, not, ◌&&◌, ◌==◌, nat_lt, nat_le, if◌then◌else◌, List, [], ◌∷◌, ◌++◌, length, filter, find, sum_by, bytes_eq, Option, Some, None}
use Rattle.prin_term.specs.declared.term.Anchor.{Anchor}
use Rattle.prin_term.specs.Principal.{Principal}
use Rattle.prin_term.specs.View.{Grant}
use Rattle.stmt_codec.specs.Certificates.{Certificate, digest_of}
use Rattle.proof_cache.specs.Cached.{Cached}
use Rattle.agent_core.specs.declared.limits.TheConstants.{MAX_OWN, MAX_COMMONS, MAX_WITHDRAWN}
use Rattle.agent_core.specs.declared.told.DropCause.{DropCause}
use Rattle.agent_core.specs.declared.told.Told.{Told}
use Rattle.agent_core.specs.Held.{admitted, among, channel_of, is_withdrawn, newly}

-- what a shard is opened with
pub record Plan : Type 0 where
  -- which of the shards it is, from 0 on
  pub number : ℕ
  -- how many shards there are
  pub shards : ℕ
  pub anchors : List Anchor
  pub channels : List ℕ
  pub commons : List Certificate
  -- how long a certificate that ended is kept, in the unit of the clock
  pub keep : ℕ
  -- how many entries the journal has at most
  pub limit : ℕ

-- a shard's clock, the last number and the own certificates of each channel, the commons, and the
-- issuers that are withdrawn
pub record State : Type 0 where
  pub clock : ℕ
  pub last : ℕ → ℕ
  pub own : ℕ → List Certificate
  pub commons : List Certificate
  pub withdrawn : List ℕ

-- who asks for a right on an access list, on which channel and under which number
pub record Ask : Type 0 where
  pub channel : ℕ
  pub seq : ℕ
  -- what the clock read
  pub reading : ℕ
  pub subject : Principal
  pub list : List Grant
  pub right : ℕ
  -- the certificates that come with it
  pub presented : List Certificate

-- what happens to a shard
pub data Event : Type 0 where
  -- an Ask
  Asks : Ask → Event
  -- a proof is to be kept that was made for the Ask at this place, and grants it by this entry
  Keeps : (ask entry : ℕ) → Cached → Event
  -- these certificates are to be held in common
  Holds : List Certificate → Event
  -- the certificates of this digest are let go, those of each channel and the commons
  Discards : (digest : List ℕ) → Event
  -- the channel's own certificates are let go
  Forgets : (channel : ℕ) → Event
  -- the clock read this, and the certificates that are gone by then are let go
  Expires : (reading : ℕ) → Event
  -- the issuer's certificates are let go, and none of them is held from then on
  Withdraws : (issuer : ℕ) → Event

-- what an event is answered by
pub data Answer : Type 0 where
  -- an Ask is to be judged by these certificates, at the moment
  Judged : (moment : ℕ) → List Certificate → Answer
  -- this is told at once
  Plain : Told → Answer

-- at opening nothing is held but the plan's commons, and no issuer is withdrawn
abbrev pub opened : Plan → State
opened plan =
    record { clock = 0; last = λ c. 0; own = λ c. []; commons = plan.commons; withdrawn = [] }

-- how many certificates the shard holds: each copy counts
abbrev pub held_count : Plan → State → ℕ
held_count plan s = length s.commons + sum_by (λ c. length (s.own c)) plan.channels

-- the value at one channel changed
abbrev pub at_channel : {X : Type 0} → ℕ → X → (ℕ → X) → ℕ → X
at_channel channel x f c = if c == channel then x else f c

-- the state at this moment, with only the certificates that pass
abbrev pub keeping : (Certificate → Bool) → ℕ → State → State
keeping passes moment s = record s {
  clock = moment;
  own = λ c. filter passes (s.own c);
  commons = filter passes s.commons;
}

-- the certificate ended at the moment or before, and as long ago as the plan keeps it
abbrev pub is_gone : ℕ → ℕ → Certificate → Bool
is_gone keep moment c = nat_le c.until moment && nat_le keep (moment - c.until)

-- the state without the certificates that are gone at the moment
abbrev pub swept : ℕ → ℕ → State → State
swept keep moment s = keeping (λ c. not (is_gone keep moment c)) moment s

-- the moment of a reading: the clock does not go back
abbrev pub moment_of : State → ℕ → ℕ
moment_of s reading = max s.clock reading

-- the Ask that an event is, if it is one
abbrev pub ask_in : Event → Option Ask
ask_in (Asks a) = Some a
ask_in _ = None

-- what the clock read for an event, 0 where it was not read
abbrev pub reading_of : Event → ℕ
reading_of (Asks a) = a.reading
reading_of (Expires reading) = reading
reading_of _ = 0

-- ---- an Ask

-- the presented certificates that the channel does not hold yet, of issuers that are not withdrawn
abbrev pub brought : State → Ask → List Certificate
brought s a = newly (s.own a.channel ++ s.commons) (admitted s.withdrawn a.presented)

-- its number is the channel's last one, and what is presented is held from then on
abbrev pub taking : State → Ask → State
taking s a = record s {
  last = at_channel a.channel a.seq s.last;
  own = at_channel a.channel (s.own a.channel ++ brought s a) s.own;
}

-- an Ask, at a state that was swept for it
abbrev pub asking : State → Ask → State × Answer
asking s a =
    if nat_le a.seq (s.last a.channel) then (s, Plain (Told.Replayed (s.last a.channel)))
    else (if nat_lt MAX_OWN (length (s.own a.channel) + length (brought s a))
    then (s, Plain (Told.Full (length (s.own a.channel))))
    else (taking s a, Judged s.clock ((s.own a.channel ++ brought s a) ++ s.commons)))

-- ---- a proof that is to be kept

-- the own certificates of a channel, if it is one
abbrev pub own_of : State → Option ℕ → List Certificate
own_of s None = []
own_of s (Some channel) = s.own channel

-- what is held for a subject: the own certificates of its channel, and the commons
abbrev pub held_for : State → Principal → List Certificate
held_for s subject = own_of s (channel_of subject) ++ s.commons

-- the first cite that is not held, if there is one, has it dropped; or else that its lease ended
abbrev pub settled_by : Option Certificate → (clock lease : ℕ) → Told
settled_by (Some missing) clock lease = Told.Dropped (DropCause.NotHeld (digest_of missing))
settled_by None clock lease =
    if nat_le lease clock then Told.Dropped (DropCause.Lapsed clock lease) else Told.Kept

-- the first cite of a proof that is not held for its subject
abbrev pub first_missing : State → Cached → Option Certificate
first_missing s c = find (λ x. not (among (held_for s c.subject) x)) c.cites

-- what is told of a proof that is to be kept; it changes no certificate
abbrev pub keeping_proof : State → Cached → State × Answer
keeping_proof s c = (s, Plain (settled_by (first_missing s c) s.clock c.lease))

-- ---- what is held in common

-- those of the certificates that are not held in common yet, of issuers that are not withdrawn
abbrev pub new_commons : State → List Certificate → List Certificate
new_commons s certs = newly s.commons (admitted s.withdrawn certs)

-- new certificates are held in common, unless there would be too many
abbrev pub holding : State → List Certificate → State × Answer
holding s new =
    if nat_lt MAX_COMMONS (length s.commons + length new)
    then (s, Plain (Told.CommonsFull (length s.commons)))
    else (record s { commons = s.commons ++ new }, Plain (Told.Held (length new)))

-- ---- what is let go

-- the state t, and by how many certificates it holds fewer than s
abbrev pub removing : Plan → State → State → State × Answer
removing plan s t = (t, Plain (Told.Removed (held_count plan s - held_count plan t)))

-- the channel's own certificates are let go, and its last number stays
abbrev pub forgetting : ℕ → State → State
forgetting channel s = record s { own = at_channel channel [] s.own }

-- the issuer is withdrawn, and its certificates are let go
abbrev pub without_issuer : ℕ → State → State
without_issuer issuer s = record (keeping (λ c. not (c.issuer == issuer)) s.clock s) {
  withdrawn = s.withdrawn ++ issuer ∷ [];
}

-- an issuer is withdrawn, unless it is already, or as many are as may be
abbrev pub withdrawing : Plan → ℕ → State → State × Answer
withdrawing plan issuer s =
    if is_withdrawn s.withdrawn issuer then (s, Plain (Told.Removed 0))
    else (if nat_le MAX_WITHDRAWN (length s.withdrawn)
    then (s, Plain (Told.WithdrawnFull (length s.withdrawn)))
    else removing plan s (without_issuer issuer s))

-- the next state, and the answer
abbrev pub next : Plan → State → Event → State × Answer
next plan s (Asks a) = asking (swept plan.keep (moment_of s a.reading) s) a
next plan s (Keeps ask entry c) = keeping_proof s c
next plan s (Holds certs) = holding s (new_commons s certs)
next plan s (Discards digest) =
    removing plan s (keeping (λ c. not (bytes_eq (digest_of c) digest)) s.clock s)
next plan s (Forgets channel) = removing plan s (forgetting channel s)
next plan s (Expires reading) = removing plan s (swept plan.keep (moment_of s reading) s)
next plan s (Withdraws issuer) = withdrawing plan issuer s
