-- What a granted operation does besides what its object makes of it.
use Rattle.std.specs.Prelude.{ℕ, List, [], ◌∷◌, length, Option, None, Some}
use Rattle.std.specs.List.{range_with_len}
use Rattle.object_core.specs.Operation.{Op, Read, Write, SetList, Hold, Discard, Forget, Sweep, Withdraw}
use Rattle.stmt_codec.specs.Certificates.{Certificate}
use Rattle.agent_core.specs.State.{Plan, Event, Asks, Keeps, Holds, Discards, Forgets, Expires, Withdraws}
use Rattle.agent_core.specs.Plans.{home}

-- what it gives: the content for a Read
abbrev pub result_of : Op → List ℕ → List ℕ
result_of Read content = content
result_of (Write new) content = []
result_of (SetList list) content = []
result_of Hold content = []
result_of (Discard digest) content = []
result_of (Forget channel) content = []
result_of Sweep content = []
result_of (Withdraw issuer) content = []

-- the event that it is to each shard that it steps, by the certificates that its request presented
-- and the reading of its clock; what is done at the object alone is none
abbrev pub effect_of : Op → List Certificate → ℕ → Option Event
effect_of Read certs reading = None
effect_of (Write new) certs reading = None
effect_of (SetList list) certs reading = None
effect_of Hold certs reading = Some (Holds certs)
effect_of (Discard digest) certs reading = Some (Discards digest)
effect_of (Forget channel) certs reading = Some (Forgets channel)
effect_of Sweep certs reading = Some (Expires reading)
effect_of (Withdraw issuer) certs reading = Some (Withdraws issuer)

-- the shards that it steps, in order: that of its channel for a Forget, else all or none
abbrev pub targets_of : List Plan → Op → List ℕ
targets_of plans Read = []
targets_of plans (Write new) = []
targets_of plans (SetList list) = []
targets_of plans Hold = range_with_len 0 (length plans)
targets_of plans (Discard digest) = range_with_len 0 (length plans)
targets_of plans (Forget channel) = home plans channel ∷ []
targets_of plans Sweep = range_with_len 0 (length plans)
targets_of plans (Withdraw issuer) = range_with_len 0 (length plans)

-- the event changes which certificates shards hold, and nobody asks by it
abbrev pub IsEffect : Event → Type 0
IsEffect (Asks a) = ⊥
IsEffect (Keeps ask entry c) = ⊥
IsEffect (Holds certs) = Unit {0}
IsEffect (Discards digest) = Unit {0}
IsEffect (Forgets channel) = Unit {0}
IsEffect (Expires reading) = Unit {0}
IsEffect (Withdraws issuer) = Unit {0}
