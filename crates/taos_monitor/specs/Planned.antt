-- Which shards a node's channels stand at.
use Rattle.std.specs.Prelude.{◌≡◌, ℕ, List, Contains, IsSome, Some, slice_get}
use Rattle.keyed_seal.specs.Keys.{Entries, key_of}
use Rattle.agent_core.specs.State.{Plan}
use Rattle.agent_core.specs.Plans.{home}

-- the channel is in the plan of its shard
abbrev pub IsPlanned : List Plan → ℕ → Type 0
IsPlanned plans channel =
    (plan : Plan) → slice_get plans (home plans channel) ≡ Some plan →
    Contains plan.channels channel

-- each channel that has a key is in the plan of its shard
abbrev pub ArePlanned : Entries → List Plan → Type 0
ArePlanned entries plans =
    (channel : ℕ) (plan : Plan) → IsSome (key_of entries channel) →
    slice_get plans (home plans channel) ≡ Some plan → Contains plan.channels channel
