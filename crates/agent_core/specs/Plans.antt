-- What shards may be opened with.
use Rattle.std.specs.Prelude.{◌≡◌, ◌<◌, ◌≤◌, ◌%◌, ℕ, List, length, Some, slice_get, All}
use Rattle.std.specs.List.Sorted.{IsStrictlyIncreasing}
use Rattle.prin_term.specs.declared.term.Anchor.{Anchor}
use Rattle.taos_calculus.specs.declared.decide.TheConstants.{MAX_ANCHORS}
use Rattle.agent_core.specs.declared.limits.TheConstants.{MAX_CHANNELS, MAX_COMMONS, MAX_JOURNAL, MAX_SHARDS}
use Rattle.agent_core.specs.State.{Plan}

-- the plan's channels ascend, and it is within the limits
pub record IsPlan (plan : Plan) : Type 0 where
  pub ascending : IsStrictlyIncreasing plan.channels
  pub few_anchors : length plan.anchors ≤ MAX_ANCHORS
  pub few_channels : length plan.channels ≤ MAX_CHANNELS
  pub few_commons : length plan.commons ≤ MAX_COMMONS
  -- the limit of its journal is one that a journal may have
  pub short : plan.limit ≤ MAX_JOURNAL

-- the plans of all shards of a node, in order, each with these anchors
pub record AreShards (plans : List Plan) (anchors : List Anchor) : Type 0 where
  pub some : 0 < length plans
  pub few : length plans ≤ MAX_SHARDS
  pub sound : All IsPlan plans
  -- each plan has its own place as its number
  pub numbered : (i : ℕ) (p : Plan) → slice_get plans i ≡ Some p → p.number ≡ i
  -- each plan says how many shards there are
  pub counted : All (λ (p : Plan). p.shards ≡ length plans) plans
  pub anchored : All (λ (p : Plan). p.anchors ≡ anchors) plans

-- the number of a channel's shard
abbrev pub home : List Plan → ℕ → ℕ
home plans channel = channel % length plans
