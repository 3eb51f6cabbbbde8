-- All shards of a node, as they are opened from one list of channels.
use Rattle.std.specs.Prelude.{◌≤◌, ◌%◌, ◌==◌, ℕ, List, length, filter, map}
use Rattle.std.specs.List.{range_with_len}
use Rattle.std.specs.List.Sorted.{IsStrictlyIncreasing}
use Rattle.prin_term.specs.declared.term.Anchor.{Anchor}
use Rattle.stmt_codec.specs.Certificates.{Certificate}
use Rattle.taos_calculus.specs.declared.decide.TheConstants.{MAX_ANCHORS}
use Rattle.agent_core.specs.declared.limits.TheConstants.{MAX_CHANNELS, MAX_COMMONS, MAX_JOURNAL, MAX_SHARDS}
use Rattle.agent_core.specs.State.{Plan}

-- what a node may be opened with
pub record MayOpen (channels : List ℕ) (shards : ℕ) (anchors : List Anchor)
    (commons : List Certificate) (limit : ℕ) : Type 0 where
  pub some_shards : 1 ≤ shards
  pub few_shards : shards ≤ MAX_SHARDS
  pub ascending : IsStrictlyIncreasing channels
  pub few_channels : length channels ≤ MAX_CHANNELS
  pub few_anchors : length anchors ≤ MAX_ANCHORS
  pub few_commons : length commons ≤ MAX_COMMONS
  -- the limit of the journals is one that a journal may have
  pub short : limit ≤ MAX_JOURNAL

-- the channels of one shard of so many: those that leave its number as the remainder
abbrev pub own_channels : List ℕ → ℕ → ℕ → List ℕ
own_channels channels shards number = filter (λ channel. channel % shards == number) channels

module _ (channels : List ℕ) (shards : ℕ) (anchors : List Anchor) (commons : List Certificate)
    (keep limit : ℕ) where
  -- the plan of the shard of this number
  abbrev pub plan_for : ℕ → Plan
  plan_for number = record {
    number = number;
    shards = shards;
    anchors = anchors;
    channels = own_channels channels shards number;
    commons = commons;
    keep = keep;
    limit = limit;
  }

  -- the plans of all shards, whose numbers go from 0 on
  abbrev pub plans_for : List Plan
  plans_for = map plan_for (range_with_len 0 shards)
