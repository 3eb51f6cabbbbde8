-- Shards that nobody else steps.
use Rattle.std.specs.Prelude.{◌≡◌, ℕ, ◌-◌, ◌≤◌, true, List, [], length, map, Option, None, Some, slice_get, All}
use Rattle.std.specs.List.{range_with_len}
use Rattle.prin_term.specs.declared.term.Anchor.{Anchor}
use Rattle.agent_core.specs.State.{Plan}
use Rattle.agent_core.specs.Plans.{AreShards}
use Rattle.agent_core.specs.Journals.{Entry, ShardSeen, IsLegalJournal}
use Rattle.agent_core.specs.Shards.{ShardsSeen}

-- the shards in order, and how long each journal was at first
pub record LoneSeen : Type 0 where
  pub shards : List ShardSeen
  -- how long each journal was at first
  pub opened : List ℕ

-- the plans of shards, in order
abbrev pub plans_in : List ShardSeen → List Plan
plans_in shards = map (λ (s : ShardSeen). s.plan) shards

-- the journal of a shard, or no entries where there is none
abbrev pub journal_of : Option ShardSeen → List Entry
journal_of None = []
journal_of (Some s) = s.journal

-- the journal of the shard of this number, or no entries where there is none
abbrev pub seen_in : List ShardSeen → ℕ → List Entry
seen_in shards number = journal_of (slice_get shards number)

-- the places from one on, of so many
abbrev pub places_from : Option ℕ → ℕ → List ℕ
places_from None count = []
places_from (Some first) count = range_with_len first (count - first)

-- the places that were added to the journal of a shard since it was opened
abbrev pub own_in : LoneSeen → ℕ → List ℕ
own_in l number = places_from (slice_get l.opened number) (length (seen_in l.shards number))

-- the journal of the shard is legal under its plan
abbrev pub HasLegalJournal : ShardSeen → Type 0
HasLegalJournal s = IsLegalJournal s.plan s.journal

-- what is kept stands for shards of one owner: the journals are legal, and none is shorter than it
-- was at first
pub record IsLone (shards : List ShardSeen) (opened : List ℕ) (anchors : List Anchor) : Type 0 where
  -- the plans are those of all shards of a node
  pub sound : AreShards (plans_in shards) anchors
  pub counted : length opened ≡ length shards
  -- no journal is shorter than it was at first
  pub longer : (i n : ℕ) (s : ShardSeen) → slice_get opened i ≡ Some n →
      slice_get shards i ≡ Some s → n ≤ length s.journal
  pub legal : All HasLegalJournal shards

-- what is shown of them: nobody else steps them
abbrev pub shards_seen : LoneSeen → ShardsSeen
shards_seen l = record {
  plans = plans_in l.shards;
  alone = true;
  seen = λ number. seen_in l.shards number;
  own = λ number. own_in l number;
}
