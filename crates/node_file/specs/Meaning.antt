-- What the program's opening means.
use Rattle.std.specs.Prelude.{◌≡◌, ℕ, ◌≤◌, map, length, Some}
use Rattle.std.specs.Arc.{arc_value}
use Rattle.keyed_seal.specs.Keys.{key_of}
use Rattle.node_file.specs.declared.opening.Opening.{Opening}
use Rattle.node_file.specs.declared.limits.TheConstants.{MAX_SHARDS, MAX_LIMIT, MAX_CHANNELS}
use Rattle.node_file.specs.declared.limits.TheConstants.{MAX_ANCHORS, MAX_COMMONS}
use Rattle.node_file.specs.Opening as plain
use Rattle.object_core.specs.Objects.{ObjectPlan, object_of}
use Rattle.node_file.specs.Opening.{FitsObject}
use Rattle.node_file.specs.OpeningView.{common}

-- the opening that the program holds, its channels and objects by ascending number
abbrev pub opening : Opening → plain.Opening
opening node = record {
  node = node.node;
  relay_key = node.relay_key;
  shards = node.shards;
  keep = node.keep;
  limit = node.limit;
  names = node.names;
  channels = node.channels.entries;
  anchors = (arc_value node.anchors).items;
  commons = map common node.commons.items;
  objects = node.objects;
}

-- its counts of shards, entries of a journal, channels, anchors and commons are within the
-- limits, and so is each object that a look-up by number finds
pub record FitsByNumber (o : plain.Opening) : Type 0 where
  pub shards : (1 ≤ o.shards) × (o.shards ≤ MAX_SHARDS)
  pub limit : o.limit ≤ MAX_LIMIT
  pub few_channels : length o.channels ≤ MAX_CHANNELS
  pub few_anchors : length o.anchors ≤ MAX_ANCHORS
  pub few_commons : length o.commons ≤ MAX_COMMONS
  pub objects : (number : ℕ) (p : ObjectPlan) → object_of o.objects number ≡ Some p
      → FitsObject p

-- two openings with the same relay key and anchors, in which each look-up finds the same
pub record SameNode (a b : plain.Opening) : Type 0 where
  pub relay_key : a.relay_key ≡ b.relay_key
  pub channels : (number : ℕ) → key_of a.channels number ≡ key_of b.channels number
  pub anchors : a.anchors ≡ b.anchors
  pub objects : (number : ℕ) → object_of a.objects number ≡ object_of b.objects number
