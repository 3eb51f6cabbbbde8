-- What an opening opens but for keys: shards and objects.
use Rattle.std.specs.Prelude.{◌≡◌, ◌↔◌, ℕ, List, [], map, Contains, IsSome, Some}
use Rattle.std.specs.List.Sorted.{IsStrictlyIncreasing}
use Rattle.std.specs.Option.{option_map}
use Rattle.keyed_seal.specs.Keys.{Entries, key_of}
use Rattle.object_core.specs.Objects.{ObjectPlan, ObjectSeen, object_of}
use Rattle.object_core.specs.Shelving.{ObjectFixed, fixed_at, fixed_of, numbers_of as object_numbers}
use Rattle.node_file.specs.declared.opening.Opening as code
use Rattle.node_file.specs.Meaning.{opening}
use Rattle.node_file.specs.Opening.{Opening, FitsObject}
use Rattle.agent_core.specs.Opened.{plans_for}
use Rattle.agent_core.specs.State.{Plan}

-- the numbers of channels
abbrev pub numbers_of : Entries → List ℕ
numbers_of channels = map (λ (c : ℕ × List ℕ). c.0) channels

-- what the shards of these channels are opened with
abbrev pub its_plans : Opening → Entries → List Plan
its_plans o channels = plans_for (numbers_of channels) o.shards o.anchors o.commons o.keep o.limit

-- each object that a look-up finds is within the limits
abbrev pub AllFit : List ObjectPlan → Type 0
AllFit objects =
    (number : ℕ) (p : ObjectPlan) → object_of objects number ≡ Some p → FitsObject p

-- what never changes of an object, whose journal has at most so many entries
abbrev pub fixed_with : ℕ → ObjectPlan → ObjectFixed
fixed_with limit plan = record { plan = plan; limit = limit }

-- the object with an empty journal
abbrev pub new_object : ℕ → ObjectPlan → ObjectSeen
new_object limit plan = record { plan = plan; limit = limit; journal = [] }

-- what never changes of shards and objects
pub record Cells : Type 0 where
  pub plans : List Plan
  pub objects : List ObjectFixed

-- The cells are those that the opening says, the objects by ascending number.
pub record AreCellsOf (o : Opening) (cells : Cells) : Type 0 where
  -- its channels, ascending
  pub channels : List ℕ
  pub ascending : IsStrictlyIncreasing channels
  pub have_keys : (number : ℕ) → Contains channels number ↔ IsSome (key_of o.channels number)
  pub plans : cells.plans ≡ plans_for channels o.shards o.anchors o.commons o.keep o.limit
  pub objects : (number : ℕ) →
      fixed_at cells.objects number ≡ option_map (fixed_with o.limit) (object_of o.objects number)
  pub by_number : IsStrictlyIncreasing (object_numbers cells.objects)

-- what the program's opening opens
abbrev pub cells_of : code.Opening → Cells
cells_of node = record {
  plans = its_plans (opening node) node.channels.entries;
  objects = map fixed_of (map (new_object node.limit) node.objects);
}
