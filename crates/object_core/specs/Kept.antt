-- What the code keeps of an object; no contract of another crate speaks of it.
use Rattle.std.specs.Prelude.{◌≡◌, ℕ, ◌≤◌, List, Option, Some, None, length, map, slice_get, vec_capacity}
use Rattle.std.specs.List.{filter_map}
use Rattle.std.specs.declared.alloc.Global.{Global}
use Rattle.std.specs.declared.vec.Vec.{Vec}
use Rattle.object_core.specs.declared.entry.ObjectEntry as code
use Rattle.object_core.specs.Objects.{ObjectEntry, ObjectPlan, latest, written_by, listed_by, content_after, list_after}
use Rattle.object_core.specs.ObjectView.{object_entry}
use Rattle.object_core.specs.Operation.{IsAccessList, IsContent}

-- the place is that of the entry that brought the latest, and there is none where none did
abbrev pub IsLatest : {X : Type 0} → (ObjectEntry → Option X) → X → List ObjectEntry →
    Option ℕ → Type 0
IsLatest by x journal None = latest x (filter_map by journal) ≡ x
IsLatest by x journal (Some place) =
    (e : ObjectEntry) × (slice_get journal place ≡ Some e)
    × (by e ≡ Some (latest x (filter_map by journal)))

-- an object's content and list are within their limits, its journal is within its own, and the
-- places of what they were replaced by are kept
pub record IsObject (plan : ObjectPlan) (limit : ℕ) (entries : Vec code.ObjectEntry Global)
    (written listed : Option ℕ) : Type 0 where
  pub content_fits : IsContent (content_after plan (map object_entry entries.items))
  pub list_fits : IsAccessList (list_after plan (map object_entry entries.items))
  pub within : length entries.items ≤ limit
  -- no entry within the limit needs more memory
  pub room : limit ≤ vec_capacity entries
  pub written_at : IsLatest written_by plan.content (map object_entry entries.items) written
  pub listed_at : IsLatest listed_by plan.list (map object_entry entries.items) listed
