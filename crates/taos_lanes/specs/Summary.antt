-- The lines that tell what was counted of what the lanes of a node left.
use Rattle.std.specs.Prelude.{ℕ, List, ◌++◌, codes, count_by, decimal, length, not, sum_by}
use Rattle.agent_core.specs.Journals.{ShardSeen}
use Rattle.object_core.specs.Objects.{ObjectEntry, ObjectSeen, is_grant}
use Rattle.taos_lanes.specs.declared.total.Total.{Total}
use Rattle.taos_lanes.specs.Serving.{Left}

-- the entries of all shards' journals
abbrev pub entries_of : List ShardSeen → ℕ
entries_of shards = sum_by (λ (s : ShardSeen). length s.journal) shards

-- the granted entries of all objects' journals
abbrev pub grants_of : List ObjectSeen → ℕ
grants_of objects =
    sum_by (λ (o : ObjectSeen). count_by (λ (e : ObjectEntry). is_grant e.ruling) o.journal) objects

-- the denied ones
abbrev pub denials_of : List ObjectSeen → ℕ
denials_of objects =
    sum_by (λ (o : ObjectSeen). count_by (λ (e : ObjectEntry). not (is_grant e.ruling)) o.journal)
    objects

-- the line that tells what the lanes of a relay counted: connections, and those that broke
abbrev pub relays_line : Total → List ℕ
relays_line total =
    codes "connections " ++ decimal total.served ++ codes " broken " ++ decimal total.broken
    ++ codes "\n"

-- the line that tells what a drill of so many requests came to: these, entries, grants and denials
abbrev pub drill_line : ℕ → Left → List ℕ
drill_line requests l =
    codes "requests " ++ decimal requests ++ codes " entries " ++ decimal (entries_of l.shards)
    ++ codes " grants " ++ decimal (grants_of l.objects) ++ codes " denials "
    ++ decimal (denials_of l.objects) ++ codes "\n"

-- the line that tells what was counted: connections, those that broke, entries, grants and denials
abbrev pub lanes_line : Left → List ℕ
lanes_line l =
    codes "connections " ++ decimal l.total.served ++ codes " broken " ++ decimal l.total.broken
    ++ codes " entries " ++ decimal (entries_of l.shards) ++ codes " grants "
    ++ decimal (grants_of l.objects) ++ codes " denials " ++ decimal (denials_of l.objects)
    ++ codes "\n"
