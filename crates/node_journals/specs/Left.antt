-- The journals of a node, as they are replayed beside its cells.
use Rattle.std.specs.Prelude.{List, length, map}
use Rattle.std.specs.List.{range_with_len}
use Rattle.object_core.specs.Shelving.{ObjectFixed}
use Rattle.agent_core.specs.Journals.{Entry}
use Rattle.shard_core.specs.Cells.{Cells}
use Rattle.journal_bytes.specs.Spelled.{Journals as Spelled, ObjectJournal, numbered}
use Rattle.audit_replay.specs.Replays.{all_spelled}
use Rattle.request_course.specs.Cells.{Node, Journals}

-- what never changes of the node's shards and objects
abbrev pub cells_in : Node → Cells
cells_in n = record { plans = n.plans; objects = n.objects }

-- the journals of its shards, in order
abbrev pub shards_left : Node → Journals → List (List Entry)
shards_left n J = map J.shards (range_with_len 0 (length n.plans))

-- the journals of these objects, in order
abbrev pub objects_of : Journals → List ObjectFixed → List ObjectJournal
objects_of J objects =
    map (λ (f : ObjectFixed). numbered f.plan.number (J.objects f.plan.number)) objects

-- what is spelled of both
abbrev pub journals_left : Node → Journals → Spelled
journals_left n J =
    record { shards = all_spelled (shards_left n J); objects = objects_of J n.objects }
