-- What the program's objects and their entries mean, wherever their parts lie in memory.
use Rattle.std.specs.Prelude.{ℕ, List, map}
use Rattle.std.specs.declared.alloc.Global.{Global}
use Rattle.std.specs.declared.sync.Arc.{Arc}
use Rattle.std.specs.declared.vec.Vec.{Vec}
use Rattle.std.specs.Arc.{arc_value}
use Rattle.prin_term.specs.View.{grant}
use Rattle.prin_term.specs.declared.term.Entry.{Entry}
use Rattle.object_core.specs.declared.entry.ObjectEntry as code
use Rattle.object_core.specs.Objects.{ObjectEntry, ObjectPlan}
use Rattle.object_core.specs.View.{operation}

-- the entry of a journal that the program's one stands for
abbrev pub object_entry : code.ObjectEntry → ObjectEntry
object_entry e = record {
  shard = e.shard;
  place = e.place;
  op = operation (arc_value e.op);
  ruling = e.ruling;
}

-- an object of this number, content and list
abbrev pub plan_seen : ℕ → List ℕ → Arc (Vec Entry Global) Global → ObjectPlan
plan_seen number content list =
    record { number = number; content = content; list = map grant (arc_value list).items }
