use Rattle.std.proofs.Common.{◌≡◌, ◌++◌, ◌∷◌, [], map, if◌then◌else◌}
use Rattle.std.specs.List.{range_with_len}
use Rattle.node_file.specs.Plans.{plan}
use Rattle.taos_drill.specs.Opened.{empty_object, reader}
use Rattle.taos_drill.proofs.opening.add_objects.Given as goal

abbrev pub invariant-lanes : goal.invariant-lanes
invariant-lanes l =
    map plan l.plans.items ≡ map plan l.fn.plans.items ++ map (empty_object (if l.is_open then reader ∷ [] else [])) (range_with_len l.first l.lane)
