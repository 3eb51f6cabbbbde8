use Rattle.std.proofs.Common.{◌∷◌, [], List, cond, map, ap, ◌∙◌}
use Rattle.std.proofs.lemmas.List.{map_push}
use Rattle.node_file.specs.Plans.{plan}
use Rattle.prin_term.specs.View.{Grant}
use Rattle.taos_drill.specs.Opened.{reader}
use Rattle.taos_drill.proofs.OneMore.{object_more}
use Rattle.taos_drill.proofs.opening.add_objects.Goals as goal

pub lanes-preserved : goal.lanes-preserved
lanes-preserved c =
    let list : List Grant = cond c.args.is_open (reader ∷ []) [] in
    let object = c.in_ok-object_of.field-0 in
    let before = map plan c.args.plans.now.items in
    let pushed = ap (map plan) c.in_ok-push.ensures.items ∙ map_push plan c.lanes.plans.items object in
    object_more list c.args.first c.lanes.lane before (map plan c.lanes.plans.items) (map plan c.push.new.self.items) (plan object) c.in_ok-object_of.ensures c.lanes.invariant pushed
