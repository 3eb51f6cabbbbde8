-- what an object is opened with is all there is of it
use Rattle.std.proofs.Common.{None, subst, sym}
use Rattle.object_core.specs.FixedView.{fixed_plan}
use Rattle.object_core.specs.Kept.{IsObject}
use Rattle.object_core.specs.ObjectView.{plan_seen}
use Rattle.object_core.specs.Operation.{IsContent}
use Rattle.object_core.specs.declared.fixed.Fixed.{Fixed}
use Rattle.object_core.proofs.Latest.{opened_object}
use Rattle.object_core.proofs.object.Object.new.Goals as goal

pub invariant_of-result : goal.invariant_of-result
invariant_of-result c =
    subst (λ (f : Fixed). IsObject (fixed_plan f) f.limit c.in_ok-entries.entries None None) (sym c.in_ok-new.ensures.ok)
    (opened_object (plan_seen c.args.number c.in_ok-content.content.items c.args.list) c.args.limit c.in_ok-entries.entries
    (subst IsContent (sym c.in_ok-content.ensures.items) c.requires.content) c.requires.list c.in_ok-entries.ensures.items
    c.in_ok-entries.ensures.capacity)
