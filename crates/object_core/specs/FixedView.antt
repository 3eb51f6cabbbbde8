-- What the program's objects were opened with.
use Rattle.object_core.specs.declared.fixed.Fixed.{Fixed}
use Rattle.object_core.specs.Objects.{ObjectPlan}
use Rattle.object_core.specs.ObjectView.{plan_seen}

-- what the object was opened with
abbrev pub fixed_plan : Fixed → ObjectPlan
fixed_plan f = plan_seen f.number f.content.items f.list
