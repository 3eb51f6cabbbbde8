use Rattle.std.proofs.Common.{◌≡◌, ◌++◌, map}
use Rattle.node_file.specs.Plans.{drafted, plan}
use Rattle.node_file.proofs.object_drafts.ObjectDrafts.plans.Given as goal

-- the objects that are built, and those that are left
abbrev pub invariant-loop-number : goal.invariant-loop-number
invariant-loop-number l = map plan l.plans.items ++ map drafted l.number-iterator ≡ l.fn.self
