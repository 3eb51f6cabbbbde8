use Rattle.std.proofs.Common.{take}
use Rattle.taos_calculus.specs.Walking.{Reaches}
use Rattle.taos_calculus.proofs.Canon.{numbers_of}
use Rattle.taos_calculus.proofs.canonical.is_met_in_order.Given as goal

abbrev pub invariant-loop-line : goal.invariant-loop-line
invariant-loop-line l = Reaches l.nodes 0 (numbers_of (take l.line-index l.lines)) l.due
