use Rattle.std.proofs.Common.{[], take}
use Rattle.taos_calculus.specs.Checking.{said_by}
use Rattle.taos_calculus.specs.Rules.{EachFollows}
use Rattle.taos_calculus.specs.Tables.{parts_of, lines_of}
use Rattle.taos_calculus.proofs.check.first_bad.Given as goal

abbrev pub invariant-loop-k : goal.invariant-loop-k
invariant-loop-k l =
    EachFollows l.anchors (said_by l.cites) [] (take l.k (lines_of (parts_of l.nodes l.lines)))
