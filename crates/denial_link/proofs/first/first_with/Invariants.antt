use Rattle.std.proofs.Common.{map}
use Rattle.prin_term.specs.View.{Grant, grant}
use Rattle.denial_link.specs.Links.{NoneBefore}
use Rattle.denial_link.proofs.first.first_with.Given as goal

abbrev pub invariant-loop-place : goal.invariant-loop-place
invariant-loop-place l = NoneBefore (map grant l.list) l.right (λ (e : Grant). Unit {0}) l.place
