use Rattle.denial_link.specs.Keys.{AreMarked}
use Rattle.stmt_codec.specs.View.{certificates}
use Rattle.denial_link.proofs.revive.marks_of.Given as goal

abbrev pub invariant-loop-place : goal.invariant-loop-place
invariant-loop-place l = AreMarked (certificates l.certs) l.moment l.places l.place l.marks.items
