use Rattle.std.proofs.Common.{◌≡◌, length}
use Rattle.stmt_codec.specs.View.{certificates}
use Rattle.lemma_memo.specs.Kept.{AreMarks}
use Rattle.lemma_memo.proofs.here.look.Given as goal

abbrev pub invariant-loop-place : goal.invariant-loop-place
invariant-loop-place l = AreMarks (certificates l.commons) (certificates l.certs) l.chosen l.here.items × (length l.here.items ≡ l.place)
