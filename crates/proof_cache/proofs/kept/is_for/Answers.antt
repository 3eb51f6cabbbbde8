-- the tests of terms are those of their principals
use Rattle.std.proofs.Common.{refl, sym}
use Rattle.stmt_codec.proofs.Same.{test_is}
use Rattle.proof_cache.proofs.kept.is_for.Goals as goal

pub returns-then-same : goal.returns-then-same
returns-then-same c =
    rw (sym (test_is _ _ _ c.same.ensures), c.if-same.true) (test_is _ _ _ c.same-then-same.ensures)

pub returns-else-same : goal.returns-else-same
returns-else-same c = rw (sym (test_is _ _ _ c.same.ensures), c.if-same.false) refl
