-- the mark of the row is that of its key
use Rattle.std.proofs.Common.{arith}
use Rattle.std.proofs.lemmas.Bool.Decides.{nat_tests}
use Rattle.proof_cache.specs.Cache.{kept}
use Rattle.proof_cache.proofs.Marks.{other_mark}
use Rattle.proof_cache.proofs.kept.is_row_for.Goals as goal

pub returns-else-row-mark : goal.returns-else-row-mark
returns-else-row-mark c =
    let differ = c.if-row-mark.false in
    rw (other_mark _ _ (kept c.args.row.now) _ _ c.args.row.now.marked c.requires differ)
    (grind (arith, nat_tests, differ))
