use Rattle.std.proofs.Common.{[], arith}
use Rattle.std.proofs.KnownBytes.{Consumes-nil}
use Rattle.std.proofs.lemmas.Result.{err_from_is_err_and}
use Rattle.frame_link.proofs.whole.next_piece.Goals as goal

pub returns-in_err-piece-clause-part : goal.returns-in_err-piece-clause-part
returns-in_err-piece-clause-part g c =
    let p = err_from_is_err_and c.from_residual.result c.from_residual.ensures.1 in
    rw p.1 ([], omega arith, Consumes-nil (g.S.Source.shown c.args.source.now).told)

pub returns-in-Err-clause-part : goal.returns-in-Err-clause-part
returns-in-Err-clause-part g c =
    let found = c.in-Err.ensures.part in
    (found.0, omega (arith, found.1, c.fill.auto.room, c.deref_mut.ensures.len), found.2)
