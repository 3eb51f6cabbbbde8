use Rattle.prin_term.specs.View.{principal}
use Rattle.stmt_codec.proofs.Same.{test_is}
use Rattle.stmt_codec.proofs.distinct.same.Goals as goal

pub returns : goal.returns
returns c = test_is c.same.result (principal c.args.term.now) (principal c.args.other.now) c.same.ensures
