use Rattle.taos_calculus.specs.Checking.{said_by}
use Rattle.taos_calculus.proofs.Checks.{proved_is_ok}
use Rattle.taos_calculus.proofs.check.check_proof.Goals as goal

pub returns-clause-only : goal.returns-clause-only
returns-clause-only c =
    proved_is_ok c.args.anchors.now (said_by c.args.cites.now) c.args.proof.now c.checked.result
    c.checked.ensures
