use Rattle.stmt_codec.specs.Certificates.{certificate}
use Rattle.stmt_codec.proofs.Equal.{tested}
use Rattle.stmt_codec.proofs.body.CertBody.same.Goals as goal

pub returns-clause-equal : goal.returns-clause-equal
returns-clause-equal c = tested c.is_same.result (certificate c.args.self.now) (certificate c.args.other.now) c.is_same.ensures
