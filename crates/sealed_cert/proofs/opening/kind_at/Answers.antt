use Rattle.std.proofs.Common.{sym}
use Rattle.byte_fields.proofs.FieldLaws.{byte_takes}
use Rattle.sealed_cert.specs.declared.fault.SealFault.TheVariants.{Malformed}
use Rattle.sealed_cert.proofs.opening.kind_at.Goals as goal

pub returns-then-first-kind-clause-first : goal.returns-then-first-kind-clause-first
returns-then-first-kind-clause-first c =
    (byte_takes (Malformed 0) c.args.bytes.now 0 (c.in_ok-first.first, c.in_ok-first.begin) (sym c.in_ok-first.ensures.value)).end_is
