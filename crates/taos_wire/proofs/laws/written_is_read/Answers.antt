use Rattle.std.proofs.Common.{refl}
use Rattle.taos_wire.specs.Request.{request_text, sealed}
use Rattle.taos_wire.proofs.RequestLaws.{request_again, sealed_spells}
use Rattle.taos_wire.proofs.laws.written_is_read.Goals as goal

pub returns : goal.returns
returns c = record {
  spelled = λ key r fits. sealed_spells key r fits;
  read = λ key r fits. request_again (sealed key r) r (sealed_spells key r fits);
  seal = λ key r. record { text = request_text r; whole = refl };
}
