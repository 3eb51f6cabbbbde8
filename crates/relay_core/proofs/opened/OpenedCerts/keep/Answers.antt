use Rattle.std.proofs.Common.{ℕ, List, sym, subst}
use Rattle.std.specs.Arc.{arc_value}
use Rattle.sealed_cert.specs.Seals.{Opens}
use Rattle.stmt_codec.specs.Certificates.{certificate}
use Rattle.relay_core.specs.Opened.{HoldsOpen}
use Rattle.relay_core.proofs.Keeping.{one_more_open}
use Rattle.relay_core.proofs.opened.OpenedCerts.keep.Goals.{in-Some, in_default}
use Rattle.relay_core.proofs.opened.OpenedCerts.keep.Goals as goal

pub invariant_of-self : goal.invariant_of-self
invariant_of-self c = elim c.match-self.branch [
  | in-Some w ↦ rw w.self-inside-is
      (one_more_open c.self.inside.key _ _ c.args.text.now (arc_value c.args.cert.now) (subst (HoldsOpen c.self.inside.key) w.in-Some.is c.self.invariant) w.keep.ensures
      (subst (λ (k : List ℕ). Opens k c.args.text.now (certificate (arc_value c.args.cert.now).body)) (sym c.self.view_is) c.requires))
  | in_default w ↦ rw w.self-inside-is c.self.invariant
]
