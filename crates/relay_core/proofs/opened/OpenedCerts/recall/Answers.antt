use Rattle.std.proofs.Common.{ℕ, List, subst, sym}
use Rattle.relay_core.specs.Opened.{HoldsOpen}
use Rattle.relay_core.proofs.Keeping.{OpensIfSome, opens_if_some, stays_open}
use Rattle.relay_core.proofs.opened.OpenedCerts.recall.Goals.{in-Some, in-None}
use Rattle.relay_core.proofs.opened.OpenedCerts.recall.Goals as goal

pub invariant_of-self : goal.invariant_of-self
invariant_of-self c = elim c.match-self.branch [
  | in-Some w ↦ rw w.self-inside-is (stays_open c.self.inside.key _ _ (subst (HoldsOpen c.self.inside.key) w.in-Some.is c.self.invariant) w.recall.ensures.no_more)
  | in-None w ↦ rw w.self-inside-is c.self.invariant
]

pub returns-clause-opens : goal.returns-clause-opens
returns-clause-opens c = elim c.match-self.branch [
  | in-Some w ↦ subst (OpensIfSome c.args.self.now c.args.text.now) (sym w.result-is)
      (subst (λ (key : List ℕ). OpensIfSome key c.args.text.now w.recall.result) c.self.view_is
      (opens_if_some c.self.inside.key c.self.inside.certs w.in-Some.certs c.args.text.now w.recall.result c.self.invariant w.in-Some.is w.recall.ensures.kept))
  | in-None w ↦ subst (OpensIfSome c.args.self.now c.args.text.now) (sym w.result-is) tt
]
