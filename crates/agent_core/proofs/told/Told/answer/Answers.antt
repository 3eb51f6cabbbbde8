-- what is told at once is neither a hit nor a miss
use Rattle.std.proofs.Common.{subst, inl, inr}
use Rattle.agent_core.specs.Answers.{IsPlain}
use Rattle.agent_core.proofs.told.Told.answer.Goals as goal

pub unreachable-requires : goal.unreachable-requires
unreachable-requires c =
    elim c.in-Hit.is [
      | inl hit ↦ subst IsPlain hit.1 c.requires
      | inr miss ↦ subst IsPlain miss c.requires
    ]
