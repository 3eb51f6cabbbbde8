-- A part of a frame comes first, or a length above the limit.
use Rattle.std.proofs.Common.{subst, inl, inr, rules}
use Rattle.system_hub.specs.First.{IsFirst}
use Rattle.system_hub.specs.declared.machine.inbox.First.{First}
use Rattle.system_hub.proofs.machine.inbox.Inbox.lacks_frame.Goals as goal

pub returns-in-Part : goal.returns-in-Part
returns-in-Part c = (
  λ t. elim c.in-Part.is [
    | inl part ↦ inl (subst (λ (f : First). IsFirst c.args.self.now f) part c.first.ensures)
    | inr long ↦ inr (subst (λ (f : First). IsFirst c.args.self.now f) long c.first.ensures)
  ],
  λ other. search rules,
)
