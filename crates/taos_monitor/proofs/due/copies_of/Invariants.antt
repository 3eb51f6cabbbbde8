use Rattle.std.proofs.Common.{◌≡◌, length}
use Rattle.std.specs.Prelude.{All}
use Rattle.agent_core.specs.declared.event.Event.{Event}
use Rattle.agent_core.specs.Views.{event_of}
use Rattle.taos_monitor.proofs.due.copies_of.Given as goal

abbrev pub invariant-loop : goal.invariant-loop
invariant-loop l = (length l.events.items ≡ l.counter) × All (λ (e : Event). event_of e ≡ event_of l.event) l.events.items
