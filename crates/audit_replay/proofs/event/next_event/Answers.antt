-- what is shared says the same, after the journal that is seen
use Rattle.std.proofs.Common.{◌≡◌, List, subst}
use Rattle.std.specs.Prelude.{IfOk}
use Rattle.std.specs.Option.{option_map}
use Rattle.agent_core.specs.Journals.{Entry}
use Rattle.agent_core.specs.Views.{event_of}
use Rattle.journal_bytes.specs.Events.{event_from}
use Rattle.journal_bytes.specs.Spelled.{SpelledEvent}
use Rattle.journal_bytes.specs.View.{event_seen}
use Rattle.audit_replay.proofs.event.next_event.Goals as goal

pub returns : goal.returns
returns c =
    subst (λ (e : SpelledEvent). IfOk c.event_after.result (λ o. option_map event_of o ≡ event_from c.args.shard.now.journal e)) c.in_ok-event.ensures
    (subst (λ (l : List Entry). IfOk c.event_after.result (λ o. option_map event_of o ≡ event_from l (event_seen c.in_ok-event.event))) c.journal.ensures.value c.event_after.ensures)
