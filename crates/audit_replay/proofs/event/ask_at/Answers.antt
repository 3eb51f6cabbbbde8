use Rattle.std.proofs.Common.{◌≡◌, map, Some, slice_get, sym, ap, ◌∙◌, arith}
use Rattle.std.specs.Option.{option_map}
use Rattle.std.proofs.lemmas.Option.{slice_get-get_or, slice_get-map}
use Rattle.agent_core.specs.Views.{entry_of}
use Rattle.journal_bytes.specs.Events.{ask_there}
use Rattle.audit_replay.proofs.event.ask_at.Goals as goal

pub returns : goal.returns
returns c =
    let at : slice_get (map entry_of c.args.entries.now) c.args.place ≡ Some (entry_of c.index-entries-place.result) =
    slice_get-map entry_of c.args.entries.now c.args.place ∙ ap (option_map entry_of) (slice_get-get_or c.args.entries.now c.args.place c.index-entries-place.result (omega arith) ∙ ap Some (sym c.index-entries-place.is)) in
    c.ask_in.ensures ∙ sym (ap ask_there at)
