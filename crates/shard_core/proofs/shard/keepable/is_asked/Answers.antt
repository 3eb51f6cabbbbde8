-- the entry at the place is an Ask, or is none
use Rattle.std.proofs.Common.{◌≡◌, map, Some, slice_get, sym, ap, ◌∙◌, arith}
use Rattle.std.specs.Option.{option_map}
use Rattle.std.proofs.lemmas.Bool.{false≢true}
use Rattle.std.proofs.lemmas.Option.{slice_get-get_or, slice_get-map}
use Rattle.proof_cache.specs.Cached.{cached}
use Rattle.agent_core.specs.Views.{ask_of, entry_of}
use Rattle.shard_core.proofs.Keepable.{asked_at, never_asked}
use Rattle.shard_core.proofs.shard.keepable.is_asked.Goals as goal

pub returns-in-Some : goal.returns-in-Some
returns-in-Some c =
    let at : slice_get (map entry_of c.args.entries.now) c.args.ask ≡ Some (entry_of c.index-entries-ask.result) =
    slice_get-map entry_of c.args.entries.now c.args.ask ∙ ap (option_map entry_of) (slice_get-get_or c.args.entries.now c.args.ask c.index-entries-ask.result (omega arith) ∙ ap Some (sym c.index-entries-ask.is)) in
    let both = asked_at (map entry_of c.args.entries.now) c.args.ask c.args.entry (cached c.args.proof.now) (entry_of c.index-entries-ask.result) (ask_of c.in-Some.asked.now) at c.in-Some.ensures in
    (λ t. both.0 (c.is_for_entry.ensures.0 t), λ k. c.is_for_entry.ensures.1 (both.1 k))

pub returns-in-None : goal.returns-in-None
returns-in-None c =
    let at : slice_get (map entry_of c.args.entries.now) c.args.ask ≡ Some (entry_of c.index-entries-ask.result) =
    slice_get-map entry_of c.args.entries.now c.args.ask ∙ ap (option_map entry_of) (slice_get-get_or c.args.entries.now c.args.ask c.index-entries-ask.result (omega arith) ∙ ap Some (sym c.index-entries-ask.is)) in
    (λ f. absurd (false≢true f), λ k. absurd (never_asked (map entry_of c.args.entries.now) c.args.ask c.args.entry (cached c.args.proof.now) (entry_of c.index-entries-ask.result) at c.in-None.ensures k))
