-- the proof is journaled, with what is told of it, and kept where nothing speaks against it
use Rattle.std.proofs.Common.{List, map, refl, sym, ap, ◌∙◌}
use Rattle.std.specs.Arc.{arc_value}
use Rattle.prin_term.specs.View.{principal}
use Rattle.proof_cache.specs.Cached.{cached}
use Rattle.proof_cache.specs.Cache.{keeping}
use Rattle.proof_cache.specs.declared.cached.Cached.{Cached as CachedValue}
use Rattle.agent_core.specs.declared.told.Told.{Told}
use Rattle.agent_core.specs.Held.{channel_of}
use Rattle.agent_core.specs.Journals.{Entry, state_after}
use Rattle.shard_core.specs.Kept.{Tells}
use Rattle.agent_core.specs.State.{Plan, State, Keeps}
use Rattle.agent_core.specs.Views.{entry_of, plan_of}
use Rattle.shard_core.proofs.KeptMore.{tells_follow}
use Rattle.shard_core.proofs.Keeps.{channel_there, keep_tells}
use Rattle.shard_core.proofs.shard.keeping.keep.Goals as goal

pub cause_against-requires-clause-channel : goal.cause_against-requires-clause-channel
cause_against-requires-clause-channel c =
    let plan : Plan = plan_of c.args.plan.now in
    let journal : List Entry = map entry_of c.args.entries.now.items in
    λ channel on. channel_there plan journal c.requires.kept.legal c.args.ask c.args.entry (cached (arc_value {X = CachedValue} c.args.proof)) c.requires.meant channel
    (ap (λ (x : CachedValue). channel_of (principal x.subject)) (sym c.deref-2.ensures) ∙ on)

dropped : (c : goal.After-append) → Tells (plan_of c.args.plan.now) c.args.entries.now (Keeps c.args.ask c.args.entry (cached (arc_value {X = CachedValue} c.args.proof))) (Told.Dropped c.in-Some.cause) c.append.new.entries c.args.store.now
dropped c =
    let plan : Plan = plan_of c.args.plan.now in
    let s : State = state_after plan (map entry_of c.args.entries.now.items) in
    let told = rw (c.deref.ensures.value, c.deref-2.ensures) at c.in-Some.ensures in
    keep_tells plan c.args.entries.now c.args.store.now c.requires.kept c.requires.room c.args.ask c.args.entry c.args.proof c.requires.meant (Told.Dropped c.in-Some.cause) c.append.new.entries c.append.ensures.added c.append.ensures.capacity told

pub returns-in-Some-clause-tells : goal.returns-in-Some-clause-tells
returns-in-Some-clause-tells c = dropped c

pub returns-in-Some-clause-cached : goal.returns-in-Some-clause-cached
returns-in-Some-clause-cached c =
    tells_follow (plan_of c.args.plan.now) c.args.entries.now c.append.new.entries (Keeps c.args.ask c.args.entry (cached (arc_value {X = CachedValue} c.args.proof))) (Told.Dropped c.in-Some.cause) c.args.store.now (dropped c) c.args.cache.now c.args.cache.now c.requires.cached refl

pub returns-clause-tells : goal.returns-clause-tells
returns-clause-tells c =
    let plan : Plan = plan_of c.args.plan.now in
    let told = rw (c.deref.ensures.value, c.deref-2.ensures) at c.in_default.ensures in
    keep_tells plan c.args.entries.now c.args.store.now c.requires.kept c.requires.room c.args.ask c.args.entry c.args.proof c.requires.meant Told.Kept c.append-2.new.entries c.append-2.ensures.added c.append-2.ensures.capacity told

pub returns-clause-cached : goal.returns-clause-cached
returns-clause-cached c =
    let plan : Plan = plan_of c.args.plan.now in
    let told = rw (c.deref.ensures.value, c.deref-2.ensures) at c.in_default.ensures in
    let tells = keep_tells plan c.args.entries.now c.args.store.now c.requires.kept c.requires.room c.args.ask c.args.entry c.args.proof c.requires.meant Told.Kept c.append-2.new.entries c.append-2.ensures.added c.append-2.ensures.capacity told in
    tells_follow plan c.args.entries.now c.append-2.new.entries (Keeps c.args.ask c.args.entry (cached (arc_value {X = CachedValue} c.args.proof))) Told.Kept c.args.store.now tells c.args.cache.now c.keep.new.self c.requires.cached
    (c.keep.ensures ∙ ap (λ (x : CachedValue). keeping (cached x) c.args.cache.now) c.in_ok-handle.ensures)
