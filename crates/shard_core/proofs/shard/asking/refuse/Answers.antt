-- the state that is left is the swept one
use Rattle.std.proofs.Common.{[], ◌∷◌, map, List, refl, sym, ap, ◌∙◌, arith}
use Rattle.std.proofs.lemmas.List.{length-map}
use Rattle.agent_core.specs.declared.event.Event.TheVariants as code
use Rattle.agent_core.specs.declared.event.ShardEntry.{ShardEntry}
use Rattle.agent_core.specs.Caches.{unlapsed}
use Rattle.shard_core.specs.Kept.{Tells}
use Rattle.agent_core.specs.State.{Plan, State, Ask, Asks, swept}
use Rattle.agent_core.specs.Journals.{Entry, state_after}
use Rattle.agent_core.specs.Views.{ask_of, entry_of, plan_of}
use Rattle.shard_core.proofs.KeptMore.{store_more, tells_follow, tells_more}
use Rattle.shard_core.proofs.NewAsks.{plain_uses_none}
use Rattle.shard_core.proofs.Looks.{asked_now}
use Rattle.shard_core.proofs.Stepping.{told_answered}
use Rattle.shard_core.proofs.shard.asking.refuse.Goals as goal

told_here : (c : goal.After-answer) → Tells (plan_of c.args.plan.now) c.args.entries.now (Asks (ask_of c.args.asked.value)) c.args.told c.append.new.entries c.move_on.new.store
told_here c =
    let plan : Plan = plan_of c.args.plan.now in
    let journal : List Entry = map entry_of c.args.entries.now.items in
    let s : State = state_after plan journal in
    let a : Ask = ask_of c.args.asked.value in
    let e : ShardEntry = record { event = code.Ask c.args.asked; told = c.args.told } in
    let moved = rw c.deref.ensures.value at c.move_on.ensures.store in
    let stamp = rw c.deref.ensures.value at c.move_on.ensures.swept in
    tells_more plan c.args.entries.now c.args.store.now c.requires.kept e c.append.new.entries c.requires.room c.append.ensures.added c.append.ensures.capacity
    c.move_on.new.store (swept plan.keep c.args.look.moment s) (Asks a) refl c.requires.meant
    (asked_now plan journal c.args.store.now c.requires.kept.store_is a c.args.look c.requires.look ∙ c.requires.plain)
    (store_more plan journal (entry_of e ∷ []) (swept plan.keep c.args.look.moment s) c.move_on.new.store moved) (omega (arith, stamp, length-map c.args.entries.now.items entry_of))

pub returns-clause-answered : goal.returns-clause-answered
returns-clause-answered c = told_answered c.answer.result c.answer.ensures (told_here c)

pub returns-clause-cached : goal.returns-clause-cached
returns-clause-cached c =
    tells_follow (plan_of c.args.plan.now) c.args.entries.now c.append.new.entries (Asks (ask_of c.args.asked.value)) c.args.told c.move_on.new.store (told_here c) c.args.cache.now c.purge_before.new.self c.requires.cached
    (c.purge_before.ensures ∙ ap (λ n. unlapsed n c.args.cache.now) (sym c.move_on.ensures.clock) ∙
    sym (plain_uses_none (ask_of c.args.asked.value) c.args.told (unlapsed c.move_on.new.store.clock c.args.cache.now) c.requires.at_once))
