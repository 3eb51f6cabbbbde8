-- the channel's certificates are let go
use Rattle.std.proofs.Common.{ℕ, [], ◌∷◌, map, refl, sym, ap, arith}
use Rattle.agent_core.specs.declared.event.Event.TheVariants as code
use Rattle.agent_core.specs.declared.event.ShardEntry.{ShardEntry}
use Rattle.agent_core.specs.declared.told.Told.{Told}
use Rattle.agent_core.specs.State.{State, Forgets, Plain, forgetting}
use Rattle.agent_core.specs.Journals.{state_after}
use Rattle.agent_core.specs.Views.{entry_of, plan_of}
use Rattle.shard_core.proofs.KeptMore.{store_more, tells_more}
use Rattle.shard_core.proofs.shard.forgetting.forget.Goals as goal

pub returns-clause-tells : goal.returns-clause-tells
returns-clause-tells c =
    let plan = plan_of c.args.plan.now in
    let journal = map entry_of c.args.entries.now.items in
    let s : State = state_after plan journal in
    let is = rw c.deref.ensures.value at c.let_go_of_channel-count.ensures.store in
    let count = rw c.deref.ensures.value at c.let_go_of_channel-count.ensures.count in
    let e : ShardEntry = record { event = code.Forget c.args.channel; told = Told.Removed c.let_go_of_channel-count.result } in
    tells_more plan c.args.entries.now c.args.store.now c.requires.kept e c.append.new.entries c.requires.room c.append.ensures.added c.append.ensures.capacity
    c.let_go_of_channel-count.new.store (forgetting c.args.channel s) (Forgets c.args.channel) refl tt
    (ap (λ (n : ℕ). (forgetting c.args.channel s, Plain (Told.Removed n))) (sym count))
    (store_more plan journal (entry_of e ∷ []) (forgetting c.args.channel s) c.let_go_of_channel-count.new.store is)
    (omega (arith, c.let_go_of_channel-count.ensures.swept, c.requires.kept.swept_within))
