-- the certificates of the digest are let go at the clock's own moment
use Rattle.std.proofs.Common.{ℕ, [], ◌∷◌, map, refl, sym, ap₂, arith}
use Rattle.std.proofs.lemmas.List.{length-map}
use Rattle.agent_core.specs.declared.event.Event.TheVariants as code
use Rattle.agent_core.specs.declared.event.ShardEntry.{ShardEntry}
use Rattle.shard_core.specs.declared.held.removal.Removal.TheVariants.{Named}
use Rattle.agent_core.specs.declared.told.Told.{Told}
use Rattle.agent_core.specs.State.{State, Discards, Plain, keeping}
use Rattle.agent_core.specs.Journals.{state_after}
use Rattle.shard_core.specs.Kept.{stays}
use Rattle.agent_core.specs.Views.{entry_of, plan_of}
use Rattle.shard_core.proofs.KeptMore.{store_more, tells_more}
use Rattle.shard_core.proofs.shard.plain.discard.Goals as goal

pub returns-clause-tells : goal.returns-clause-tells
returns-clause-tells c =
    let plan = plan_of c.args.plan.now in
    let journal = map entry_of c.args.entries.now.items in
    let s : State = state_after plan journal in
    let is = rw c.deref.ensures.value at c.let_go-count.ensures.store in
    let swept = rw c.deref.ensures.value at c.let_go-count.ensures.swept in
    let count = rw c.deref.ensures.value at c.let_go-count.ensures.count in
    let e : ShardEntry = record { event = code.Discard c.args.digest; told = Told.Removed c.let_go-count.result } in
    tells_more plan c.args.entries.now c.args.store.now c.requires.kept e c.append.new.entries c.requires.room c.append.ensures.added c.append.ensures.capacity
    c.let_go-count.new.store (keeping (stays (Named c.args.digest)) c.args.store.now.clock s) (Discards c.args.digest) refl tt
    (ap₂ (λ (m n : ℕ). (keeping (stays (Named c.args.digest)) m s, Plain (Told.Removed n))) (sym c.requires.kept.store_is.clock_is) (sym count))
    (store_more plan journal (entry_of e ∷ []) (keeping (stays (Named c.args.digest)) c.args.store.now.clock s) c.let_go-count.new.store is) (omega (arith, swept, length-map c.args.entries.now.items entry_of))
