-- the certificates that are gone at the later of clock and reading are let go
use Rattle.std.proofs.Common.{◌≡◌, ◌-◌, ℕ, [], ◌∷◌, map, max, refl, sym, ap, ◌∙◌, arith}
use Rattle.std.proofs.lemmas.List.{length-map}
use Rattle.agent_core.specs.declared.event.Event.TheVariants as code
use Rattle.agent_core.specs.declared.event.ShardEntry.{ShardEntry}
use Rattle.shard_core.specs.declared.held.removal.Removal.TheVariants.{Ended}
use Rattle.agent_core.specs.declared.told.Told.{Told}
use Rattle.agent_core.specs.State.{State, Expires, Plain, keeping, held_count}
use Rattle.agent_core.specs.Journals.{state_after}
use Rattle.shard_core.specs.Kept.{stays}
use Rattle.agent_core.specs.Views.{entry_of, plan_of}
use Rattle.shard_core.proofs.KeptMore.{store_more, tells_more}
use Rattle.shard_core.proofs.shard.plain.expire.Goals as goal

pub returns-clause-tells : goal.returns-clause-tells
returns-clause-tells c =
    let plan = plan_of c.args.plan.now in
    let journal = map entry_of c.args.entries.now.items in
    let s : State = state_after plan journal in
    let moment : ℕ = c.max-moment.result in
    let is = rw (c.deref.ensures.value, c.gone_by.ensures) at c.let_go-count.ensures.store in
    let swept = rw c.deref.ensures.value at c.let_go-count.ensures.swept in
    let count = rw (c.deref.ensures.value, c.gone_by.ensures) at c.let_go-count.ensures.count in
    let later : max s.clock c.args.reading ≡ moment = ap (λ n. max n c.args.reading) (sym c.requires.kept.store_is.clock_is) ∙ sym c.max-moment.ensures in
    let e : ShardEntry = record { event = code.Expire c.args.reading; told = Told.Removed c.let_go-count.result } in
    tells_more plan c.args.entries.now c.args.store.now c.requires.kept e c.append.new.entries c.requires.room c.append.ensures.added c.append.ensures.capacity
    c.let_go-count.new.store (keeping (stays (Ended plan.keep moment)) moment s) (Expires c.args.reading) refl tt
    (ap (λ (m : ℕ). (keeping (stays (Ended plan.keep m)) m s, Plain (Told.Removed (held_count plan s - held_count plan (keeping (stays (Ended plan.keep m)) m s))))) later ∙
    ap (λ (n : ℕ). (keeping (stays (Ended plan.keep moment)) moment s, Plain (Told.Removed n))) (sym count))
    (store_more plan journal (entry_of e ∷ []) (keeping (stays (Ended plan.keep moment)) moment s) c.let_go-count.new.store is) (omega (arith, swept, length-map c.args.entries.now.items entry_of))
