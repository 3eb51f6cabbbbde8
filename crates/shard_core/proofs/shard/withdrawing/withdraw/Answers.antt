-- it is withdrawn already, or no more may be, or its certificates are let go at the clock's own moment
use Rattle.std.proofs.Common.{◌≡◌, ◌<◌, ℕ, List, [], ◌∷◌, length, map, refl, sym, ap, subst, ◌∙◌, arith}
use Rattle.std.proofs.lemmas.List.{length-map}
use Rattle.agent_core.specs.declared.event.Event.TheVariants as code
use Rattle.agent_core.specs.declared.event.ShardEntry.{ShardEntry}
use Rattle.shard_core.specs.declared.held.removal.Removal.TheVariants.{Issued}
use Rattle.shard_core.specs.declared.shard.store.Store.{Store}
use Rattle.agent_core.specs.declared.told.Told.{Told}
use Rattle.agent_core.specs.Held.{is_withdrawn}
use Rattle.agent_core.specs.Journals.{state_after}
use Rattle.shard_core.specs.Kept.{IsStore, stays}
use Rattle.shard_core.specs.Names.{book}
use Rattle.agent_core.specs.State.{State, Withdraws, Plain, keeping, without_issuer}
use Rattle.agent_core.specs.Views.{entry_of, plan_of}
use Rattle.shard_core.proofs.KeptMore.{store_more, tells_more}
use Rattle.shard_core.proofs.Withdrawing.{already, no_room, store_withdrawn, withdraws}
use Rattle.shard_core.proofs.shard.withdrawing.withdraw.Goals as goal

pub returns-then-is_withdrawn-clause-tells : goal.returns-then-is_withdrawn-clause-tells
returns-then-is_withdrawn-clause-tells c =
    let plan = plan_of c.args.plan.now in
    let journal = map entry_of c.args.entries.now.items in
    let s : State = state_after plan journal in
    let is = ap (λ l. is_withdrawn l c.args.issuer) (sym c.requires.kept.store_is.withdrawn_are) ∙ sym c.is_withdrawn.ensures ∙ c.if-is_withdrawn.true in
    let e : ShardEntry = record { event = code.Withdraw c.args.issuer; told = Told.Removed 0 } in
    tells_more plan c.args.entries.now c.args.store.now c.requires.kept e c.append.new.entries c.requires.room c.append.ensures.added c.append.ensures.capacity
    c.args.store.now s (Withdraws c.args.issuer) refl tt (already plan s c.args.issuer is)
    (store_more plan journal (entry_of e ∷ []) s c.args.store.now c.requires.kept.store_is) (omega (arith, c.requires.kept.swept_within))

pub returns-then-held-ge-MAX_WITHDRAWN-clause-tells : goal.returns-then-held-ge-MAX_WITHDRAWN-clause-tells
returns-then-held-ge-MAX_WITHDRAWN-clause-tells c =
    let plan = plan_of c.args.plan.now in
    let journal = map entry_of c.args.entries.now.items in
    let s : State = state_after plan journal in
    let isnt = ap (λ l. is_withdrawn l c.args.issuer) (sym c.requires.kept.store_is.withdrawn_are) ∙ sym c.is_withdrawn.ensures ∙ c.if-is_withdrawn.false in
    let long = ap (λ (l : List ℕ). length l) c.requires.kept.store_is.withdrawn_are in
    let e : ShardEntry = record { event = code.Withdraw c.args.issuer; told = Told.WithdrawnFull c.len-held.result } in
    tells_more plan c.args.entries.now c.args.store.now c.requires.kept e c.append-then-held-ge-MAX_WITHDRAWN.new.entries c.requires.room c.append-then-held-ge-MAX_WITHDRAWN.ensures.added c.append-then-held-ge-MAX_WITHDRAWN.ensures.capacity
    c.args.store.now s (Withdraws c.args.issuer) refl tt
    (no_room plan s c.args.issuer isnt (omega (arith, c.if-held-ge-MAX_WITHDRAWN.true, c.len-held.ensures.value, long)) ∙
    ap (λ (n : ℕ). (s, Plain (Told.WithdrawnFull n))) (sym (c.len-held.ensures.value ∙ long)))
    (store_more plan journal (entry_of e ∷ []) s c.args.store.now c.requires.kept.store_is) (omega (arith, c.requires.kept.swept_within))

pub push-requires : goal.push-requires
push-requires c =
    let is = rw c.deref.ensures.value at c.let_go-count.ensures.store in
    let long = ap (λ (l : List ℕ). length l) c.requires.kept.store_is.withdrawn_are in
    omega (arith, ap (λ (l : List ℕ). length l) is.withdrawn_are, long, c.if-held-ge-MAX_WITHDRAWN.false, c.len-held.ensures.value)

pub returns-clause-tells : goal.returns-clause-tells
returns-clause-tells c =
    let plan = plan_of c.args.plan.now in
    let journal = map entry_of c.args.entries.now.items in
    let s : State = state_after plan journal in
    let isnt = ap (λ l. is_withdrawn l c.args.issuer) (sym c.requires.kept.store_is.withdrawn_are) ∙ sym c.is_withdrawn.ensures ∙ c.if-is_withdrawn.false in
    let long = ap (λ (l : List ℕ). length l) c.requires.kept.store_is.withdrawn_are in
    let room : length s.withdrawn < 64 = omega (arith, c.if-held-ge-MAX_WITHDRAWN.false, c.len-held.ensures.value, long) in
    let clock : c.args.store.now.clock ≡ s.clock = c.requires.kept.store_is.clock_is in
    let gone : Store = c.let_go-count.new.store in
    let at_store = rw c.deref.ensures.value at c.let_go-count.ensures.store in
    let is = subst (λ (m : ℕ). IsStore (book plan journal) (keeping (stays (Issued c.args.issuer)) m s) gone) clock at_store in
    let swept = rw c.deref.ensures.value at c.let_go-count.ensures.swept in
    let count = rw c.deref.ensures.value at c.let_go-count.ensures.count in
    let after : Store = record { clock = gone.clock; swept = gone.swept; commons = gone.commons; withdrawn = c.push.new.self; rows = gone.rows } in
    let e : ShardEntry = record { event = code.Withdraw c.args.issuer; told = Told.Removed c.let_go-count.result } in
    tells_more plan c.args.entries.now c.args.store.now c.requires.kept e c.append-2.new.entries c.requires.room c.append-2.ensures.added c.append-2.ensures.capacity
    after (without_issuer c.args.issuer s) (Withdraws c.args.issuer) refl tt
    (withdraws plan s c.args.issuer isnt room ∙ ap (λ (n : ℕ). (without_issuer c.args.issuer s, Plain (Told.Removed n))) (sym count))
    (store_more plan journal (entry_of e ∷ []) (without_issuer c.args.issuer s) after
    (store_withdrawn plan journal s gone after c.args.issuer is refl refl refl refl c.push.ensures.items)) (omega (arith, swept, length-map c.args.entries.now.items entry_of))
