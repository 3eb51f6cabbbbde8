-- the Ask's row gets its number and what it brings
use Rattle.std.proofs.Common.{◌≡◌, [], ◌∷◌, ◌++◌, length, map, List, refl, sym, ap, ◌∙◌, subst, arith}
use Rattle.std.specs.Vec.{with_item}
use Rattle.std.proofs.lemmas.List.{length-map}
use Rattle.agent_core.specs.declared.event.Ask.{Ask as AskValue}
use Rattle.agent_core.specs.declared.event.Event.TheVariants as code
use Rattle.agent_core.specs.declared.event.ShardEntry.{ShardEntry}
use Rattle.shard_core.specs.declared.shard.store.Row.{Row}
use Rattle.shard_core.specs.declared.shard.store.Store.{Store}
use Rattle.agent_core.specs.State.{Plan, State, Ask, Asks, Answer, Judged, swept, taking, brought, next}
use Rattle.agent_core.specs.Journals.{Entry, state_after, cache_after, told_of}
use Rattle.shard_core.specs.Kept.{IsStore}
use Rattle.shard_core.specs.Names.{book, name_in}
use Rattle.agent_core.specs.Views.{ask_of, entry_of, plan_of}
use Rattle.shard_core.proofs.KeptMore.{adds_entry, kept_more}
use Rattle.shard_core.proofs.Judging.{taken}
use Rattle.shard_core.proofs.Looks.{asked_now, row_held, row_named, store_taken}
use Rattle.shard_core.proofs.shard.asking.take.Goals as goal

pub keep_left-requires-clause-names : goal.keep_left-requires-clause-names
keep_left-requires-clause-names c =
    rw c.deref-2.ensures.value
    (row_named (plan_of c.args.plan.now) (map entry_of c.args.entries.now.items) c.args.store.now c.requires.kept.store_is (ask_of c.args.asked.value)
    c.args.look c.requires.look c.move_on.new.store.rows c.move_on.ensures.rows c.index_mut-row.result.now c.index_mut-row.ensures.value)

pub keep_left-requires-clause-count : goal.keep_left-requires-clause-count
keep_left-requires-clause-count c =
    rw (c.deref-2.ensures.value, c.gone_by.ensures)
    (row_held (plan_of c.args.plan.now) (map entry_of c.args.entries.now.items) c.args.store.now c.requires.kept.store_is (ask_of c.args.asked.value)
    c.args.look c.requires.look c.move_on.new.store.rows c.move_on.ensures.rows c.index_mut-row.result.now c.index_mut-row.ensures.value)

pub returns-clause-takes : goal.returns-clause-takes
returns-clause-takes c =
    let plan : Plan = plan_of c.args.plan.now in
    let journal : List Entry = map entry_of c.args.entries.now.items in
    let s : State = state_after plan journal in
    let now : State = swept plan.keep c.args.look.moment s in
    let a : Ask = ask_of c.args.asked.value in
    let e : ShardEntry = record { event = code.Ask c.args.asked; told = c.args.told } in
    let moved : Store = c.move_on.new.store in
    let row : Row = record { last = c.deref.result.now.seq; swept = moved.swept; own = c.name_all.new.names } in
    let after : Store = record { clock = moved.clock; swept = moved.swept; commons = moved.commons; withdrawn = moved.withdrawn; rows = with_item moved.rows c.args.look.place row } in
    let number : c.len-entry.result ≡ length journal = c.len-entry.ensures ∙ c.args.entries.now.ok.0 ∙ sym (length-map c.args.entries.now.items entry_of) in
    let nexts : next plan s (Asks a) ≡ (taking now a, Judged now.clock ((now.own a.channel ++ brought now a) ++ now.commons)) =
    asked_now plan journal c.args.store.now c.requires.kept.store_is a c.args.look c.requires.look ∙ taken now a c.requires.judged in
    let left = rw (c.deref-2.ensures.value, c.gone_by.ensures) at c.keep_left.ensures.names in
    let now_is = rw c.deref-2.ensures.value at c.move_on.ensures.store in
    let stamp = rw c.deref-2.ensures.value at c.move_on.ensures.swept in
    let is : IsStore (book plan (journal ++ entry_of e ∷ [])) (taking now a) after =
    store_taken plan journal c.args.store.now c.requires.kept.store_is a c.args.look c.requires.look (entry_of e) refl moved.rows c.move_on.ensures.rows c.index_mut-row.result.now row c.index_mut-row.ensures.value
    c.keep_left.new.names.items left moved.swept
    (ap (λ (x : AskValue). x.seq) c.deref.ensures) refl (c.name_all.ensures ∙ ap (λ n. c.keep_left.new.names.items ++ map (name_in n) c.args.look.new.items) number) moved after
    now_is c.requires.kept.planned.ascending c.move_on.ensures.clock refl refl refl refl refl refl in
    record {
      adds = adds_entry plan c.args.entries.now c.args.store.now c.requires.kept e c.append.new.entries c.requires.room c.append.ensures.added c.append.ensures.capacity;
      kept = kept_more plan c.args.entries.now c.args.store.now c.requires.kept e c.append.new.entries c.requires.room c.append.ensures.added c.append.ensures.capacity
          after c.requires.meant (c.requires.told ∙ ap (λ (r : State × Answer). told_of (cache_after plan journal) (Asks a) r.1) (sym nexts))
          (subst (λ t. IsStore (book plan (journal ++ entry_of e ∷ [])) t after) (ap (λ (r : State × Answer). r.0) (sym nexts)) is) (omega (arith, stamp, length-map c.args.entries.now.items entry_of));
    }
