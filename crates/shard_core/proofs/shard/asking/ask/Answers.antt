-- the Ask ends as its number and what it brings say
use Rattle.std.proofs.Common.{◌≡◌, map, length, List, sym, ap, subst, arith}
use Rattle.std.specs.Prelude.{IfOk, OnErr}
use Rattle.std.proofs.lemmas.List.{length-map}
use Rattle.prin_term.specs.View.{grant}
use Rattle.agent_core.specs.Answers.{TakesMemory}
use Rattle.agent_core.specs.declared.event.Ask.{Ask as AskValue}
use Rattle.agent_core.specs.State.{Plan, State, Ask, Asks, swept}
use Rattle.agent_core.specs.Journals.{Entry, state_after, told_at, IsMeant}
use Rattle.shard_core.specs.Looking.{Answered, IsLook, IsTaken}
use Rattle.shard_core.specs.Names.{book}
use Rattle.agent_core.specs.Views.{ask_of, entry_of, plan_of}
use Rattle.agent_core.proofs.Asks.{on_err}
use Rattle.shard_core.proofs.Judging.{replayed, full}
use Rattle.shard_core.proofs.Looks.{last_at, new_count, is_taken}
use Rattle.shard_core.proofs.NewAsks.{wanted_now}
use Rattle.shard_core.proofs.shard.asking.ask.Goals as goal

pub overflow_add-look : goal.overflow_add-look
overflow_add-look c = omega (arith, c.look_at-look.ensures.few, c.len.ensures.value, c.len.ensures.fits)

pub overflow_cast-held : goal.overflow_cast-held
overflow_cast-held c = omega (arith, c.look_at-look.ensures.few)

pub refuse-requires-clause-plain : goal.refuse-requires-clause-plain
refuse-requires-clause-plain c =
    let plan : Plan = plan_of c.args.plan.now in
    let journal : List Entry = map entry_of c.args.entries.now.items in
    let s : State = state_after plan journal in
    let a : Ask = ask_of c.args.asked.value in
    let look = rw (c.deref.ensures.value, c.deref-2.ensures) at c.look_at-look.ensures in
    let last = last_at plan journal c.args.store.now c.requires.kept.store_is a c.look_at-look.result look c.index.result.now c.index.ensures in
    replayed (swept plan.keep c.look_at-look.result.moment s) a c.index.result.now.last last (omega (arith, c.if-deref-last.true, ap (λ (x : AskValue). x.seq) c.deref-3.ensures))

pub refuse-requires-then-look-len-gt-MAX_OWN-clause-plain : goal.refuse-requires-then-look-len-gt-MAX_OWN-clause-plain
refuse-requires-then-look-len-gt-MAX_OWN-clause-plain c =
    let plan : Plan = plan_of c.args.plan.now in
    let journal : List Entry = map entry_of c.args.entries.now.items in
    let s : State = state_after plan journal in
    let a : Ask = ask_of c.args.asked.value in
    let look = rw (c.deref.ensures.value, c.deref-2.ensures) at c.look_at-look.ensures in
    let last = last_at plan journal c.args.store.now c.requires.kept.store_is a c.look_at-look.result look c.index.result.now c.index.ensures in
    let new = new_count plan journal c.args.store.now c.requires.kept.store_is a c.look_at-look.result look in
    full (swept plan.keep c.look_at-look.result.moment s) a c.look_at-look.result.held (omega (arith, last, c.if-deref-last.false, ap (λ (x : AskValue). x.seq) c.deref-3.ensures))
    (sym look.held) (omega (arith, new, c.len.ensures.value, c.if-look-len-gt-MAX_OWN.true))

pub refuse-requires-then-look-len-gt-MAX_OWN-clause-look : goal.refuse-requires-then-look-len-gt-MAX_OWN-clause-look
refuse-requires-then-look-len-gt-MAX_OWN-clause-look c = rw (c.deref.ensures.value, c.deref-2.ensures) at c.look_at-look.ensures

pub returns-in_err-kept-clause-wanted : goal.returns-in_err-kept-clause-wanted
returns-in_err-kept-clause-wanted c =
    let plan : Plan = plan_of c.args.plan.now in
    let journal : List Entry = map entry_of c.args.entries.now.items in
    let a : Ask = ask_of c.args.asked.value in
    let look = rw (c.deref.ensures.value, c.deref-2.ensures) at c.look_at-look.ensures in
    let taken = is_taken plan journal c.args.store.now c.requires.kept.store_is a c.look_at-look.result look c.index.result.now c.index.ensures
    (omega (arith, c.if-deref-last.false, ap (λ (x : AskValue). x.seq) c.deref-3.ensures)) (omega (arith, c.len.ensures.value, c.if-look-len-gt-MAX_OWN.false)) in
    on_err c.from_residual.result (wanted_now plan journal c.args.store.now c.requires.kept.store_is a c.look_at-look.result look taken)

-- ---- the Ask that is kept says the same

pub ask_new-requires-clause-meant : goal.ask_new-requires-clause-meant
ask_new-requires-clause-meant c =
    subst (λ (a : Ask). IsMeant (plan_of c.args.plan.now) (map entry_of c.args.entries.now.items) (Asks a)) (sym c.in_ok-kept.ensures) c.requires.meant

pub ask_new-requires-clause-short : goal.ask_new-requires-clause-short
ask_new-requires-clause-short c =
    let same : length (ask_of c.in_ok-kept.kept.value).list ≡ length (ask_of c.args.asked.value).list = ap (λ (a : Ask). length a.list) c.in_ok-kept.ensures in
    omega (arith, same, length-map c.in_ok-kept.kept.value.list.value.items grant, length-map c.args.asked.value.list.value.items grant, c.requires.short)

pub ask_new-requires-clause-look : goal.ask_new-requires-clause-look
ask_new-requires-clause-look c =
    let plan : Plan = plan_of c.args.plan.now in
    let journal : List Entry = map entry_of c.args.entries.now.items in
    let look = rw (c.deref.ensures.value, c.deref-2.ensures) at c.look_at-look.ensures in
    subst (λ (a : Ask). IsLook (book plan journal) c.args.store.now a c.look_at-look.result) (sym c.in_ok-kept.ensures) look

pub ask_new-requires-clause-judged : goal.ask_new-requires-clause-judged
ask_new-requires-clause-judged c =
    let plan : Plan = plan_of c.args.plan.now in
    let journal : List Entry = map entry_of c.args.entries.now.items in
    let s : State = state_after plan journal in
    let look = rw (c.deref.ensures.value, c.deref-2.ensures) at c.look_at-look.ensures in
    let taken = is_taken plan journal c.args.store.now c.requires.kept.store_is (ask_of c.args.asked.value) c.look_at-look.result look c.index.result.now c.index.ensures
    (omega (arith, c.if-deref-last.false, ap (λ (x : AskValue). x.seq) c.deref-3.ensures)) (omega (arith, c.len.ensures.value, c.if-look-len-gt-MAX_OWN.false)) in
    subst (λ (a : Ask). IsTaken (swept plan.keep c.look_at-look.result.moment s) a) (sym c.in_ok-kept.ensures) taken

pub returns-clause-answered : goal.returns-clause-answered
returns-clause-answered c =
    subst (λ (a : Ask). IfOk c.ask_new.result (λ answer. Answered (plan_of c.args.plan.now) c.args.entries.now (Asks a) answer c.ask_new.new.entries c.ask_new.new.store)) c.in_ok-kept.ensures c.ask_new.ensures.answered

pub returns-clause-wanted : goal.returns-clause-wanted
returns-clause-wanted c =
    subst (λ (a : Ask). OnErr c.ask_new.result (TakesMemory (told_at (plan_of c.args.plan.now) (map entry_of c.args.entries.now.items) (Asks a)))) c.in_ok-kept.ensures c.ask_new.ensures.wanted
