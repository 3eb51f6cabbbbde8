-- a kept proof serves the Ask, or it is to be judged
use Rattle.std.proofs.Common.{◌++◌, List, map, refl, sym, ap, ◌∙◌, subst}
use Rattle.proof_cache.specs.Cached.{Cached}
use Rattle.proof_cache.specs.Cache.{IsCache}
use Rattle.agent_core.specs.declared.event.Ask.{Ask as AskValue}
use Rattle.agent_core.specs.declared.told.Told.{Told}
use Rattle.agent_core.specs.Caches.{hit_or_miss, unlapsed, used_by}
use Rattle.agent_core.specs.Journals.{Entry, cache_after, state_after}
use Rattle.shard_core.specs.Looking.{Serves}
use Rattle.agent_core.specs.State.{Plan, State, Ask, brought, swept}
use Rattle.agent_core.specs.Views.{ask_of, entry_of, plan_of}
use Rattle.agent_core.proofs.Asks.{on_err}
use Rattle.shard_core.proofs.KeptMore.{takes_follow}
use Rattle.agent_core.proofs.KeptFew.{cache_small}
use Rattle.shard_core.proofs.NewAsks.{judged_here, wanted_now}
use Rattle.shard_core.proofs.shard.asking.ask_new.Goals as goal

pub serving-requires-clause-cache : goal.serving-requires-clause-cache
serving-requires-clause-cache c = subst IsCache (sym c.requires.cached) (cache_small (plan_of c.args.plan.now) (map entry_of c.args.entries.now.items))

pub returns-in_err-served-clause-wanted : goal.returns-in_err-served-clause-wanted
returns-in_err-served-clause-wanted c =
    on_err c.from_residual.result (wanted_now (plan_of c.args.plan.now) (map entry_of c.args.entries.now.items) c.args.store.now c.requires.kept.store_is (ask_of c.args.asked.value) c.args.look c.requires.look c.requires.judged)

pub take-requires-clause-told : goal.take-requires-clause-told
take-requires-clause-told c =
    let a : Ask = ask_of c.args.asked.value in
    let now = unlapsed c.args.look.moment (cache_after (plan_of c.args.plan.now) (map entry_of c.args.entries.now.items)) in
    let served = subst (Serves now a) c.in-Some.is (subst (λ (cs : List Cached). Serves (unlapsed c.args.look.moment cs) (ask_of c.args.asked.value) c.in_ok-served.served) c.requires.cached (rw c.deref.ensures at c.in_ok-served.ensures.serves)) in
    ap hit_or_miss (sym served.1)

pub returns-in-Some-clause-answered : goal.returns-in-Some-clause-answered
returns-in-Some-clause-answered c =
    let plan : Plan = plan_of c.args.plan.now in
    let journal : List Entry = map entry_of c.args.entries.now.items in
    let a : Ask = ask_of c.args.asked.value in
    let s : State = swept plan.keep c.args.look.moment (state_after plan journal) in
    let now = unlapsed c.args.look.moment (cache_after plan journal) in
    let served = subst (Serves now a) c.in-Some.is (subst (λ (cs : List Cached). Serves (unlapsed c.args.look.moment cs) (ask_of c.args.asked.value) c.in_ok-served.served) c.requires.cached (rw c.deref.ensures at c.in_ok-served.ensures.serves)) in
    record {
      ask = a;
      is = refl;
      takes = c.take.ensures.takes;
      moment = c.args.look.moment;
      certs = (s.own a.channel ++ brought s a) ++ s.commons;
      judged = judged_here plan journal c.args.store.now c.requires.kept.store_is a c.args.look c.requires.look c.requires.judged _ refl;
      grant = served.0;
      there = served.2;
      found = served.3;
    }

pub returns-in-Some-clause-cached : goal.returns-in-Some-clause-cached
returns-in-Some-clause-cached c =
    let a : Ask = ask_of c.args.asked.value in
    takes_follow (plan_of c.args.plan.now) c.args.entries.now c.take.new.entries a (Told.Hit c.in-Some.entry) c.take.new.store c.take.ensures.takes c.args.cache.now c.bring.new.cache c.requires.cached
    (c.bring.ensures ∙ ap (λ (x : AskValue). used_by (ask_of x) (Told.Hit c.in-Some.entry) (unlapsed c.args.look.moment c.args.cache.now)) c.deref-in-Some.ensures ∙
    ap (λ n. used_by a (Told.Hit c.in-Some.entry) (unlapsed n c.args.cache.now)) (sym c.take.ensures.clock))

pub returns-in_err-certs-in-None-clause-wanted : goal.returns-in_err-certs-in-None-clause-wanted
returns-in_err-certs-in-None-clause-wanted c =
    on_err c.from_residual-in_err-certs-in-None.result (wanted_now (plan_of c.args.plan.now) (map entry_of c.args.entries.now.items) c.args.store.now c.requires.kept.store_is (ask_of c.args.asked.value) c.args.look c.requires.look c.requires.judged)

pub take-requires-in-None-clause-told : goal.take-requires-in-None-clause-told
take-requires-in-None-clause-told c =
    let now = unlapsed c.args.look.moment (cache_after (plan_of c.args.plan.now) (map entry_of c.args.entries.now.items)) in
    ap hit_or_miss (sym (subst (Serves now (ask_of c.args.asked.value)) c.in-None.is (subst (λ (cs : List Cached). Serves (unlapsed c.args.look.moment cs) (ask_of c.args.asked.value) c.in_ok-served.served) c.requires.cached (rw c.deref.ensures at c.in_ok-served.ensures.serves))))

pub returns-in_ok-certs-in-None-clause-cached : goal.returns-in_ok-certs-in-None-clause-cached
returns-in_ok-certs-in-None-clause-cached c =
    takes_follow (plan_of c.args.plan.now) c.args.entries.now c.take-in-None.new.entries (ask_of c.args.asked.value) Told.Miss c.take-in-None.new.store c.take-in-None.ensures.takes c.args.cache.now c.purge_before.new.self c.requires.cached
    (c.purge_before.ensures ∙ ap (λ n. unlapsed n c.args.cache.now) (sym c.take-in-None.ensures.clock))

pub returns-in_ok-certs-in-None-clause-answered : goal.returns-in_ok-certs-in-None-clause-answered
returns-in_ok-certs-in-None-clause-answered c =
    let plan : Plan = plan_of c.args.plan.now in
    let journal : List Entry = map entry_of c.args.entries.now.items in
    let a : Ask = ask_of c.args.asked.value in
    record {
      ask = a;
      is = refl;
      takes = c.take-in-None.ensures.takes;
      judged = judged_here plan journal c.args.store.now c.requires.kept.store_is a c.args.look c.requires.look c.requires.judged _
          (rw (c.deref-in-None.ensures.value, c.deref-in-None-2.ensures) at c.in_ok-certs-in-None.ensures);
    }
