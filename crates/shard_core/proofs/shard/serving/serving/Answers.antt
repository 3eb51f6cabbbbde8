-- the first entry that is served is found
use Rattle.std.proofs.Common.{◌≡◌, length, Some, slice_get, IsSome, refl, sym, ap, ◌∙◌, subst, arith}
use Rattle.std.specs.Arc.{arc_value}
use Rattle.std.specs.declared.alloc.Global.{Global}
use Rattle.std.specs.declared.vec.Vec.{Vec}
use Rattle.prin_term.specs.declared.term.Entry.{Entry}
use Rattle.std.proofs.lemmas.List.{length-map}
use Rattle.prin_term.specs.View.{grant}
use Rattle.proof_cache.specs.Cached.{cached}
use Rattle.proof_cache.specs.declared.cached.Cached.{Cached as CachedValue}
use Rattle.denial_link.proofs.Places.{entry_at}
use Rattle.agent_core.specs.Caches.{unlapsed}
use Rattle.agent_core.specs.State.{Ask}
use Rattle.agent_core.specs.Views.{ask_of}
use Rattle.agent_core.proofs.Asks.{on_err}
use Rattle.shard_core.proofs.Serving.{served_here, served_none, none_served, none_served_more}
use Rattle.shard_core.proofs.shard.serving.serving.Goals as goal

pub returns-in_err-try_clone-clause-wanted : goal.returns-in_err-try_clone-clause-wanted
returns-in_err-try_clone-clause-wanted c =
    let now = unlapsed c.args.moment c.args.cache.now in
    let a : Ask = ask_of c.args.asked.now in
    let long : c.len-place-end.result ≡ length c.args.asked.now.list.value.items = c.len-place-end.ensures ∙ c.deref.result.now.ok.0 ∙ ap (λ (v : Vec Entry Global). length v.items) c.deref.ensures in
    let at : slice_get a.list c.loop-place.place ≡ Some (grant c.index.result.now) = entry_at c.args.asked.now.list.value.items c.loop-place.place c.index.result.now (rw c.deref-in-loop-place.ensures at c.index.ensures) (omega (arith, long, c.loop-place-test.true)) in
    let (first, found) = served_here now a c.loop-place.place (grant c.index.result.now) (cached (arc_value {X = CachedValue} c.in-Some.kept.now)) c.loop-place.invariant at c.in-Some.ensures in
    on_err c.from_residual.result (subst IsSome (sym first) refl)

pub returns-in-Some-clause-serves : goal.returns-in-Some-clause-serves
returns-in-Some-clause-serves c =
    let now = unlapsed c.args.moment c.args.cache.now in
    let a : Ask = ask_of c.args.asked.now in
    let long : c.len-place-end.result ≡ length c.args.asked.now.list.value.items = c.len-place-end.ensures ∙ c.deref.result.now.ok.0 ∙ ap (λ (v : Vec Entry Global). length v.items) c.deref.ensures in
    let at : slice_get a.list c.loop-place.place ≡ Some (grant c.index.result.now) = entry_at c.args.asked.now.list.value.items c.loop-place.place c.index.result.now (rw c.deref-in-loop-place.ensures at c.index.ensures) (omega (arith, long, c.loop-place-test.true)) in
    let (first, found) = served_here now a c.loop-place.place (grant c.index.result.now) (cached (arc_value {X = CachedValue} c.in-Some.kept.now)) c.loop-place.invariant at c.in-Some.ensures in
    (grant c.index.result.now, first, at, found ∙ ap (λ (x : CachedValue). Some (cached x)) (sym c.in_ok-try_clone.ensures))

pub loop-place-preserved : goal.loop-place-preserved
loop-place-preserved c =
    let now = unlapsed c.args.moment c.args.cache.now in
    let a : Ask = ask_of c.args.asked.now in
    let long : c.len-place-end.result ≡ length c.args.asked.now.list.value.items = c.len-place-end.ensures ∙ c.deref.result.now.ok.0 ∙ ap (λ (v : Vec Entry Global). length v.items) c.deref.ensures in
    let at : slice_get a.list c.loop-place.place ≡ Some (grant c.index.result.now) = entry_at c.args.asked.now.list.value.items c.loop-place.place c.index.result.now (rw c.deref-in-loop-place.ensures at c.index.ensures) (omega (arith, long, c.loop-place-test.true)) in
    none_served_more now a c.loop-place.place (grant c.index.result.now) c.loop-place.invariant at (served_none now a.subject a.right (grant c.index.result.now) c.in_default.ensures)

pub returns-clause-serves : goal.returns-clause-serves
returns-clause-serves c =
    let long : c.len-place-end.result ≡ length c.args.asked.now.list.value.items = c.len-place-end.ensures ∙ c.deref.result.now.ok.0 ∙ ap (λ (v : Vec Entry Global). length v.items) c.deref.ensures in
    none_served (unlapsed c.args.moment c.args.cache.now) (ask_of c.args.asked.now) c.loop-place.place (omega (arith, long, length-map c.args.asked.now.list.value.items grant)) c.loop-place.invariant
