-- the Ask's step, and what it came to, make the whole
use Rattle.std.proofs.Common.{List, length, replicate, true, sym, ap, subst}
use Rattle.stmt_codec.specs.View.{certificates}
use Rattle.taos_calculus.specs.Question.{IsAskable}
use Rattle.agent_core.specs.Plans.{AreShards, home}
use Rattle.std.specs.Arc.{arc_value}
use Rattle.proof_cache.specs.Cached.{Cached, cached}
use Rattle.proof_cache.specs.declared.cached.Cached.{Cached as CachedValue}
use Rattle.agent_core.specs.declared.asked.Verdict.TheVariants as verdict
use Rattle.agent_core.specs.Journals.{IsKeepable}
use Rattle.agent_core.specs.Asked.{IsDeniedBy}
use Rattle.agent_core.specs.Settling.{KeptAs, Settles}
use Rattle.agent_core.specs.Shards.{shard_at}
use Rattle.agent_core.specs.Steps.{StepRefused}
use Rattle.agent_core.specs.State.{Plan, Ask, Keeps}
use Rattle.agent_core.specs.Views.{ask_of}
use Rattle.agent_core.proofs.Asks.{on_err, lacked_asks, missed_step, replayed_ends, full_ends, journal_full_ends, hit_ends, hit_made, leaves_twice, other_never, judged_by, denied_asks, unanswered_asks, ends_made, standing, askable, anchors_are}
use Rattle.agent_core.proofs.Granting.{by_home, granted_there, home_stays, kept_asks, may_keep, unkept_asks, was_home}
use Rattle.denial_link.proofs.Places.{certificate_count}
use Rattle.agent_core.proofs.whole_ask.ask.Goals as goal

pub returns-in_err-place-clause-unanswered : goal.returns-in_err-place-clause-unanswered
returns-in_err-place-clause-unanswered g c plan at = on_err c.from_residual.result (lacked_asks _ (c.in_err-place.ensures.refused plan at))

pub settle-requires : goal.settle-requires
settle-requires g c =
    let plans : List Plan = (g.S.Shards.shown c.args.shards.now).plans in
    let (plan, at) = standing plans (home plans c.args.asked.value.channel) c.in_ok-place.ensures.there in
    let s = missed_step (c.in_ok-place.ensures.steps plan at) c.in-Miss.snapshot c.in-Miss.is in
    let are = subst (λ p. AreShards p c.anchors.result.now) c.in_ok-place.ensures.rest.plans c.anchors.ensures in
    let certs = certificates c.in-Miss.snapshot.certs.items in
    subst (λ (x : Ask). IsAskable c.anchors.result.now certs (replicate (length c.in-Miss.snapshot.certs.items) true) x.subject x.list) (sym (ap ask_of c.deref.ensures))
    (askable plans c.anchors.result.now are (home plans c.args.asked.value.channel) plan at s.before (ask_of c.args.asked.value) c.in-Miss.snapshot.moment certs (length c.in-Miss.snapshot.certs.items)
    (certificate_count c.in-Miss.snapshot.certs.items) (judged_by _ _ _ _ s) c.requires.fits)

pub returns-in_err-entry-in-Miss-clause-unanswered : goal.returns-in_err-entry-in-Miss-clause-unanswered
returns-in_err-entry-in-Miss-clause-unanswered g c plan at =
    let plans : List Plan = (g.S.Shards.shown c.args.shards.now).plans in
    let s = missed_step (c.in_ok-place.ensures.steps plan at) c.in-Miss.snapshot c.in-Miss.is in
    let are = subst (λ p. AreShards p c.anchors.result.now) c.in_ok-place.ensures.rest.plans c.anchors.ensures in
    on_err c.from_residual-in_err-entry-in-Miss.result
    (unanswered_asks _ _ _ _ s c.anchors.result.now (anchors_are plans c.anchors.result.now are (home plans c.args.asked.value.channel) plan at)
    (ask_of c.deref.result.now) (ap ask_of c.deref.ensures) c.in_err-entry-in-Miss.ensures.wanted)

pub keep_at_home-requires-clause-meant : goal.keep_at_home-requires-clause-meant
keep_at_home-requires-clause-meant g c = λ lifetimes lives plan at.
    let asked = ap ask_of c.deref-in-Granted.ensures in
    let there = was_home c.in_ok-place.ensures.rest.plans asked at in
    let s = missed_step (c.in_ok-place.ensures.steps plan there) c.in-Miss.snapshot c.in-Miss.is in
    let granted = granted_there c.in_ok-place.ensures.rest.plans c.anchors.ensures (ap ask_of c.deref.ensures) there (certificates c.in-Miss.snapshot.certs.items) c.in-Miss.snapshot.moment
    c.in-Granted.is c.in_ok-entry-in-Miss.ensures.settled in
    subst (λ n. IsKeepable plan ((g.S.Shards.shown c.step_at_home.new.shards).seen n) c.in_ok-place.place c.in-Granted.entry (cached (arc_value {X = CachedValue} c.in-Granted.cached)))
    (sym (home_stays c.in_ok-place.ensures.rest.plans asked))
    (may_keep (ask_of c.args.asked.value) c.in_ok-place.place c.in-Miss.snapshot.moment (certificates c.in-Miss.snapshot.certs.items) s
    c.in-Granted.entry (cached (arc_value {X = CachedValue} c.in-Granted.cached)) granted)

pub returns-in_err-settled-in-Granted-clause-unanswered : goal.returns-in_err-settled-in-Granted-clause-unanswered
returns-in_err-settled-in-Granted-clause-unanswered g c plan at =
    let later = g.S.Shards.shown c.keep_at_home.new.shards in
    let s = missed_step (c.in_ok-place.ensures.steps plan at) c.in-Miss.snapshot c.in-Miss.is in
    let granted = granted_there c.in_ok-place.ensures.rest.plans c.anchors.ensures (ap ask_of c.deref.ensures) at (certificates c.in-Miss.snapshot.certs.items) c.in-Miss.snapshot.moment
    c.in-Granted.is c.in_ok-entry-in-Miss.ensures.settled in
    let refused = by_home c.in_ok-place.ensures.rest.plans (ap ask_of c.deref-in-Granted.ensures)
    (λ n. StepRefused plan (shard_at (g.S.Shards.shown c.step_at_home.new.shards) n) (shard_at later n)) at (c.in_err-settled-in-Granted.ensures.refused plan) in
    on_err c.from_residual-in_err-settled-in-Granted.result
    (unkept_asks (ask_of c.args.asked.value) c.in_ok-place.place c.in-Miss.snapshot.moment (certificates c.in-Miss.snapshot.certs.items) s
    c.in-Granted.entry (cached (arc_value {X = CachedValue} c.in-Granted.cached)) granted
    (shard_at later (home (g.S.Shards.shown c.args.shards.now).plans c.args.asked.value.channel)) c.in_ok-place.ensures.rest.alone refused)

pub returns-in-Granted-clause-asked : goal.returns-in-Granted-clause-asked
returns-in-Granted-clause-asked g c plan at =
    let later = g.S.Shards.shown c.keep_at_home.new.shards in
    let settled = c.in_ok-settled-in-Granted.settled in
    let s = missed_step (c.in_ok-place.ensures.steps plan at) c.in-Miss.snapshot c.in-Miss.is in
    let granted = granted_there c.in_ok-place.ensures.rest.plans c.anchors.ensures (ap ask_of c.deref.ensures) at (certificates c.in-Miss.snapshot.certs.items) c.in-Miss.snapshot.moment
    c.in-Granted.is c.in_ok-entry-in-Miss.ensures.settled in
    let kept : Cached = cached (arc_value {X = CachedValue} c.in-Granted.cached) in
    let became = by_home c.in_ok-place.ensures.rest.plans (ap ask_of c.deref-in-Granted.ensures)
    (λ n. KeptAs plan (shard_at (g.S.Shards.shown c.step_at_home.new.shards) n) (shard_at later n) (Keeps c.in_ok-place.place c.in-Granted.entry kept) settled) at (c.in_ok-settled-in-Granted.ensures.kept plan) in
    kept_asks (ask_of c.args.asked.value) c.in_ok-place.place c.in-Miss.snapshot.moment (certificates c.in-Miss.snapshot.certs.items) s c.in-Granted.entry kept granted
    (shard_at later (home (g.S.Shards.shown c.args.shards.now).plans c.args.asked.value.channel)) c.in_ok-place.ensures.rest.alone settled became

pub returns-in_err-settled-in-Granted-clause-rest : goal.returns-in_err-settled-in-Granted-clause-rest
returns-in_err-settled-in-Granted-clause-rest g c =
    let before = g.S.Shards.shown c.args.shards.now in
    let mid = g.S.Shards.shown c.step_at_home.new.shards in
    leaves_twice before mid (g.S.Shards.shown c.keep_at_home.new.shards) (home before.plans c.args.asked.value.channel) (home mid.plans c.deref-in-Granted.result.now.channel)
    (home_stays c.in_ok-place.ensures.rest.plans (ap ask_of c.deref-in-Granted.ensures)) c.in_ok-place.ensures.rest c.in_err-settled-in-Granted.ensures.rest

pub returns-in-Granted-clause-rest : goal.returns-in-Granted-clause-rest
returns-in-Granted-clause-rest g c =
    let before = g.S.Shards.shown c.args.shards.now in
    let mid = g.S.Shards.shown c.step_at_home.new.shards in
    leaves_twice before mid (g.S.Shards.shown c.keep_at_home.new.shards) (home before.plans c.args.asked.value.channel) (home mid.plans c.deref-in-Granted.result.now.channel)
    (home_stays c.in_ok-place.ensures.rest.plans (ap ask_of c.deref-in-Granted.ensures)) c.in_ok-place.ensures.rest c.in_ok-settled-in-Granted.ensures.rest

pub returns-in-Miss-clause-asked : goal.returns-in-Miss-clause-asked
returns-in-Miss-clause-asked g c plan at =
    let plans : List Plan = (g.S.Shards.shown c.args.shards.now).plans in
    let s = missed_step (c.in_ok-place.ensures.steps plan at) c.in-Miss.snapshot c.in-Miss.is in
    let are = subst (λ p. AreShards p c.anchors.result.now) c.in_ok-place.ensures.rest.plans c.anchors.ensures in
    let certs = certificates c.in-Miss.snapshot.certs.items in
    let denied : IsDeniedBy c.anchors.result.now certs c.in-Miss.snapshot.moment (ask_of c.deref.result.now) c.in-Denied.denial =
    subst (Settles c.anchors.result.now certs c.in-Miss.snapshot.moment (ask_of c.deref.result.now)) c.in-Denied.is c.in_ok-entry-in-Miss.ensures.settled in
    ends_made c.ended.result c.in_ok-place.place (verdict.Denied c.in-Denied.denial) c.ended.ensures
    (denied_asks _ _ _ _ s c.anchors.result.now (anchors_are plans c.anchors.result.now are (home plans c.args.asked.value.channel) plan at) (ask_of c.deref.result.now) (ap ask_of c.deref.ensures) c.in-Denied.denial denied)

pub returns-in-Replayed-clause-asked : goal.returns-in-Replayed-clause-asked
returns-in-Replayed-clause-asked g c plan at =
    ends_made c.ended-in-Replayed.result c.in_ok-place.place _ c.ended-in-Replayed.ensures (replayed_ends (c.in_ok-place.ensures.steps plan at) c.in-Replayed.last c.in-Replayed.is)

pub returns-in-Full-clause-asked : goal.returns-in-Full-clause-asked
returns-in-Full-clause-asked g c plan at =
    ends_made c.ended-in-Full.result c.in_ok-place.place _ c.ended-in-Full.ensures (full_ends (c.in_ok-place.ensures.steps plan at) c.in-Full.held c.in-Full.is)

pub returns-in-JournalFull-clause-asked : goal.returns-in-JournalFull-clause-asked
returns-in-JournalFull-clause-asked g c plan at =
    ends_made c.ended-in-JournalFull.result c.in_ok-place.place _ c.ended-in-JournalFull.ensures (journal_full_ends (c.in_ok-place.ensures.steps plan at) c.in-JournalFull.length c.in-JournalFull.is)

pub returns-in-Hit-clause-asked : goal.returns-in-Hit-clause-asked
returns-in-Hit-clause-asked g c plan at =
    hit_made c.ended-in-Hit.result c.in_ok-place.place c.in-Hit.entry c.in-Hit.cached c.ended-in-Hit.ensures (hit_ends (c.in_ok-place.ensures.steps plan at) c.in-Hit.entry c.in-Hit.cached c.in-Hit.is)

pub unreachable-requires : goal.unreachable-requires
unreachable-requires g c =
    let plans : List Plan = (g.S.Shards.shown c.args.shards.now).plans in
    let (plan, at) = standing plans (home plans c.args.asked.value.channel) c.in_ok-place.ensures.there in
    other_never (c.in_ok-place.ensures.steps plan at) c.in-Kept.is
