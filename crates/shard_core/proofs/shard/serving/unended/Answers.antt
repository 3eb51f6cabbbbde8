-- no two proofs are kept for the same, so what has ended leaves none
use Rattle.std.proofs.Common.{ap, arith}
use Rattle.std.specs.Arc.{arc_value}
use Rattle.prin_term.specs.View.{principal}
use Rattle.proof_cache.specs.Cached.{cached}
use Rattle.proof_cache.specs.declared.cached.Cached.{Cached as CachedValue}
use Rattle.shard_core.proofs.Serving.{unended_none, unended_found, ended_gone}
use Rattle.shard_core.proofs.shard.serving.unended.Goals as goal

pub returns-then-moment-deref : goal.returns-then-moment-deref
returns-then-moment-deref c =
    unended_found (principal c.args.subject.now) (principal c.args.who.now) c.args.moment c.args.cache.now c.requires (cached (arc_value {X = CachedValue} c.in-Some.kept.now)) c.in-Some.ensures
    (omega (arith, c.if-moment-deref.true, ap (λ (x : CachedValue). x.lease) c.deref.ensures))

pub returns-else-moment-deref : goal.returns-else-moment-deref
returns-else-moment-deref c =
    ended_gone (principal c.args.subject.now) (principal c.args.who.now) c.args.moment c.args.cache.now c.requires (cached (arc_value {X = CachedValue} c.in-Some.kept.now)) c.in-Some.ensures
    (omega (arith, c.if-moment-deref.false, ap (λ (x : CachedValue). x.lease) c.deref.ensures))

pub returns-in-None : goal.returns-in-None
returns-in-None c = unended_none (principal c.args.subject.now) (principal c.args.who.now) c.args.moment c.args.cache.now c.requires c.in-None.ensures
