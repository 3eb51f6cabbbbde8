-- the shard's number is the channel's home, and a Keep is told these alone
use Rattle.std.proofs.Common.{◌≡◌, ◌%◌, List, slice_get, ap, ◌∙◌, refl, sym, subst, arith}
use Rattle.proof_cache.specs.Cached.{cached}
use Rattle.proof_cache.specs.declared.cached.Cached.{Cached}
use Rattle.agent_core.specs.Journals.{IsKeepable}
use Rattle.agent_core.specs.Plans.{home}
use Rattle.agent_core.specs.Shards.{shard_at}
use Rattle.agent_core.specs.State.{Plan}
use Rattle.agent_core.specs.Steps.{StepRefused}
use Rattle.agent_core.proofs.Asks.{leaves_itself, on_err, standing}
use Rattle.agent_core.proofs.Granting.{never_kept}
use Rattle.agent_core.proofs.Onward.{begins_itself}
use Rattle.agent_core.proofs.whole_ask.keep_at_home.Goals as goal

pub returns-in_err-try_clone-clause-refused : goal.returns-in_err-try_clone-clause-refused
returns-in_err-try_clone-clause-refused g c plan at =
    on_err c.from_residual.result (record { goes_on = begins_itself _; undisturbed = λ e. refl; legal = c.known.ensures.legal _ plan at; owned = refl })

pub returns-in_err-try_clone-clause-rest : goal.returns-in_err-try_clone-clause-rest
returns-in_err-try_clone-clause-rest g c = leaves_itself _ _

pub step-requires-clause-meant : goal.step-requires-clause-meant
step-requires-clause-meant g c plan at =
    let before = g.S.Shards.shown c.args.shards.now in
    let same : c.args.channel % c.count.result ≡ home before.plans c.args.channel = ap (λ n. c.args.channel % n) c.count.ensures.count in
    subst (λ (x : Cached). IsKeepable plan (before.seen (c.args.channel % c.count.result)) c.args.place c.args.entry (cached x)) (sym c.in_ok-try_clone.ensures)
    (subst (λ n. IsKeepable plan (before.seen n) c.args.place c.args.entry (cached c.args.proof.now.value)) (sym same) (c.requires.meant plan (ap (slice_get before.plans) (sym same) ∙ at)))

pub returns-in_err-answer-clause-refused : goal.returns-in_err-answer-clause-refused
returns-in_err-answer-clause-refused g c plan at =
    let before = g.S.Shards.shown c.args.shards.now in
    let after = g.S.Shards.shown c.step.new.self in
    let same : c.args.channel % c.count.result ≡ home before.plans c.args.channel = ap (λ n. c.args.channel % n) c.count.ensures.count in
    on_err c.from_residual-in_err-answer.result
    (subst (λ k. StepRefused plan (shard_at before k) (shard_at after k)) same (c.in_err-answer.ensures.here plan (ap (slice_get before.plans) same ∙ at)).refused)

pub unreachable-requires : goal.unreachable-requires
unreachable-requires g c =
    let plans : List Plan = (g.S.Shards.shown c.args.shards.now).plans in
    let (plan, at) = standing plans (c.args.channel % c.count.result) (omega (arith, c.count.ensures.count, c.count.ensures.some)) in
    never_kept plan _ _ c.args.place c.args.entry _ _ c.in_ok-answer.answer (c.in_ok-answer.ensures.here plan at).steps c.in-Replayed.is
