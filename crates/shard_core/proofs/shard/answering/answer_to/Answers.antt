-- each event makes of the kept proofs what its entry says, and what is told is answered
use Rattle.std.proofs.Common.{map, refl, sym, subst}
use Rattle.stmt_codec.specs.View.{certificates}
use Rattle.agent_core.specs.Answers.{TakesMemory}
use Rattle.agent_core.specs.State.{Holds, Discards, Forgets, Expires, Withdraws}
use Rattle.agent_core.specs.Journals.{told_at}
use Rattle.shard_core.specs.Looking.{Answered}
use Rattle.agent_core.specs.Views.{entry_of, event_of, plan_of}
use Rattle.agent_core.proofs.Asks.{on_err}
use Rattle.shard_core.proofs.KeptMore.{tells_follow}
use Rattle.shard_core.proofs.Stepping.{told_answered}
use Rattle.shard_core.proofs.shard.answering.answer_to.Goals as goal

pub returns-in_ok-told-in-Keep-clause-answered : goal.returns-in_ok-told-in-Keep-clause-answered
returns-in_ok-told-in-Keep-clause-answered c =
    subst (λ e. Answered (plan_of c.args.plan.now) c.args.entries.now (event_of e) c.answer.result c.keep.new.entries c.args.store.now) (sym c.in-Keep.is)
    (told_answered c.answer.result c.answer.ensures c.in_ok-told-in-Keep.ensures.tells)

pub returns-in_err-told-in-Keep-clause-wanted : goal.returns-in_err-told-in-Keep-clause-wanted
returns-in_err-told-in-Keep-clause-wanted c =
    on_err c.from_residual.result
    (subst (λ e. TakesMemory (told_at (plan_of c.args.plan.now) (map entry_of c.args.entries.now.items) (event_of e))) (sym c.in-Keep.is)
    (subst TakesMemory (sym c.in_err-told-in-Keep.ensures.wanted) tt))

pub returns-in-Hold-clause-answered : goal.returns-in-Hold-clause-answered
returns-in-Hold-clause-answered c =
    subst (λ e. Answered (plan_of c.args.plan.now) c.args.entries.now (event_of e) c.answer-in-Hold.result c.hold.new.entries c.hold.new.store) (sym c.in-Hold.is)
    (told_answered c.answer-in-Hold.result c.answer-in-Hold.ensures c.hold.ensures.tells)

pub returns-in-Hold-clause-cached : goal.returns-in-Hold-clause-cached
returns-in-Hold-clause-cached c =
    tells_follow (plan_of c.args.plan.now) c.args.entries.now c.hold.new.entries (Holds (certificates c.in-Hold.certs.value.items)) c.hold.result c.hold.new.store c.hold.ensures.tells c.args.cache.now c.args.cache.now c.requires.cached refl

pub returns-in-Discard-clause-answered : goal.returns-in-Discard-clause-answered
returns-in-Discard-clause-answered c =
    subst (λ e. Answered (plan_of c.args.plan.now) c.args.entries.now (event_of e) c.answer-in-Discard.result c.discard-told.new.entries c.discard-told.new.store) (sym c.in-Discard.is)
    (told_answered c.answer-in-Discard.result c.answer-in-Discard.ensures c.discard-told.ensures.tells)

pub returns-in-Discard-clause-cached : goal.returns-in-Discard-clause-cached
returns-in-Discard-clause-cached c =
    tells_follow (plan_of c.args.plan.now) c.args.entries.now c.discard-told.new.entries (Discards c.in-Discard.digest) c.discard-told.result c.discard-told.new.store c.discard-told.ensures.tells c.args.cache.now c.purge_cert.new.self c.requires.cached c.purge_cert.ensures

pub returns-in-Forget-clause-answered : goal.returns-in-Forget-clause-answered
returns-in-Forget-clause-answered c =
    subst (λ e. Answered (plan_of c.args.plan.now) c.args.entries.now (event_of e) c.answer-in-Forget.result c.forget-told.new.entries c.forget-told.new.store) (sym c.in-Forget.is)
    (told_answered c.answer-in-Forget.result c.answer-in-Forget.ensures c.forget-told.ensures.tells)

pub returns-in-Forget-clause-cached : goal.returns-in-Forget-clause-cached
returns-in-Forget-clause-cached c =
    tells_follow (plan_of c.args.plan.now) c.args.entries.now c.forget-told.new.entries (Forgets c.in-Forget.channel) c.forget-told.result c.forget-told.new.store c.forget-told.ensures.tells c.args.cache.now c.purge_channel.new.self c.requires.cached c.purge_channel.ensures

pub returns-in-Expire-clause-answered : goal.returns-in-Expire-clause-answered
returns-in-Expire-clause-answered c =
    subst (λ e. Answered (plan_of c.args.plan.now) c.args.entries.now (event_of e) c.answer-in-Expire.result c.expire-told.new.entries c.expire-told.new.store) (sym c.in-Expire.is)
    (told_answered c.answer-in-Expire.result c.answer-in-Expire.ensures c.expire-told.ensures.tells)

pub returns-in-Expire-clause-cached : goal.returns-in-Expire-clause-cached
returns-in-Expire-clause-cached c =
    tells_follow (plan_of c.args.plan.now) c.args.entries.now c.expire-told.new.entries (Expires c.in-Expire.reading) c.expire-told.result c.expire-told.new.store c.expire-told.ensures.tells c.args.cache.now c.purge_before.new.self c.requires.cached c.purge_before.ensures

pub returns-in-Withdraw-clause-answered : goal.returns-in-Withdraw-clause-answered
returns-in-Withdraw-clause-answered c =
    subst (λ e. Answered (plan_of c.args.plan.now) c.args.entries.now (event_of e) c.answer-in-Withdraw.result c.withdraw-told.new.entries c.withdraw-told.new.store) (sym c.in-Withdraw.is)
    (told_answered c.answer-in-Withdraw.result c.answer-in-Withdraw.ensures c.withdraw-told.ensures.tells)

pub returns-in-Withdraw-clause-cached : goal.returns-in-Withdraw-clause-cached
returns-in-Withdraw-clause-cached c =
    tells_follow (plan_of c.args.plan.now) c.args.entries.now c.withdraw-told.new.entries (Withdraws c.in-Withdraw.issuer) c.withdraw-told.result c.withdraw-told.new.store c.withdraw-told.ensures.tells c.args.cache.now c.purge.new.cache c.requires.cached c.purge.ensures
