use Rattle.std.proofs.Common.{rules, ◌≡◌, ◌≤◌, ◌∷◌, [], inl, refl, true, None, List, ap, arith, length, length-append}
use Rattle.std.proofs.lemmas.Result.{err_from_is_err_and}
use Rattle.agent_core.specs.Journals.{ShardSeen}
use Rattle.audit_replay.specs.declared.stepping.ShardReplay.{ShardReplay}
use Rattle.audit_replay.specs.Passes.{ShardsCome}
use Rattle.audit_replay.proofs.Passing.{reading}
use Rattle.audit_replay.proofs.ShardsComing.{ShardsSoFar, journal, shard_fails, shard_follows, shards_begin, shards_end}
use Rattle.audit_replay.proofs.Splits.{left_more, next_within}
use Rattle.audit_replay.proofs.shards.replay_shards.Goals as goal

pub returns-in_err-replayed-clause-value : goal.returns-in_err-replayed-clause-value
returns-in_err-replayed-clause-value g c =
    let p = err_from_is_err_and c.from_residual.result c.from_residual.ensures.1 in
    rw (p.1, p.2) (inl refl)

pub loop-shard-init : goal.loop-shard-init
loop-shard-init g c =
    let all = c.args.shards.items in
    let rs = c.in_ok-replayed.replayed.items in
    let none : rs ≡ [] = c.in_ok-replayed.ensures.items in
    record {
      read = reading (journal c.args.bytes.now all c.args.at) (length all) c.args.at (ShardsSoFar all 0 rs (record { same = true; failure = None; entries = 0 })) (shards_begin all rs none);
      left = search rules;
      few = omega (arith, ap (λ (l : List ShardReplay). length l) none);
      within = (omega arith, c.requires.within);
    }

pub next_shard-requires : goal.next_shard-requires
next_shard-requires g c =
    let i = c.loop-shard.invariant in
    let less = next_within c.loop-shard.yielded c.loop-shard.shard-iterator.rest.items c.next.new.self.rest.items c.args.shards.items c.in-Some.shard c.in-Some.ensures.steps.0 i.left in
    record { within = i.within; few = omega (arith, i.few, less, c.requires.few) }

pub returns-in_err-progress-clause-value : goal.returns-in_err-progress-clause-value
returns-in_err-progress-clause-value g c =
    let i = c.loop-shard.invariant in
    let p = err_from_is_err_and c.from_residual-in_err-progress.result c.from_residual-in_err-progress.ensures.1 in
    rw (p.1, p.2) (shard_fails c.args.bytes.now c.args.shards.items c.args.at (ShardsCome c.args.shards.items) c.loop-shard.yielded c.loop-shard.shard-iterator.rest.items c.next.new.self.rest.items c.in-Some.shard c.loop-shard.next c.loop-shard.replayed.items
    c.loop-shard.progress c.in_err-progress.field-0.0 c.in-Some.ensures.steps.0 i.left i.read c.in_err-progress.ensures.value)

pub loop-shard-preserved : goal.loop-shard-preserved
loop-shard-preserved g c =
    let i = c.loop-shard.invariant in
    let steps = c.in-Some.ensures.steps.0 in
    record {
      read = shard_follows c.args.bytes.now c.args.shards.items c.args.at c.loop-shard.yielded c.loop-shard.shard-iterator.rest.items c.next.new.self.rest.items c.in-Some.shard c.loop-shard.next c.in_ok-progress.field-0-1 c.loop-shard.replayed.items
          c.next_shard.new.replayed.items c.loop-shard.progress c.in_ok-progress.field-0-0 steps i.left i.read c.in_ok-progress.ensures.value;
      left = left_more c.loop-shard.yielded c.loop-shard.shard-iterator.rest.items c.next.new.self.rest.items c.args.shards.items c.in-Some.shard steps i.left;
      few = omega (arith, i.few, c.next_shard.ensures.few, length-append c.loop-shard.yielded (c.in-Some.shard ∷ []));
      within = c.in_ok-progress.ensures.within;
    }

pub returns-clause-value : goal.returns-clause-value
returns-clause-value g c =
    let i = c.loop-shard.invariant in
    let gone = c.loop-shard.yielded in
    let rest = c.loop-shard.shard-iterator.rest.items in
    let all = c.args.shards.items in
    let none : length rest ≡ 0 = search rules in
    let over : length all ≤ length gone = omega (arith, none, ap (λ (l : List ShardSeen). length l) i.left, length-append gone rest) in
    shards_end c.args.bytes.now all c.args.at (length gone) c.loop-shard.next c.loop-shard.replayed c.loop-shard.progress over i.read
