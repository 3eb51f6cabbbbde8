-- what a shard does by itself it does among others, of which there are none
use Rattle.std.proofs.Common.{set, subst}
use Rattle.shard_core.specs.Alone.{LoneSeen, shards_seen}
use Rattle.agent_core.specs.Shards.{StepsAmong}
use Rattle.agent_core.specs.Journals.{ShardSeen}
use Rattle.agent_core.specs.Views.{event_of}
use Rattle.shard_core.proofs.OneOwner.{shard_here, meant_here, kept_lone, lone_steps}
use Rattle.shard_core.proofs.lone.Lone.step_one.Goals as goal

pub step-requires-clause-meant : goal.step-requires-clause-meant
step-requires-clause-meant c =
    let l : LoneSeen = record { shards = c.self.inside.shards.items; opened = c.self.inside.opened.items } in
    let here = shard_here l c.args.self.now c.args.number c.index_mut.result.now c.self.view_is c.requires.there c.index_mut.ensures.value in
    meant_here l c.args.self.now c.args.number c.index_mut.result.now (event_of c.args.event) c.self.view_is here c.requires.meant

pub invariant_of-self : goal.invariant_of-self
invariant_of-self c =
    let l : LoneSeen = record { shards = c.self.inside.shards.items; opened = c.self.inside.opened.items } in
    let here = shard_here l c.args.self.now c.args.number c.index_mut.result.now c.self.view_is c.requires.there c.index_mut.ensures.value in
    kept_lone l c.self.inside.anchors.value.items c.self.invariant c.args.number c.index_mut.result.now c.step.new.self here c.step.ensures.plan (event_of c.args.event) c.step.result c.step.ensures.answered c.step.ensures.unchanged

pub returns : goal.returns
returns c =
    let l : LoneSeen = record { shards = c.self.inside.shards.items; opened = c.self.inside.opened.items } in
    let s : ShardSeen = c.index_mut.result.now in
    let here = shard_here l c.args.self.now c.args.number s c.self.view_is c.requires.there c.index_mut.ensures.value in
    let steps = lone_steps l c.self.inside.anchors.value.items c.self.invariant c.args.number s c.step.new.self here c.step.ensures.plan (event_of c.args.event) c.step.result c.step.ensures.answered c.step.ensures.wanted c.step.ensures.room c.step.ensures.unchanged in
    subst (λ v. StepsAmong (shards_seen v) (shards_seen (record { shards = set l.shards c.args.number c.step.new.self; opened = l.opened })) c.args.number (event_of c.args.event) c.step.result) c.self.view_is steps
