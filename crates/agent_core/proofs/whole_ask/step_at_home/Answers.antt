-- the shard's number is the channel's home
use Rattle.std.proofs.Common.{◌≡◌, ℕ, ◌%◌, List, slice_get, ap, ap₂, ◌∙◌, refl, subst, inl}
use Rattle.agent_core.specs.declared.event.Ask.{Ask as AskValue}
use Rattle.agent_core.specs.Plans.{home}
use Rattle.agent_core.specs.Shards.{LeavesShards}
use Rattle.agent_core.specs.State.{Plan}
use Rattle.agent_core.specs.Views.{ask_of}
use Rattle.agent_core.proofs.Asks.{leaves_itself, on_err, refused_here, steps_here}
use Rattle.agent_core.proofs.Onward.{begins_itself}
use Rattle.agent_core.proofs.whole_ask.step_at_home.Goals as goal

pub returns-in_err-try_clone-clause-refused : goal.returns-in_err-try_clone-clause-refused
returns-in_err-try_clone-clause-refused g c plan at =
    on_err c.from_residual.result (record {
      refused = record { goes_on = begins_itself _; undisturbed = λ e. refl; legal = c.known.ensures.legal _ plan at; owned = refl };
      room = inl refl;
    })

pub returns-clause-steps : goal.returns-clause-steps
returns-clause-steps g c plan at =
    let plans : List Plan = (g.S.Shards.shown c.args.shards.now).plans in
    let number : ℕ = c.deref.result.now.channel % c.count.result in
    let same : number ≡ home plans c.args.asked.now.value.channel = ap₂ (λ (x : AskValue) (n : ℕ). x.channel % n) c.deref.ensures c.count.ensures.count in
    steps_here plan (g.S.Shards.shown c.args.shards.now) (g.S.Shards.shown c.step.new.self)
    (ask_of c.in_ok-try_clone.field-0.value) (ask_of c.args.asked.now.value) number (home plans c.args.asked.now.value.channel) same (ap ask_of c.in_ok-try_clone.ensures) c.step.result
    (c.step.ensures.here plan (ap (slice_get plans) same ∙ at))

pub returns-clause-refused : goal.returns-clause-refused
returns-clause-refused g c plan at =
    let plans : List Plan = (g.S.Shards.shown c.args.shards.now).plans in
    let number : ℕ = c.deref.result.now.channel % c.count.result in
    let same : number ≡ home plans c.args.asked.now.value.channel = ap₂ (λ (x : AskValue) (n : ℕ). x.channel % n) c.deref.ensures c.count.ensures.count in
    refused_here plan (g.S.Shards.shown c.args.shards.now) (g.S.Shards.shown c.step.new.self)
    (ask_of c.in_ok-try_clone.field-0.value) (ask_of c.args.asked.now.value) number (home plans c.args.asked.now.value.channel) same (ap ask_of c.in_ok-try_clone.ensures) c.step.result
    (c.step.ensures.here plan (ap (slice_get plans) same ∙ at))

pub returns-in_err-try_clone-clause-rest : goal.returns-in_err-try_clone-clause-rest
returns-in_err-try_clone-clause-rest g c = leaves_itself _ _

pub returns-clause-rest : goal.returns-clause-rest
returns-clause-rest g c =
    let plans : List Plan = (g.S.Shards.shown c.args.shards.now).plans in
    let number : ℕ = c.deref.result.now.channel % c.count.result in
    let same : number ≡ home plans c.args.asked.now.value.channel = ap₂ (λ (x : AskValue) (n : ℕ). x.channel % n) c.deref.ensures c.count.ensures.count in
    subst (LeavesShards (g.S.Shards.shown c.args.shards.now) (g.S.Shards.shown c.step.new.self)) same c.step.ensures.rest
