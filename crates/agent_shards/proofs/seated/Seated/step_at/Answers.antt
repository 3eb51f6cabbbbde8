-- the pass of the shard is out for the step, and back
use Rattle.std.proofs.Common.{◌≡◌, ◌<◌, List, length, set, sym, ap, subst, ◌∙◌, arith}
use Rattle.std.proofs.lemmas.List.Edits.{length-remove}
use Rattle.std.proofs.lemmas.Option.{slice_get_within}
use Rattle.agent_core.specs.Shards.{IsMeantAt, StepsAmong}
use Rattle.agent_core.specs.Views.{event_of}
use Rattle.agent_shards.specs.Cells.{shares_of}
use Rattle.agent_shards.specs.Shards.{ArePasses, IsShardPass, KnownShard, SeatSeen, plans_of, seat_seen}
use Rattle.agent_shards.proofs.Rows.{map_kept, zip_set}
use Rattle.agent_shards.proofs.Seats.{seat_long, seat_meant, seat_pass, seat_steps}
use Rattle.agent_shards.proofs.seated.Seated.step_at.Goals as goal

pub take_out-pass-requires : goal.take_out-pass-requires
take_out-pass-requires g c =
    let long = seat_long c.self.inside.agent.now c.self.inside.passes.items c.self.invariant.0 in
    let same : length (plans_of c.self.inside.agent.now) ≡ length (plans_of c.args.self.now.cells) = ap (λ (s : SeatSeen). length (plans_of s.cells)) c.self.view_is in
    omega (arith, long, same, c.requires.there)

pub step_in-answer-requires-clause-pass : goal.step_in-answer-requires-clause-pass
step_in-answer-requires-clause-pass g c =
    seat_pass c.self.inside.agent.now c.self.inside.passes.items c.self.invariant.0 c.args.number c.cell.result.now c.take_out-pass.result c.cell.ensures c.take_out-pass.ensures.there

pub step_in-answer-requires-clause-meant : goal.step_in-answer-requires-clause-meant
step_in-answer-requires-clause-meant g c =
    seat_meant c.self.inside.agent.now c.self.inside.passes.items c.self.invariant.0 c.args.number c.cell.result.now c.take_out-pass.result c.cell.ensures c.take_out-pass.ensures.there (event_of c.args.event)
    (subst (λ (s : SeatSeen). IsMeantAt (seat_seen s) c.args.number (event_of c.args.event)) (sym c.self.view_is) c.requires.meant)

pub put_back-requires-clause-place : goal.put_back-requires-clause-place
put_back-requires-clause-place g c =
    let lt : c.args.number < length c.self.inside.passes.items = slice_get_within c.self.inside.passes.items c.args.number c.take_out-pass.result c.take_out-pass.ensures.there in
    omega (arith, length-remove c.self.inside.passes.items c.args.number lt, ap (λ (l : List KnownShard). length l) c.take_out-pass.ensures.removed)

pub invariant_of-self : goal.invariant_of-self
invariant_of-self g c =
    let lt : c.args.number < length c.self.inside.passes.items = slice_get_within c.self.inside.passes.items c.args.number c.take_out-pass.result c.take_out-pass.ensures.there in
    let put : c.put_back.new.passes.items ≡ set c.self.inside.passes.items c.args.number c.step_in-answer.result.1 = c.put_back.ensures c.self.inside.passes.items c.take_out-pass.ensures.removed lt in (
      subst (ArePasses c.self.inside.agent.now) (sym put)
          (zip_set IsShardPass c.self.inside.agent.now c.self.inside.passes.items c.args.number c.cell.result.now c.step_in-answer.result.1 c.self.invariant.0 c.cell.ensures c.step_in-answer.ensures.pass),
      c.self.invariant.1,
      ap shares_of put ∙ (map_kept (λ (p : KnownShard). p.shares) c.self.inside.passes.items c.args.number c.take_out-pass.result c.step_in-answer.result.1 c.take_out-pass.ensures.there c.step_in-answer.ensures.shares ∙ c.self.invariant.2),
    )

pub returns : goal.returns
returns g c =
    let lt : c.args.number < length c.self.inside.passes.items = slice_get_within c.self.inside.passes.items c.args.number c.take_out-pass.result c.take_out-pass.ensures.there in
    let put : c.put_back.new.passes.items ≡ set c.self.inside.passes.items c.args.number c.step_in-answer.result.1 = c.put_back.ensures c.self.inside.passes.items c.take_out-pass.ensures.removed lt in
    subst (λ (s : SeatSeen). StepsAmong (seat_seen s) (seat_seen (record { cells = c.self.inside.agent.now; passes = c.put_back.new.passes.items })) c.args.number (event_of c.args.event) c.step_in-answer.result.0) c.self.view_is
    (subst (λ (l : List KnownShard). StepsAmong (seat_seen (record { cells = c.self.inside.agent.now; passes = c.self.inside.passes.items })) (seat_seen (record { cells = c.self.inside.agent.now; passes = l })) c.args.number (event_of c.args.event) c.step_in-answer.result.0) (sym put)
    (seat_steps c.self.inside.agent.now c.self.inside.passes.items c.self.invariant.0 c.args.number c.cell.result.now c.take_out-pass.result c.cell.ensures c.take_out-pass.ensures.there c.step_in-answer.result.1 (event_of c.args.event) c.step_in-answer.result.0 c.step_in-answer.ensures.steps))
