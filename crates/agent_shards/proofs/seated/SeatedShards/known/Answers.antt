-- the plans are those of the agent, and what each pass has seen is legal
use Rattle.std.proofs.Common.{subst}
use Rattle.agent_core.specs.Shards.{AreSoundShards}
use Rattle.agent_shards.specs.Shards.{SeatSeen, seat_seen}
use Rattle.agent_shards.proofs.Seats.{seat_legal}
use Rattle.agent_shards.proofs.seated.SeatedShards.known.Goals as goal

pub returns : goal.returns
returns g c =
    subst (λ (s : SeatSeen). AreSoundShards (seat_seen s)) c.self.view_is (record {
      some = c.known.ensures.some;
      sound = c.known.ensures.sound;
      legal = seat_legal c.self.inside.agent.now c.self.inside.passes.items c.self.invariant.0;
    })
