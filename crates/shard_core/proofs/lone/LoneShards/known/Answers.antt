-- the plans are those of all shards, and the journals are legal, each by itself
use Rattle.std.proofs.Common.{subst}
use Rattle.shard_core.specs.Alone.{LoneSeen, shards_seen}
use Rattle.agent_core.specs.Shards.{AreSoundShards}
use Rattle.shard_core.proofs.OneOwner.{lone_legal}
use Rattle.shard_core.proofs.lone.LoneShards.known.Goals as goal

pub returns : goal.returns
returns c =
    subst (λ (l : LoneSeen). AreSoundShards (shards_seen l)) c.self.view_is (record {
      some = c.self.invariant.sound.some;
      sound = c.self.invariant.sound.sound;
      legal = lone_legal c.self.inside.shards.items c.self.invariant.legal;
    })
