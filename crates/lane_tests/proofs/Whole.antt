-- New passes have all shares.
use Rattle.std.proofs.Common.{◌≡◌, List, [], ◌∷◌}
use Rattle.std.proofs.lemmas.List.Elements.{All-cons, All-nil}
use Rattle.agent_core.specs.Journals.{ShardSeen}
use Rattle.object_core.specs.Objects.{ObjectSeen}
use Rattle.turn_cell.specs.declared.shares.TheConstants.{ALL_SHARES}
use Rattle.agent_shards.specs.Cells.{HaveAll}
use Rattle.agent_shards.specs.Objects.{AreObjectsOpened, KnownObject, ObjectCell}
use Rattle.agent_shards.specs.Shards.{AreShardsOpened, KnownShard, ShardCell}

pub shards_whole : (shards : List ShardSeen) (cells : List ShardCell) (passes : List KnownShard) → AreShardsOpened shards cells passes → HaveAll passes
shards_whole [] [] [] opened = All-nil (λ (p : KnownShard). p.shares ≡ ALL_SHARES)
shards_whole (s ∷ ss) (c ∷ cs) (p ∷ ps) opened = All-cons (λ (p : KnownShard). p.shares ≡ ALL_SHARES) p ps opened.0.opened.shares (shards_whole ss cs ps opened.1)
shards_whole _ _ _ opened = absurd opened

pub objects_whole : (objects : List ObjectSeen) (cells : List ObjectCell) (passes : List KnownObject) → AreObjectsOpened objects cells passes → HaveAll passes
objects_whole [] [] [] opened = All-nil (λ (p : KnownObject). p.shares ≡ ALL_SHARES)
objects_whole (o ∷ os) (c ∷ cs) (p ∷ ps) opened = All-cons (λ (p : KnownObject). p.shares ≡ ALL_SHARES) p ps opened.0.opened.shares (objects_whole os cs ps opened.1)
objects_whole _ _ _ opened = absurd opened
