use Rattle.std.proofs.Common.{◌≡◌, ◌≤◌, ◌<◌, All, length, take}
use Rattle.stmt_codec.specs.View.{certificates}
use Rattle.agent_core.specs.Held.{admitted, newly}
use Rattle.shard_core.specs.Kept.{certs_held}
use Rattle.shard_core.specs.Names.{certs_at}
use Rattle.shard_core.proofs.held.newness.new_of.Given as goal

abbrev pub invariant-loop-place : goal.invariant-loop-place
invariant-loop-place l = record {
  value : certs_at (certificates l.presented) l.places.items
      ≡ newly (certs_held l.held) (admitted l.held.withdrawn.now.items (take l.place (certificates l.presented)));
  within : All (λ i. i < length l.presented) l.places.items;
  few : length l.places.items ≤ l.place;
}
