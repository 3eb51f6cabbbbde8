use Rattle.std.proofs.Common.{◌≡◌, false, take}
use Rattle.std.specs.List.{slice_get, filter_map}
use Rattle.stmt_codec.specs.Certificates.{certificate}
use Rattle.stmt_codec.specs.View.{certificates}
use Rattle.agent_core.specs.Held.{among}
use Rattle.shard_core.proofs.held.newness.is_met.Given as goal

abbrev pub invariant-loop-at : goal.invariant-loop-at
invariant-loop-at l = among (filter_map (slice_get (certificates l.presented)) (take l.at l.places.items)) (certificate l.cert.body) ≡ false
