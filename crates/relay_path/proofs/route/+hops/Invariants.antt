use Rattle.std.proofs.Common.{length}
use Rattle.relay_path.proofs.route.+hops.Given as goal

abbrev pub decreases-hops : goal.decreases-hops
decreases-hops l = length l.route.now
