use Rattle.std.proofs.Common.{◌≡◌, ◌-◌, ◌≤◌, length}
use Rattle.std.specs.Io.KnownBytes.{Consumes}
use Rattle.frame_link.proofs.whole.read_up_to.Given as goal

abbrev pub invariant-loop-have : goal.invariant-loop-have
invariant-loop-have g l = record {
  long : length l.bytes.items ≡ l.have;
  within : l.have ≤ l.most;
  took : Consumes (g.S.Source.shown l.initial.source).told (g.S.Source.shown l.source).told l.bytes.items;
  steady : (g.S.Source.shown l.source).faults ≡ (g.S.Source.shown l.initial.source).faults;
}

abbrev pub decreases-loop-have : goal.decreases-loop-have
decreases-loop-have g l = l.most - l.have
