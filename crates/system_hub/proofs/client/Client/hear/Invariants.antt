-- It keeps its seat so far, where it had one.
use Rattle.std.proofs.Common.{◌≡◌, Bool}
use Rattle.system_hub.specs.Floors.{IsDoneSoFar}
use Rattle.system_hub.proofs.client.Client.hear.Given as goal

abbrev pub invariant-loop : goal.invariant-loop
invariant-loop l = record {
  number : l.self.number ≡ l.fn.self.number;
  done : IsDoneSoFar l.fn.self.number l.fn.hub l.hub;
}
