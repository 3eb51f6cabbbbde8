-- the numbers are those of the rack's objects, and what each pass has seen is within its limit
use Rattle.std.proofs.Common.{subst}
use Rattle.object_core.specs.Shelving.{IsShelf}
use Rattle.agent_shards.specs.Objects.{RackSeen, passes_told, rack_seen, taken_as}
use Rattle.agent_shards.proofs.Shelves.{told_within}
use Rattle.agent_shards.proofs.seated_shelf.SeatedShelfShelf.known.Goals as goal

pub returns : goal.returns
returns g c =
    subst (λ (v : RackSeen). IsShelf (rack_seen v)) c.self.view_is (record {
      numbers = c.known.ensures;
      within = told_within (record { cells = c.self.inside.rack.now; passes = passes_told c.self.inside.out c.self.inside.passes.items; taken = taken_as c.self.inside.out }) c.self.invariant.0;
    })
