-- the numbers are own ones, and each journal is within its limit
use Rattle.std.proofs.Common.{subst}
use Rattle.object_core.specs.OneOwner.{LoneShelfSeen, shelf_seen}
use Rattle.object_core.specs.Shelving.{IsShelf}
use Rattle.object_core.proofs.OnShelf.{are_within, shelf_of}
use Rattle.object_core.proofs.lone_shelf.LoneShelfShelf.known.Goals as goal

pub returns : goal.returns
returns c =
    subst (λ (v : LoneShelfSeen). IsShelf (shelf_seen v)) c.self.view_is (record {
      numbers = c.self.invariant.0.numbers;
      within = are_within (shelf_of c.self.inside.objects.items c.self.inside.opened.items c.self.inside.taken) c.self.invariant.0.within;
    })
