-- an object has a place exactly where it has the number
use Rattle.std.proofs.Common.{◌≡◌, is_some, sym, ap, ◌∙◌}
use Rattle.object_core.specs.Shelving.{fixed_at}
use Rattle.agent_shards.specs.Objects.{RackSeen, fixed_in}
use Rattle.agent_shards.proofs.Shelves.{has_there}
use Rattle.agent_shards.proofs.seated_shelf.SeatedShelfShelf.has.Goals as goal

pub returns : goal.returns
returns g c =
    let now : c.is_some.result ≡ is_some (fixed_at (fixed_in c.args.self.now.cells) c.args.number) =
    c.is_some.ensures ∙ (has_there c.self.inside.rack.now c.args.number c.place_of.result c.place_of.ensures.place ∙ ap (λ (v : RackSeen). is_some (fixed_at (fixed_in v.cells) c.args.number)) c.self.view_is) in
    (λ t. sym now ∙ t, λ t. now ∙ t)
