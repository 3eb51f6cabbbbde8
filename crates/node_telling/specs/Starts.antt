-- That a program begins to serve, and that it has served, as lines of JSON.
use Rattle.std.specs.Prelude.{Option, Some, None, codes, List, [], ◌++◌}
use Rattle.std.specs.Option.{option_map}
use Rattle.json.specs.Token.{Token}
use Rattle.node_telling.specs.Members.{counted, counted_if, first_members, worded_if}
use Rattle.node_telling.specs.declared.texts.start.Bounds.{Bounds}
use Rattle.node_telling.specs.declared.texts.start.Ended.{Ended}
use Rattle.node_telling.specs.declared.texts.start.Addresses.{Addresses}
use Rattle.node_telling.specs.declared.texts.start.Served.{Served}
use Rattle.node_telling.specs.declared.texts.start.Started.{Started}

-- the node that is served
abbrev pub node_members : Served → List Token
node_members s =
    counted (codes "node") s.node ++ counted (codes "channels") s.channels
    ++ counted (codes "objects") s.objects ++ counted (codes "shards") s.shards
    ++ counted (codes "journal") s.journal

-- the same, where it is one
abbrev pub served_members : Option Served → List Token
served_members (Some s) = node_members s
served_members None = []

-- how much is served
abbrev pub bound_members : Bounds → List Token
bound_members b =
    counted (codes "lanes") b.lanes ++ counted_if (codes "clients") b.clients
    ++ counted_if (codes "connections") b.connections ++ counted_if (codes "frames") b.frames
    ++ counted_if (codes "idle") b.idle

-- where it listens, whom it asks, and where it tells what it has counted
abbrev pub address_members : Addresses → List Token
address_members p =
    worded_if (codes "listen") (option_map (λ t. t.now) p.listen)
    ++ worded_if (codes "relay") (option_map (λ t. t.now) p.relay)
    ++ worded_if (codes "wallet") (option_map (λ t. t.now) p.wallet)
    ++ worded_if (codes "page") (option_map (λ t. t.now) p.page)

abbrev pub started_members : Started → List Token
started_members s =
    first_members s.seconds (codes "info") (codes "started") ++ served_members s.served
    ++ bound_members s.bounds ++ address_members s.addresses

abbrev pub ended_members : Ended → List Token
ended_members e =
    first_members e.seconds (codes "info") (codes "ended") ++ counted (codes "status") e.status
