-- Whose sockets there may be.
use Rattle.std.specs.Prelude.{◌≡◌, ℕ, ◌+◌, ◌<◌}
use Rattle.mio.specs.declared.token.Token.{Token}
use Rattle.system_hub.specs.declared.machine.limits.TheConstants.{MAX_CLIENTS, MAX_LANES}
use Rattle.system_hub.specs.declared.tokens.Socket.{Socket}
use Rattle.system_hub.specs.declared.tokens.Socket.TheVariants.{Client, Lane, Listener}

-- as many as a hub may have clients and lanes, and few listeners
abbrev pub IsWithin : Socket → Type 0
IsWithin (Client seat) = seat < MAX_CLIENTS
IsWithin (Lane lane) = lane < MAX_LANES
IsWithin (Listener place) = place < MAX_LANES

-- clients' numbers come first, then those of lanes, then those of listeners: so a token names one socket
abbrev pub Names : Token → Socket → Type 0
Names token (Client seat) = (seat < MAX_CLIENTS) × (token.0 ≡ seat)
Names token (Lane lane) = (lane < MAX_LANES) × (token.0 ≡ MAX_CLIENTS + lane)
Names token (Listener place) = token.0 ≡ MAX_CLIENTS + MAX_LANES + place
