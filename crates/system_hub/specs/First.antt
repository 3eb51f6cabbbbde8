-- What bytes begin with.
use Rattle.std.specs.Prelude.{◌≡◌, ℕ, ◌≤◌, List, ◌++◌, length}
use Rattle.frame_link.specs.Frames.{frame, IsPart, IsTooLong}
use Rattle.frame_link.specs.declared.service.TheConstants.{MAX_PAYLOAD}
use Rattle.system_hub.specs.declared.machine.inbox.First.{First}
use Rattle.system_hub.specs.declared.machine.inbox.First.TheVariants.{Part, Whole, TooLong}

-- less than a frame, a frame whose payload has so many bytes, or a length above the limit
abbrev pub IsFirst : List ℕ → First → Type 0
IsFirst bytes Part = IsPart MAX_PAYLOAD bytes
IsFirst bytes (Whole n) = (payload rest : List ℕ) × (bytes ≡ frame payload ++ rest)
    × (length payload ≡ n) × (n ≤ MAX_PAYLOAD)
IsFirst bytes TooLong = IsTooLong MAX_PAYLOAD bytes
