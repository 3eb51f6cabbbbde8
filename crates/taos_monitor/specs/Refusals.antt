-- The reply that says why a request has no ruling.
use Rattle.taos_monitor.specs.declared.refusal.Refusal.{Refusal}
use Rattle.taos_monitor.specs.declared.refusal.Refusal.TheVariants as code
use Rattle.taos_wire.specs.Reply.{Reply, Malformed, UnknownChannel, BadSeal, CertRefused, RelayFailed, UnknownObject, NoMemory}

-- the reply of a refusal
abbrev pub refusal : Refusal → Reply
refusal (code.Malformed offset) = Malformed offset
refusal (code.UnknownChannel number) = UnknownChannel number
refusal code.BadSeal = BadSeal
refusal (code.CertRefused index why) = CertRefused index why
refusal (code.RelayFailed index) = RelayFailed index
refusal (code.UnknownObject number) = UnknownObject number
refusal code.NoMemory = NoMemory
