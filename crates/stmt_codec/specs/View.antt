-- The certificates that the program's handles share.
use Rattle.std.specs.Prelude.{List, map}
use Rattle.std.specs.declared.alloc.Global.{Global}
use Rattle.std.specs.declared.sync.Arc.{Arc}
use Rattle.stmt_codec.specs.declared.cert.Cert.{Cert}
use Rattle.stmt_codec.specs.Certificates.{Certificate, certificate}

-- the certificate behind the handle
abbrev pub certificate_of : Arc Cert Global → Certificate
certificate_of handle = certificate handle.value.body

-- the certificates behind the handles, in order
abbrev pub certificates : List (Arc Cert Global) → List Certificate
certificates handles = map certificate_of handles
