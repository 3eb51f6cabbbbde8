-- The certificates that a node opened, kept by the bytes that they were opened from.
use Rattle.std.specs.Prelude.{◌≡◌, ◌⊎◌, ℕ, List, Contains, Option, Some, None}
use Rattle.std.specs.Arc.{arc_value}
use Rattle.lru.specs.LruCache.{LruCache}
use Rattle.sealed_cert.specs.Seals.{Opens}
use Rattle.relay_core.specs.declared.opened.KeptCert.{KeptCert}
use Rattle.stmt_codec.specs.declared.cert.Cert.{Cert}
use Rattle.stmt_codec.specs.Certificates.{certificate}

-- what is kept by a number: bytes, and a certificate
abbrev pub Kept : Type 0
Kept = ℕ × KeptCert

-- each is what its bytes open to under the key
abbrev pub AreOpen : List ℕ → List Kept → Type 0
AreOpen key kept =
    (e : Kept) → Contains kept e → Opens key e.1.bytes.items (certificate (arc_value e.1.cert).body)

-- the same, where some are kept
abbrev pub HoldsOpen : List ℕ → Option (LruCache ℕ KeptCert) → Type 0
HoldsOpen key None = Unit {0}
HoldsOpen key (Some certs) = AreOpen key certs.entries

-- a certificate of this value is kept by these very bytes
abbrev pub IsKeptBy : List Kept → List ℕ → Cert → Type 0
IsKeptBy kept text value =
    (e : Kept) × Contains kept e × (e.1.bytes.items ≡ text) × (arc_value e.1.cert ≡ value)

-- nothing is kept but what was, or one of this value by these bytes
abbrev pub KeepsAtMost : List Kept → List Kept → List ℕ → Cert → Type 0
KeepsAtMost before after text value =
    (e : Kept) → Contains after e →
    Contains before e ⊎ ((e.1.bytes.items ≡ text) × (arc_value e.1.cert ≡ value))
