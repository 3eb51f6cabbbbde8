-- Held certificates, named by what brought them.
use Rattle.std.specs.Prelude.{ℕ, List, [], Option, IsSome, slice_get, option_and_then, filter_map, All}
use Rattle.stmt_codec.specs.Certificates.{Certificate}
use Rattle.shard_core.specs.declared.held.name.Name.{Name}
use Rattle.shard_core.specs.declared.held.name.Name.TheVariants.{Common, Brought}
use Rattle.agent_core.specs.State.{Plan, Event, Asks, Holds}
use Rattle.agent_core.specs.Journals.{Entry, ShardSeen}

-- a shard's book: what names of certificates lead to
abbrev pub book : Plan → List Entry → ShardSeen
book plan journal = record { plan = plan; journal = journal }

-- the certificates that an event brings
abbrev pub brought_by : Event → List Certificate
brought_by (Asks a) = a.presented
brought_by (Holds certs) = certs
brought_by _ = []

-- the certificate of a name, where there is one
abbrev pub named : ShardSeen → Name → Option Certificate
named book (Common place) = slice_get book.plan.commons place
named book (Brought e place) =
    option_and_then (λ (x : Entry). slice_get (brought_by x.event) place)
    (slice_get book.journal e)

-- the certificates of names
abbrev pub certs_named : ShardSeen → List Name → List Certificate
certs_named book names = filter_map (named book) names

-- each name is that of a certificate
abbrev pub AreNames : ShardSeen → List Name → Type 0
AreNames book names = All (λ n. IsSome (named book n)) names

-- the certificates at these places
abbrev pub certs_at : List Certificate → List ℕ → List Certificate
certs_at certs places = filter_map (slice_get certs) places

-- the name of the certificate at a place of what an entry brought
abbrev pub name_in : ℕ → ℕ → Name
name_in entry place = Brought entry place
