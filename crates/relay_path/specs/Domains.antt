-- Domains of relays: what each knows, and what two of them share.
use Rattle.std.specs.Prelude.{◌≡◌, ℕ, ◌==◌, List, Option, Some, IsSome, find}
use Rattle.keyed_seal.specs.Keys.{Entries, key_of}
use Rattle.relay_path.specs.declared.domain.Domain.{Domain}

-- what a domain knows: its number, and the keys of its issuers, of its nodes and of its peers, which
-- are other domains
pub record DomainKnows : Type 0 where
  pub number : ℕ
  pub issuers : Entries
  pub nodes : Entries
  pub peers : Entries

-- what the program's domain knows
abbrev pub knows : Domain → DomainKnows
knows d = record {
  number = d.number;
  issuers = d.issuers.entries;
  nodes = d.nodes.entries;
  peers = d.peers.entries;
}

-- the first domain that has the number
abbrev pub domain_of : List DomainKnows → ℕ → Option DomainKnows
domain_of ds number = find (λ d. d.number == number) ds

-- a domain has the number
abbrev pub IsNumberOf : List DomainKnows → ℕ → Type 0
IsNumberOf ds number = IsSome (domain_of ds number)

-- the domain of one number has that of the other as a peer, by this key
abbrev pub HasPeer : List DomainKnows → ℕ → ℕ → List ℕ → Type 0
HasPeer ds number peer key =
    (d : DomainKnows) × (domain_of ds number ≡ Some d) × (key_of d.peers peer ≡ Some key)

-- the domain of the number has the node, by this key
abbrev pub HasNode : List DomainKnows → ℕ → ℕ → List ℕ → Type 0
HasNode ds number node key =
    (d : DomainKnows) × (domain_of ds number ≡ Some d) × (key_of d.nodes node ≡ Some key)

-- two domains that have each other as peers do so by one key
abbrev pub LinksAgree : List DomainKnows → Type 0
LinksAgree ds = (a b : ℕ) (there back : List ℕ) → HasPeer ds a b there → HasPeer ds b a back
    → there ≡ back
