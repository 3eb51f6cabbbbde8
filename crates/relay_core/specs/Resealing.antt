-- What a relay says of a certificate that an issuer sealed, for a node.
use Rattle.std.specs.Prelude.{◌≡◌, ◌≢◌, ℕ, List, ◌∷◌, Option, Some, None, Result, Ok, Err}
use Rattle.keyed_seal.specs.Keys.{Entries, key_of}
use Rattle.keyed_seal.specs.Tag.{tag_of}
use Rattle.stmt_codec.specs.Certificates.{Certificate}
use Rattle.sealed_cert.specs.declared.fault.SealFault.{SealFault}
use Rattle.sealed_cert.specs.declared.fault.SealFault.TheVariants as seals
use Rattle.sealed_cert.specs.declared.kind.TheConstants.{ISSUED, RELAYED}
use Rattle.sealed_cert.specs.Seals.{sealed, sealed_text, Spells, OpensIssued}
use Rattle.sealed_cert.specs.Refusals.{opened_issued}
use Rattle.frame_link.specs.Relay.{Said, Gave, Refuses}
use Rattle.relay_core.specs.declared.code.TheConstants.{MALFORMED, UNKNOWN_ISSUER, BAD_SEAL, WRONG_KIND, UNKNOWN_NODE}

-- the code that names a fault of opening, which as a function is never out of memory
abbrev pub code_of : SealFault → ℕ
code_of (seals.Malformed o) = MALFORMED
code_of (seals.UnknownIssuer i) = UNKNOWN_ISSUER
code_of seals.BadSeal = BAD_SEAL
code_of (seals.WrongKind k) = WRONG_KIND
code_of seals.NoMemory = MALFORMED

-- what is said of a certificate: sealed under the node's key, where the relay has it
abbrev pub for_node : Option (List ℕ) → Certificate → Said
for_node None c = Refuses UNKNOWN_NODE
for_node (Some key) c = Gave (sealed RELAYED key c)

-- what is said of what the bytes open to, under the node's key
abbrev pub said_of : Option (List ℕ) → Result Certificate SealFault → Said
said_of key (Ok c) = for_node key c
said_of key (Err fault) = Refuses (code_of fault)

-- what is said of the bytes for a node, from what they open to
abbrev pub resealed : Entries → Entries → ℕ → List ℕ → Said
resealed issuers nodes node bytes = said_of (key_of nodes node) (opened_issued issuers bytes)

-- the first byte is that of a relay's seal
abbrev pub IsRelayed : List ℕ → Type 0
IsRelayed bytes = (rest : List ℕ) × (bytes ≡ RELAYED ∷ rest)

-- What is said, a case for each answer, without the steps of opening. The certificate of an issuer
-- that the relay knows is sealed for a node that it knows. Else the first of the other cases that
-- holds, from above, is the code.
pub data IsResealed (issuers nodes : Entries) (node : ℕ) (bytes : List ℕ) : Said → Type 0 where
  is_given : (c : Certificate) (key : List ℕ) →
      OpensIssued issuers bytes c → key_of nodes node ≡ Some key →
      IsResealed issuers nodes node bytes (Gave (sealed RELAYED key c))
  is_of_wrong_kind :
      IsRelayed bytes →
      IsResealed issuers nodes node bytes (Refuses WRONG_KIND)
  is_malformed :
      ¬ IsRelayed bytes → ((c : Certificate) (tag : List ℕ) → ¬ Spells ISSUED bytes c tag) →
      IsResealed issuers nodes node bytes (Refuses MALFORMED)
  is_of_no_issuer : (c : Certificate) (tag : List ℕ) →
      Spells ISSUED bytes c tag → key_of issuers c.issuer ≡ None →
      IsResealed issuers nodes node bytes (Refuses UNKNOWN_ISSUER)
  is_badly_sealed : (c : Certificate) (tag key : List ℕ) →
      Spells ISSUED bytes c tag → key_of issuers c.issuer ≡ Some key →
      tag ≢ tag_of key (sealed_text ISSUED c) →
      IsResealed issuers nodes node bytes (Refuses BAD_SEAL)
  is_for_no_node : (c : Certificate) →
      OpensIssued issuers bytes c → key_of nodes node ≡ None →
      IsResealed issuers nodes node bytes (Refuses UNKNOWN_NODE)
