-- What a domain says, as one function of the bytes, read from left to right.
use Rattle.std.specs.Prelude.{ℕ, Bool, true, ◌||◌, ◌==◌, nat_lt, if◌then◌else◌, List, [], length}
use Rattle.std.specs.Prelude.{Option, Some, None, Result, Ok, Err}
use Rattle.std.specs.List.{list_any}
use Rattle.std.specs.Int.{w32}
use Rattle.byte_fields.specs.Formats.{is_within}
use Rattle.byte_fields.specs.Readers.{Reader, followed, items_behind, made, passing}
use Rattle.byte_fields.specs.Steps.{◌>>=◌, byte_at, number_at, with_fault}
use Rattle.stmt_codec.specs.Certificates.{Certificate}
use Rattle.sealed_cert.specs.declared.fault.SealFault.{SealFault}
use Rattle.sealed_cert.specs.declared.fault.SealFault.TheVariants as seals
use Rattle.sealed_cert.specs.declared.kind.TheConstants.{ISSUED, RELAYED}
use Rattle.sealed_cert.specs.Refusals.{body_and_tag_at, checked}
use Rattle.frame_link.specs.Relay.{Said, Gave, Refuses}
use Rattle.relay_core.specs.declared.code.TheConstants.{MALFORMED, UNKNOWN_ISSUER, BAD_SEAL, WRONG_KIND}
use Rattle.relay_path.specs.declared.code.TheConstants.{LOOP, TOO_FAR}
use Rattle.relay_path.specs.declared.limits.TheConstants.{CARRIED, MAX_VISITED}
use Rattle.relay_path.specs.declared.opening.HopFault.{HopFault}
use Rattle.relay_path.specs.declared.opening.HopFault.TheVariants.{Refused, NoMemory}
use Rattle.relay_path.specs.declared.answer.Target.{Target}
use Rattle.relay_path.specs.declared.answer.Target.TheVariants.{Node, Peer}
use Rattle.relay_path.specs.Domains.{DomainKnows}
use Rattle.relay_path.specs.Hopping.{passed, sender_key, target_key, unknown_sender, unknown_target}

-- the code of a fault of opening, as a fault here
abbrev pub seen_as : SealFault → HopFault
seen_as (seals.Malformed o) = Refused MALFORMED
seen_as (seals.UnknownIssuer i) = Refused UNKNOWN_ISSUER
seen_as seals.BadSeal = Refused BAD_SEAL
seen_as (seals.WrongKind k) = Refused WRONG_KIND
seen_as seals.NoMemory = NoMemory

-- the bytes are no certificate
abbrev pub malformed : HopFault
malformed = Refused MALFORMED

-- so many domains that were visited
abbrev pub numbers_of : List ℕ → ℕ → Reader (List ℕ) HopFault
numbers_of bytes count = items_behind (λ _. number_at malformed w32 bytes) count []

-- the domains that were visited, after their count
unfoldable pub numbers_at : List ℕ → Reader (List ℕ) HopFault
numbers_at bytes =
    made (λ p. p.1)
    (followed (passing (is_within 1 MAX_VISITED) (λ _. malformed) (byte_at malformed bytes))
    (numbers_of bytes))

-- the domains that were visited, and where the body begins
unfoldable pub visited_at : List ℕ → Result (List ℕ × ℕ) HopFault
visited_at bytes = do
  first ← byte_at malformed bytes 0
  if first.0 == RELAYED then Err (Refused WRONG_KIND)
      else (if first.0 == ISSUED then Ok ([], first.1)
      else (if first.0 == CARRIED then numbers_at bytes first.1 else Err malformed))

-- the key, or the refusal where there is none
abbrev pub key_or : ℕ → Option (List ℕ) → Result (List ℕ) HopFault
key_or code None = Err (Refused code)
key_or code (Some key) = Ok key

-- the domains that were visited, and the certificate, which who sent it sealed
unfoldable pub opened_here : DomainKnows → List ℕ → Result (List ℕ × Certificate) HopFault
opened_here d bytes = do
  front ← visited_at bytes
  x ← with_fault seen_as (body_and_tag_at bytes front.1)
  key ← key_or (unknown_sender front.0) (sender_key d front.0 x.0.issuer)
  c ← with_fault seen_as (checked key bytes x)
  Ok (front.0, c)

-- whether it would come to a domain a second time
abbrev pub returns : ℕ → List ℕ → Target → Bool
returns number visited (Node node) = list_any (λ v. v == number) visited
returns number visited (Peer peer) =
    list_any (λ v. v == number) visited || (list_any (λ v. v == peer) visited || peer == number)

-- whether one more domain may stand among those that it visited, where it goes to a peer
abbrev pub has_room : Target → List ℕ → Bool
has_room (Node node) visited = true
has_room (Peer peer) visited = nat_lt (length visited) MAX_VISITED

-- what is said of it, where this is the target's key
abbrev pub sealed_for : DomainKnows → Target → List ℕ → Certificate → Option (List ℕ) → Said
sealed_for d target visited c None = Refuses (unknown_target target)
sealed_for d target visited c (Some key) = Gave (passed d target visited key c)

-- what is said of what was opened, which as a function is never out of memory
abbrev pub said_of : DomainKnows → Target → Result (List ℕ × Certificate) HopFault → Said
said_of d target (Err (Refused code)) = Refuses code
said_of d target (Err NoMemory) = Refuses MALFORMED
said_of d target (Ok x) =
    if returns d.number x.0 target then Refuses LOOP
    else (if has_room target x.0 then sealed_for d target x.0 x.1 (target_key d target)
    else Refuses TOO_FAR)

-- what is said of the bytes
abbrev pub hopped : DomainKnows → Target → List ℕ → Said
hopped d target bytes = said_of d target (opened_here d bytes)
