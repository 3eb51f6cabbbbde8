-- The requests of a drill and the certificates that they present.
use Rattle.std.proofs.Common.{◌≡◌, ℕ, zero, suc, ◌+◌, ◌/◌, ◌%◌, ◌^◌, ◌<◌, ◌≤◌, Bool, true, false, cond, eqb, not, List, [], ◌∷◌, length, map, Some, refl, ap, ◌∙◌, inl, inr, append-nil, arith, length-append}
use Rattle.std.specs.Prelude.{filter}
use Rattle.std.specs.List.{range_with_len}
use Rattle.std.proofs.Math.Nat.{div-le_self}
use Rattle.std.proofs.lemmas.Bool.{cases_eq}
use Rattle.std.proofs.lemmas.Bool.Decides.{nat_tests}
use Rattle.std.proofs.lemmas.List.Elements.{All-cons, All-nil}
use Rattle.keyed_seal.proofs.Tags.{length-tag_of}
use Rattle.keyed_seal.specs.Keys.{key_of}
use Rattle.keyed_seal.specs.Tag.{tag_of}
use Rattle.prin_term.specs.Principal.{Key, Name, Principal}
use Rattle.sealed_cert.specs.declared.kind.TheConstants.{RELAYED}
use Rattle.sealed_cert.specs.Seals as seals
use Rattle.sealed_cert.specs.Seals.{Opens, sealed_text}
use Rattle.sealed_cert.proofs.SealedBytes.{relayed_bytes}
use Rattle.stmt_codec.specs.Certificates.{IsWithinLimits}
use Rattle.stmt_codec.specs.Distinct.{first_of_each, same_principal}
use Rattle.taos_wire.proofs.RequestLaws.{sealed_spells}
use Rattle.taos_wire.specs.Request.{FitsRequest, IsAsked, IsCertText, request_text, sealed}
use Rattle.taos_drill.specs.Opened.{drill_opening}
use Rattle.taos_drill.specs.Sent.{asked, channel_of, drill_certificate, drill_request, number_of, object_for, payload_of, presented}
use Rattle.taos_drill.specs.Words.{is_even, key_at, word_of}

-- ---- lengths

length-sealed : (key : List ℕ) (channel : ℕ) → length (seals.sealed RELAYED key (drill_certificate channel)) ≡ 65
length-sealed key channel =
    let text = sealed_text RELAYED (drill_certificate channel) in
    length-append text (tag_of key text) ∙ ap (λ n. 33 + n) (length-tag_of key text)

length-text : (channel seq object : ℕ) (cert : List ℕ) → length (request_text (asked channel seq object cert)) ≡ 22 + length cert
length-text channel seq object cert = let e = ap length (append-nil cert) in omega (arith, e)

-- 22 bytes before the certificate, and the tag behind it
pub length-asked : (key : List ℕ) (channel seq object : ℕ) (cert : List ℕ) → length (sealed key (asked channel seq object cert)) ≡ 54 + length cert
length-asked key channel seq object cert =
    let text = request_text (asked channel seq object cert) in
    let whole = length-append text (tag_of key text) in
    omega (arith, whole, length-text channel seq object cert, length-tag_of key text)

pub length-payload : (seed lanes i : ℕ) → length (payload_of seed lanes i) ≡ 119
length-payload seed lanes i =
    length-asked (key_at seed (channel_of lanes i)) (channel_of lanes i) (i / lanes + 1) (object_for (channel_of lanes i) (word_of seed i)) (presented seed (channel_of lanes i))
    ∙ ap (λ n. 54 + n) (length-sealed (key_at seed 0) (channel_of lanes i))

-- ---- the certificate

kept_few : (t : Principal → Bool) (ps : List Principal) → length (filter t ps) ≤ length ps
kept_few t [] = omega arith
kept_few t (p ∷ ps) = by (t p) (kept_few t ps)
  where
    by : (b : Bool) → length (filter t ps) ≤ length ps → length (cond b (p ∷ filter t ps) (filter t ps)) ≤ suc (length ps)
    by true few = omega (arith, few)
    by false few = omega (arith, few)

firsts_few : (ps : List Principal) → length (first_of_each ps) ≤ length ps
firsts_few [] = omega arith
firsts_few (p ∷ ps) = let kept = kept_few (λ q. not (same_principal q p)) (first_of_each ps) in omega (arith, kept, firsts_few ps)

pub certificate_fits : (channel : ℕ) → IsWithinLimits (drill_certificate channel)
certificate_fits channel = record {
  quoted_fits = tt;
  left_fits = (omega arith, omega arith);
  right_fits = (omega arith, omega arith);
  few_subterms = let few = firsts_few (Key 1000 ∷ Key channel ∷ Name 1 ∷ []) in omega (arith, few);
}

pub certificate_opens : (seed channel : ℕ) → channel < 2 ^ 32 → Opens (key_at seed 0) (presented seed channel) (drill_certificate channel)
certificate_opens seed channel small = record {
  text = refl;
  numbers = record { issuer = omega arith; quoted = tt; left = small; right = omega arith; from = omega arith; until = omega arith; serial = omega (arith, small) };
  limits = certificate_fits channel;
}

-- what is presented is a certificate's text, under any key
pub certificate_text : (key : List ℕ) (channel : ℕ) → IsCertText (seals.sealed RELAYED key (drill_certificate channel))
certificate_text key channel = (omega (arith, length-sealed key channel), relayed_bytes key (drill_certificate channel))

-- ---- the channels of the opening

-- the key of a number in a row
key_in_row : (key : ℕ → List ℕ) (a n c : ℕ) → a ≤ c → c < a + n → key_of (map (λ k. (k, key k)) (range_with_len a n)) c ≡ Some (key c)
key_in_row key a zero c from below = absurd (omega (arith, from, below))
key_in_row key a (suc n) c from below = elim (cases_eq a c) [
  | inl same ↦ let here : eqb a c ≡ true = grind (arith, nat_tests, same) in rw here (ap (λ k. Some (key k)) same)
  | inr other ↦ let there : eqb a c ≡ false = grind (arith, nat_tests, other) in rw there (key_in_row key (a + 1) n c (omega (arith, from, other)) (omega (arith, below)))
]

-- ---- requests

object_small : (channel word : ℕ) → channel ≤ 16 → object_for channel word < 2 ^ 32
object_small channel word few = by (is_even word)
  where
    by : (b : Bool) → cond b channel (100 + channel) < 2 ^ 32
    by true = omega (arith, few)
    by false = omega (arith, few)

pub asked_fits : (channel seq word : ℕ) (cert : List ℕ) → channel ≤ 16 → seq < 2 ^ 64 → IsCertText cert → FitsRequest (asked channel seq (object_for channel word) cert)
asked_fits channel seq word cert few small text = record {
  channel = omega (arith, few);
  seq = small;
  quoted = tt;
  object = object_small channel word few;
  op = tt;
  few_certs = omega arith;
  certs = All-cons IsCertText cert [] text (All-nil IsCertText);
}

module _ (seed requests lanes i : ℕ) (least : requests ≤ 10000) (some : 0 < lanes) (few : lanes ≤ 16) (is : i < requests) where
  remainder : i % lanes < lanes
  remainder = omega arith

  request_fits : FitsRequest (drill_request seed lanes i)
  request_fits =
      let r = remainder in
      let n : number_of lanes i < 2 ^ 64 = omega (arith, div-le_self i lanes, is, least) in
      asked_fits (channel_of lanes i) (number_of lanes i) (word_of seed i) (presented seed (channel_of lanes i)) (omega (arith, r, few)) n (certificate_text (key_at seed 0) (channel_of lanes i))

  pub request_asked : IsAsked (drill_opening seed requests lanes).channels (payload_of seed lanes i) (drill_request seed lanes i) (key_at seed (channel_of lanes i))
  request_asked =
      let r = remainder in
      record {
        spelled = sealed_spells (key_at seed (channel_of lanes i)) (drill_request seed lanes i) request_fits;
        keyed = key_in_row (key_at seed) 1 lanes (channel_of lanes i) (omega arith) (omega (arith, r));
        seal = record { text = request_text (drill_request seed lanes i); whole = refl };
      }
