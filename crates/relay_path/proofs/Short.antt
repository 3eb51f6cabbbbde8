-- There is room for what a domain seals.
use Rattle.std.proofs.Common.{◌≡◌, ℕ, ◌+◌, ◌≤◌, List, [], ◌++◌, length, ap, arith, length-append}
use Rattle.keyed_seal.specs.Tag.{tag_of}
use Rattle.keyed_seal.proofs.Tags.{length-tag_of}
use Rattle.stmt_codec.specs.Certificates.{Certificate, body_spelling, IsWithinLimits}
use Rattle.stmt_codec.proofs.BodyLengths.{short_body}
use Rattle.sealed_cert.specs.Seals.{sealed_after, text_after}

sum : (front body tag : List ℕ) → length front ≤ 14 → length body ≤ 990 → length tag ≡ 32 → length ((front ++ body) ++ tag) ≤ 2048
sum front body tag few fits whole = omega (arith, length-append (front ++ body) tag, length-append front body)

pub has_room : (front key old bytes : List ℕ) (c : Certificate) → IsWithinLimits c → length front ≤ 14 → old ≡ [] → bytes ≡ sealed_after front key c → length old + length bytes ≤ 2048
has_room front key old bytes c limits few none is =
    let fits = sum front (body_spelling c) (tag_of key (text_after front c)) few (short_body c limits) (length-tag_of key (text_after front c)) in
    omega (arith, ap length none, ap length is, fits)
