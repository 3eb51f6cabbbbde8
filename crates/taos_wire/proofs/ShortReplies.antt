-- How long the bytes of replies are at most.
use Rattle.std.proofs.Common.{◌≡◌, ℕ, ◌+◌, ◌*◌, ◌<◌, ◌≤◌, ◌^◌, List, [], ◌∷◌, ◌++◌, length, map, Option, ap, arith, length-append}
use Rattle.std.specs.Int.{w16, w32, w64, to_be_bytes}
use Rattle.std.specs.List.{flat_map}
use Rattle.std.specs.declared.sync.Arc.{Arc}
use Rattle.std.specs.Arc.{arc_value}
use Rattle.std.proofs.lemmas.List.Concat.{flat_map-cons}
use Rattle.stmt_codec.specs.declared.cert.Cert.{Cert}
use Rattle.prin_term.specs.Principal.{node_count}
use Rattle.byte_fields.specs.Steps.{counted}
use Rattle.prin_term.specs.View.{principal}
use Rattle.taos_calculus.specs.Spelling.{proof_bytes}
use Rattle.taos_calculus.specs.Tables.{lines_of}
use Rattle.taos_wire.specs.declared.reply.LentGrant.{LentGrant}
use Rattle.taos_wire.specs.declared.reply.LentPart.{LentPart}
use Rattle.taos_wire.specs.Reply.{Reply, Granted, Denied, Malformed, UnknownChannel, BadSeal, Replayed, CertRefused, ChannelFull, RelayFailed, UnknownObject, JournalFull, NoMemory, CommonsFull}
use Rattle.taos_wire.specs.Reply.{NotHeld, WithdrawnFull, PullFailed, LinkSent, Expired, Missing, NoEntry, Early, FitsReply, FitsLink, link_bytes, flag, status_of, fields_of}
use Rattle.taos_wire.specs.Reply.{answered_bytes, reply_text, seal_of, sent, spelling}
use Rattle.taos_wire.specs.View.{cited, lent_grant, lent_part}
use Rattle.taos_wire.proofs.Seals.{length-seal_of}
use Rattle.stmt_codec.specs.Lists.{cert_bytes, cited_bytes}
use Rattle.stmt_codec.proofs.Listed.{cert_short}
use Rattle.prin_term.proofs.Sizes.{spelling_short as term_bound}

pub certs_short : {Z : Type 0} (certs : List (Arc Cert Z)) → length (flat_map cert_bytes (map cited certs)) ≤ length certs * 1026
certs_short [] = omega arith
certs_short (c ∷ certs) =
    omega (arith, ap length (flat_map-cons cert_bytes (cited c) (map cited certs)), length-append (cert_bytes (cited c)) (flat_map cert_bytes (map cited certs)), certs_short certs, cert_short (cited c) (arc_value c).limits)

-- a grant's fields
pub granted_short : (g : LentGrant) → length (proof_bytes (lines_of g.proof.now)) < 2 ^ 25 + 4 → length g.certs.now ≤ 64 → length g.content.now < 2 ^ 16
    → length (fields_of (lent_grant g)) < 2 ^ 25 + 2 ^ 17 + 2 ^ 16
granted_short g p few r =
    let front = flag g.kept ∷ g.entry ∷ to_be_bytes w32 g.shard ++ to_be_bytes w64 g.place in
    let proof = proof_bytes (lines_of g.proof.now) in
    let certs = cited_bytes (map cited g.certs.now) in
    let content = g.content.now in
    omega (arith, p, few, r, certs_short g.certs.now, length-append front proof, length-append (front ++ proof) certs, length-append (front ++ proof ++ certs) (counted w16 content), length-append (to_be_bytes w16 (length content)) content)

-- a reply to which its text's length is known
pub text_short : (channel seq : ℕ) (r : Reply) → length (fields_of r) < 2 ^ 25 + 2 ^ 17 + 2 ^ 16 → length (reply_text channel seq r) < 2 ^ 25 + 2 ^ 18
unfolding reply_text
text_short channel seq r lt = omega (arith, lt, length-append (answered_bytes channel seq) (status_of r ∷ fields_of r))

pub spelling_short : (key : Option (List ℕ)) (channel seq : ℕ) (r : Reply) → length (reply_text channel seq r) < 2 ^ 25 + 2 ^ 18 → length (spelling (sent key channel seq r)) < 2 ^ 26
spelling_short key channel seq r lt = omega (arith, lt, length-append (reply_text channel seq r) (seal_of key (reply_text channel seq r)), length-seal_of key (reply_text channel seq r))

-- ---- all but grants

link_short : (l : LinkSent) → FitsLink l → length (link_bytes l) ≤ 82
link_short (Expired entry digest) fits = omega (arith, fits.1.0)
link_short (Missing entry part) fits = omega (arith, term_bound part, fits.1.nodes_fit)
link_short NoEntry fits = omega arith
link_short (Early entry digest) fits = omega (arith, fits.1.0)

small_fields : (r : Reply) → FitsReply r → 0 < status_of r → length (fields_of r) ≤ 94
small_fields (Granted kept entry shard place proof certs result) fits lt = absurd (omega (arith, lt))
small_fields (Denied shard place l) fits lt = omega (arith, link_short l fits.2, length-append (to_be_bytes w32 shard ++ to_be_bytes w64 place) (link_bytes l))
small_fields (Malformed offset) fits lt = omega arith
small_fields (UnknownChannel number) fits lt = omega arith
small_fields BadSeal fits lt = omega arith
small_fields (Replayed last) fits lt = omega arith
small_fields (CertRefused index code) fits lt = omega arith
small_fields (ChannelFull held) fits lt = omega arith
small_fields (RelayFailed index) fits lt = omega arith
small_fields (UnknownObject number) fits lt = omega arith
small_fields (JournalFull which number len) fits lt = omega arith
small_fields NoMemory fits lt = omega arith
small_fields (CommonsFull held shard) fits lt = omega arith
small_fields (NotHeld digest) fits lt = omega (arith, fits.0)
small_fields (WithdrawnFull held shard) fits lt = omega arith
small_fields PullFailed fits lt = absurd fits

pub denied_short : (r : Reply) (shard place : ℕ) (l : LinkSent) → r ≡ Denied shard place l → FitsReply r → length (fields_of r) < 2 ^ 25 + 2 ^ 17 + 2 ^ 16
denied_short r shard place l is fits =
    let named : status_of r ≡ 1 = ap status_of is in
    omega (arith, small_fields r fits (omega (arith, named)))

pub small_reply : (key : Option (List ℕ)) (channel seq : ℕ) (r : Reply) → FitsReply r → 0 < status_of r → length (spelling (sent key channel seq r)) ≤ 256
unfolding reply_text
small_reply key channel seq r fits lt =
    omega (arith, small_fields r fits lt, length-append (answered_bytes channel seq) (status_of r ∷ fields_of r), length-append (reply_text channel seq r) (seal_of key (reply_text channel seq r)), length-seal_of key (reply_text channel seq r))

pub missing_short : (key : Option (List ℕ)) (channel seq : ℕ) (d : LentPart) → node_count (principal d.part.now) ≤ 16 → length (spelling (sent key channel seq (lent_part d))) ≤ 256
unfolding reply_text
missing_short key channel seq d few =
    let r = lent_part d in
    omega (arith, few, term_bound (principal d.part.now), length-append (reply_text channel seq r) (seal_of key (reply_text channel seq r)), length-seal_of key (reply_text channel seq r))
