-- What the program's requests and replies mean, without where their parts lie in memory.
use Rattle.std.specs.Prelude.{ℕ, List, Vec, map}
use Rattle.std.specs.Arc.{arc_value}
use Rattle.std.specs.declared.sync.Arc.{Arc}
use Rattle.std.specs.Option.{option_map}
use Rattle.object_core.specs.View.{operation}
use Rattle.prin_term.specs.View.{principal}
use Rattle.taos_wire.specs.declared.request.Request as code
use Rattle.stmt_codec.specs.declared.cert.Cert.{Cert}
use Rattle.stmt_codec.specs.Certificates.{Certificate, certificate}
use Rattle.taos_calculus.specs.Tables.{lines_of}
use Rattle.taos_wire.specs.declared.reply.Reply as code_reply
use Rattle.taos_wire.specs.declared.reply.Reply.TheVariants as replies
use Rattle.taos_wire.specs.declared.reply.LentGrant.{LentGrant}
use Rattle.taos_wire.specs.declared.reply.LentPart.{LentPart}
use Rattle.taos_wire.specs.declared.reply.LinkSent as code_link
use Rattle.taos_wire.specs.declared.reply.LinkSent.TheVariants as links
use Rattle.taos_wire.specs.Reply.{Reply, Granted, Denied, Malformed, UnknownChannel, BadSeal}
use Rattle.taos_wire.specs.Reply.{Replayed, CertRefused, ChannelFull, RelayFailed, UnknownObject}
use Rattle.taos_wire.specs.Reply.{JournalFull, NoMemory, CommonsFull, NotHeld, WithdrawnFull, LinkSent}
use Rattle.taos_wire.specs.Reply.{Expired, Missing, NoEntry, Early}
use Rattle.taos_wire.specs.Request.{Request}

-- the bytes alone
abbrev pub text_of : {Z : Type 0} → Vec ℕ Z → List ℕ
text_of bytes = bytes.items

-- the request that the program's one stands for
abbrev pub request : code.Request → Request
request r = record {
  channel = r.channel;
  seq = r.seq;
  quoted = option_map principal r.quoted;
  object = r.object;
  op = operation (arc_value r.op);
  certs = map text_of r.certs.items;
}

-- the certificate that a shared one stands for
abbrev pub cited : {Z : Type 0} → Arc Cert Z → Certificate
cited c = certificate (arc_value c).body

-- what a denial of the program names
abbrev pub link : code_link.LinkSent → LinkSent
link (links.Expired entry digest) = Expired entry digest
link (links.Missing entry part) = Missing entry (principal part)
link links.NoEntry = NoEntry
link (links.Early entry digest) = Early entry digest

-- the reply that the program's one stands for
abbrev pub reply : code_reply.Reply → Reply
reply (replies.Granted kept entry shard place proof certs result) =
    Granted kept entry shard place (lines_of (arc_value proof)) (map cited certs.items)
    result.items
reply (replies.Denied shard place l) = Denied shard place (link l)
reply (replies.Malformed offset) = Malformed offset
reply (replies.UnknownChannel number) = UnknownChannel number
reply replies.BadSeal = BadSeal
reply (replies.Replayed last) = Replayed last
reply (replies.CertRefused index code) = CertRefused index code
reply (replies.ChannelFull held) = ChannelFull held
reply (replies.RelayFailed index) = RelayFailed index
reply (replies.UnknownObject number) = UnknownObject number
reply (replies.JournalFull which number len) = JournalFull which number len
reply replies.NoMemory = NoMemory
reply (replies.CommonsFull held shard) = CommonsFull held shard
reply (replies.NotHeld digest) = NotHeld digest
reply (replies.WithdrawnFull held shard) = WithdrawnFull held shard

-- the reply of a grant whose parts are lent
abbrev pub lent_grant : LentGrant → Reply
lent_grant g =
    Granted g.kept g.entry g.shard g.place (lines_of g.proof.now) (map cited g.certs.now)
    g.content.now

-- the reply of a denial whose part is lent
abbrev pub lent_part : LentPart → Reply
lent_part d = Denied d.shard d.place (Missing d.entry (principal d.part.now))
