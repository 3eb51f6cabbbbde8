-- A notice as a line of JSON: one object, whose members stand in one order, each where it has a value.
use Rattle.std.specs.Prelude.{ℕ, Option, Some, None, if◌then◌else◌, codes, List, [], ◌++◌}
use Rattle.json.specs.Token.{Token}
use Rattle.prin_text.specs.Labels.{Labels}
use Rattle.system_hub.specs.Causes.{cause_word}
use Rattle.taos_wire.specs.View.{request as asked}
use Rattle.taos_wire.specs.declared.reply_head.ReplyHead.{ReplyHead}
use Rattle.taos_wire.specs.declared.request.Request.{Request}
use Rattle.node_telling.specs.declared.texts.journal.Journal.{Journal}
use Rattle.node_telling.specs.declared.texts.journal.Journal.TheVariants.{Shard, Object}
use Rattle.node_telling.specs.declared.texts.notice.Happening.{Happening}
use Rattle.node_telling.specs.declared.texts.notice.Happening.TheVariants.{Replied, NotResealed, Broken, RelayFailed, FetchFailed, ClockFailed, Scarce, Full, Filling}
use Rattle.node_telling.specs.declared.texts.notice.LeftOut.{LeftOut}
use Rattle.node_telling.specs.declared.texts.notice.Notice.{Notice}
use Rattle.node_telling.specs.declared.texts.reply.ReplyFront.{ReplyFront}
use Rattle.node_telling.specs.Asked.{asked_members}
use Rattle.node_telling.specs.Members.{counted, counted_if, first_members, peer_members, worded}
use Rattle.node_telling.specs.Replies.{is_named}
use Rattle.node_telling.specs.Words.{level_of, link_word, word_of}

-- ---- who asked

-- the request that a reply names
abbrev pub request_members : ReplyHead → List Token
request_members head =
    if is_named head
    then counted (codes "channel") head.channel ++ counted (codes "number") head.number
    else []

-- the request that a happening names, where it is a reply
abbrev pub named_members : Happening → List Token
named_members (Replied front) = request_members front.head
named_members (NotResealed code) = []
named_members (Broken why) = []
named_members RelayFailed = []
named_members FetchFailed = []
named_members ClockFailed = []
named_members Scarce = []
named_members Full = []
named_members (Filling journal entries) = []

-- who asked what, where that is known, or else which request it was
abbrev pub who_members : Labels → Option Request → Happening → List Token
who_members labels (Some r) what = asked_members labels (asked r)
who_members labels None what = named_members what

-- ---- what happened

-- what a denial says that lacks
abbrev pub link_members : Option ℕ → List Token
link_members (Some kind) = worded (codes "link") (link_word kind)
link_members None = []

-- what a reply says but of the request
abbrev pub reply_members : ReplyFront → List Token
reply_members front =
    counted_if (codes "channel") front.head.unknown ++ counted (codes "status") front.head.status
    ++ link_members front.link ++ counted_if (codes "code") front.code
    ++ counted_if (codes "shard") front.head.shard ++ counted_if (codes "place") front.head.place

-- whose journal it is
abbrev pub journal_members : Journal → List Token
journal_members (Shard shard) = counted (codes "shard") shard
journal_members (Object object) = counted (codes "object") object

abbrev pub happening_members : Happening → List Token
happening_members (Replied front) = reply_members front
happening_members (NotResealed code) = counted (codes "code") code
happening_members (Broken why) = worded (codes "cause") (cause_word why)
happening_members RelayFailed = []
happening_members FetchFailed = []
happening_members ClockFailed = []
happening_members Scarce = []
happening_members Full = []
happening_members (Filling journal entries) =
    journal_members journal ++ counted (codes "entries") entries

-- ---- lines

abbrev pub notice_members : Labels → Notice → List Token
notice_members labels n =
    first_members n.seconds (level_of n.what) (word_of n.what)
    ++ counted (codes "lane") n.lane ++ peer_members n.peer
    ++ who_members labels n.request n.what ++ happening_members n.what

abbrev pub left_out_members : LeftOut → List Token
left_out_members l =
    first_members l.seconds (codes "warning") (codes "left-out")
    ++ counted (codes "lines") l.count
