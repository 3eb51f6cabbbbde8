-- What the program's journals mean, wherever their parts lie in memory.
use Rattle.std.specs.Prelude.{List, map}
use Rattle.std.specs.declared.alloc.Global.{Global}
use Rattle.std.specs.declared.vec.Vec.{Vec}
use Rattle.stmt_codec.specs.View.{certificates}
use Rattle.taos_calculus.specs.Tables.{lines_of}
use Rattle.object_core.specs.ObjectView.{object_entry}
use Rattle.agent_core.specs.declared.event.ShardEntry.{ShardEntry}
use Rattle.agent_core.specs.Views.{ask_of, entry_of}
use Rattle.journal_bytes.specs.declared.entry.SpelledEvent as code
use Rattle.journal_bytes.specs.declared.entry.SpelledEvent.TheVariants as variant
use Rattle.journal_bytes.specs.declared.entry.SpelledEntry as code_entry
use Rattle.journal_bytes.specs.declared.journals.Journals as code_journals
use Rattle.journal_bytes.specs.declared.journals.ObjectJournal as code_object
use Rattle.journal_bytes.specs.Spelled.{SpelledEvent, Asks, Keeps, Holds, Discards, Forgets}
use Rattle.journal_bytes.specs.Spelled.{Expires, Withdraws, SpelledEntry, ObjectJournal, Journals, spelled}

-- the event that the program's one stands for
abbrev pub event_seen : code.SpelledEvent → SpelledEvent
event_seen (variant.Ask a) = Asks (ask_of a)
event_seen (variant.Keep ask entry proof cites) =
    Keeps ask entry (lines_of proof) (certificates cites.items)
event_seen (variant.Hold certs) = Holds (certificates certs.items)
event_seen (variant.Discard digest) = Discards digest
event_seen (variant.Forget channel) = Forgets channel
event_seen (variant.Expire reading) = Expires reading
event_seen (variant.Withdraw issuer) = Withdraws issuer

-- the entry that the program's one stands for
abbrev pub entry_seen : code_entry.SpelledEntry → SpelledEntry
entry_seen e = record { event = event_seen e.event; told = e.told }

-- what is spelled of an entry of a shard
abbrev pub entry_spelled : ShardEntry → SpelledEntry
entry_spelled e = spelled (entry_of e)

-- the journal of a shard that the program's one stands for
abbrev pub shard_seen : Vec code_entry.SpelledEntry Global → List SpelledEntry
shard_seen entries = map entry_seen entries.items

-- the journal of an object that the program's one stands for
abbrev pub object_seen : code_object.ObjectJournal → ObjectJournal
object_seen o = record { number = o.number; entries = map object_entry o.entries.items }

-- the journals that the program's ones stand for
abbrev pub journals_seen : code_journals.Journals → Journals
journals_seen j =
    record { shards = map shard_seen j.shards.items; objects = map object_seen j.objects.items }
