-- What the program's plans, events and answers mean, wherever their parts lie in memory.
use Rattle.std.specs.Prelude.{List, map}
use Rattle.std.specs.Arc.{arc_value}
use Rattle.prin_term.specs.View.{principal, grant}
use Rattle.stmt_codec.specs.View.{certificates}
use Rattle.proof_cache.specs.Cached.{cached}
use Rattle.proof_cache.specs.declared.cached.Cached.{Cached as CachedValue}
use Rattle.agent_core.specs.declared.plan.ShardPlan.{ShardPlan}
use Rattle.agent_core.specs.declared.event.Ask.{Ask as AskValue}
use Rattle.agent_core.specs.declared.event.Event.{Event as EventValue}
use Rattle.agent_core.specs.declared.event.Event.TheVariants as code
use Rattle.agent_core.specs.declared.event.ShardEntry.{ShardEntry}
use Rattle.agent_core.specs.State.{Plan, Ask, Event, Asks, Keeps, Holds, Discards, Forgets, Expires, Withdraws}
use Rattle.agent_core.specs.Journals.{Entry, ShardSeen}

-- the plan that the program's one stands for
abbrev pub plan_of : ShardPlan → Plan
plan_of p = record {
  number = p.number;
  shards = p.shards;
  anchors = (arc_value p.anchors).items;
  channels = p.channels.items;
  commons = certificates p.commons.items;
  keep = p.keep;
  limit = p.limit;
}

-- the Ask that the program's one stands for
abbrev pub ask_of : AskValue → Ask
ask_of a = record {
  channel = a.channel;
  seq = a.seq;
  reading = a.reading;
  subject = principal a.subject;
  list = map grant (arc_value a.list).items;
  right = a.right;
  presented = certificates a.presented.items;
}

-- the event that the program's one stands for
abbrev pub event_of : EventValue → Event
event_of (code.Ask a) = Asks (ask_of (arc_value a))
event_of (code.Keep ask entry c) = Keeps ask entry (cached (arc_value {X = CachedValue} c))
event_of (code.Hold certs) = Holds (certificates (arc_value certs).items)
event_of (code.Discard digest) = Discards digest
event_of (code.Forget channel) = Forgets channel
event_of (code.Expire reading) = Expires reading
event_of (code.Withdraw issuer) = Withdraws issuer

-- the entry of a journal that the program's one stands for
abbrev pub entry_of : ShardEntry → Entry
entry_of e = record { event = event_of e.event; told = e.told }

-- what is seen of a shard with this plan and these entries
abbrev pub book_of : ShardPlan → List ShardEntry → ShardSeen
book_of plan entries = record { plan = plan_of plan; journal = map entry_of entries }
