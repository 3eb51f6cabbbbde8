use Rattle.std.proofs.Common.{[], List, refl}
use Rattle.byte_fields.specs.Readers.{items_behind}
use Rattle.journal_bytes.specs.Reading.{entry_at}
use Rattle.journal_bytes.specs.Spelled.{SpelledEntry}
use Rattle.audit_replay.proofs.ShardsComing.{replay_made}
use Rattle.audit_replay.proofs.shards.replay_shard.Goals as goal

pub returns-clause-value : goal.returns-clause-value
returns-clause-value g c =
    replay_made c.args.shard (record { shard = c.args.shard; marks = c.new.result; lists = c.in_ok-new.field-0 }) c.replay_entries.new.replay c.in_ok-fall.fall c.in_ok-fall.next (items_behind (λ (_ : List SpelledEntry). entry_at c.args.bytes.now) c.args.count [] c.args.at) refl
    c.new.ensures.items c.in_ok-fall.ensures.value
