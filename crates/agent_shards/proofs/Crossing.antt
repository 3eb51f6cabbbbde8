-- What may go to other threads: terms and what is made of them, shards, objects, and their passes.
use denote.Param.Send.{IsSend, IsSync, sendable}
use denote.Param.SendFields.{declared_send, declared_sync, variants_send, variants_sync, as_row_send, as_row_sync}
use denote.Hole.{as_row}
use denote.Struct.Field.{u8-field, u32-field, u64-field}
use Rattle.std.proofs.Crossing.{crosses, Box-send, Box-sync}
use Rattle.std.proofs.option.Option.TheSendSync as option
use Rattle.prin_term.specs.contracts.term.Term as term
use Rattle.prin_term.specs.contracts.term.Entry as entry
use Rattle.prin_term.specs.contracts.term.Statement as statement
use Rattle.prin_term.proofs.term.Anchor.TheSendSync as anchor
use Rattle.prin_term.proofs.term.Term.TheLaws.TheKnot as knot
use Rattle.taos_calculus.proofs.proof.Proof.TheSendSync as proof
use Rattle.stmt_codec.specs.contracts.body.CertBody as body
use Rattle.stmt_codec.specs.contracts.cert.Cert as cert
use Rattle.proof_cache.specs.contracts.cached.Cached as cached
use Rattle.proof_cache.specs.contracts.cache.Cache as cache
use Rattle.proof_cache.specs.contracts.row.Row as row
use Rattle.agent_core.specs.contracts.event.Ask as ask
use Rattle.agent_core.specs.contracts.event.Event as event
use Rattle.agent_core.specs.contracts.event.ShardEntry as shard_entry
use Rattle.shard_core.specs.contracts.held.presented.Presented as presented
use Rattle.agent_core.specs.contracts.plan.ShardPlan as plan
use Rattle.shard_core.specs.contracts.shard.Shard as shard
use Rattle.agent_core.proofs.told.Told.TheSendSync as told
use Rattle.shard_core.proofs.shard.store.Store.TheSendSync as store
use Rattle.object_core.specs.contracts.entry.ObjectEntry as object_entry
use Rattle.object_core.specs.contracts.fixed.Fixed as fixed
use Rattle.object_core.specs.contracts.object.Object as object
use Rattle.object_core.specs.contracts.operation.Op as op
use Rattle.object_core.proofs.rows.Row.TheSendSync as object_row
use Rattle.object_core.proofs.ruling.Ruling.TheSendSync as ruling
use Rattle.turn_cell.proofs.cell.TurnCell.TheSendSync as cell
use Rattle.turn_cell.proofs.pass.Pass.TheSendSync as pass
use Rattle.agent_shards.specs.contracts.agent.Agent as agent
use Rattle.agent_shards.specs.contracts.guarded.Guarded as guarded
use Rattle.agent_shards.specs.contracts.machine.Machine as machine
use Rattle.agent_shards.specs.contracts.passes.Passes as passes
use Rattle.agent_shards.specs.contracts.rack.Rack as rack
use Rattle.agent_shards.specs.contracts.rack_passes.RackPasses as rack_passes

u8s : IsSend (as_row u8-field)
u8s = search (sendable, as_row_send)

u8y : IsSync (as_row u8-field)
u8y = search (sendable, as_row_sync)

u32s : IsSend (as_row u32-field)
u32s = search (sendable, as_row_send)

u32y : IsSync (as_row u32-field)
u32y = search (sendable, as_row_sync)

u64s : IsSend (as_row u64-field)
u64s = search (sendable, as_row_send)

u64y : IsSync (as_row u64-field)
u64y = search (sendable, as_row_sync)

pub term_send : IsSend (as_row term.the_field)
term_send = as_row_send term.the_field (knot.both_send-Term (search sendable) (search sendable) (λ h s y. Box-send h s) (λ h s y. Box-sync h y))

term_sync : IsSync (as_row term.the_field)
term_sync = as_row_sync term.the_field (knot.both_sync-Term (search sendable) (search sendable) (λ h s y. Box-send h s) (λ h s y. Box-sync h y))

entry_send : IsSend entry.the_row
entry_send = declared_send entry.the_type (u8s, (term_send, tt))

entry_sync : IsSync entry.the_row
entry_sync = declared_sync entry.the_type (u8y, (term_sync, tt))

statement_send : IsSend statement.the_row
statement_send = declared_send statement.the_type (term_send, (term_send, tt))

statement_sync : IsSync statement.the_row
statement_sync = declared_sync statement.the_type (term_sync, (term_sync, tt))

body_send : IsSend body.the_row
body_send = declared_send body.the_type (u32s, (search (sendable, crosses, as_row_send, option.the_send, term_send), (statement_send, (u64s, (u64s, (u64s, tt))))))

body_sync : IsSync body.the_row
body_sync = declared_sync body.the_type (u32y, (search (sendable, crosses, as_row_sync, option.the_sync, term_sync), (statement_sync, (u64y, (u64y, (u64y, tt))))))

pub cert_send : IsSend cert.the_row
cert_send = declared_send cert.the_type (body_send, (term_send, (search (sendable, as_row_send), tt)))

pub cert_sync : IsSync cert.the_row
cert_sync = declared_sync cert.the_type (body_sync, (term_sync, (search (sendable, as_row_sync), tt)))

-- ---- kept proofs

cached_send : IsSend cached.the_row
cached_send = declared_send cached.the_type (term_send, (term_send, (search (sendable, crosses, as_row_send, proof.the_send, proof.the_sync), (search (sendable, crosses, as_row_send, cert_send, cert_sync), (u64s, tt)))))

cached_sync : IsSync cached.the_row
cached_sync = declared_sync cached.the_type (term_sync, (term_sync, (search (sendable, crosses, as_row_sync, proof.the_send, proof.the_sync), (search (sendable, crosses, as_row_sync, cert_send, cert_sync), (u64y, tt)))))

row_send : IsSend row.the_row
row_send = declared_send row.the_type (u64s, (search (sendable, crosses, as_row_send, cached_send, cached_sync), tt))

cache_inside : IsSend cache.TheInside.the_row
cache_inside = declared_send cache.TheInside.the_type (search (sendable, crosses, as_row_send, row_send), tt)

cache_send : IsSend cache.the_row
cache_send = search (sendable, cache_inside)

row_sync : IsSync row.the_row
row_sync = declared_sync row.the_type (u64y, (search (sendable, crosses, as_row_sync, cached_send, cached_sync), tt))

cache_within : IsSync cache.TheInside.the_row
cache_within = declared_sync cache.TheInside.the_type (search (sendable, crosses, as_row_sync, row_sync), tt)

cache_sync : IsSync cache.the_row
cache_sync = search (sendable, cache_within)

-- ---- a shard

ask_send : IsSend ask.the_row
ask_send = declared_send ask.the_type (u32s, (u64s, (u64s, (term_send, (search (sendable, crosses, as_row_send, entry_send, entry_sync), (u8s, (search (sendable, crosses, as_row_send, cert_send, cert_sync), tt)))))))

ask_sync : IsSync ask.the_row
ask_sync = declared_sync ask.the_type (u32y, (u64y, (u64y, (term_sync, (search (sendable, crosses, as_row_sync, entry_send, entry_sync), (u8y, (search (sendable, crosses, as_row_sync, cert_send, cert_sync), tt)))))))

event_send : IsSend event.the_row
event_send = variants_send event.enum (
  (search (sendable, crosses, as_row_send, ask_send, ask_sync), tt),
  (
    (u64s, (u8s, (search (sendable, crosses, as_row_send, cached_send, cached_sync), tt))),
    ((search (sendable, crosses, as_row_send, cert_send, cert_sync) depth 12, tt), ((search (sendable, as_row_send), tt), ((u32s, tt), ((u64s, tt), ((u32s, tt), tt))))),
  ),
)

shard_entry_send : IsSend shard_entry.the_row
shard_entry_send = declared_send shard_entry.the_type (event_send, (told.the_send, tt))

plan_send : IsSend plan.the_row
plan_send = declared_send plan.the_type (u32s, (u32s, (search (sendable, crosses, as_row_send, anchor.the_send, anchor.the_sync), (search (sendable, crosses, as_row_send), (search (sendable, crosses, as_row_send, cert_send, cert_sync), (u64s, (u64s, tt)))))))

presented_send : IsSend presented.the_row
presented_send = declared_send presented.the_type (search (sendable, crosses, as_row_send, cert_send, cert_sync), (search (sendable, crosses, as_row_send), tt))

shard_inside : IsSend shard.TheInside.the_row
shard_inside = declared_send shard.TheInside.the_type (plan_send, (search (sendable, crosses, as_row_send, shard_entry_send), (store.the_send, (presented_send, (cache_send, tt)))))

pub shard_send : IsSend shard.the_row
shard_send = search (sendable, shard_inside)

event_sync : IsSync event.the_row
event_sync = variants_sync event.enum (
  (search (sendable, crosses, as_row_sync, ask_send, ask_sync), tt),
  (
    (u64y, (u8y, (search (sendable, crosses, as_row_sync, cached_send, cached_sync), tt))),
    ((search (sendable, crosses, as_row_sync, cert_send, cert_sync) depth 12, tt), ((search (sendable, as_row_sync), tt), ((u32y, tt), ((u64y, tt), ((u32y, tt), tt))))),
  ),
)

shard_entry_sync : IsSync shard_entry.the_row
shard_entry_sync = declared_sync shard_entry.the_type (event_sync, (told.the_sync, tt))

plan_sync : IsSync plan.the_row
plan_sync = declared_sync plan.the_type (u32y, (u32y, (search (sendable, crosses, as_row_sync, anchor.the_send, anchor.the_sync), (search (sendable, crosses, as_row_sync), (search (sendable, crosses, as_row_sync, cert_send, cert_sync), (u64y, (u64y, tt)))))))

presented_sync : IsSync presented.the_row
presented_sync = declared_sync presented.the_type (search (sendable, crosses, as_row_sync, cert_send, cert_sync), (search (sendable, crosses, as_row_sync), tt))

shard_within : IsSync shard.TheInside.the_row
shard_within = declared_sync shard.TheInside.the_type (plan_sync, (search (sendable, crosses, as_row_sync, shard_entry_sync), (store.the_sync, (presented_sync, (cache_sync, tt)))))

pub shard_sync : IsSync shard.the_row
shard_sync = search (sendable, shard_within)

-- ---- its cell and passes

machine_inside : IsSend machine.TheInside.the_row
machine_inside = declared_send machine.TheInside.the_type (search (sendable, crosses, as_row_send, shard_send), tt)

pub machine_send : IsSend machine.the_row
machine_send = search (sendable, machine_inside)

passes_inside : IsSend passes.TheInside.the_row
passes_inside = declared_send passes.TheInside.the_type (search (sendable, crosses, as_row_send, pass.the_send, machine_send), tt)

pub passes_send : IsSend passes.the_row
passes_send = search (sendable, passes_inside)

agent_within : IsSync agent.TheInside.the_row
agent_within = declared_sync agent.TheInside.the_type (
  search (sendable, crosses, as_row_sync, cell.the_sync, machine_send),
  (search (sendable, crosses, as_row_sync, anchor.the_send, anchor.the_sync), (search (sendable, crosses, as_row_sync, shard_sync), tt)),
)

pub agent_sync : IsSync agent.the_row
agent_sync = search (sendable, agent_within)

-- ---- an object

op_send : IsSend op.the_row
op_send = variants_send op.enum (
  tt,
  ((search (sendable, crosses, as_row_send), tt), ((search (sendable, crosses, as_row_send, entry_send, entry_sync), tt), (tt, ((search (sendable, as_row_send), tt), ((u32s, tt), (tt, ((u32s, tt), tt))))))),
)

op_sync : IsSync op.the_row
op_sync = variants_sync op.enum (
  tt,
  ((search (sendable, crosses, as_row_sync), tt), ((search (sendable, crosses, as_row_sync, entry_send, entry_sync), tt), (tt, ((search (sendable, as_row_sync), tt), ((u32y, tt), (tt, ((u32y, tt), tt))))))),
)

object_entry_send : IsSend object_entry.the_row
object_entry_send = declared_send object_entry.the_type (u32s, (u64s, (search (sendable, crosses, as_row_send, op_send, op_sync), (ruling.the_send, tt))))

object_entry_sync : IsSync object_entry.the_row
object_entry_sync = declared_sync object_entry.the_type (u32y, (u64y, (search (sendable, crosses, as_row_sync, op_send, op_sync), (ruling.the_sync, tt))))

fixed_send : IsSend fixed.the_row
fixed_send = declared_send fixed.the_type (u32s, (search (sendable, crosses, as_row_send), (search (sendable, crosses, as_row_send, entry_send, entry_sync), (u64s, tt))))

fixed_sync : IsSync fixed.the_row
fixed_sync = declared_sync fixed.the_type (u32y, (search (sendable, crosses, as_row_sync), (search (sendable, crosses, as_row_sync, entry_send, entry_sync), (u64y, tt))))

object_inside : IsSend object.TheInside.the_row
object_inside = declared_send object.TheInside.the_type (
  search (sendable, crosses, as_row_send, fixed_send, fixed_sync),
  (search (sendable, crosses, as_row_send, object_entry_send), (search (sendable, as_row_send, option.the_send), (search (sendable, as_row_send, option.the_send), tt))),
)

pub object_send : IsSend object.the_row
object_send = search (sendable, object_inside)

object_within : IsSync object.TheInside.the_row
object_within = declared_sync object.TheInside.the_type (
  search (sendable, crosses, as_row_sync, fixed_send, fixed_sync),
  (search (sendable, crosses, as_row_sync, object_entry_sync), (search (sendable, as_row_sync, option.the_sync), (search (sendable, as_row_sync, option.the_sync), tt))),
)

pub object_sync : IsSync object.the_row
object_sync = search (sendable, object_within)

-- ---- its cell and passes

guarded_inside : IsSend guarded.TheInside.the_row
guarded_inside = declared_send guarded.TheInside.the_type (object_send, tt)

pub guarded_send : IsSend guarded.the_row
guarded_send = search (sendable, guarded_inside)

rack_passes_inside : IsSend rack_passes.TheInside.the_row
rack_passes_inside = declared_send rack_passes.TheInside.the_type (search (sendable, crosses, as_row_send, pass.the_send, guarded_send), tt)

pub rack_passes_send : IsSend rack_passes.the_row
rack_passes_send = search (sendable, rack_passes_inside)

rack_within : IsSync rack.TheInside.the_row
rack_within = declared_sync rack.TheInside.the_type (
  search (sendable, crosses, as_row_sync, cell.the_sync, guarded_send),
  (search (sendable, crosses, as_row_sync, object_row.the_send, object_row.the_sync), (search (sendable, crosses, as_row_sync, object_sync), tt)),
)

pub rack_sync : IsSync rack.the_row
rack_sync = search (sendable, rack_within)
