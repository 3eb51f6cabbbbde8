use Rattle.std.proofs.Common.{◌≡◌, ◌∙◌, Ok, ap, arith, sym}
use Rattle.std.specs.Int.{w32}
use Rattle.byte_fields.specs.Formats.{u32_in}
use Rattle.byte_fields.specs.Steps.{number_at}
use Rattle.byte_fields.specs.declared.fault.FormatFault.{FormatFault}
use Rattle.audit_replay.proofs.ShardsComing.{shards_compared, shards_differ}
use Rattle.audit_replay.proofs.shards.all_shards.Goals as goal

pub returns-then-count-len-clause-value : goal.returns-then-count-len-clause-value
returns-then-count-len-clause-value g c =
    let bytes = c.args.bytes.now in
    let counted : u32_in bytes c.args.at ≡ Ok (c.in_ok-count.count, c.in_ok-count.next) = sym (c.in_ok-count.ensures.value ∙ ap (λ (s : FormatFault). number_at s w32 bytes c.args.at) c.ended.ensures) in
    shards_compared bytes c.args.shards.items c.args.at c.in_ok-count.count c.in_ok-count.next c.replay_shards.result counted (omega arith) c.replay_shards.ensures.value

pub returns-clause-value : goal.returns-clause-value
returns-clause-value g c =
    let bytes = c.args.bytes.now in
    let counted : u32_in bytes c.args.at ≡ Ok (c.in_ok-count.count, c.in_ok-count.next) = sym (c.in_ok-count.ensures.value ∙ ap (λ (s : FormatFault). number_at s w32 bytes c.args.at) c.ended.ensures) in
    shards_differ bytes c.args.shards.items c.args.at c.in_ok-count.count c.in_ok-count.next c.in_ok-next.next c.new.result counted (λ same. omega (arith, same)) c.in_ok-next.ensures.value
