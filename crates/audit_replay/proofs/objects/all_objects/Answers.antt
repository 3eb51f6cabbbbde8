use Rattle.std.proofs.Common.{◌≡◌, ◌≤◌, ◌∙◌, Ok, ap, arith, sym}
use Rattle.std.specs.Int.{w32}
use Rattle.byte_fields.specs.Formats.{ended, u32_in}
use Rattle.byte_fields.specs.Steps.{number_at}
use Rattle.byte_fields.specs.declared.fault.FormatFault.{FormatFault}
use Rattle.audit_replay.proofs.Forward.{number_ends}
use Rattle.audit_replay.proofs.ObjectsComing.{objects_compared, objects_differ}
use Rattle.audit_replay.proofs.objects.all_objects.Goals as goal

pub rule_objects-requires : goal.rule_objects-requires
rule_objects-requires c =
    let bytes = c.args.bytes.now in
    let counted : u32_in bytes c.args.at ≡ Ok (c.in_ok-count.count, c.in_ok-count.next) = sym (c.in_ok-count.ensures.value ∙ ap (λ (s : FormatFault). number_at s w32 bytes c.args.at) c.ended.ensures) in
    let behind : c.args.at ≤ c.in_ok-count.next = number_ends (ended bytes) w32 bytes c.args.at (c.in_ok-count.count, c.in_ok-count.next) counted in
    record { within = (omega (arith, behind, c.requires.within.0), c.in_ok-count.ensures.within) }

pub returns-then-count-len-clause-value : goal.returns-then-count-len-clause-value
returns-then-count-len-clause-value c =
    let bytes = c.args.bytes.now in
    let counted : u32_in bytes c.args.at ≡ Ok (c.in_ok-count.count, c.in_ok-count.next) = sym (c.in_ok-count.ensures.value ∙ ap (λ (s : FormatFault). number_at s w32 bytes c.args.at) c.ended.ensures) in
    objects_compared bytes c.args.shards.now c.args.objects.items c.args.progress c.args.at c.in_ok-count.count c.in_ok-count.next c.rule_objects.result counted (omega arith) c.rule_objects.ensures.value

pub returns-clause-value : goal.returns-clause-value
returns-clause-value c =
    let bytes = c.args.bytes.now in
    let counted : u32_in bytes c.args.at ≡ Ok (c.in_ok-count.count, c.in_ok-count.next) = sym (c.in_ok-count.ensures.value ∙ ap (λ (s : FormatFault). number_at s w32 bytes c.args.at) c.ended.ensures) in
    objects_differ bytes c.args.shards.now c.args.objects.items c.args.progress c.args.at c.in_ok-count.count c.in_ok-count.next c.in_ok-next.next counted (λ same. omega (arith, same)) c.in_ok-next.ensures.value
