use Rattle.std.proofs.Common.{◌≡◌, ◌≤◌, ◌∙◌, Ok, ap, arith, sym}
use Rattle.std.specs.Int.{w64}
use Rattle.byte_fields.specs.Formats.{ended, u64_in}
use Rattle.byte_fields.specs.Steps.{number_at}
use Rattle.byte_fields.specs.declared.fault.FormatFault.{FormatFault}
use Rattle.std.specs.Prelude.{nat_le}
use Rattle.audit_replay.proofs.Forward.{number_ends, passing_ends}
use Rattle.audit_replay.proofs.ObjectsComing.{object_came}
use Rattle.audit_replay.proofs.objects.next_object.Goals as goal

pub object_entries-requires : goal.object_entries-requires
object_entries-requires c =
    let bytes = c.args.bytes.now in
    let counted : u64_in bytes c.in_ok-number.next ≡ Ok (c.in_ok-count.count, c.in_ok-count.next) = sym (c.in_ok-count.ensures.value ∙ ap (λ (s : FormatFault). number_at s w64 bytes c.in_ok-number.next) c.ended.ensures) in
    let first : c.args.at ≤ c.in_ok-number.next = passing_ends (λ n. nat_le c.args.least n) bytes c.args.at (c.in_ok-number.number, c.in_ok-number.next) (sym c.in_ok-number.ensures.value) in
    let second : c.in_ok-number.next ≤ c.in_ok-count.next = number_ends (ended bytes) w64 bytes c.in_ok-number.next (c.in_ok-count.count, c.in_ok-count.next) counted in
    record { within = (omega (arith, c.requires.within.0, first, second), c.in_ok-count.ensures.within) }

pub returns-clause-value : goal.returns-clause-value
returns-clause-value c =
    let bytes = c.args.bytes.now in
    let counted : u64_in bytes c.in_ok-number.next ≡ Ok (c.in_ok-count.count, c.in_ok-count.next) = sym (c.in_ok-count.ensures.value ∙ ap (λ (s : FormatFault). number_at s w64 bytes c.in_ok-number.next) c.ended.ensures) in
    object_came bytes c.args.shards.now c.object_entries.new.shards c.args.object c.args.progress c.args.at c.args.least c.in_ok-number.number c.in_ok-number.next c.in_ok-count.count c.in_ok-count.next c.is_same.result c.in_ok-progress.progress c.in_ok-progress.next
    (sym c.in_ok-number.ensures.value) c.in_ok-number.ensures.from counted c.is_same.ensures c.in_ok-progress.ensures.value
