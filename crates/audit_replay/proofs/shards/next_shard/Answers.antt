use Rattle.std.proofs.Common.{◌≡◌, ◌≤◌, ◌∙◌, ◌+◌, List, Ok, Option, ap, arith, subst₂, sym}
use Rattle.byte_fields.specs.Formats.{ended, u64_in}
use Rattle.byte_fields.specs.Steps.{number_at}
use Rattle.byte_fields.specs.declared.fault.FormatFault.{FormatFault}
use Rattle.std.specs.Int.{w64}
use Rattle.journal_bytes.specs.JournalsReading.{shard_at}
use Rattle.audit_replay.specs.declared.fall.Failure.{Failure}
use Rattle.audit_replay.specs.declared.stepping.ShardReplay.{ShardReplay}
use Rattle.audit_replay.specs.Passes.{ShardComes}
use Rattle.audit_replay.specs.Stepping.{MakesOf}
use Rattle.audit_replay.proofs.Forward.{number_ends}
use Rattle.audit_replay.proofs.ShardsComing.{none_is, shard_came, shard_passed, some_is}
use Rattle.audit_replay.proofs.shards.next_shard.Goals as goal

pub returns-then-is_some-clause-value : goal.returns-then-is_some-clause-value
returns-then-is_some-clause-value g c =
    let bytes = c.args.bytes.now in
    let counted : u64_in bytes c.args.at ≡ Ok (c.in_ok-count.count, c.in_ok-count.start) = sym (c.in_ok-count.ensures.value ∙ ap (λ (s : FormatFault). number_at s w64 bytes c.args.at) c.ended.ensures) in
    let (f, failed) = some_is c.args.progress.failure (sym c.is_some.ensures ∙ c.if-is_some.true) in
    shard_passed bytes c.args.shard c.args.replayed.now.items c.args.progress c.args.at c.in_ok-count.count c.in_ok-count.start c.in_ok-next.next f failed counted c.in_ok-next.ensures.value

pub returns-clause-value : goal.returns-clause-value
returns-clause-value g c =
    let bytes = c.args.bytes.now in
    let rs = c.args.replayed.now.items in
    let p = c.args.progress in
    let counted : u64_in bytes c.args.at ≡ Ok (c.in_ok-count.count, c.in_ok-count.start) = sym (c.in_ok-count.ensures.value ∙ ap (λ (s : FormatFault). number_at s w64 bytes c.args.at) c.ended.ensures) in
    let whole = none_is p.failure (sym c.is_some.ensures ∙ c.if-is_some.false) in
    subst₂ (λ (items : List ShardReplay) (failure : Option Failure). MakesOf (ShardComes c.args.shard rs items p) (Ok (record { same = p.same; failure = failure; entries = p.entries + c.in_ok-count.count }, c.in_ok-replay.next)) (shard_at bytes c.args.at))
    (sym c.in_ok-push.ensures.items) (sym c.failed_at.ensures)
    (shard_came bytes c.args.shard rs p c.args.at c.in_ok-count.count c.in_ok-count.start c.in_ok-replay.next c.in_ok-replay.replay c.in_ok-replay.fall _ whole (omega arith) counted c.in_ok-replay.ensures.value)

pub returns-then-is_some-clause-within : goal.returns-then-is_some-clause-within
returns-then-is_some-clause-within g c =
    let bytes = c.args.bytes.now in
    let counted : u64_in bytes c.args.at ≡ Ok (c.in_ok-count.count, c.in_ok-count.start) = sym (c.in_ok-count.ensures.value ∙ ap (λ (s : FormatFault). number_at s w64 bytes c.args.at) c.ended.ensures) in
    let behind : c.args.at ≤ c.in_ok-count.start = number_ends (ended bytes) w64 bytes c.args.at (c.in_ok-count.count, c.in_ok-count.start) counted in
    (omega (arith, behind, c.requires.within.0, c.in_ok-next.ensures.within.0), c.in_ok-next.ensures.within.1)

pub returns-clause-within : goal.returns-clause-within
returns-clause-within g c =
    let bytes = c.args.bytes.now in
    let counted : u64_in bytes c.args.at ≡ Ok (c.in_ok-count.count, c.in_ok-count.start) = sym (c.in_ok-count.ensures.value ∙ ap (λ (s : FormatFault). number_at s w64 bytes c.args.at) c.ended.ensures) in
    let behind : c.args.at ≤ c.in_ok-count.start = number_ends (ended bytes) w64 bytes c.args.at (c.in_ok-count.count, c.in_ok-count.start) counted in
    (omega (arith, behind, c.requires.within.0, c.in_ok-replay.ensures.within.0), c.in_ok-replay.ensures.within.1)
