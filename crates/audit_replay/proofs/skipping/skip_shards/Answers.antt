use Rattle.std.proofs.Common.{◌≡◌, List, refl}
use Rattle.std.proofs.lemmas.Result.{err_from_is_err_and}
use Rattle.journal_bytes.specs.JournalsReading.{shard_at}
use Rattle.journal_bytes.specs.Spelled.{SpelledEntry}
use Rattle.audit_replay.proofs.Passing.{passes_on, reading, reading_ends, reading_stops}
use Rattle.audit_replay.proofs.skipping.skip_shards.Goals as goal

pub loop-init : goal.loop-init
loop-init c = record { read = reading (λ (_ : List (List SpelledEntry)). shard_at c.args.bytes.now) c.args.count c.args.at (λ _. Unit {0}) tt; within = c.requires }

pub returns-in_err-next-clause-value : goal.returns-in_err-next-clause-value
returns-in_err-next-clause-value c =
    let p = err_from_is_err_and c.from_residual.result c.from_residual.ensures.1 in
    let item = λ (_ : List (List SpelledEntry)). shard_at c.args.bytes.now in
    rw (p.1, p.2) (reading_stops item c.args.count c.args.at (λ y end. y.1 ≡ end) c.loop.counter c.loop.next c.in_err-next.field-0.0 (λ _. Unit {0}) c.loop.invariant.read c.loop-test.true c.in_err-next.ensures.value)

pub loop-preserved : goal.loop-preserved
loop-preserved c =
    let item = λ (_ : List (List SpelledEntry)). shard_at c.args.bytes.now in
    record {
      read = passes_on item c.args.count c.args.at c.loop.counter c.loop.next c.in_ok-next.next c.loop.invariant.read c.loop-test.true c.in_ok-next.ensures.value;
      within = c.in_ok-next.ensures.within;
    }

pub returns-clause-value : goal.returns-clause-value
returns-clause-value c =
    let item = λ (_ : List (List SpelledEntry)). shard_at c.args.bytes.now in
    reading_ends item c.args.count c.args.at (λ y end. y.1 ≡ end) c.loop.counter c.loop.next c.loop.next (λ _. Unit {0}) c.loop.invariant.read c.loop-test.false (λ _. refl)
