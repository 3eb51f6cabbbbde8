use Rattle.std.proofs.Common.{◌≡◌, refl}
use Rattle.std.proofs.lemmas.Result.{err_from_is_err_and}
use Rattle.journal_bytes.specs.JournalsReading.{IsLeastAbove, object_at}
use Rattle.journal_bytes.proofs.Rising.{least_first}
use Rattle.audit_replay.proofs.ObjectsComing.{object_on, object_refused}
use Rattle.audit_replay.proofs.Passing.{reading, reading_ends}
use Rattle.audit_replay.proofs.skipping.skip_objects.Goals as goal

pub loop-init : goal.loop-init
loop-init c = record { read = reading (object_at c.args.bytes.now) c.args.count c.args.at (IsLeastAbove 0) least_first; within = c.requires }

pub returns-in_err-least-clause-value : goal.returns-in_err-least-clause-value
returns-in_err-least-clause-value c =
    let p = err_from_is_err_and c.from_residual.result c.from_residual.ensures.1 in
    rw (p.1, p.2) (object_refused c.args.bytes.now c.args.count c.args.at (λ y end. y.1 ≡ end) c.loop.counter c.loop.next c.loop.least c.in_err-least.field-0.0 c.loop.invariant.read c.loop-test.true c.in_err-least.ensures.value)

pub loop-preserved : goal.loop-preserved
loop-preserved c = record {
  read = object_on c.args.bytes.now c.args.count c.args.at c.loop.counter c.loop.next c.in_ok-least.field-0-1 c.loop.least c.in_ok-least.field-0-0 c.loop.invariant.read c.loop-test.true c.in_ok-least.ensures.value;
  within = c.in_ok-least.ensures.within;
}

pub returns-clause-value : goal.returns-clause-value
returns-clause-value c = reading_ends (object_at c.args.bytes.now) c.args.count c.args.at (λ y end. y.1 ≡ end) c.loop.counter c.loop.next c.loop.next (IsLeastAbove c.loop.least) c.loop.invariant.read c.loop-test.false (λ _. refl)
