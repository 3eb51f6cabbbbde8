use Rattle.std.proofs.Common.{◌≡◌, List, refl, arith}
use Rattle.std.proofs.lemmas.Result.{err_from_is_err_and}
use Rattle.journal_bytes.specs.Reading.{entry_at}
use Rattle.journal_bytes.specs.Spelled.{SpelledEntry}
use Rattle.journal_bytes.specs.View.{entry_seen}
use Rattle.audit_replay.proofs.Passing.{reading, reading_ends, reading_stops, reads_on, entry_long}
use Rattle.audit_replay.proofs.skipping.skip_entries.Goals as goal

pub loop-init : goal.loop-init
loop-init c = record {
  read = reading (λ (_ : List SpelledEntry). entry_at c.args.bytes.now) c.args.count c.args.at (λ _. Unit {0}) tt;
  room = omega arith;
  within = c.requires;
}

pub returns-in_err-after-clause-value : goal.returns-in_err-after-clause-value
returns-in_err-after-clause-value c =
    let p = err_from_is_err_and c.from_residual.result c.from_residual.ensures.1 in
    let item = λ (_ : List SpelledEntry). entry_at c.args.bytes.now in
    rw (p.1, p.2) (reading_stops item c.args.count c.args.at (λ y end. y.1 ≡ end) c.loop.counter c.loop.next c.in_err-after.field-0.0 (λ _. Unit {0}) c.loop.invariant.read c.loop-test.true c.in_err-after.ensures.exact)

pub loop-preserved : goal.loop-preserved
loop-preserved c =
    let item = λ (_ : List SpelledEntry). entry_at c.args.bytes.now in
    record {
      read = reads_on item c.args.count c.args.at c.loop.counter c.loop.next c.in_ok-after.after (entry_seen c.in_ok-after.field-0-0) (λ _. Unit {0}) (λ _. Unit {0}) c.loop.invariant.read c.loop-test.true c.in_ok-after.ensures.exact (λ _. tt);
      room = omega (arith, c.loop.invariant.room, c.in_ok-after.ensures.found.1, entry_long (entry_seen c.in_ok-after.field-0-0));
      within = c.in_ok-after.ensures.within;
    }

pub returns-clause-value : goal.returns-clause-value
returns-clause-value c =
    let item = λ (_ : List SpelledEntry). entry_at c.args.bytes.now in
    reading_ends item c.args.count c.args.at (λ y end. y.1 ≡ end) c.loop.counter c.loop.next c.loop.next (λ _. Unit {0}) c.loop.invariant.read c.loop-test.false (λ _. refl)
