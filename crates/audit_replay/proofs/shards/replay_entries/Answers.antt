use Rattle.std.proofs.Common.{List, None, arith, refl, inl}
use Rattle.std.proofs.lemmas.Result.{err_from_is_err_and}
use Rattle.journal_bytes.specs.Reading.{entry_at}
use Rattle.journal_bytes.specs.Spelled.{SpelledEntry}
use Rattle.journal_bytes.specs.View.{entry_seen}
use Rattle.audit_replay.specs.Passes.{EntriesCome}
use Rattle.audit_replay.proofs.Passing.{Come, reading, reading_ends, reading_stops, reads_on, entry_long}
use Rattle.audit_replay.proofs.shards.replay_entries.Goals as goal

pub loop-init : goal.loop-init
loop-init g c = record {
  read = reading (λ (_ : List SpelledEntry). entry_at c.args.bytes.now) c.args.count c.args.at (Come c.args.replay.now c.args.replay.now None) (λ plans number is. is);
  room = omega arith;
  within = c.requires;
}

pub go_on-requires : goal.go_on-requires
go_on-requires g c = record { fits = c.in_ok-entry.ensures.found.0.limits }

pub returns-in_err-entry-clause-value : goal.returns-in_err-entry-clause-value
returns-in_err-entry-clause-value g c =
    let p = err_from_is_err_and c.from_residual.result c.from_residual.ensures.1 in
    let item = λ (_ : List SpelledEntry). entry_at c.args.bytes.now in
    rw (p.1, p.2) (reading_stops item c.args.count c.args.at (EntriesCome c.args.replay.now c.loop.replay) c.loop.counter c.loop.next c.in_err-entry.field-0.0 (Come c.args.replay.now c.loop.replay c.loop.fall) c.loop.invariant.read c.loop-test.true c.in_err-entry.ensures.exact)

pub returns-in_err-fall-clause-value : goal.returns-in_err-fall-clause-value
returns-in_err-fall-clause-value g c =
    let p = err_from_is_err_and c.from_residual-in_err-fall.result c.from_residual-in_err-fall.ensures.1 in
    rw (p.1, p.2) (inl refl)

pub loop-preserved : goal.loop-preserved
loop-preserved g c =
    let item = λ (_ : List SpelledEntry). entry_at c.args.bytes.now in
    record {
      read = reads_on item c.args.count c.args.at c.loop.counter c.loop.next c.in_ok-entry.after (entry_seen c.in_ok-entry.entry) (Come c.args.replay.now c.loop.replay c.loop.fall) (Come c.args.replay.now c.go_on.new.self c.in_ok-fall.fall) c.loop.invariant.read c.loop-test.true
          c.in_ok-entry.ensures.exact (λ come plans number is. c.in_ok-fall.ensures plans number _ (come plans number is));
      room = omega (arith, c.loop.invariant.room, c.in_ok-entry.ensures.found.1, entry_long (entry_seen c.in_ok-entry.entry));
      within = c.in_ok-entry.ensures.within;
    }

pub returns-clause-value : goal.returns-clause-value
returns-clause-value g c =
    let item = λ (_ : List SpelledEntry). entry_at c.args.bytes.now in
    reading_ends item c.args.count c.args.at (EntriesCome c.args.replay.now c.loop.replay) c.loop.counter c.loop.next (c.loop.fall, c.loop.next) (Come c.args.replay.now c.loop.replay c.loop.fall) c.loop.invariant.read c.loop-test.false (λ come. record { ends = refl; come = come })
