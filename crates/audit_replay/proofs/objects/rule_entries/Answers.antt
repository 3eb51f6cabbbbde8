use Rattle.std.proofs.Common.{◌∙◌, List, None, arith, refl}
use Rattle.std.proofs.lemmas.Result.{err_from_is_err_and}
use Rattle.object_core.specs.Objects.{ObjectEntry}
use Rattle.object_core.specs.ObjectView.{object_entry}
use Rattle.journal_bytes.specs.Reading.{ruled_at}
use Rattle.audit_replay.specs.Passes.{RulingsCome}
use Rattle.audit_replay.proofs.Passing.{Ruled, reading, reading_ends, reading_stops, reads_on, ruled_long}
use Rattle.audit_replay.proofs.objects.rule_entries.Goals as goal

pub loop-init : goal.loop-init
loop-init c = record {
  read = reading (λ (_ : List ObjectEntry). ruled_at c.args.bytes.now) c.args.count c.args.at (Ruled c.args.shards.now c.args.shards.now c.args.object.now c.args.object.now None) (λ cells journals front number is. is);
  fixed = refl;
  room = omega arith;
  within = c.requires;
}

pub rule_next-fall-requires : goal.rule_next-fall-requires
rule_next-fall-requires c = record { fits = c.in_ok-entry.ensures.found.0.limits }

pub returns-in_err-entry-clause-value : goal.returns-in_err-entry-clause-value
returns-in_err-entry-clause-value c =
    let p = err_from_is_err_and c.from_residual.result c.from_residual.ensures.1 in
    let item = λ (_ : List ObjectEntry). ruled_at c.args.bytes.now in
    rw (p.1, p.2) (reading_stops item c.args.count c.args.at (RulingsCome c.args.shards.now c.loop.shards c.args.object.now c.loop.object) c.loop.counter c.loop.next c.in_err-entry.field-0.0
    (Ruled c.args.shards.now c.loop.shards c.args.object.now c.loop.object c.loop.fall) c.loop.invariant.read c.loop-test.true c.in_err-entry.ensures.exact)

pub loop-preserved : goal.loop-preserved
loop-preserved c =
    let item = λ (_ : List ObjectEntry). ruled_at c.args.bytes.now in
    record {
      read = reads_on item c.args.count c.args.at c.loop.counter c.loop.next c.in_ok-entry.after (object_entry c.in_ok-entry.entry) (Ruled c.args.shards.now c.loop.shards c.args.object.now c.loop.object c.loop.fall)
          (Ruled c.args.shards.now c.rule_next-fall.new.shards c.args.object.now c.rule_next-fall.new.object c.rule_next-fall.result) c.loop.invariant.read c.loop-test.true c.in_ok-entry.ensures.exact
          (λ ruled cells journals front number is. c.rule_next-fall.ensures.ruled cells journals front number _ (ruled cells journals front number is));
      fixed = c.rule_next-fall.ensures.fixed ∙ c.loop.invariant.fixed;
      room = omega (arith, c.loop.invariant.room, c.in_ok-entry.ensures.found.1, ruled_long (object_entry c.in_ok-entry.entry));
      within = c.in_ok-entry.ensures.within;
    }

pub returns-clause-value : goal.returns-clause-value
returns-clause-value c =
    let item = λ (_ : List ObjectEntry). ruled_at c.args.bytes.now in
    reading_ends item c.args.count c.args.at (RulingsCome c.args.shards.now c.loop.shards c.args.object.now c.loop.object) c.loop.counter c.loop.next (c.loop.fall, c.loop.next) (Ruled c.args.shards.now c.loop.shards c.args.object.now c.loop.object c.loop.fall) c.loop.invariant.read c.loop-test.false
    (λ ruled. record { ends = refl; come = ruled })
