use Rattle.std.proofs.Common.{rules, ◌≡◌, ◌∙◌, ◌++◌, [], List, ap, append-nil, arith, length, subst, sym}
use Rattle.std.proofs.lemmas.Result.{err_from_is_err_and}
use Rattle.object_core.specs.Objects.{ObjectSeen}
use Rattle.journal_bytes.specs.JournalsReading.{object_at}
use Rattle.audit_replay.specs.Passes.{ObjectsCome}
use Rattle.audit_replay.proofs.ObjectsComing.{ObjectsRead, ObjectsSoFar, object_fails, object_reads, objects_begin, objects_end}
use Rattle.audit_replay.proofs.Passing.{reading}
use Rattle.audit_replay.proofs.Splits.{left_more, next_within, none_left}
use Rattle.audit_replay.proofs.objects.rule_objects.Goals as goal

pub loop-object-init : goal.loop-object-init
loop-object-init c =
    let rs = c.args.shards.now in
    record {
      read = reading (object_at c.args.bytes.now) (length c.args.objects.items) c.args.at (ObjectsSoFar rs rs [] c.args.progress c.args.progress 0) (objects_begin rs c.args.progress);
      left = search rules;
      within = c.requires.within;
    }

pub returns-in_err-progress-clause-value : goal.returns-in_err-progress-clause-value
returns-in_err-progress-clause-value c =
    let i = c.loop-object.invariant in
    let gone = c.loop-object.yielded in
    let old = c.loop-object.object-iterator.rest.items in
    let rest = c.next.new.self.rest.items in
    let all = c.args.objects.items in
    let p = err_from_is_err_and c.from_residual.result c.from_residual.ensures.1 in
    rw (p.1, p.2) (object_fails c.args.bytes.now (length all) c.args.at c.args.shards.now c.args.progress (ObjectsCome c.args.shards.now all c.args.progress) gone c.loop-object.next c.loop-object.least c.loop-object.shards c.loop-object.progress c.in_err-progress.field-0.0
    (next_within gone old rest all c.in-Some.object c.in-Some.ensures.steps.0 i.left) i.read c.in_err-progress.ensures.value)

pub loop-object-preserved : goal.loop-object-preserved
loop-object-preserved c =
    let i = c.loop-object.invariant in
    let gone = c.loop-object.yielded in
    let old = c.loop-object.object-iterator.rest.items in
    let rest = c.next.new.self.rest.items in
    let all = c.args.objects.items in
    let steps = c.in-Some.ensures.steps.0 in
    record {
      read = object_reads c.args.bytes.now (length all) c.args.at c.args.shards.now c.args.progress gone c.loop-object.next c.in_ok-progress.field-0-2 c.loop-object.least c.in_ok-progress.field-0-1 c.loop-object.shards c.next_object.new.shards c.loop-object.progress c.in_ok-progress.field-0-0 c.in-Some.object
          (next_within gone old rest all c.in-Some.object steps i.left) i.read c.in_ok-progress.ensures.value;
      left = left_more gone old rest all c.in-Some.object steps i.left;
      within = c.in_ok-progress.ensures.within;
    }

pub returns-clause-value : goal.returns-clause-value
returns-clause-value c =
    let i = c.loop-object.invariant in
    let gone = c.loop-object.yielded in
    let rest = c.loop-object.object-iterator.rest.items in
    let all = c.args.objects.items in
    let none : length rest ≡ 0 = search rules in
    let whole : gone ≡ all = sym (append-nil gone) ∙ ap (λ (l : List ObjectSeen). gone ++ l) (sym (none_left rest none)) ∙ i.left in
    objects_end c.args.bytes.now (length all) c.args.at c.args.shards.now c.args.progress all c.loop-object.next c.loop-object.least c.loop-object.shards c.loop-object.progress (omega arith)
    (subst (λ (l : List ObjectSeen). ObjectsRead c.args.bytes.now (length all) c.args.at c.args.shards.now c.args.progress l c.loop-object.next c.loop-object.shards c.loop-object.progress c.loop-object.least) whole i.read)
