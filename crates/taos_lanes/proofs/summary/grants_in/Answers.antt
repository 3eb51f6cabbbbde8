-- one journal more was counted
use Rattle.std.proofs.Common.{List, ap, ◌∙◌, arith}
use Rattle.std.specs.Prelude.{count_by}
use Rattle.std.proofs.lemmas.List.{take_all}
use Rattle.object_core.specs.Objects.{ObjectEntry, ObjectSeen, is_grant}
use Rattle.taos_lanes.specs.Summary.{grants_of}
use Rattle.taos_lanes.proofs.Counts.{sum_more}
use Rattle.taos_lanes.proofs.summary.grants_in.Goals as goal

pub loop-object-preserved : goal.loop-object-preserved
loop-object-preserved c =
    sum_more (λ (o : ObjectSeen). count_by (λ (e : ObjectEntry). is_grant e.ruling) o.journal) c.args.objects.now c.loop-object.object-index c.object-item.result c.loop-object.count c.grants_among.result c.loop-object-test.true c.object-item.is
    (c.grants_among.ensures.value ∙ ap (λ (j : List ObjectEntry). count_by (λ (e : ObjectEntry). is_grant e.ruling) j) c.journal.ensures.value) (omega (arith, c.grants_among.ensures.few)) c.loop-object.invariant

pub returns : goal.returns
returns c = c.loop-object.invariant.0 ∙ ap grants_of (take_all c.loop-object.object-index c.args.objects.now (omega (arith, c.loop-object-test.false)))
