-- one entry more is counted, or not
use Rattle.std.proofs.Common.{List, ap, map, ◌∙◌, arith}
use Rattle.std.specs.Prelude.{count_by, not}
use Rattle.std.proofs.lemmas.List.{take_all}
use Rattle.object_core.specs.Objects.{ObjectEntry, is_grant}
use Rattle.object_core.specs.ObjectView.{object_entry}
use Rattle.object_core.specs.declared.entry.ObjectEntry as code
use Rattle.taos_lanes.proofs.Counts.{one_more}
use Rattle.taos_lanes.proofs.summary.denials_among.Goals as goal

pub loop-entry-preserved : goal.loop-entry-preserved
loop-entry-preserved c =
    one_more (λ (e : ObjectEntry). not (is_grant e.ruling)) object_entry c.args.journal.now c.loop-entry.entry-index c.entry-item.result c.loop-entry.count (not c.is_grant.result) c.loop-entry-test.true c.entry-item.is (ap not c.is_grant.ensures) c.loop-entry.invariant

pub returns-clause-value : goal.returns-clause-value
returns-clause-value c =
    c.loop-entry.invariant.0 ∙ ap (λ (l : List code.ObjectEntry). count_by (λ (e : ObjectEntry). not (is_grant e.ruling)) (map object_entry l)) (take_all c.loop-entry.entry-index c.args.journal.now (omega (arith, c.loop-entry-test.false)))
