-- the sample of this journal stands behind those before
use Rattle.std.proofs.Common.{List, ℕ, ◌++◌, get_or, arith, ap, ◌∙◌, string_bytes}
use Rattle.std.specs.Prelude.{decimal}
use Rattle.node_telling.specs.Page.{gauge_line}
use Rattle.node_telling.specs.Samples.{label, sample}
use Rattle.node_telling.specs.declared.texts.journal.Gauge.{Gauge}
use Rattle.node_telling.proofs.Lines.{told_at}
use Rattle.node_telling.proofs.texts.samples.push_gauges.Goals as goal

pub loop-place-preserved : goal.loop-place-preserved
loop-place-preserved c =
    let i = c.loop-place.place in
    let before = string_bytes c.loop-place.out in
    let none : Gauge = record { number = 0; entries = 0 } in
    let gauge : Gauge = get_or c.args.gauges.now i none in
    let tells = c.in_ok-push_row.ensures
    ∙ ap (λ (w : List ℕ). before ++ sample c.args.name.now (label c.args.key.now w) c.from.result) c.format-number.ensures.text
    ∙ ap (λ (n : ℕ). before ++ sample c.args.name.now (label c.args.key.now (decimal gauge.number)) n) c.from.ensures in
    told_at (gauge_line c.args.name.now c.args.key.now) c.args.gauges.now i none
    (string_bytes c.args.out.now) before (string_bytes c.push_row.new.out) (omega arith) c.loop-place.invariant tells
