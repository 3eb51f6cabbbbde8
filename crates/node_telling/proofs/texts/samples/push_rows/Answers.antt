-- the sample of this word stands behind those before
use Rattle.std.proofs.Common.{List, [], ℕ, ◌++◌, get_or, arith, ap, ◌∙◌, string_bytes}
use Rattle.std.specs.Borrow.{Bor}
use Rattle.node_telling.specs.Samples.{label, sample}
use Rattle.node_telling.proofs.Lines.{told_view}
use Rattle.node_telling.proofs.texts.samples.push_rows.Goals as goal

pub loop-place-preserved : goal.loop-place-preserved
loop-place-preserved c =
    let i = c.loop-place.place in
    let before = string_bytes c.loop-place.out in
    let line_at : ℕ → List ℕ → List ℕ = λ place word. sample c.args.name.now (label c.args.key.now word) (get_or c.args.counts.now place 0) in
    let none : Bor (List ℕ) = record { ref_ptr = (0, 0); now = [] } in
    let word = (get_or c.args.words.now i none).now in
    let tells = c.in_ok-push_row.ensures ∙ ap (λ (n : ℕ). before ++ sample c.args.name.now (label c.args.key.now word) n) c.from.ensures in
    told_view line_at (λ (s : Bor (List ℕ)). s.now) c.args.words.now i none
    (string_bytes c.args.out.now) before (string_bytes c.push_row.new.out) (omega arith) c.loop-place.invariant tells
