-- What the lines say together.
use Rattle.std.proofs.Common.{◌≡◌, ◌⊎◌, true, false, cond, Err, Some, None, sym, ap, subst, ◌∙◌, arith, inr}
use Rattle.std.specs.Prelude.{codes}
use Rattle.prin_text.specs.declared.lines.fault.FileFault.{FileFault}
use Rattle.prin_text.specs.declared.lines.fault.FileFault.TheVariants.{NoMemory}
use Rattle.prin_text.specs.FileLines.{is_first_line}
use Rattle.prin_text.specs.Lines.{is_skipped}
use Rattle.prin_text.specs.LineView.{SoFar}
use Rattle.node_file.specs.NodeFile.{draft_in, no_draft, node_step}
use Rattle.node_file.specs.NodeView.{IsDraftOf}
use Rattle.prin_text.proofs.FileRead.{all_done, line_count, never_begun, stops_with}
use Rattle.node_file.proofs.node_text.reading.draft_of.Goals as goal

pub returns-in-Err : goal.returns-in-Err
unfolding draft_in
returns-in-Err c =
    let bytes = c.args.bytes.now in
    let so = c.loop-at.invariant in
    let line = c.line_at-next.result.0.now in
    let skipped : is_skipped line ≡ false = grind (arith, c.is_skipped.ensures, c.if-not-is_skipped.ensures, c.if-not-is_skipped.true) in
    subst (λ (e : FileFault). (e ≡ NoMemory) ⊎ (draft_in bytes ≡ Err e)) (sym c.at.ensures)
    (stops_with (is_first_line (codes "taos")) no_draft node_step bytes c.loop-at.number c.loop-at.at so.so_far so.same (SoFar IsDraftOf no_draft true) c.take_any.new.draft line _ c.in-Err.fault c.line_at-next.ensures.line skipped
    (c.in-Err.ensures.takes so.so_far so.stands))

pub returns-then-begun : goal.returns-then-begun
unfolding draft_in
returns-then-begun c =
    let bytes = c.args.bytes.now in
    let so = c.loop-at.invariant in (
      so.stands.made,
      all_done (is_first_line (codes "taos")) no_draft node_step bytes c.loop-at.number c.loop-at.at so.so_far so.same so.stands.made (omega (arith, c.loop-at-test.false))
          (so.stands.is ∙ ap (λ b. cond b (Some so.stands.made) None) c.if-begun.true),
      (so.stands.stands, line_count (is_first_line (codes "taos")) no_draft node_step bytes c.loop-at.number c.loop-at.at so.so_far so.same (omega (arith, c.loop-at-test.false)) so.count),
    )

pub returns-else-begun : goal.returns-else-begun
unfolding draft_in
returns-else-begun c =
    let bytes = c.args.bytes.now in
    let so = c.loop-at.invariant in
    inr (never_begun (is_first_line (codes "taos")) no_draft node_step bytes c.loop-at.number c.loop-at.at so.so_far so.same (omega (arith, c.loop-at-test.false))
    (so.stands.is ∙ ap (λ b. cond b (Some so.stands.made) None) c.if-begun.false) so.count ∙ ap (λ (e : FileFault). Err e) (sym c.at-else-begun.ensures))
