use Rattle.std.proofs.Common.{sym, ◌∙◌}
use Rattle.std.specs.Prelude.{codes}
use Rattle.prin_text.specs.FileLines.{is_first_line}
use Rattle.node_file.specs.NodeFile.{no_draft, node_step}
use Rattle.node_file.specs.NodeView.{IsDraftOf}
use Rattle.prin_text.proofs.Begun.{begun_taken, first_taken, no_first}
use Rattle.node_file.proofs.node_text.line.take_any.Goals as goal

pub returns-then-begun : goal.returns-then-begun
returns-then-begun c = record {
  takes = λ so_far s. begun_taken IsDraftOf no_draft node_step (is_first_line (codes "taos")) c.args.begun c.args.draft.now c.take_line.new.draft so_far c.args.line.now s c.take_line.result c.if-begun.true c.take_line.ensures.takes;
}

pub returns-then-is_first_line : goal.returns-then-is_first_line
returns-then-is_first_line c = record {
  takes = λ so_far s. first_taken IsDraftOf no_draft node_step (is_first_line (codes "taos")) c.args.begun c.args.draft.now c.args.draft.now so_far c.args.line.now s c.if-begun.false (sym c.is_first_line.ensures ∙ c.if-is_first_line.true);
}

pub returns : goal.returns
returns c = record {
  takes = λ so_far s. no_first IsDraftOf no_draft node_step (is_first_line (codes "taos")) c.args.begun c.args.draft.now c.args.draft.now so_far c.args.line.now s c.if-begun.false (sym c.is_first_line.ensures ∙ c.if-is_first_line.false);
}
