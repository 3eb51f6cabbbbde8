use Rattle.std.specs.Prelude.{codes}
use Rattle.std.proofs.lemmas.Result.{on_ok_weaker}
use Rattle.node_file.specs.FilePrinting.{bytes_line, number_line}
use Rattle.node_file.proofs.PrintedLists.{four_lines}
use Rattle.node_file.proofs.node_text.printing.push_settings.Goals as goal

-- each line stands behind the one before
pub returns : goal.returns
returns c =
    let o = c.args.opening.now in
    on_ok_weaker c.push_number-3.result
    (four_lines (bytes_line (codes "node") (o.node, o.relay_key)) (number_line (codes "shards") o.shards) (number_line (codes "keep") o.keep) (number_line (codes "journal") o.limit) _ _ _ _ _ c.in_ok-push_bytes.ensures c.in_ok-push_number.ensures c.in_ok-push_number-2.ensures)
    c.push_number-3.ensures
