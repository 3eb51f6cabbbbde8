use Rattle.std.proofs.Common.{sym, ap, ◌∙◌, arith}
use Rattle.std.specs.Prelude.{codes, string_bytes}
use Rattle.node_file.specs.FilePrinting.{bytes_line, ended}
use Rattle.node_file.proofs.PrintedLists.{all_lines, more_lines, none_more}
use Rattle.node_file.proofs.node_text.printing.push_channels.Goals as goal
use Rattle.node_file.proofs.node_text.printing.push_channels.Goals.{in-Some+in_ok-push_bytes, in_default}

pub loop-place-preserved : goal.loop-place-preserved
loop-place-preserved c =
    let keys = c.args.keys.now.entries in
    elim c.match-at.branch [
      | in-Some+in_ok-push_bytes w ↦ more_lines (bytes_line (codes "channel")) keys c.loop-place.place _ (w.in-Some.number, w.in-Some.key.now) _ _ (sym w.in-Some.ensures.value) c.loop-place.invariant (ap string_bytes w.out-is ∙ w.in_ok-push_bytes.ensures)
      | in_default w ↦ none_more (λ row. ended (bytes_line (codes "channel") row)) keys c.loop-place.place _ _ (sym w.in_default.ensures.value) (ap string_bytes w.out-is ∙ c.loop-place.invariant)
    ]

pub returns-clause-printed : goal.returns-clause-printed
returns-clause-printed c =
    all_lines (bytes_line (codes "channel")) c.args.keys.now.entries c.loop-place.place _ _ (omega (arith, c.loop-place-test.false, c.count-place-end.ensures.count)) c.loop-place.invariant
