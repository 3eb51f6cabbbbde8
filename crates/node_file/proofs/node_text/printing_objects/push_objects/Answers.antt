use Rattle.std.proofs.Common.{◌++◌, sym, ap, ◌∙◌, arith}
use Rattle.std.specs.Prelude.{string_bytes}
use Rattle.node_file.specs.FilePrinting.{object_lines, text_of_lines}
use Rattle.node_file.specs.Plans.{plan}
use Rattle.node_file.proofs.PrintedLists.{all_of, lines_of_all, more_of, none_more}
use Rattle.node_file.proofs.node_text.printing_objects.push_objects.Goals as goal
use Rattle.node_file.proofs.node_text.printing_objects.push_objects.Goals.{in-Some+in_ok-push_object, in_default}

pub loop-place-preserved : goal.loop-place-preserved
loop-place-preserved c =
    let objects = c.args.objects.now in
    elim c.match-at.branch [
      | in-Some+in_ok-push_object w ↦ more_of (λ p. text_of_lines (object_lines c.args.names.now p)) objects c.loop-place.place (plan w.in-Some.object.now) _ _ _ (sym w.in-Some.ensures.value) c.loop-place.invariant (ap string_bytes w.out-is ∙ w.in_ok-push_object.ensures)
      | in_default w ↦ none_more (λ p. text_of_lines (object_lines c.args.names.now p)) objects c.loop-place.place _ _ (sym w.in_default.ensures.value) (ap string_bytes w.out-is ∙ c.loop-place.invariant)
    ]

pub returns-clause-printed : goal.returns-clause-printed
returns-clause-printed c =
    let old = string_bytes c.args.out.now in
    all_of (λ p. text_of_lines (object_lines c.args.names.now p)) c.args.objects.now c.loop-place.place old _ (omega (arith, c.loop-place-test.false, c.count-place-end.ensures.count)) c.loop-place.invariant
    ∙ ap (λ l. old ++ l) (lines_of_all (object_lines c.args.names.now) c.args.objects.now)
