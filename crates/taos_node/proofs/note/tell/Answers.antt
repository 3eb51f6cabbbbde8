use Rattle.std.proofs.Common.{List, ℕ, subst, ◌∙◌}
use Rattle.taos_node.specs.Notes.{IsNoted}
use Rattle.taos_node.proofs.Notes.{is_noted}
use Rattle.taos_node.proofs.note.tell.Goals as goal

pub returns-then-not-is_empty-clause-told : goal.returns-then-not-is_empty-clause-told
returns-then-not-is_empty-clause-told g c =
    subst (λ (l : List ℕ). IsNoted (g.N.Sink.shown c.args.notes.now).told (g.N.Sink.shown c.pour.new.sink).told (g.N.Sink.shown c.args.notes.now).faults (g.N.Sink.shown c.pour.new.sink).faults l) (c.deref.ensures.0 ∙ c.note_of-note.ensures)
    (is_noted (g.N.Sink.shown c.args.notes.now).told (g.N.Sink.shown c.pour.new.sink).told (g.N.Sink.shown c.args.notes.now).faults (g.N.Sink.shown c.pour.new.sink).faults c.deref.result.now c.pour.result c.pour.ensures.all c.pour.ensures.part c.pour.ensures.cause)
