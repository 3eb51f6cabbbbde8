use Rattle.std.proofs.Common.{sym, ◌∙◌}
use Rattle.term_pool.proofs.Picking.{map_who}
use Rattle.goal_search.proofs.asked.Asked.is_about.Goals as goal
use Rattle.goal_search.proofs.asked.Asked.is_about.Goals.{then-is_term, else-is_term, then-are_listed, else-are_listed}

pub returns-then-are_anchors : goal.returns-then-are_anchors
returns-then-are_anchors c held =
    elim c.if-are_listed.branch [
      | then-are_listed w ↦
          elim c.if-is_term.branch [
            | then-is_term v ↦ record {
              anchors_are = w.are_anchors.ensures (sym w.value-is ∙ c.if-are_anchors.true);
              claims_are = c.are_held.ensures held;
              subject_is = c.is_term.ensures v.if-is_term.true;
              list_are = v.are_listed.ensures (sym v.value-is ∙ w.if-are_listed.true) ∙ map_who c.args.list.now;
            }
            | else-is_term v ↦ absurd (cc)
          ]
      | else-are_listed w ↦ absurd (cc)
    ]
