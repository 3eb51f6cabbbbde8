-- The opening that the draft says, by what it stands for.
use Rattle.std.proofs.Common.{◌≡◌, Some, sym, ap, ◌∙◌}
use Rattle.node_file.specs.declared.node_text.settings.Settings.{Settings}
use Rattle.node_file.specs.NodeFile.{opening_with}
use Rattle.node_file.proofs.DraftOpened.{no_node, said_fits, said_full}
use Rattle.node_file.proofs.node_text.draft.opening_said.Goals as goal

pub returns-in_default : goal.returns-in_default
returns-in_default c = λ d s. no_node d (ap (λ (t : Settings). t.node) (sym s.settings) ∙ c.in_default.is)

pub returns-then-has_room : goal.returns-then-has_room
returns-then-has_room c = λ d s.
    let o = opening_with c.in-Some.node d in
    let r = c.in_ok-opening.ensures d s in
    let there : d.settings.node ≡ Some c.in-Some.node = ap (λ (t : Settings). t.node) (sym s.settings) ∙ c.in-Some.is in
    (o, said_fits c.in-Some.node d there (sym (c.has_room.ensures o r) ∙ c.if-has_room.true), r)

pub returns-else-has_room : goal.returns-else-has_room
returns-else-has_room c = λ d s.
    let o = opening_with c.in-Some.node d in
    let r = c.in_ok-opening.ensures d s in
    let there : d.settings.node ≡ Some c.in-Some.node = ap (λ (t : Settings). t.node) (sym s.settings) ∙ c.in-Some.is in
    said_full c.in-Some.node d there (sym (c.has_room.ensures o r) ∙ c.if-has_room.false)
