use Rattle.std.proofs.Common.{◌∷◌, ◌++◌, [], get_or, ap}
use Rattle.std.specs.Prelude.{is_ok}
use Rattle.std.proofs.lemmas.List.{take_more}
use Rattle.prin_term.specs.declared.term.Anchor.{Anchor}
use Rattle.term_pool.proofs.Pushing.{longer}
use Rattle.goal_search.proofs.Linked.{anchored_skip, anchored_step}
use Rattle.goal_search.proofs.gather.link_one.Goals as goal

pub returns-in-Some-clause-linked : goal.returns-in-Some-clause-linked
returns-in-Some-clause-linked c = λ nodes table same.
    let a : Anchor = get_or c.args.anchors.now c.args.place (record { key = 0; name = 0 }) in
    let items = longer (is_ok c.push.result) (c.args.links.now.items ++ c.in-Some.link ∷ []) c.push.new.self.items c.args.links.now.items c.push.ensures.items (ap is_ok c.unwrap.ensures) in
    let stands = c.in-Some.ensures nodes table same in
    rw (items, take_more c.args.anchors.now c.args.place (record { key = 0; name = 0 }) c.requires.place_in)
    (anchored_step nodes table _ c.args.links.now.items a (c.requires.linked nodes table same) c.in-Some.link stands.0 stands.1)

pub returns-in_default-clause-linked : goal.returns-in_default-clause-linked
returns-in_default-clause-linked c = λ nodes table same.
    let a : Anchor = get_or c.args.anchors.now c.args.place (record { key = 0; name = 0 }) in
    rw (take_more c.args.anchors.now c.args.place (record { key = 0; name = 0 }) c.requires.place_in)
    (anchored_skip nodes table _ c.args.links.now.items a (c.requires.linked nodes table same) (c.in_default.ensures nodes table same))
