-- what is asked about all certificates says what all of them say
use Rattle.std.proofs.Common.{length, map, arith, refl, sym}
use Rattle.std.proofs.lemmas.List.{length-map}
use Rattle.std.proofs.lemmas.Option.{slice_get_within}
use Rattle.prin_term.specs.View.{grant, principal}
use Rattle.denial_link.specs.Links.{no_entry}
use Rattle.stmt_codec.specs.View.{certificates}
use Rattle.denial_link.proofs.Places.{certificate_count, entry_in}
use Rattle.denial_link.proofs.Entries.{part_of_subject, part_of_entry, entry_is_term, link_missing, none_by_all, small_entry}
use Rattle.denial_link.proofs.Reaching.{part_itself, still_terms, lacks_same}
use Rattle.denial_link.proofs.first.first_link_by_all.Goals as goal

pub returns-in_default : goal.returns-in_default
returns-in_default g c = no_entry c.in_default.ensures

pub first_derivable-requires-clause-asking : goal.first_derivable-requires-clause-asking
first_derivable-requires-clause-asking g c =
    part_of_subject c.args.anchors.now (certificates c.args.certs.now) (principal c.args.subject.now) (map grant c.args.list.now) (g.D.Decide.question c.args.bench.now) _
    c.requires.by_all _ (part_itself (principal c.args.subject.now))

pub first_derivable-requires-clause-asked : goal.first_derivable-requires-clause-asked
first_derivable-requires-clause-asked g c =
    entry_is_term c.args.anchors.now (certificates c.args.certs.now) (principal c.args.subject.now) (map grant c.args.list.now) (g.D.Decide.question c.args.bench.now) _
    c.requires.by_all

pub bounds-list-first : goal.bounds-list-first
bounds-list-first g c =
    let f = c.in-Some.ensures in
    omega (arith, slice_get_within (map grant c.args.list.now) c.in-Some.first f.0 f.1.stands, length-map c.args.list.now grant)

pub lacking-node-requires-clause-asking : goal.lacking-node-requires-clause-asking
lacking-node-requires-clause-asking g c =
    still_terms (g.D.Decide.question c.args.bench.now) _ (principal c.args.subject.now) c.first_derivable.ensures.same
    (part_of_subject c.args.anchors.now (certificates c.args.certs.now) (principal c.args.subject.now) (map grant c.args.list.now) (g.D.Decide.question c.args.bench.now) _ c.requires.by_all)

pub lacking-node-requires-clause-asked : goal.lacking-node-requires-clause-asked
lacking-node-requires-clause-asked g c =
    let f = c.in-Some.ensures in
    let within = slice_get_within (map grant c.args.list.now) c.in-Some.first f.0 f.1.stands in
    let at = entry_in c.args.list.now c.in-Some.first c.index-list-first.result (omega (arith, within, length-map c.args.list.now grant)) in
    still_terms (g.D.Decide.question c.args.bench.now) _ _ c.first_derivable.ensures.same
    (part_of_entry c.args.anchors.now (certificates c.args.certs.now) (principal c.args.subject.now) (map grant c.args.list.now) (g.D.Decide.question c.args.bench.now) _ c.requires.by_all c.in-Some.first _ at)

pub lacking-node-requires-clause-small : goal.lacking-node-requires-clause-small
lacking-node-requires-clause-small g c =
    let f = c.in-Some.ensures in
    let within = slice_get_within (map grant c.args.list.now) c.in-Some.first f.0 f.1.stands in
    let at = entry_in c.args.list.now c.in-Some.first c.index-list-first.result (omega (arith, within, length-map c.args.list.now grant)) in
    small_entry (map grant c.args.list.now) c.in-Some.first _ c.requires.askable.entries_fit at

pub returns-in-None : goal.returns-in-None
returns-in-None g c =
    let q = g.D.Decide.question c.args.bench.now in
    let f = c.in-Some.ensures in
    let within = slice_get_within (map grant c.args.list.now) c.in-Some.first f.0 f.1.stands in
    let at = entry_in c.args.list.now c.in-Some.first c.index-list-first.result (omega (arith, within, length-map c.args.list.now grant)) in
    let count = certificate_count c.args.certs.now in
    let none = none_by_all c.args.anchors.now (certificates c.args.certs.now) (principal c.args.subject.now) (map grant c.args.list.now) q (length c.args.certs.now) _
    c.requires.by_all refl (sym count) c.args.right c.in-None.ensures.found in
    link_missing c.args.anchors.now (certificates c.args.certs.now) (principal c.args.subject.now) (map grant c.args.list.now) q (length c.args.certs.now) _
    c.requires.by_all refl (sym count)
    c.args.right c.in-Some.first f.0 _ at c.args.moment _ f.1 none
    (lacks_same q _ (principal c.args.subject.now) _ _ c.lacking-node.result c.first_derivable.ensures.same refl c.lacking-node.ensures.lacks)
