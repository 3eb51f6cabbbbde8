use Rattle.std.proofs.Common.{map, arith}
use Rattle.std.proofs.lemmas.List.{length-map}
use Rattle.prin_term.specs.View.{Grant, grant}
use Rattle.denial_link.proofs.Places.{entry_in}
use Rattle.denial_link.proofs.Entries.{first_here, none_more, none_at_all}
use Rattle.denial_link.proofs.first.first_with.Goals as goal

pub returns-then-list-place-ne0 : goal.returns-then-list-place-ne0
returns-then-list-place-ne0 c =
    first_here (map grant c.args.list.now) c.args.right (λ (e : Grant). Unit {0}) c.loop-place.place _ c.loop-place.invariant
    (entry_in c.args.list.now c.loop-place.place c.index-list-place.result (omega arith)) c.if-list-place-ne0.true tt

pub loop-place-preserved : goal.loop-place-preserved
loop-place-preserved c =
    none_more (map grant c.args.list.now) c.args.right (λ (e : Grant). Unit {0}) c.loop-place.place _ c.loop-place.invariant
    (entry_in c.args.list.now c.loop-place.place c.index-list-place.result (omega arith)) (λ r u. r c.if-list-place-ne0.false)

pub returns : goal.returns
returns c =
    none_at_all (map grant c.args.list.now) c.args.right (λ (e : Grant). Unit {0}) c.loop-place.place c.loop-place.invariant (omega (arith, length-map c.args.list.now grant))
