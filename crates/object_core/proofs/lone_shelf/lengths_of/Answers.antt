-- one more journal was looked at, which is within its limit
use Rattle.std.proofs.Common.{length, ap, sym, subst, ◌∙◌, List, arith}
use Rattle.std.specs.Prelude.{All}
use Rattle.std.proofs.lemmas.List.{length-map, take_all}
use Rattle.object_core.specs.Objects.{ObjectEntry}
use Rattle.object_core.specs.ObjectView.{object_entry}
use Rattle.object_core.specs.OneOwner.{FitsLimit}
use Rattle.object_core.proofs.OnShelf.{lengths_more}
use Rattle.object_core.proofs.lone_shelf.lengths_of.Goals as goal

pub loop-place-preserved : goal.loop-place-preserved
loop-place-preserved c =
    lengths_more c.args.objects.now c.loop-place.place c.index-objects-place.result (omega arith) c.index-objects-place.is c.loop-place.lengths.items c.push.new.self.items
    (length c.journal.result.now) c.loop-place.invariant c.in_ok-push.ensures.items
    (sym (length-map c.journal.result.now object_entry) ∙ ap (λ (j : List ObjectEntry). length j) c.journal.ensures.value) c.journal.ensures.within

pub returns-clause-within : goal.returns-clause-within
returns-clause-within c = subst (All FitsLimit) (take_all c.loop-place.place c.args.objects.now (omega arith)) c.loop-place.invariant.1
