-- one more object has its row, and at last all
use Rattle.std.proofs.Common.{[], map, subst, sym, arith}
use Rattle.std.proofs.lemmas.List.{take_all}
use Rattle.object_core.specs.Numbered.{AreRowsOf}
use Rattle.object_core.specs.Shelving.{fixed_of, numbers_of}
use Rattle.object_core.proofs.FindingRows.{listed_more, no_rows}
use Rattle.object_core.proofs.rows.list_rows.Goals as goal

pub loop-place-init : goal.loop-place-init
loop-place-init c = subst (AreRowsOf []) (sym c.in_ok-rows.ensures.items) no_rows

pub loop-place-preserved : goal.loop-place-preserved
loop-place-preserved c =
    listed_more c.args.objects.now c.loop-place.place c.index-objects-place.result c.loop-place.rows.items c.push.new.self.items c.number-number.result (omega arith)
    c.index-objects-place.is c.number-number.ensures c.in_ok-push.ensures.items c.loop-place.invariant

pub returns : goal.returns
returns c =
    subst (λ os. AreRowsOf (numbers_of (map fixed_of os)) c.loop-place.rows.items) (take_all c.loop-place.place c.args.objects.now (omega arith)) c.loop-place.invariant
