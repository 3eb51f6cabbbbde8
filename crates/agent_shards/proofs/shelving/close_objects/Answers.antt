-- one object more is back
use Rattle.std.proofs.Common.{rules, ◌≡◌, [], ◌∷◌, sym, subst, arith, length-append}
use Rattle.turn_cell.specs.declared.shares.TheConstants.{ALL_SHARES}
use Rattle.turn_cell.specs.Known.{IsPassOf}
use Rattle.agent_shards.specs.Objects.{KnownObject, IsObjectClosed}
use Rattle.agent_shards.proofs.Rows.{closing_end, closing_next, closing_start, zip_all}
use Rattle.agent_shards.proofs.Shelves.{IsLastObject}
use Rattle.agent_shards.proofs.shelving.close_objects.Goals as goal

pub loop-cell-init : goal.loop-cell-init
loop-cell-init c = record {
  closing = closing_start IsLastObject IsObjectClosed c.into_iter-cell-iterator.result.rest.items c.args.cells.items c.args.passes.items c.args.room.items (search rules) c.requires.room.0
      (zip_all IsPassOf (λ (p : KnownObject). p.shares ≡ ALL_SHARES) c.args.cells.items c.args.passes.items c.requires.passes c.requires.shares);
  count = search rules;
  room = search rules;
}

pub loop-cell-preserved : goal.loop-cell-preserved
loop-cell-preserved c = let i = c.loop-cell.invariant in let e = c.close-guarded.ensures in record {
  closing = closing_next IsLastObject IsObjectClosed c.loop-cell.yielded c.loop-cell.cell-iterator.rest.items c.args.cells.items c.args.passes.items c.loop-cell.passes.items c.loop-cell.objects.items i.closing c.in-Some.cell c.next.new.self.rest.items c.in-Some.ensures.steps.0
      c.remove.result c.remove.ensures.value c.remove.new.self.items c.into_object.result c.push_reserved.new.self.items c.remove.ensures.items c.push_reserved.ensures.items
      (subst (IsObjectClosed c.in-Some.cell c.remove.result) (sym c.into_object.ensures) (record { its_fixed = e.fixed; its_journal = e.journal; own = e.own }));
  count = let a = i.count in let b = c.push_reserved.ensures.len in omega (arith, length-append c.loop-cell.yielded (c.in-Some.cell ∷ []));
  room = search rules;
}

pub returns : goal.returns
returns c = closing_end IsLastObject IsObjectClosed c.loop-cell.yielded c.loop-cell.cell-iterator.rest.items c.args.cells.items c.args.passes.items c.loop-cell.passes.items c.loop-cell.objects.items (search rules) c.loop-cell.invariant.closing
