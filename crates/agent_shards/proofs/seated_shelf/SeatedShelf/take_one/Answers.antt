-- the object of the number is out, with its pass
use Rattle.std.proofs.Common.{◌≡◌, ◌<◌, Option, None, Some, length, sym, ap, subst, ◌∙◌, arith}
use Rattle.object_core.specs.Objects.{ObjectSeen}
use Rattle.object_core.specs.Shelving.{TakenFrom}
use Rattle.agent_shards.specs.declared.taking.Out.{Out}
use Rattle.agent_shards.specs.Cells.{shares_of}
use Rattle.agent_shards.specs.Objects.{AreObjectPasses, IsObjectPass, MayBeOut, RackSeen, passes_told, rack_seen, taken_as}
use Rattle.agent_shards.proofs.Rows.{zip_at, zip_long}
use Rattle.agent_shards.proofs.Shelves.{none_out, out_at, place_is, resting, taken, takes_none}
use Rattle.agent_shards.proofs.seated_shelf.SeatedShelf.take_one.Goals as goal

pub returns-in_err-place : goal.returns-in_err-place
returns-in_err-place g c =
    let none : c.self.inside.out ≡ None = none_out c.self.inside.out (ap (λ (s : RackSeen). s.taken) c.self.view_is ∙ c.requires) in
    let rest : resting c.self.inside.rack.now c.self.inside.passes.items ≡ c.args.self.now = (λ k. record { cells = c.self.inside.rack.now; passes = passes_told (sym none k) c.self.inside.passes.items; taken = taken_as (sym none k) }) ∙ c.self.view_is in
    subst (λ (r : Option ObjectSeen). TakenFrom (rack_seen c.args.self.now) (rack_seen c.args.self.now) c.args.number r) (sym c.from_residual.ensures)
    (subst (λ (s : RackSeen). TakenFrom (rack_seen s) (rack_seen s) c.args.number None) rest (takes_none c.self.inside.rack.now c.self.inside.passes.items c.args.number (sym c.in_err-place.ensures.place)))

pub enter_at-object-requires-clause-there : goal.enter_at-object-requires-clause-there
enter_at-object-requires-clause-there g c =
    let none : c.self.inside.out ≡ None = none_out c.self.inside.out (ap (λ (s : RackSeen). s.taken) c.self.view_is ∙ c.requires) in
    let are : AreObjectPasses c.self.inside.rack.now c.self.inside.passes.items = subst (AreObjectPasses c.self.inside.rack.now) (ap (λ o. passes_told o c.self.inside.passes.items) none) c.self.invariant.0 in
    let lt : c.in_ok-place.place < length c.self.inside.rack.now = (place_is c.self.inside.rack.now c.args.number c.in_ok-place.place (sym c.in_ok-place.ensures.place)).1 in
    omega (arith, lt, zip_long IsObjectPass c.self.inside.rack.now c.self.inside.passes.items are)

pub enter_at-object-requires-clause-pass : goal.enter_at-object-requires-clause-pass
enter_at-object-requires-clause-pass g c p there =
    let none : c.self.inside.out ≡ None = none_out c.self.inside.out (ap (λ (s : RackSeen). s.taken) c.self.view_is ∙ c.requires) in
    let are : AreObjectPasses c.self.inside.rack.now c.self.inside.passes.items = subst (AreObjectPasses c.self.inside.rack.now) (ap (λ o. passes_told o c.self.inside.passes.items) none) c.self.invariant.0 in
    (zip_at IsObjectPass c.self.inside.rack.now c.self.inside.passes.items c.in_ok-place.place c.cell.result.now p are c.cell.ensures there).of_cell

pub invariant_of-self : goal.invariant_of-self
invariant_of-self g c =
    let none : c.self.inside.out ≡ None = none_out c.self.inside.out (ap (λ (s : RackSeen). s.taken) c.self.view_is ∙ c.requires) in
    let are : AreObjectPasses c.self.inside.rack.now c.self.inside.passes.items = subst (AreObjectPasses c.self.inside.rack.now) (ap (λ o. passes_told o c.self.inside.passes.items) none) c.self.invariant.0 in
    let told : passes_told c.self.inside.out c.self.inside.passes.items ≡ c.self.inside.passes.items = ap (λ o. passes_told o c.self.inside.passes.items) none in
    subst (λ (o : Option Out). AreObjectPasses c.self.inside.rack.now (passes_told o c.enter_at-object.new.passes.items) × MayBeOut c.self.inside.rack.now c.enter_at-object.new.passes o
    × (c.self.inside.rack.now ≡ g.K.OfRack.cells) × (shares_of (passes_told o c.enter_at-object.new.passes.items) ≡ g.K.OfRack.shares)) (sym c.replace-before.ensures.after) (
      subst (AreObjectPasses c.self.inside.rack.now) (sym c.enter_at-object.ensures.passes) are,
      out_at c.self.inside.rack.now c.self.inside.passes.items c.enter_at-object.new.passes c.enter_at-object.result.1 c.in_ok-place.place c.cell.result.now c.cell.ensures c.enter_at-object.ensures.out c.enter_at-object.ensures.place
          c.in_ok-place.ensures.own,
      c.self.invariant.2,
      ap shares_of (c.enter_at-object.ensures.passes ∙ sym told) ∙ c.self.invariant.3,
    )

pub returns : goal.returns
returns g c =
    let none : c.self.inside.out ≡ None = none_out c.self.inside.out (ap (λ (s : RackSeen). s.taken) c.self.view_is ∙ c.requires) in
    let rest : resting c.self.inside.rack.now c.self.inside.passes.items ≡ c.args.self.now = (λ k. record { cells = c.self.inside.rack.now; passes = passes_told (sym none k) c.self.inside.passes.items; taken = taken_as (sym none k) }) ∙ c.self.view_is in
    let same = (place_is c.self.inside.rack.now c.args.number c.in_ok-place.place (sym c.in_ok-place.ensures.place)).0 in
    let cells = c.self.inside.rack.now in
    let now = c.enter_at-object.new.passes in
    subst (λ (s : RackSeen). TakenFrom (rack_seen s) (rack_seen (record { cells = cells; passes = passes_told c.replace-before.new.dest now.items; taken = taken_as c.replace-before.new.dest })) c.args.number (Some c.enter_at-object.result.0)) rest
    (subst (λ (o : Option Out). TakenFrom (rack_seen (resting cells c.self.inside.passes.items)) (rack_seen (record { cells = cells; passes = passes_told o now.items; taken = taken_as o })) c.args.number (Some c.enter_at-object.result.0))
    (sym c.replace-before.ensures.after)
    (taken cells c.self.inside.passes.items now c.enter_at-object.result.1 c.in_ok-place.place c.cell.result.now c.cell.ensures c.enter_at-object.ensures.out c.enter_at-object.ensures.place
    c.args.number c.enter_at-object.result.0 same c.enter_at-object.ensures.passes c.enter_at-object.ensures.object))
