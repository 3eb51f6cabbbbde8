-- the object is in its cell again, and its pass in its place
use Rattle.std.proofs.Common.{◌≡◌, Option, Some, sym, ap, subst, ◌∙◌}
use Rattle.object_core.specs.Shelving.{GivenBack}
use Rattle.agent_shards.specs.declared.taking.Out.{Out}
use Rattle.agent_shards.specs.Cells.{shares_of}
use Rattle.agent_shards.specs.Objects.{AreObjectPasses, IsObjectPass, KnownObject, MayBeOut, RackSeen, passes_told, rack_seen, taken_as}
use Rattle.agent_shards.proofs.Rows.{map_kept, zip_set}
use Rattle.agent_shards.proofs.Shelves.{given, one_out}
use Rattle.agent_shards.proofs.seated_shelf.SeatedShelf.give_one.Goals as goal

pub invariant_of-self : goal.invariant_of-self
invariant_of-self g c =
    let is : c.self.inside.out ≡ Some c.unwrap-out.result = sym c.take.ensures.value ∙ c.unwrap-out.ensures in
    let are = subst (AreObjectPasses c.self.inside.rack.now) (ap (λ o. passes_told o c.self.inside.passes.items) is) c.self.invariant.0 in
    let back = c.leave_at.ensures in
    let before = c.unwrap-out.result.passes.value.items in
    let told : passes_told c.self.inside.out c.self.inside.passes.items ≡ before = ap (λ o. passes_told o c.self.inside.passes.items) is in
    subst (λ (o : Option Out). AreObjectPasses c.self.inside.rack.now (passes_told o c.leave_at.new.passes.items) × MayBeOut c.self.inside.rack.now c.leave_at.new.passes o
    × (c.self.inside.rack.now ≡ g.K.OfRack.cells) × (shares_of (passes_told o c.leave_at.new.passes.items) ≡ g.K.OfRack.shares)) (sym c.take.ensures.after) (
      subst (AreObjectPasses c.self.inside.rack.now) (sym back.put) (zip_set IsObjectPass c.self.inside.rack.now before c.unwrap-out.result.place c.cell.result.now back.pass are c.cell.ensures back.given.pass),
      tt,
      c.self.invariant.2,
      ap shares_of back.put ∙ (map_kept (λ (p : KnownObject). p.shares) before c.unwrap-out.result.place back.was back.pass back.its_pass back.given.shares ∙ (ap shares_of (sym told) ∙ c.self.invariant.3)),
    )

pub returns : goal.returns
returns g c =
    let is : c.self.inside.out ≡ Some c.unwrap-out.result = sym c.take.ensures.value ∙ c.unwrap-out.ensures in
    let back = c.leave_at.ensures in
    let one = one_out c.self.inside.rack.now c.self.inside.passes c.self.inside.out c.unwrap-out.result is c.self.invariant.1 in
    subst (λ (s : RackSeen). GivenBack (rack_seen s) (rack_seen (record { cells = c.self.inside.rack.now; passes = passes_told c.take.new.self c.leave_at.new.passes.items; taken = taken_as c.take.new.self })) c.args.object) c.self.view_is
    (subst (λ (z : Option Out × Option Out). GivenBack (rack_seen (record { cells = c.self.inside.rack.now; passes = passes_told z.0 c.self.inside.passes.items; taken = taken_as z.0 }))
    (rack_seen (record { cells = c.self.inside.rack.now; passes = passes_told z.1 c.leave_at.new.passes.items; taken = taken_as z.1 })) c.args.object) (λ k. (sym is k, sym c.take.ensures.after k))
    (given c.self.inside.rack.now c.self.inside.passes c.leave_at.new.passes c.unwrap-out.result one c.cell.result.now back.was back.pass c.requires.0 c.args.object c.cell.ensures back.its_pass back.put back.given
    (ap taken_as (sym is) ∙ (ap (λ (s : RackSeen). s.taken) c.self.view_is ∙ c.requires.1)) c.requires.2))
