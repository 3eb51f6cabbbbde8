-- the object of the number is out, and the shelf remembers it
use Rattle.std.proofs.Common.{◌<◌, List, Option, Some, None, length, refl, sym, ap, subst, ◌∙◌}
use Rattle.std.specs.Prelude.{Contains, is_some}
use Rattle.object_core.specs.declared.rows.Row.{Row}
use Rattle.object_core.specs.declared.taken.Taken.{Taken}
use Rattle.object_core.specs.Objects.{ObjectSeen}
use Rattle.object_core.specs.Numbered.{LacksNumber, row}
use Rattle.object_core.specs.OneOwner.{LoneShelfSeen, shelf_seen, taken_from}
use Rattle.object_core.specs.Shelving.{TakenFrom}
use Rattle.object_core.proofs.OnShelf.{all_here, kept_taken, none_out, row_within, shelf_of, stands_in, takes_none, takes_one}
use Rattle.object_core.proofs.lone_shelf.LoneShelf.take_one.Goals as goal

pub returns-in_err-place : goal.returns-in_err-place
returns-in_err-place c =
    let none = none_out c.self.inside.objects.items c.self.inside.opened.items c.self.inside.taken c.self.inside.stand_in c.self.invariant.1 (ap taken_from c.self.view_is ∙ c.requires) in
    let lacks = subst (λ (rs : List Row). LacksNumber rs c.args.number) c.deref.ensures.value c.in_err-place.ensures in
    subst (λ (r : Option ObjectSeen). TakenFrom (shelf_seen c.args.self.now) (shelf_seen c.args.self.now) c.args.number r) (sym c.from_residual.ensures)
    (subst (λ (v : LoneShelfSeen). TakenFrom (shelf_seen v) (shelf_seen v) c.args.number None) c.self.view_is
    (takes_none c.self.inside.objects.items c.self.inside.opened.items c.self.inside.rows.items c.args.number c.self.inside.taken c.self.invariant.0 none lacks))

pub unwrap-stand_in-requires : goal.unwrap-stand_in-requires
unwrap-stand_in-requires c =
    let none = none_out c.self.inside.objects.items c.self.inside.opened.items c.self.inside.taken c.self.inside.stand_in c.self.invariant.1 (ap taken_from c.self.view_is ∙ c.requires) in
    ap is_some c.take.ensures.value ∙ stands_in c.self.inside.objects.items c.self.inside.taken c.self.inside.stand_in none c.self.invariant.1

pub exchange-object-requires : goal.exchange-object-requires
exchange-object-requires c =
    let none = none_out c.self.inside.objects.items c.self.inside.opened.items c.self.inside.taken c.self.inside.stand_in c.self.invariant.1 (ap taken_from c.self.view_is ∙ c.requires) in
    let there = subst (λ (rs : List Row). Contains rs (row c.args.number c.in_ok-place.place)) c.deref.ensures.value c.in_ok-place.ensures in
    subst (λ (os : List ObjectSeen). c.in_ok-place.place < length os) (all_here c.self.inside.objects.items c.self.inside.taken none)
    (row_within (shelf_of c.self.inside.objects.items c.self.inside.opened.items c.self.inside.taken) c.self.inside.rows.items c.self.invariant.0 c.args.number c.in_ok-place.place there)

pub invariant_of-self : goal.invariant_of-self
invariant_of-self c =
    let none = none_out c.self.inside.objects.items c.self.inside.opened.items c.self.inside.taken c.self.inside.stand_in c.self.invariant.1 (ap taken_from c.self.view_is ∙ c.requires) in
    let there = subst (λ (rs : List Row). Contains rs (row c.args.number c.in_ok-place.place)) c.deref.ensures.value c.in_ok-place.ensures in
    let t : Taken = record { place = c.in_ok-place.place; object = c.of.result } in
    kept_taken c.self.inside.objects.items c.self.inside.opened.items c.self.inside.rows.items c.args.number c.in_ok-place.place c.exchange-object.result c.unwrap-stand_in.result c.exchange-object.new.objects.items t there
    c.exchange-object.ensures.there c.exchange-object.ensures.set refl c.of.ensures c.self.inside.taken None c.self.invariant.0 none

pub returns : goal.returns
returns c =
    let none = none_out c.self.inside.objects.items c.self.inside.opened.items c.self.inside.taken c.self.inside.stand_in c.self.invariant.1 (ap taken_from c.self.view_is ∙ c.requires) in
    let there = subst (λ (rs : List Row). Contains rs (row c.args.number c.in_ok-place.place)) c.deref.ensures.value c.in_ok-place.ensures in
    let t : Taken = record { place = c.in_ok-place.place; object = c.of.result } in
    subst (λ (v : LoneShelfSeen). TakenFrom (shelf_seen v) (shelf_seen (shelf_of c.exchange-object.new.objects.items c.self.inside.opened.items (Some t))) c.args.number (Some c.exchange-object.result)) c.self.view_is
    (takes_one c.self.inside.objects.items c.self.inside.opened.items c.self.inside.rows.items c.args.number c.in_ok-place.place c.exchange-object.result c.unwrap-stand_in.result c.exchange-object.new.objects.items t there
    c.exchange-object.ensures.there c.exchange-object.ensures.set refl c.of.ensures c.self.inside.taken c.self.invariant.0 none)
