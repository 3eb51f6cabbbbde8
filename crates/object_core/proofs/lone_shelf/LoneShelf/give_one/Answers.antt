-- the object is in its place again
use Rattle.std.proofs.Common.{Option, Some, refl, sym, ap, subst, ◌∙◌}
use Rattle.object_core.specs.declared.taken.Taken.{Taken}
use Rattle.object_core.specs.OneOwner.{LoneShelfSeen, HasStandIn, IsLoneShelf, as_taken, shelf_seen, taken_from}
use Rattle.object_core.specs.Shelving.{GivenBack}
use Rattle.object_core.proofs.OnShelf.{given, shelf_of}
use Rattle.object_core.proofs.lone_shelf.LoneShelf.give_one.Goals as goal

pub invariant_of-self : goal.invariant_of-self
invariant_of-self c =
    let (was, at, back) = c.requires in
    let both = given c.self.inside.objects.items c.exchange-stand_in.new.objects.items c.self.inside.opened.items c.self.inside.rows.items c.unwrap-taken.result c.args.object c.exchange-stand_in.ensures.set
    c.self.inside.taken (sym c.take.ensures.value ∙ c.unwrap-taken.ensures) c.self.invariant.0 was (ap taken_from c.self.view_is ∙ at) back c.journal-journal.ensures.within in
    subst (λ (tk : Option Taken). IsLoneShelf (as_taken c.exchange-stand_in.new.objects.items tk) c.self.inside.opened.items c.self.inside.rows.items
    × HasStandIn c.exchange-stand_in.new.objects.items tk (Some c.exchange-stand_in.result)) (sym c.take.ensures.after) (both.0, refl)

pub returns : goal.returns
returns c =
    let (was, at, back) = c.requires in
    let both = given c.self.inside.objects.items c.exchange-stand_in.new.objects.items c.self.inside.opened.items c.self.inside.rows.items c.unwrap-taken.result c.args.object c.exchange-stand_in.ensures.set
    c.self.inside.taken (sym c.take.ensures.value ∙ c.unwrap-taken.ensures) c.self.invariant.0 was (ap taken_from c.self.view_is ∙ at) back c.journal-journal.ensures.within in
    subst (λ (v : LoneShelfSeen). GivenBack (shelf_seen v) (shelf_seen (shelf_of c.exchange-stand_in.new.objects.items c.self.inside.opened.items c.take.new.self)) c.args.object) c.self.view_is
    (subst (λ (tk : Option Taken). GivenBack (shelf_seen (shelf_of c.self.inside.objects.items c.self.inside.opened.items c.self.inside.taken)) (shelf_seen (shelf_of c.exchange-stand_in.new.objects.items c.self.inside.opened.items tk)) c.args.object)
    (sym c.take.ensures.after) both.1)
