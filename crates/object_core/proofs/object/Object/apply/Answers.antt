-- one entry more, in the room that was reserved, and the place of what it brings
use Rattle.std.proofs.Common.{◌≡◌, ◌<◌, length, subst, sym, ◌∙◌, arith}
use Rattle.std.proofs.lemmas.List.{length-map}
use Rattle.std.specs.Arc.{arc_value}
use Rattle.object_core.specs.FixedView.{fixed_plan}
use Rattle.object_core.specs.ObjectView.{object_entry}
use Rattle.object_core.specs.Objects.{ObjectSeen}
use Rattle.object_core.proofs.Latest.{applied_as}
use Rattle.object_core.proofs.object.Object.apply.Goals as goal

pub append-requires : goal.append-requires
append-requires c =
    let free : length c.self.inside.entries.items < (arc_value c.self.inside.fixed).limit =
    subst (λ n. n < (arc_value c.self.inside.fixed).limit) (length-map c.self.inside.entries.items object_entry)
    (subst (λ (o : ObjectSeen). length o.journal < o.limit) (sym c.self.view_is) c.requires.room) in
    omega (arith, free, c.self.invariant.room, c.self.inside.entries.ok.0)

pub invariant_of-self : goal.invariant_of-self
invariant_of-self c =
    let free : length c.self.inside.entries.items < (arc_value c.self.inside.fixed).limit =
    subst (λ n. n < (arc_value c.self.inside.fixed).limit) (length-map c.self.inside.entries.items object_entry)
    (subst (λ (o : ObjectSeen). length o.journal < o.limit) (sym c.self.view_is) c.requires.room) in
    let place : c.len-place.result ≡ length c.self.inside.entries.items = c.len-place.ensures ∙ c.self.inside.entries.ok.0 in
    applied_as (fixed_plan (arc_value c.self.inside.fixed)) (arc_value c.self.inside.fixed).limit c.self.inside.entries c.append.new.entries
    c.self.inside.written c.self.inside.listed c.later-self-inside.result c.later-self-inside-2.result c.args.entry c.writes.result c.lists.result c.len-place.result
    c.self.invariant free c.requires.fits c.append.ensures.added c.append.ensures.capacity place c.writes.ensures c.lists.ensures c.later-self-inside.ensures c.later-self-inside-2.ensures
