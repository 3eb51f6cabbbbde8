-- a number has a row exactly where an object has it
use Rattle.std.proofs.Common.{◌≡◌, List, sym, ap, subst, ◌∙◌}
use Rattle.std.specs.Prelude.{Contains, MatchOption, is_some}
use Rattle.object_core.specs.declared.rows.Row.{Row}
use Rattle.object_core.specs.Numbered.{LacksNumber, row}
use Rattle.object_core.specs.OneOwner.{LoneShelfSeen, fixed_on}
use Rattle.object_core.specs.Shelving.{fixed_at}
use Rattle.object_core.proofs.OnShelf.{is_there, shelf_of}
use Rattle.object_core.proofs.lone_shelf.LoneShelfShelf.has.Goals as goal

pub returns : goal.returns
returns c =
    let l : LoneShelfSeen = shelf_of c.self.inside.objects.items c.self.inside.opened.items c.self.inside.taken in
    let found = subst (λ (rs : List Row). MatchOption c.place_in.result (LacksNumber rs c.args.number) (λ place. Contains rs (row c.args.number place))) c.deref.ensures.value c.place_in.ensures in
    let now : c.is_some.result ≡ is_some (fixed_at (fixed_on c.args.self.now) c.args.number) =
    c.is_some.ensures ∙ is_there l c.self.inside.rows.items c.self.invariant.0 c.args.number c.place_in.result found
    ∙ ap (λ (v : LoneShelfSeen). is_some (fixed_at (fixed_on v) c.args.number)) c.self.view_is in
    (λ t. sym now ∙ t, λ t. now ∙ t)
