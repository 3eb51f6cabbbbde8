-- the rows tell the place of each number
use Rattle.std.proofs.Common.{List, ap, subst, ◌∙◌}
use Rattle.std.specs.Prelude.{◌==◌, Contains, MatchOption}
use Rattle.std.specs.List.{position}
use Rattle.object_core.specs.declared.rows.Row.{Row}
use Rattle.object_core.specs.Numbered.{LacksNumber, row}
use Rattle.object_core.specs.Shelving.{numbers_of}
use Rattle.object_core.proofs.FindingRows.{place_told}
use Rattle.agent_shards.specs.Objects.{ObjectCell, fixed_in}
use Rattle.agent_shards.proofs.rack.Rack.place_of.Goals as goal

pub returns-clause-place : goal.returns-clause-place
returns-clause-place c =
    let told = subst (λ (rs : List Row). MatchOption c.place_in.result (LacksNumber rs c.args.number) (λ place. Contains rs (row c.args.number place))) c.deref.ensures.value c.place_in.ensures in
    place_told (numbers_of (fixed_in c.self.inside.cells.items)) c.self.inside.rows.items c.self.invariant.1 c.args.number c.self.invariant.0 c.place_in.result told
    ∙ ap (λ (cells : List ObjectCell). position (λ n. n == c.args.number) (numbers_of (fixed_in cells))) c.self.view_is
