-- what was removed at the place is inserted there again
use Rattle.std.proofs.Common.{ap, is_ok, ◌∙◌}
use Rattle.std.specs.List.{insert}
use Rattle.agent_shards.proofs.Rows.{chosen, put_again}
use Rattle.agent_shards.proofs.cells.put_back.Goals as goal

pub returns : goal.returns
returns g c whole removed lt =
    c.insert.ensures.items
    ∙ (chosen (is_ok c.insert.result) (insert c.args.passes.now.items c.args.place c.args.pass) c.args.passes.now.items (c.insert.ensures.succeeds c.requires.room)
    ∙ (ap (λ l. insert l c.args.place c.args.pass) removed ∙ put_again whole c.args.place c.args.pass lt))
