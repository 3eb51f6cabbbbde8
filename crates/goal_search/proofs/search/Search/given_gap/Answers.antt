use Rattle.goal_search.specs.Searching.{core}
use Rattle.goal_search.proofs.Finishing.{other_form}
use Rattle.goal_search.proofs.search.Search.given_gap.Goals as goal

pub returns-then-form : goal.returns-then-form
returns-then-form c = other_form (core c.args.self.now) c.args.row c.args.from c.args.to c.args.form c.requires.form_is c.form.result c.form.ensures c.if-form.true
