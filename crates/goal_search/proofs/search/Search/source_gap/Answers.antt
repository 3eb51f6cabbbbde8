use Rattle.goal_search.specs.Searching.{core}
use Rattle.goal_search.proofs.Finishing.{no_form}
use Rattle.goal_search.proofs.GapLaws.{lacks_passed}
use Rattle.goal_search.proofs.Refusals.{never}
use Rattle.goal_search.proofs.search.Search.source_gap.Goals as goal

pub returns-then-not-has : goal.returns-then-not-has
returns-then-not-has c = λ to h. lacks_passed (core c.args.self.now) c.args.row c.args.from to (λ k. never (c.if-not-has.ensures.1 k))

pub returns-then-form-eq0 : goal.returns-then-form-eq0
returns-then-form-eq0 c = λ to h. no_form (core c.args.self.now) c.args.row c.args.from to c.form-form.result c.form-form.ensures c.if-form-eq0.true
