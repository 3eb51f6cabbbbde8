use Rattle.goal_search.proofs.search.Search.is_form_edge.Goals as goal

pub returns-in-Quote : goal.returns-in-Quote
returns-in-Quote c = λ t. c.is_quoting_edge.ensures t c.args.from c.in-Quote.ensures.stands

pub returns-in-For : goal.returns-in-For
returns-in-For c = λ t. c.is_for_edge.ensures t c.args.from c.in-For.ensures.stands

pub returns-in-AsRole : goal.returns-in-AsRole
returns-in-AsRole c = λ t. c.is_role_edge.ensures t c.args.from c.in-AsRole.ensures.stands
