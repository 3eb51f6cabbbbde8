use Rattle.std.proofs.Common.{◌∙◌}
use Rattle.taos_calculus.specs.declared.line.Node.{Node}
use Rattle.goal_search.proofs.Finishing.{form_at, formless}
use Rattle.goal_search.proofs.search.Search.form.Goals as goal

pub returns-in-Quote : goal.returns-in-Quote
returns-in-Quote c = form_at c.args.self.now.nodes.items c.args.number (Node.Quote c.in-Quote.field-0 c.in-Quote.field-1) c.in-Quote.ensures.stands

pub returns-in-For : goal.returns-in-For
returns-in-For c = form_at c.args.self.now.nodes.items c.args.number (Node.For c.in-For.field-0 c.in-For.field-1) c.in-For.ensures.stands

pub returns-in-AsRole : goal.returns-in-AsRole
returns-in-AsRole c = form_at c.args.self.now.nodes.items c.args.number (Node.AsRole c.in-AsRole.field-0 c.in-AsRole.role) c.in-AsRole.ensures.stands

pub returns-in_default : goal.returns-in_default
returns-in_default c = λ n f.
    formless c.node.result c.in_default.not-Quote c.in_default.not-For c.in_default.not-AsRole
    ∙ form_at c.args.self.now.nodes.items c.args.number c.node.result c.node.ensures.stands n f
