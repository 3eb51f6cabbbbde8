use Rattle.std.proofs.Common.{◌++◌, ◌∷◌, [], ℕ, nat_lt, length, rules, tests, ap, arith}
use Rattle.std.specs.Prelude.{is_ok}
use Rattle.std.proofs.lemmas.Fn.{filter_same}
use Rattle.term_pool.proofs.Pushing.{longer}
use Rattle.goal_search.specs.Searching.{core}
use Rattle.goal_search.proofs.Citing.{ready_cited, row_fits}
use Rattle.goal_search.proofs.Followed.{settled_cited}
use Rattle.goal_search.proofs.search.Search.add_cert.Goals as goal

pub add_row-requires-clause-few : goal.add_row-requires-clause-few
add_row-requires-clause-few c = let r = c.requires.ready in omega (arith, r.rows_are, r.few_nodes, r.few_cited)

pub add_row-requires-clause-fits : goal.add_row-requires-clause-fits
add_row-requires-clause-fits c = row_fits (core c.args.self.now) c.requires.ready c.requires.few

pub returns-clause-cited : goal.returns-clause-cited
returns-clause-cited c = longer (is_ok c.push.result) (c.args.self.now.cited.items ++ c.args.it ∷ []) c.push.new.self.items c.args.self.now.cited.items c.push.ensures.items (ap is_ok c.unwrap.ensures)

pub returns-clause-ready : goal.returns-clause-ready
returns-clause-ready c =
    let s = core c.args.self.now in
    let cited = longer (is_ok c.push.result) (c.args.self.now.cited.items ++ c.args.it ∷ []) c.push.new.self.items c.args.self.now.cited.items c.push.ensures.items (ap is_ok c.unwrap.ensures) in
    let wanted = filter_same _ (λ (x : ℕ). nat_lt x (length s.nodes)) _ (λ x b f' k. search (rules, tests)) _ _ c.retain.ensures.filtered in
    ready_cited s c.requires.ready c.args.it c.add_row.new.self c.add_row.ensures.cells c.add_row.ensures.width c.add_row.ensures.rows c.add_row.ensures.same c.requires.cited_in c.requires.few
    c.push.new.self.items c.retain.new.self.items cited wanted

pub returns-clause-settled : goal.returns-clause-settled
returns-clause-settled c settled quiet =
    let s = core c.args.self.now in
    let cited = longer (is_ok c.push.result) (c.args.self.now.cited.items ++ c.args.it ∷ []) c.push.new.self.items c.args.self.now.cited.items c.push.ensures.items (ap is_ok c.unwrap.ensures) in
    let wanted = filter_same _ (λ (x : ℕ). nat_lt x (length s.nodes)) _ (λ x b f' k. search (rules, tests)) _ _ c.retain.ensures.filtered in
    settled_cited s c.requires.ready c.args.it c.requires.cited_in c.add_row.new.self c.add_row.ensures.width c.add_row.ensures.rows c.add_row.ensures.same quiet settled
    c.push.new.self.items c.retain.new.self.items cited wanted
