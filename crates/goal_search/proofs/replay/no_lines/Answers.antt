use Rattle.std.proofs.Common.{◌≡◌, length, ap, arith, ◌∙◌}
use Rattle.std.proofs.lemmas.List.{length-map}
use Rattle.term_pool.specs.Finding.{statement_of}
use Rattle.goal_search.specs.Searching.{core}
use Rattle.goal_search.proofs.Replayed.{found_cells}
use Rattle.goal_search.proofs.replay.no_lines.Goals as goal

pub restart-requires-clause-rows_fit : goal.restart-requires-clause-rows_fit
restart-requires-clause-rows_fit c =
    let stated = rw c.deref.ensures.value at c.in_ok-statements.ensures in
    let n : length c.in_ok-statements.statements.items ≡ length c.args.search.now.cited.items = ap length stated ∙ length-map c.args.search.now.cited.items statement_of in
    omega (arith, n, c.len-width.ensures, c.args.search.now.nodes.ok.0, c.requires.ready.few_nodes, c.requires.ready.few_cited)

pub restart-requires-clause-fits : goal.restart-requires-clause-fits
restart-requires-clause-fits c =
    let stated = rw c.deref.ensures.value at c.in_ok-statements.ensures in
    let n : length c.in_ok-statements.statements.items ≡ length c.args.search.now.cited.items = ap length stated ∙ length-map c.args.search.now.cited.items statement_of in
    let w : c.len-width.result ≡ length c.args.search.now.nodes.items = omega (arith, c.len-width.ensures, c.args.search.now.nodes.ok.0) in
    omega (arith, found_cells (core c.args.search.now) c.requires.ready c.len-width.result (length c.in_ok-statements.statements.items) w n, c.requires.ready.cells.few)

pub restart-requires-clause-lines_room : goal.restart-requires-clause-lines_room
restart-requires-clause-lines_room c =
    let stated = rw c.deref.ensures.value at c.in_ok-statements.ensures in
    let n : length c.in_ok-statements.statements.items ≡ length c.args.search.now.cited.items = ap length stated ∙ length-map c.args.search.now.cited.items statement_of in
    let w : c.len-width.result ≡ length c.args.search.now.nodes.items = omega (arith, c.len-width.ensures, c.args.search.now.nodes.ok.0) in
    omega (
      arith,
      found_cells (core c.args.search.now) c.requires.ready c.len-width.result (length c.in_ok-statements.statements.items) w n,
      c.len-count.ensures,
      c.args.search.now.cells.cells.ok.0,
      c.in_ok-lines.ensures.capacity,
    )

pub restart-requires-clause-numbers_room : goal.restart-requires-clause-numbers_room
restart-requires-clause-numbers_room c =
    let stated = rw c.deref.ensures.value at c.in_ok-statements.ensures in
    let n : length c.in_ok-statements.statements.items ≡ length c.args.search.now.cited.items = ap length stated ∙ length-map c.args.search.now.cited.items statement_of in
    let w : c.len-width.result ≡ length c.args.search.now.nodes.items = omega (arith, c.len-width.ensures, c.args.search.now.nodes.ok.0) in
    omega (
      arith,
      found_cells (core c.args.search.now) c.requires.ready c.len-width.result (length c.in_ok-statements.statements.items) w n,
      c.len-count.ensures,
      c.args.search.now.cells.cells.ok.0,
      c.in_ok-numbers.ensures.capacity,
    )

pub returns : goal.returns
returns c =
    let stated = rw c.deref.ensures.value at c.in_ok-statements.ensures in
    let w : c.len-width.result ≡ length c.args.search.now.nodes.items = omega (arith, c.len-width.ensures, c.args.search.now.nodes.ok.0) in
    record {
      found = c.restart.ensures.found;
      width_is = c.restart.ensures.width ∙ w;
      stated = ap (λ v. v.items) c.restart.ensures.statements ∙ stated;
      anchors_fit = omega (arith, c.requires.ready.few_anchors);
      sound = rw c.restart.ensures.lines tt;
    }
