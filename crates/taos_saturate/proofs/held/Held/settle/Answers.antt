use Rattle.std.proofs.Common.{◌≤◌, length, ap, arith}
use Rattle.std.proofs.lemmas.List.{length-map}
use Rattle.term_pool.specs.Finding.{statement_of}
use Rattle.taos_saturate.proofs.Holding.{ready_new, cells_few}
use Rattle.taos_saturate.proofs.held.Held.settle.Goals as goal

pub saturate-requires-clause-ready : goal.saturate-requires-clause-ready
saturate-requires-clause-ready c =
    ready_new c.args.self.now c.requires.gathered c.restart.new.self c.restart.ensures.found
    (omega (arith, c.restart.ensures.width, c.len.ensures, c.args.self.now.table.nodes.ok.0)) c.restart.ensures.statements

pub returns-clause-held : goal.returns-clause-held
returns-clause-held c =
    let g = c.saturate.ensures.grown in
    let wide : c.saturate.new.self.found.width ≤ 1296 = omega (arith, g.ready.width_is, ap (λ v. length v.items) g.table.nodes, c.requires.gathered.few) in
    let stated : length c.saturate.new.self.found.statements.items ≤ 64 =
    omega (
      arith,
      ap (λ v. length v.items) g.statements,
      ap (λ v. length v.items) c.restart.ensures.statements,
      ap length c.requires.gathered.stated,
      length-map c.args.self.now.table.cited.items statement_of,
      c.requires.gathered.few_cited,
    ) in
    record {
      reserved = record {
        nodes = rw g.table.nodes c.requires.reserved.nodes;
        anchors = rw g.table.anchors c.requires.reserved.anchors;
        cited = rw g.table.cited c.requires.reserved.cited;
        statements = rw (g.statements, c.restart.ensures.statements) c.requires.reserved.statements;
        numbers = omega (arith, c.requires.reserved.numbers, c.restart.ensures.numbers_kept, g.numbers_kept);
        lines = omega (arith, c.requires.reserved.lines, c.restart.ensures.lines_kept, g.lines_kept);
        list = c.requires.reserved.list;
      };
      good = record { ready = g.ready; sound = g.sound; full = c.saturate.ensures.full };
      few_nodes = rw g.table.nodes c.requires.gathered.few;
      few_cells = cells_few _ _ _ g.ready.found.index.sized wide stated;
      few_cited = rw g.table.cited c.requires.gathered.few_cited;
      subject_in = rw g.table.nodes c.requires.gathered.subject_in;
      list_in = rw g.table.nodes c.requires.gathered.list_in;
      apart = rw (g.table.nodes, g.table.cited) c.requires.apart;
    }
