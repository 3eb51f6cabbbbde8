use Rattle.std.proofs.Common.{◌≡◌, ◌+◌, ◌∷◌, ◌++◌, [], List, Bool, cond, true, arith, length, ap}
use Rattle.std.specs.Prelude.{is_ok}
use Rattle.std.proofs.lemmas.List.{length-append, length-set}
use Rattle.taos_calculus.specs.declared.line.Line.{Line}
use Rattle.term_pool.proofs.Cells.{cell_in}
use Rattle.term_pool.proofs.Adding.{added, room_less, lines_less}
use Rattle.term_pool.proofs.found.Found.add.Goals as goal

longer : (ok : Bool) (xs ys zs : List Line) → ys ≡ cond ok xs zs → ok ≡ true → ys ≡ xs
longer ok xs ys zs e t = rw t at e

pub unwrap-requires : goal.unwrap-requires
unwrap-requires c =
    c.push.ensures.succeeds (omega (
      arith,
      c.requires.found.held,
      c.args.self.now.lines.ok.0,
      lines_less c.args.self.now.width c.args.self.now.statements.items c.args.self.now.numbers.items c.args.self.now.lines.items c.requires.found.index record { fact = c.args.fact; step = c.args.step } c.in-Some.cell c.in-Some.ensures c.requires.new,
    ))

pub overflow_cast-len : goal.overflow_cast-len
overflow_cast-len c =
    let items = longer (is_ok c.push.result) (c.args.self.now.lines.items ++ record { fact = c.args.fact; step = c.args.step } ∷ []) c.push.new.self.items c.args.self.now.lines.items c.push.ensures.items (ap is_ok c.unwrap.ensures) in
    omega (
      arith,
      c.len.ensures,
      c.push.new.self.ok.0,
      ap length items,
      length-append c.args.self.now.lines.items (record { fact = c.args.fact; step = c.args.step } ∷ []),
      c.requires.found.index.sized,
      c.requires.found.index.fits,
      lines_less c.args.self.now.width c.args.self.now.statements.items c.args.self.now.numbers.items c.args.self.now.lines.items c.requires.found.index record { fact = c.args.fact; step = c.args.step } c.in-Some.cell c.in-Some.ensures c.requires.new,
    )

pub index_mut-requires : goal.index_mut-requires
index_mut-requires c =
    omega (
      arith,
      c.requires.found.index.sized,
      c.args.self.now.numbers.ok.0,
      cell_in c.args.self.now.width c.args.self.now.statements.items c.args.fact c.in-Some.cell c.in-Some.ensures,
    )

pub returns-in-Some-clause-found : goal.returns-in-Some-clause-found
returns-in-Some-clause-found c =
    let items = longer (is_ok c.push.result) (c.args.self.now.lines.items ++ record { fact = c.args.fact; step = c.args.step } ∷ []) c.push.new.self.items c.args.self.now.lines.items c.push.ensures.items (ap is_ok c.unwrap.ensures) in
    let len : c.len.result ≡ length c.args.self.now.lines.items + 1
    = omega (arith, c.len.ensures, c.push.new.self.ok.0, ap length items, length-append c.args.self.now.lines.items (record { fact = c.args.fact; step = c.args.step } ∷ [])) in
    record {
      index = rw (len, items) (added c.args.self.now.width c.args.self.now.statements.items c.args.self.now.numbers.items c.args.self.now.lines.items c.requires.found.index record { fact = c.args.fact; step = c.args.step } c.in-Some.cell c.in-Some.ensures c.requires.new);
      held = omega (arith, c.requires.found.held, c.push.ensures.capacity, length-set c.args.self.now.numbers.items c.in-Some.cell c.len.result);
    }

pub returns-in-Some-clause-room : goal.returns-in-Some-clause-room
returns-in-Some-clause-room c =
    let items = longer (is_ok c.push.result) (c.args.self.now.lines.items ++ record { fact = c.args.fact; step = c.args.step } ∷ []) c.push.new.self.items c.args.self.now.lines.items c.push.ensures.items (ap is_ok c.unwrap.ensures) in
    let len : c.len.result ≡ length c.args.self.now.lines.items + 1
    = omega (arith, c.len.ensures, c.push.new.self.ok.0, ap length items, length-append c.args.self.now.lines.items (record { fact = c.args.fact; step = c.args.step } ∷ [])) in
    rw len (room_less c.args.self.now.width c.args.self.now.statements.items c.args.self.now.numbers.items c.args.self.now.lines.items c.requires.found.index record { fact = c.args.fact; step = c.args.step } c.in-Some.cell c.in-Some.ensures c.requires.new)
