use Rattle.std.proofs.Common.{ℕ, List, refl, ap, ◌∙◌, arith}
use Rattle.std.specs.Prelude.{is_ok, slice_index}
use Rattle.goal_search.proofs.Lengthened.{padded, row_added, row_items}
use Rattle.goal_search.proofs.cells.Cells.add_row.Goals as goal

pub returns-clause-cells : goal.returns-clause-cells
returns-clause-cells c =
    let old = c.args.self.now in
    let items = row_items old.cells.items c.resize.new.self.items old.width old.rows _ (is_ok c.resize.result) c.resize.ensures.items (ap is_ok c.unwrap.ensures) (omega (arith, old.cells.ok.0)) c.requires.cells.sized in
    row_added old _ c.requires.cells refl refl refl items c.requires.fits

pub returns-clause-same : goal.returns-clause-same
returns-clause-same c place =
    let old = c.args.self.now in
    let items = row_items old.cells.items c.resize.new.self.items old.width old.rows _ (is_ok c.resize.result) c.resize.ensures.items (ap is_ok c.unwrap.ensures) (omega (arith, old.cells.ok.0)) c.requires.cells.sized in
    ap (λ (xs : List ℕ). slice_index xs place) items ∙ padded old.cells.items old.width place
