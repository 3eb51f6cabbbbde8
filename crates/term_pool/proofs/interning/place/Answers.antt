use Rattle.std.proofs.Common.{◌≡◌, ◌-◌, ◌∷◌, ◌++◌, [], List, Bool, cond, true, length, arith, ap, subst}
use Rattle.std.specs.Prelude.{is_ok}
use Rattle.std.proofs.lemmas.List.{length-append}
use Rattle.std.proofs.lemmas.Option.{slice_get_within}
use Rattle.taos_calculus.specs.declared.line.Node.{Node}
use Rattle.taos_calculus.specs.Tables.{shape, named}
use Rattle.term_pool.specs.Interning.{TakesIn}
use Rattle.term_pool.proofs.Interned.{taken_there, taken_new, met_longer, fits_length}
use Rattle.term_pool.proofs.interning.place.Goals as goal

longer : (ok : Bool) (xs ys zs : List Node) → ys ≡ cond ok xs zs → ok ≡ true → ys ≡ xs
longer ok xs ys zs e t = rw t at e

pub overflow_cast-result : goal.overflow_cast-result
overflow_cast-result c =
    let at = rw c.deref.ensures.value at c.in-Some.ensures in
    let low = slice_get_within c.args.nodes.now.items c.in-Some.i c.args.node at in
    let small = fits_length c.args.nodes.now.items (shape (named c.args.nodes.now.items) c.args.node ∷ []) c.requires.fits in
    omega (arith, low, small)

pub unwrap-requires : goal.unwrap-requires
unwrap-requires c =
    let none = rw c.deref.ensures.value at c.in-None.ensures in
    c.push.ensures.succeeds (omega (
      arith,
      c.requires.fits,
      c.requires.roomy.room,
      c.args.nodes.now.ok.0,
      met_longer c.args.nodes.now.items c.requires.roomy.table c.args.node c.requires.operands none,
    ))

pub overflow_cast-result-in-None : goal.overflow_cast-result-in-None
overflow_cast-result-in-None c =
    let none = rw c.deref.ensures.value at c.in-None.ensures in
    let items = longer (is_ok c.push.result) (c.args.nodes.now.items ++ c.args.node ∷ []) c.push.new.self.items c.args.nodes.now.items c.push.ensures.items (ap is_ok c.unwrap.ensures) in
    omega (
      arith,
      c.len.ensures,
      c.push.new.self.ok.0,
      ap length items,
      length-append c.args.nodes.now.items (c.args.node ∷ []),
      c.requires.fits,
      met_longer c.args.nodes.now.items c.requires.roomy.table c.args.node c.requires.operands none,
    )

pub returns-in-Some-clause-taken : goal.returns-in-Some-clause-taken
returns-in-Some-clause-taken c =
    taken_there c.args.nodes.now.items c.requires.roomy.table c.args.node c.requires.operands c.in-Some.i (rw c.deref.ensures.value at c.in-Some.ensures)

pub returns-in-None-clause-taken : goal.returns-in-None-clause-taken
returns-in-None-clause-taken c =
    let none = rw c.deref.ensures.value at c.in-None.ensures in
    let items = longer (is_ok c.push.result) (c.args.nodes.now.items ++ c.args.node ∷ []) c.push.new.self.items c.args.nodes.now.items c.push.ensures.items (ap is_ok c.unwrap.ensures) in
    let at : length c.args.nodes.now.items ≡ c.len.result - 1
    = omega (arith, c.len.ensures, c.push.new.self.ok.0, ap length items, length-append c.args.nodes.now.items (c.args.node ∷ [])) in
    rw items (subst (λ i. TakesIn c.args.nodes.now.items (c.args.nodes.now.items ++ c.args.node ∷ []) (shape (named c.args.nodes.now.items) c.args.node ∷ []) (shape (named c.args.nodes.now.items) c.args.node) i) at
    (taken_new c.args.nodes.now.items c.requires.roomy.table c.args.node c.requires.operands none))
