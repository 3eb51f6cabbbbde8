use Rattle.std.proofs.Common.{◌≡◌, ◌≢◌, ◌<◌, ◌∙◌, ◌∷◌, [], List, Some, ℕ, slice_get, get_or, refl, ap, subst, sym, length, arith}
use Rattle.std.proofs.lemmas.Option.{slice_get-get_or}
use Rattle.std.specs.Prelude.{vec_capacity}
use Rattle.prin_term.specs.Kind.{pair}
use Rattle.prin_term.specs.Principal.{Principal, InRole}
use Rattle.taos_calculus.specs.declared.line.Node.{Node}
use Rattle.taos_calculus.specs.Canonical.{post_order}
use Rattle.taos_calculus.specs.Tables.{OperandsBelow, shape, named}
use Rattle.term_pool.specs.Interning.{Fits, TakesIn}
use Rattle.term_pool.proofs.Interned.{fits_front, roomy_next, role_fits, role_taken, pair_first, pair_second, pair_operands, pair_fits, pair_is, pair_taken}
use Rattle.term_pool.proofs.Known.{taken_known, carried_more}
use Rattle.term_pool.proofs.Carried.{atom_named, role_at, pair_at}
use Rattle.term_pool.proofs.retable.+carry.Goals as goal

pub carry-x-requires : goal.carry-x-requires
carry-x-requires t c =
    let at = role_at c.args.nodes.now c.requires.table c.args.id c.requires.id_in c.in-AsRole.a c.in-AsRole.role c.in-AsRole.is in
    let fits : Fits c.args.new.now.items (post_order (InRole (named c.args.nodes.now c.in-AsRole.a) c.in-AsRole.role))
    = subst (λ (p : Principal). Fits c.args.new.now.items (post_order p)) at.named_is c.requires.fits in (
      omega (arith, at.a_low),
      (
        c.requires.table,
        (
          omega (arith, at.a_low, c.requires.id_in),
          (
            c.requires.roomy,
            (fits_front c.args.new.now.items (post_order (named c.args.nodes.now c.in-AsRole.a)) (InRole (named c.args.nodes.now c.in-AsRole.a) c.in-AsRole.role ∷ []) fits, c.requires.known),
          ),
        ),
      ),
    )

pub place-number-requires-in-AsRole-clause-fits : goal.place-number-requires-in-AsRole-clause-fits
place-number-requires-in-AsRole-clause-fits t c =
    let at = role_at c.args.nodes.now c.requires.table c.args.id c.requires.id_in c.in-AsRole.a c.in-AsRole.role c.in-AsRole.is in
    let fits : Fits c.args.new.now.items (post_order (InRole (named c.args.nodes.now c.in-AsRole.a) c.in-AsRole.role))
    = subst (λ (p : Principal). Fits c.args.new.now.items (post_order p)) at.named_is c.requires.fits in
    role_fits c.args.new.now.items c.carry-x.new.new.items (named c.args.nodes.now c.in-AsRole.a) c.in-AsRole.role c.carry-x.result c.carry-x.ensures.taken fits

pub returns-in-AsRole-clause-taken : goal.returns-in-AsRole-clause-taken
returns-in-AsRole-clause-taken t c =
    let at = role_at c.args.nodes.now c.requires.table c.args.id c.requires.id_in c.in-AsRole.a c.in-AsRole.role c.in-AsRole.is in
    let fits : Fits c.args.new.now.items (post_order (InRole (named c.args.nodes.now c.in-AsRole.a) c.in-AsRole.role))
    = subst (λ (p : Principal). Fits c.args.new.now.items (post_order p)) at.named_is c.requires.fits in
    subst (λ (p : Principal). TakesIn c.args.new.now.items c.place-number-in-AsRole.new.nodes.items (post_order p) p c.place-number-in-AsRole.result) (sym at.named_is)
    (role_taken c.args.new.now.items c.carry-x.new.new.items (named c.args.nodes.now c.in-AsRole.a) c.in-AsRole.role c.carry-x.result c.carry-x.ensures.taken
    c.place-number-in-AsRole.new.nodes.items c.place-number-in-AsRole.result c.place-number-in-AsRole.ensures.taken)

pub carry-x-requires-in-And : goal.carry-x-requires-in-And
carry-x-requires-in-And t c =
    let at = pair_at c.args.nodes.now c.requires.table c.args.id c.requires.id_in c.in-And.a c.in-And.b c.in-And.node c.in-And.node-is c.in-And.is in
    let fits : Fits c.args.new.now.items (post_order (pair at.kind (named c.args.nodes.now c.in-And.a) (named c.args.nodes.now c.in-And.b)))
    = subst (λ (p : Principal). Fits c.args.new.now.items (post_order p)) at.named_is c.requires.fits in (
      omega (arith, at.a_low),
      (
        c.requires.table,
        (
          omega (arith, at.a_low, c.requires.id_in),
          (
            c.requires.roomy,
            (pair_first c.args.new.now.items at.kind (named c.args.nodes.now c.in-And.a) (named c.args.nodes.now c.in-And.b) fits, c.requires.known),
          ),
        ),
      ),
    )

pub carry-y-requires : goal.carry-y-requires
carry-y-requires t c =
    let at = pair_at c.args.nodes.now c.requires.table c.args.id c.requires.id_in c.in-And.a c.in-And.b c.in-And.node c.in-And.node-is c.in-And.is in
    let fits : Fits c.args.new.now.items (post_order (pair at.kind (named c.args.nodes.now c.in-And.a) (named c.args.nodes.now c.in-And.b)))
    = subst (λ (p : Principal). Fits c.args.new.now.items (post_order p)) at.named_is c.requires.fits in (
      omega (arith, at.b_low),
      (
        c.requires.table,
        (
          omega (arith, at.b_low, c.requires.id_in),
          (
            roomy_next c.args.new.now.items c.carry-x-in-And.new.new.items (vec_capacity c.args.new.now) (vec_capacity c.carry-x-in-And.new.new)
                (post_order (named c.args.nodes.now c.in-And.a)) (named c.args.nodes.now c.in-And.a) c.carry-x-in-And.result
                c.requires.roomy c.carry-x-in-And.ensures.taken c.carry-x-in-And.ensures.capacity,
            (pair_second c.args.new.now.items c.carry-x-in-And.new.new.items at.kind (named c.args.nodes.now c.in-And.a) (named c.args.nodes.now c.in-And.b) c.carry-x-in-And.result c.carry-x-in-And.ensures.taken fits, c.carry-x-in-And.ensures.known),
          ),
        ),
      ),
    )

pub place-number-requires-in-And-clause-operands : goal.place-number-requires-in-And-clause-operands
place-number-requires-in-And-clause-operands t c =
    let at = pair_at c.args.nodes.now c.requires.table c.args.id c.requires.id_in c.in-And.a c.in-And.b c.in-And.node c.in-And.node-is c.in-And.is in
    let fits : Fits c.args.new.now.items (post_order (pair at.kind (named c.args.nodes.now c.in-And.a) (named c.args.nodes.now c.in-And.b)))
    = subst (λ (p : Principal). Fits c.args.new.now.items (post_order p)) at.named_is c.requires.fits in
    subst (λ (n : Node). OperandsBelow (length c.carry-y.new.new.items) n) (sym (c.pair_like.ensures at.kind c.in-And.a c.in-And.b at.is))
    (pair_operands c.args.new.now.items c.carry-x-in-And.new.new.items c.carry-y.new.new.items at.kind (named c.args.nodes.now c.in-And.a) (named c.args.nodes.now c.in-And.b) c.carry-x-in-And.result c.carry-y.result c.carry-x-in-And.ensures.taken c.carry-y.ensures.taken)

pub place-number-requires-in-And-clause-fits : goal.place-number-requires-in-And-clause-fits
place-number-requires-in-And-clause-fits t c =
    let at = pair_at c.args.nodes.now c.requires.table c.args.id c.requires.id_in c.in-And.a c.in-And.b c.in-And.node c.in-And.node-is c.in-And.is in
    let fits : Fits c.args.new.now.items (post_order (pair at.kind (named c.args.nodes.now c.in-And.a) (named c.args.nodes.now c.in-And.b)))
    = subst (λ (p : Principal). Fits c.args.new.now.items (post_order p)) at.named_is c.requires.fits in
    subst (λ (n : Node). Fits c.carry-y.new.new.items (shape (named c.carry-y.new.new.items) n ∷ [])) (sym (c.pair_like.ensures at.kind c.in-And.a c.in-And.b at.is))
    (pair_fits c.args.new.now.items c.carry-x-in-And.new.new.items c.carry-y.new.new.items at.kind (named c.args.nodes.now c.in-And.a) (named c.args.nodes.now c.in-And.b) c.carry-x-in-And.result c.carry-y.result c.carry-x-in-And.ensures.taken c.carry-y.ensures.taken fits)

pub returns-in-And-clause-taken : goal.returns-in-And-clause-taken
returns-in-And-clause-taken t c =
    let at = pair_at c.args.nodes.now c.requires.table c.args.id c.requires.id_in c.in-And.a c.in-And.b c.in-And.node c.in-And.node-is c.in-And.is in
    let fits : Fits c.args.new.now.items (post_order (pair at.kind (named c.args.nodes.now c.in-And.a) (named c.args.nodes.now c.in-And.b)))
    = subst (λ (p : Principal). Fits c.args.new.now.items (post_order p)) at.named_is c.requires.fits in
    let third = subst (λ (n : Node). TakesIn c.carry-y.new.new.items c.place-number-in-And.new.nodes.items (shape (named c.carry-y.new.new.items) n ∷ []) (shape (named c.carry-y.new.new.items) n) c.place-number-in-And.result)
    (c.pair_like.ensures at.kind c.in-And.a c.in-And.b at.is) c.place-number-in-And.ensures.taken in
    subst (λ (p : Principal). TakesIn c.args.new.now.items c.place-number-in-And.new.nodes.items (post_order p) p c.place-number-in-And.result) (sym at.named_is)
    (pair_taken c.args.new.now.items c.carry-x-in-And.new.new.items c.carry-y.new.new.items at.kind
    (named c.args.nodes.now c.in-And.a) (named c.args.nodes.now c.in-And.b) c.carry-x-in-And.result c.carry-y.result
    c.carry-x-in-And.ensures.taken c.carry-y.ensures.taken c.place-number-in-And.new.nodes.items c.place-number-in-And.result third)

pub place-number-requires-clause-fits : goal.place-number-requires-clause-fits
place-number-requires-clause-fits t c =
    let at = atom_named c.args.nodes.now c.requires.table c.args.id c.requires.id_in _ refl c.in-Key.is (named c.args.new.now.items) in
    subst (λ (ps : List Principal). Fits c.args.new.now.items ps) at.1 c.requires.fits

pub returns-in-Key-clause-taken : goal.returns-in-Key-clause-taken
returns-in-Key-clause-taken t c =
    let at = atom_named c.args.nodes.now c.requires.table c.args.id c.requires.id_in _ refl c.in-Key.is (named c.args.new.now.items) in
    let posts = subst (λ (ps : List Principal). TakesIn c.args.new.now.items c.place-number.new.nodes.items ps (shape (named c.args.new.now.items) (get_or c.args.nodes.now c.args.id (Node.Key 0))) c.place-number.result) (sym at.1) c.place-number.ensures.taken in
    subst (λ (p : Principal). TakesIn c.args.new.now.items c.place-number.new.nodes.items (post_order (named c.args.nodes.now c.args.id)) p c.place-number.result) at.0 posts

pub returns-then-known-clause-taken : goal.returns-then-known-clause-taken
returns-then-known-clause-taken t c =
    let numbers = c.args.numbers.now.items in
    let v = c.index-known.result.now in
    let inside : c.args.id < length numbers = omega (arith, c.requires.id_in, c.requires.known.long) in
    let at : slice_get numbers c.args.id ≡ Some v = slice_get-get_or numbers c.args.id v inside ∙ ap (λ (n : ℕ). Some n) (sym c.index-known.ensures) in
    let set : v ≢ 65535 = (λ e. let t = c.if-known.true in omega arith) in
    let same = c.requires.known.same c.args.id v at set in
    taken_known c.args.new.now.items c.requires.roomy.table v (named c.args.nodes.now c.args.id) same.0 same.1

pub returns-in-Key-clause-known : goal.returns-in-Key-clause-known
returns-in-Key-clause-known t c =
    let o = c.args.new.now.items in
    let n = c.place-number.new.nodes.items in
    let node = get_or c.args.nodes.now c.args.id (Node.Key 0) in
    let at = atom_named c.args.nodes.now c.requires.table c.args.id c.requires.id_in _ refl c.in-Key.is (named o) in
    carried_more c.args.nodes.now o n c.args.numbers.now.items (shape (named o) node ∷ []) c.args.id c.place-number.result c.requires.id_in c.requires.known
    (subst (λ (p : Principal). TakesIn o n (shape (named o) node ∷ []) p c.place-number.result) at.0 c.place-number.ensures.taken)

pub returns-in-AsRole-clause-known : goal.returns-in-AsRole-clause-known
returns-in-AsRole-clause-known t c =
    let o = c.carry-x.new.new.items in
    let n = c.place-number-in-AsRole.new.nodes.items in
    let at = role_at c.args.nodes.now c.requires.table c.args.id c.requires.id_in c.in-AsRole.a c.in-AsRole.role c.in-AsRole.is in
    let is = ap (λ q. InRole q c.in-AsRole.role) c.carry-x.ensures.taken.named_is ∙ sym at.named_is in
    carried_more c.args.nodes.now o n c.carry-x.new.numbers.items (InRole (named o c.carry-x.result) c.in-AsRole.role ∷ []) c.args.id c.place-number-in-AsRole.result c.requires.id_in c.carry-x.ensures.known
    (subst (λ (p : Principal). TakesIn o n (InRole (named o c.carry-x.result) c.in-AsRole.role ∷ []) p c.place-number-in-AsRole.result) is c.place-number-in-AsRole.ensures.taken)

pub returns-in-And-clause-known : goal.returns-in-And-clause-known
returns-in-And-clause-known t c =
    let o = c.carry-y.new.new.items in
    let n = c.place-number-in-And.new.nodes.items in
    let at = pair_at c.args.nodes.now c.requires.table c.args.id c.requires.id_in c.in-And.a c.in-And.b c.in-And.node c.in-And.node-is c.in-And.is in
    let is = ap (shape (named o)) (c.pair_like.ensures at.kind c.in-And.a c.in-And.b at.is) ∙
    pair_is c.args.new.now.items c.carry-x-in-And.new.new.items o at.kind (named c.args.nodes.now c.in-And.a) (named c.args.nodes.now c.in-And.b) c.carry-x-in-And.result c.carry-y.result
    c.carry-x-in-And.ensures.taken c.carry-y.ensures.taken ∙ sym at.named_is in
    carried_more c.args.nodes.now o n c.carry-y.new.numbers.items (shape (named o) c.pair_like.result ∷ []) c.args.id c.place-number-in-And.result c.requires.id_in c.carry-y.ensures.known
    (subst (λ (p : Principal). TakesIn o n (shape (named o) c.pair_like.result ∷ []) p c.place-number-in-And.result) is c.place-number-in-And.ensures.taken)
