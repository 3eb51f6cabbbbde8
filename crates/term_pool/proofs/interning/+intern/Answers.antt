use Rattle.std.proofs.Common.{◌≡◌, ◌∷◌, [], ap, subst, sym, inl, inr, length, arith}
use Rattle.std.specs.Prelude.{vec_capacity}
use Rattle.prin_term.specs.Kind.{Kind, And, Quoting, For, pair}
use Rattle.prin_term.specs.Principal.{Principal, InRole, node_count}
use Rattle.prin_term.specs.View.{principal}
use Rattle.prin_term.proofs.Heads.{node_count-pair}
use Rattle.taos_calculus.specs.declared.line.Node.{Node}
use Rattle.taos_calculus.specs.Canonical.{post_order}
use Rattle.taos_calculus.specs.Tables.{OperandsBelow, shape, named}
use Rattle.term_pool.specs.Interning.{Fits, TakesIn}
use Rattle.term_pool.proofs.Interned.{fits_front, roomy_next, role_fits, role_taken, pair_first, pair_second, pair_operands, pair_fits, pair_taken}
use Rattle.term_pool.proofs.interning.+intern.Goals as goal

pub intern-a-requires : goal.intern-a-requires
intern-a-requires t c =
    let is = ap principal c.in-AsRole.is in
    let base : principal c.deref.result.now ≡ principal c.in-AsRole.base.value = ap principal c.deref.ensures in
    let fits : Fits c.args.nodes.now.items (post_order (InRole (principal c.in-AsRole.base.value) c.in-AsRole.role)) = subst (λ (p : Principal). Fits c.args.nodes.now.items (post_order p)) is c.requires.fits in (
      omega (arith, ap node_count is, ap node_count base),
      (
        c.requires.roomy,
        subst (λ (p : Principal). Fits c.args.nodes.now.items (post_order p)) (sym base)
            (fits_front c.args.nodes.now.items (post_order (principal c.in-AsRole.base.value)) (InRole (principal c.in-AsRole.base.value) c.in-AsRole.role ∷ []) fits),
      ),
    )

pub place-requires-in-AsRole-clause-fits : goal.place-requires-in-AsRole-clause-fits
place-requires-in-AsRole-clause-fits t c =
    let is = ap principal c.in-AsRole.is in
    let base : principal c.deref.result.now ≡ principal c.in-AsRole.base.value = ap principal c.deref.ensures in
    let fits : Fits c.args.nodes.now.items (post_order (InRole (principal c.in-AsRole.base.value) c.in-AsRole.role)) = subst (λ (p : Principal). Fits c.args.nodes.now.items (post_order p)) is c.requires.fits in
    let taken : TakesIn c.args.nodes.now.items c.intern-a.new.nodes.items (post_order (principal c.in-AsRole.base.value)) (principal c.in-AsRole.base.value) c.intern-a.result
    = subst (λ (p : Principal). TakesIn c.args.nodes.now.items c.intern-a.new.nodes.items (post_order p) p c.intern-a.result) base c.intern-a.ensures.taken in
    role_fits c.args.nodes.now.items c.intern-a.new.nodes.items (principal c.in-AsRole.base.value) c.in-AsRole.role c.intern-a.result taken fits

pub returns-in-AsRole-clause-taken : goal.returns-in-AsRole-clause-taken
returns-in-AsRole-clause-taken t c =
    let is = ap principal c.in-AsRole.is in
    let base : principal c.deref.result.now ≡ principal c.in-AsRole.base.value = ap principal c.deref.ensures in
    let fits : Fits c.args.nodes.now.items (post_order (InRole (principal c.in-AsRole.base.value) c.in-AsRole.role)) = subst (λ (p : Principal). Fits c.args.nodes.now.items (post_order p)) is c.requires.fits in
    let taken : TakesIn c.args.nodes.now.items c.intern-a.new.nodes.items (post_order (principal c.in-AsRole.base.value)) (principal c.in-AsRole.base.value) c.intern-a.result
    = subst (λ (p : Principal). TakesIn c.args.nodes.now.items c.intern-a.new.nodes.items (post_order p) p c.intern-a.result) base c.intern-a.ensures.taken in
    subst (λ (p : Principal). TakesIn c.args.nodes.now.items c.place-in-AsRole.new.nodes.items (post_order p) p c.place-in-AsRole.result) (sym is)
    (role_taken c.args.nodes.now.items c.intern-a.new.nodes.items (principal c.in-AsRole.base.value) c.in-AsRole.role c.intern-a.result taken
    c.place-in-AsRole.new.nodes.items c.place-in-AsRole.result c.place-in-AsRole.ensures.taken)

pub intern-a-requires-in-And : goal.intern-a-requires-in-And
intern-a-requires-in-And t c =
    let which : (kind : Kind) × (principal c.args.term.now ≡ pair kind (principal c.in-And.left.value) (principal c.in-And.right.value)) =
    elim c.in-And.is [ inl e ↦ (And, ap principal e) | inr r ↦ elim r [ inl e ↦ (Quoting, ap principal e) | inr e ↦ (For, ap principal e) ] ] in
    let left : principal c.deref-in-And.result.now ≡ principal c.in-And.left.value = ap principal c.deref-in-And.ensures in
    let fits : Fits c.args.nodes.now.items (post_order (pair which.0 (principal c.in-And.left.value) (principal c.in-And.right.value)))
    = subst (λ (p : Principal). Fits c.args.nodes.now.items (post_order p)) which.1 c.requires.fits in (
      omega (arith, ap node_count which.1, ap node_count left, node_count-pair which.0 (principal c.in-And.left.value) (principal c.in-And.right.value)),
      (
        c.requires.roomy,
        subst (λ (p : Principal). Fits c.args.nodes.now.items (post_order p)) (sym left)
            (pair_first c.args.nodes.now.items which.0 (principal c.in-And.left.value) (principal c.in-And.right.value) fits),
      ),
    )

pub intern-b-requires : goal.intern-b-requires
intern-b-requires t c =
    let which : (kind : Kind) × (principal c.args.term.now ≡ pair kind (principal c.in-And.left.value) (principal c.in-And.right.value)) =
    elim c.in-And.is [ inl e ↦ (And, ap principal e) | inr r ↦ elim r [ inl e ↦ (Quoting, ap principal e) | inr e ↦ (For, ap principal e) ] ] in
    let left : principal c.deref-in-And.result.now ≡ principal c.in-And.left.value = ap principal c.deref-in-And.ensures in
    let fits : Fits c.args.nodes.now.items (post_order (pair which.0 (principal c.in-And.left.value) (principal c.in-And.right.value)))
    = subst (λ (p : Principal). Fits c.args.nodes.now.items (post_order p)) which.1 c.requires.fits in
    let right : principal c.deref-in-And-2.result.now ≡ principal c.in-And.right.value = ap principal c.deref-in-And-2.ensures in
    let first : TakesIn c.args.nodes.now.items c.intern-a-in-And.new.nodes.items (post_order (principal c.in-And.left.value)) (principal c.in-And.left.value) c.intern-a-in-And.result
    = subst (λ (p : Principal). TakesIn c.args.nodes.now.items c.intern-a-in-And.new.nodes.items (post_order p) p c.intern-a-in-And.result) left c.intern-a-in-And.ensures.taken in (
      omega (arith, ap node_count which.1, ap node_count right, node_count-pair which.0 (principal c.in-And.left.value) (principal c.in-And.right.value)),
      (
        roomy_next c.args.nodes.now.items c.intern-a-in-And.new.nodes.items (vec_capacity c.args.nodes.now) (vec_capacity c.intern-a-in-And.new.nodes)
            (post_order (principal c.in-And.left.value)) (principal c.in-And.left.value) c.intern-a-in-And.result
            c.requires.roomy first c.intern-a-in-And.ensures.capacity,
        subst (λ (p : Principal). Fits c.intern-a-in-And.new.nodes.items (post_order p)) (sym right)
            (pair_second c.args.nodes.now.items c.intern-a-in-And.new.nodes.items which.0 (principal c.in-And.left.value) (principal c.in-And.right.value) c.intern-a-in-And.result first fits),
      ),
    )

pub place-requires-in-And-clause-operands : goal.place-requires-in-And-clause-operands
place-requires-in-And-clause-operands t c =
    let which : (kind : Kind) × (principal c.args.term.now ≡ pair kind (principal c.in-And.left.value) (principal c.in-And.right.value)) =
    elim c.in-And.is [ inl e ↦ (And, ap principal e) | inr r ↦ elim r [ inl e ↦ (Quoting, ap principal e) | inr e ↦ (For, ap principal e) ] ] in
    let left : principal c.deref-in-And.result.now ≡ principal c.in-And.left.value = ap principal c.deref-in-And.ensures in
    let fits : Fits c.args.nodes.now.items (post_order (pair which.0 (principal c.in-And.left.value) (principal c.in-And.right.value)))
    = subst (λ (p : Principal). Fits c.args.nodes.now.items (post_order p)) which.1 c.requires.fits in
    let right : principal c.deref-in-And-2.result.now ≡ principal c.in-And.right.value = ap principal c.deref-in-And-2.ensures in
    let first : TakesIn c.args.nodes.now.items c.intern-a-in-And.new.nodes.items (post_order (principal c.in-And.left.value)) (principal c.in-And.left.value) c.intern-a-in-And.result
    = subst (λ (p : Principal). TakesIn c.args.nodes.now.items c.intern-a-in-And.new.nodes.items (post_order p) p c.intern-a-in-And.result) left c.intern-a-in-And.ensures.taken in
    let second : TakesIn c.intern-a-in-And.new.nodes.items c.intern-b.new.nodes.items (post_order (principal c.in-And.right.value)) (principal c.in-And.right.value) c.intern-b.result
    = subst (λ (p : Principal). TakesIn c.intern-a-in-And.new.nodes.items c.intern-b.new.nodes.items (post_order p) p c.intern-b.result) right c.intern-b.ensures.taken in
    let node = c.pair_node.ensures which.0 (principal c.in-And.left.value) (principal c.in-And.right.value) which.1 in
    subst (λ (n : Node). OperandsBelow (length c.intern-b.new.nodes.items) n) (sym node)
    (pair_operands c.args.nodes.now.items c.intern-a-in-And.new.nodes.items c.intern-b.new.nodes.items which.0 (principal c.in-And.left.value) (principal c.in-And.right.value) c.intern-a-in-And.result c.intern-b.result first second)

pub place-requires-in-And-clause-fits : goal.place-requires-in-And-clause-fits
place-requires-in-And-clause-fits t c =
    let which : (kind : Kind) × (principal c.args.term.now ≡ pair kind (principal c.in-And.left.value) (principal c.in-And.right.value)) =
    elim c.in-And.is [ inl e ↦ (And, ap principal e) | inr r ↦ elim r [ inl e ↦ (Quoting, ap principal e) | inr e ↦ (For, ap principal e) ] ] in
    let left : principal c.deref-in-And.result.now ≡ principal c.in-And.left.value = ap principal c.deref-in-And.ensures in
    let fits : Fits c.args.nodes.now.items (post_order (pair which.0 (principal c.in-And.left.value) (principal c.in-And.right.value)))
    = subst (λ (p : Principal). Fits c.args.nodes.now.items (post_order p)) which.1 c.requires.fits in
    let right : principal c.deref-in-And-2.result.now ≡ principal c.in-And.right.value = ap principal c.deref-in-And-2.ensures in
    let first : TakesIn c.args.nodes.now.items c.intern-a-in-And.new.nodes.items (post_order (principal c.in-And.left.value)) (principal c.in-And.left.value) c.intern-a-in-And.result
    = subst (λ (p : Principal). TakesIn c.args.nodes.now.items c.intern-a-in-And.new.nodes.items (post_order p) p c.intern-a-in-And.result) left c.intern-a-in-And.ensures.taken in
    let second : TakesIn c.intern-a-in-And.new.nodes.items c.intern-b.new.nodes.items (post_order (principal c.in-And.right.value)) (principal c.in-And.right.value) c.intern-b.result
    = subst (λ (p : Principal). TakesIn c.intern-a-in-And.new.nodes.items c.intern-b.new.nodes.items (post_order p) p c.intern-b.result) right c.intern-b.ensures.taken in
    let node = c.pair_node.ensures which.0 (principal c.in-And.left.value) (principal c.in-And.right.value) which.1 in
    subst (λ (n : Node). Fits c.intern-b.new.nodes.items (shape (named c.intern-b.new.nodes.items) n ∷ [])) (sym node)
    (pair_fits c.args.nodes.now.items c.intern-a-in-And.new.nodes.items c.intern-b.new.nodes.items which.0 (principal c.in-And.left.value) (principal c.in-And.right.value) c.intern-a-in-And.result c.intern-b.result first second fits)

pub returns-in-And-clause-taken : goal.returns-in-And-clause-taken
returns-in-And-clause-taken t c =
    let which : (kind : Kind) × (principal c.args.term.now ≡ pair kind (principal c.in-And.left.value) (principal c.in-And.right.value)) =
    elim c.in-And.is [ inl e ↦ (And, ap principal e) | inr r ↦ elim r [ inl e ↦ (Quoting, ap principal e) | inr e ↦ (For, ap principal e) ] ] in
    let left : principal c.deref-in-And.result.now ≡ principal c.in-And.left.value = ap principal c.deref-in-And.ensures in
    let fits : Fits c.args.nodes.now.items (post_order (pair which.0 (principal c.in-And.left.value) (principal c.in-And.right.value)))
    = subst (λ (p : Principal). Fits c.args.nodes.now.items (post_order p)) which.1 c.requires.fits in
    let right : principal c.deref-in-And-2.result.now ≡ principal c.in-And.right.value = ap principal c.deref-in-And-2.ensures in
    let first : TakesIn c.args.nodes.now.items c.intern-a-in-And.new.nodes.items (post_order (principal c.in-And.left.value)) (principal c.in-And.left.value) c.intern-a-in-And.result
    = subst (λ (p : Principal). TakesIn c.args.nodes.now.items c.intern-a-in-And.new.nodes.items (post_order p) p c.intern-a-in-And.result) left c.intern-a-in-And.ensures.taken in
    let second : TakesIn c.intern-a-in-And.new.nodes.items c.intern-b.new.nodes.items (post_order (principal c.in-And.right.value)) (principal c.in-And.right.value) c.intern-b.result
    = subst (λ (p : Principal). TakesIn c.intern-a-in-And.new.nodes.items c.intern-b.new.nodes.items (post_order p) p c.intern-b.result) right c.intern-b.ensures.taken in
    let node = c.pair_node.ensures which.0 (principal c.in-And.left.value) (principal c.in-And.right.value) which.1 in
    let third = subst (λ (n : Node). TakesIn c.intern-b.new.nodes.items c.place-in-And.new.nodes.items (shape (named c.intern-b.new.nodes.items) n ∷ []) (shape (named c.intern-b.new.nodes.items) n) c.place-in-And.result) node c.place-in-And.ensures.taken in
    subst (λ (p : Principal). TakesIn c.args.nodes.now.items c.place-in-And.new.nodes.items (post_order p) p c.place-in-And.result) (sym which.1)
    (pair_taken c.args.nodes.now.items c.intern-a-in-And.new.nodes.items c.intern-b.new.nodes.items which.0 (principal c.in-And.left.value) (principal c.in-And.right.value) c.intern-a-in-And.result c.intern-b.result first second c.place-in-And.new.nodes.items c.place-in-And.result third)
