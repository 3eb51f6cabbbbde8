use Rattle.std.proofs.Common.{◌≡◌, ◌∷◌, [], ap, subst, sym, inl, inr, length, arith}
use Rattle.prin_term.specs.Kind.{Kind, And, Quoting, For, pair}
use Rattle.prin_term.specs.Principal.{Principal, InRole, node_count}
use Rattle.prin_term.specs.View.{principal}
use Rattle.prin_term.proofs.Heads.{node_count-pair}
use Rattle.taos_calculus.specs.declared.line.Node.{Node}
use Rattle.taos_calculus.specs.Canonical.{post_order}
use Rattle.taos_calculus.specs.Tables.{OperandsBelow, shape, named}
use Rattle.term_pool.specs.Interning.{FitsIn, TakesIn}
use Rattle.term_pool.proofs.Interned.{fits_front, role_fits, role_taken, pair_first, pair_second, pair_operands, pair_fits, pair_taken}
use Rattle.term_pool.proofs.region.Region.+intern.Goals as goal

pub intern-a-requires : goal.intern-a-requires
intern-a-requires t c =
    let is = ap principal c.in-AsRole.is in
    let base : principal c.deref.result.now ≡ principal c.in-AsRole.base.value = ap principal c.deref.ensures in
    let fits : FitsIn c.args.self.now.room c.args.self.now.nodes.items (post_order (InRole (principal c.in-AsRole.base.value) c.in-AsRole.role)) = subst (λ (p : Principal). FitsIn c.args.self.now.room c.args.self.now.nodes.items (post_order p)) is c.requires.fits in (
      omega (arith, ap node_count is, ap node_count base),
      (
        c.requires.region,
        subst (λ (p : Principal). FitsIn c.args.self.now.room c.args.self.now.nodes.items (post_order p)) (sym base)
            (fits_front c.args.self.now.nodes.items (post_order (principal c.in-AsRole.base.value)) (InRole (principal c.in-AsRole.base.value) c.in-AsRole.role ∷ []) fits),
      ),
    )

pub place-requires-in-AsRole-clause-fits : goal.place-requires-in-AsRole-clause-fits
place-requires-in-AsRole-clause-fits t c =
    let is = ap principal c.in-AsRole.is in
    let base : principal c.deref.result.now ≡ principal c.in-AsRole.base.value = ap principal c.deref.ensures in
    let fits : FitsIn c.args.self.now.room c.args.self.now.nodes.items (post_order (InRole (principal c.in-AsRole.base.value) c.in-AsRole.role)) = subst (λ (p : Principal). FitsIn c.args.self.now.room c.args.self.now.nodes.items (post_order p)) is c.requires.fits in
    let taken : TakesIn c.args.self.now.nodes.items c.intern-a.new.self.nodes.items (post_order (principal c.in-AsRole.base.value)) (principal c.in-AsRole.base.value) c.intern-a.result
    = subst (λ (p : Principal). TakesIn c.args.self.now.nodes.items c.intern-a.new.self.nodes.items (post_order p) p c.intern-a.result) base c.intern-a.ensures.taken in
    rw c.intern-a.ensures.same_room (role_fits c.args.self.now.nodes.items c.intern-a.new.self.nodes.items (principal c.in-AsRole.base.value) c.in-AsRole.role c.intern-a.result taken fits)

pub returns-in-AsRole-clause-taken : goal.returns-in-AsRole-clause-taken
returns-in-AsRole-clause-taken t c =
    let is = ap principal c.in-AsRole.is in
    let base : principal c.deref.result.now ≡ principal c.in-AsRole.base.value = ap principal c.deref.ensures in
    let fits : FitsIn c.args.self.now.room c.args.self.now.nodes.items (post_order (InRole (principal c.in-AsRole.base.value) c.in-AsRole.role)) = subst (λ (p : Principal). FitsIn c.args.self.now.room c.args.self.now.nodes.items (post_order p)) is c.requires.fits in
    let taken : TakesIn c.args.self.now.nodes.items c.intern-a.new.self.nodes.items (post_order (principal c.in-AsRole.base.value)) (principal c.in-AsRole.base.value) c.intern-a.result
    = subst (λ (p : Principal). TakesIn c.args.self.now.nodes.items c.intern-a.new.self.nodes.items (post_order p) p c.intern-a.result) base c.intern-a.ensures.taken in
    subst (λ (p : Principal). TakesIn c.args.self.now.nodes.items c.place-in-AsRole.new.self.nodes.items (post_order p) p c.place-in-AsRole.result) (sym is)
    (role_taken c.args.self.now.nodes.items c.intern-a.new.self.nodes.items (principal c.in-AsRole.base.value) c.in-AsRole.role c.intern-a.result taken
    c.place-in-AsRole.new.self.nodes.items c.place-in-AsRole.result c.place-in-AsRole.ensures.taken)

pub intern-a-requires-in-And : goal.intern-a-requires-in-And
intern-a-requires-in-And t c =
    let which : (kind : Kind) × (principal c.args.term.now ≡ pair kind (principal c.in-And.left.value) (principal c.in-And.right.value)) =
    elim c.in-And.is [ inl e ↦ (And, ap principal e) | inr r ↦ elim r [ inl e ↦ (Quoting, ap principal e) | inr e ↦ (For, ap principal e) ] ] in
    let left : principal c.deref-in-And.result.now ≡ principal c.in-And.left.value = ap principal c.deref-in-And.ensures in
    let fits : FitsIn c.args.self.now.room c.args.self.now.nodes.items (post_order (pair which.0 (principal c.in-And.left.value) (principal c.in-And.right.value)))
    = subst (λ (p : Principal). FitsIn c.args.self.now.room c.args.self.now.nodes.items (post_order p)) which.1 c.requires.fits in (
      omega (arith, ap node_count which.1, ap node_count left, node_count-pair which.0 (principal c.in-And.left.value) (principal c.in-And.right.value)),
      (
        c.requires.region,
        subst (λ (p : Principal). FitsIn c.args.self.now.room c.args.self.now.nodes.items (post_order p)) (sym left)
            (pair_first c.args.self.now.nodes.items which.0 (principal c.in-And.left.value) (principal c.in-And.right.value) fits),
      ),
    )

pub intern-b-requires : goal.intern-b-requires
intern-b-requires t c =
    let which : (kind : Kind) × (principal c.args.term.now ≡ pair kind (principal c.in-And.left.value) (principal c.in-And.right.value)) =
    elim c.in-And.is [ inl e ↦ (And, ap principal e) | inr r ↦ elim r [ inl e ↦ (Quoting, ap principal e) | inr e ↦ (For, ap principal e) ] ] in
    let left : principal c.deref-in-And.result.now ≡ principal c.in-And.left.value = ap principal c.deref-in-And.ensures in
    let fits : FitsIn c.args.self.now.room c.args.self.now.nodes.items (post_order (pair which.0 (principal c.in-And.left.value) (principal c.in-And.right.value)))
    = subst (λ (p : Principal). FitsIn c.args.self.now.room c.args.self.now.nodes.items (post_order p)) which.1 c.requires.fits in
    let right : principal c.deref-in-And-2.result.now ≡ principal c.in-And.right.value = ap principal c.deref-in-And-2.ensures in
    let first : TakesIn c.args.self.now.nodes.items c.intern-a-in-And.new.self.nodes.items (post_order (principal c.in-And.left.value)) (principal c.in-And.left.value) c.intern-a-in-And.result
    = subst (λ (p : Principal). TakesIn c.args.self.now.nodes.items c.intern-a-in-And.new.self.nodes.items (post_order p) p c.intern-a-in-And.result) left c.intern-a-in-And.ensures.taken in (
      omega (arith, ap node_count which.1, ap node_count right, node_count-pair which.0 (principal c.in-And.left.value) (principal c.in-And.right.value)),
      (
        c.intern-a-in-And.ensures.region,
        rw c.intern-a-in-And.ensures.same_room
            (subst (λ (p : Principal). FitsIn c.args.self.now.room c.intern-a-in-And.new.self.nodes.items (post_order p)) (sym right)
            (pair_second c.args.self.now.nodes.items c.intern-a-in-And.new.self.nodes.items which.0 (principal c.in-And.left.value) (principal c.in-And.right.value) c.intern-a-in-And.result first fits)),
      ),
    )

pub place-requires-in-And-clause-operands : goal.place-requires-in-And-clause-operands
place-requires-in-And-clause-operands t c =
    let which : (kind : Kind) × (principal c.args.term.now ≡ pair kind (principal c.in-And.left.value) (principal c.in-And.right.value)) =
    elim c.in-And.is [ inl e ↦ (And, ap principal e) | inr r ↦ elim r [ inl e ↦ (Quoting, ap principal e) | inr e ↦ (For, ap principal e) ] ] in
    let left : principal c.deref-in-And.result.now ≡ principal c.in-And.left.value = ap principal c.deref-in-And.ensures in
    let fits : FitsIn c.args.self.now.room c.args.self.now.nodes.items (post_order (pair which.0 (principal c.in-And.left.value) (principal c.in-And.right.value)))
    = subst (λ (p : Principal). FitsIn c.args.self.now.room c.args.self.now.nodes.items (post_order p)) which.1 c.requires.fits in
    let right : principal c.deref-in-And-2.result.now ≡ principal c.in-And.right.value = ap principal c.deref-in-And-2.ensures in
    let first : TakesIn c.args.self.now.nodes.items c.intern-a-in-And.new.self.nodes.items (post_order (principal c.in-And.left.value)) (principal c.in-And.left.value) c.intern-a-in-And.result
    = subst (λ (p : Principal). TakesIn c.args.self.now.nodes.items c.intern-a-in-And.new.self.nodes.items (post_order p) p c.intern-a-in-And.result) left c.intern-a-in-And.ensures.taken in
    let second : TakesIn c.intern-a-in-And.new.self.nodes.items c.intern-b.new.self.nodes.items (post_order (principal c.in-And.right.value)) (principal c.in-And.right.value) c.intern-b.result
    = subst (λ (p : Principal). TakesIn c.intern-a-in-And.new.self.nodes.items c.intern-b.new.self.nodes.items (post_order p) p c.intern-b.result) right c.intern-b.ensures.taken in
    let node = c.pair_node.ensures which.0 (principal c.in-And.left.value) (principal c.in-And.right.value) which.1 in
    subst (λ (n : Node). OperandsBelow (length c.intern-b.new.self.nodes.items) n) (sym node)
    (pair_operands c.args.self.now.nodes.items c.intern-a-in-And.new.self.nodes.items c.intern-b.new.self.nodes.items which.0 (principal c.in-And.left.value) (principal c.in-And.right.value) c.intern-a-in-And.result c.intern-b.result first second)

pub place-requires-in-And-clause-fits : goal.place-requires-in-And-clause-fits
place-requires-in-And-clause-fits t c =
    let which : (kind : Kind) × (principal c.args.term.now ≡ pair kind (principal c.in-And.left.value) (principal c.in-And.right.value)) =
    elim c.in-And.is [ inl e ↦ (And, ap principal e) | inr r ↦ elim r [ inl e ↦ (Quoting, ap principal e) | inr e ↦ (For, ap principal e) ] ] in
    let left : principal c.deref-in-And.result.now ≡ principal c.in-And.left.value = ap principal c.deref-in-And.ensures in
    let fits : FitsIn c.args.self.now.room c.args.self.now.nodes.items (post_order (pair which.0 (principal c.in-And.left.value) (principal c.in-And.right.value)))
    = subst (λ (p : Principal). FitsIn c.args.self.now.room c.args.self.now.nodes.items (post_order p)) which.1 c.requires.fits in
    let right : principal c.deref-in-And-2.result.now ≡ principal c.in-And.right.value = ap principal c.deref-in-And-2.ensures in
    let first : TakesIn c.args.self.now.nodes.items c.intern-a-in-And.new.self.nodes.items (post_order (principal c.in-And.left.value)) (principal c.in-And.left.value) c.intern-a-in-And.result
    = subst (λ (p : Principal). TakesIn c.args.self.now.nodes.items c.intern-a-in-And.new.self.nodes.items (post_order p) p c.intern-a-in-And.result) left c.intern-a-in-And.ensures.taken in
    let second : TakesIn c.intern-a-in-And.new.self.nodes.items c.intern-b.new.self.nodes.items (post_order (principal c.in-And.right.value)) (principal c.in-And.right.value) c.intern-b.result
    = subst (λ (p : Principal). TakesIn c.intern-a-in-And.new.self.nodes.items c.intern-b.new.self.nodes.items (post_order p) p c.intern-b.result) right c.intern-b.ensures.taken in
    let node = c.pair_node.ensures which.0 (principal c.in-And.left.value) (principal c.in-And.right.value) which.1 in
    rw (c.intern-b.ensures.same_room, c.intern-a-in-And.ensures.same_room)
    (subst (λ (n : Node). FitsIn c.args.self.now.room c.intern-b.new.self.nodes.items (shape (named c.intern-b.new.self.nodes.items) n ∷ [])) (sym node)
    (pair_fits c.args.self.now.nodes.items c.intern-a-in-And.new.self.nodes.items c.intern-b.new.self.nodes.items which.0 (principal c.in-And.left.value) (principal c.in-And.right.value) c.intern-a-in-And.result c.intern-b.result first second fits))

pub returns-in-And-clause-taken : goal.returns-in-And-clause-taken
returns-in-And-clause-taken t c =
    let which : (kind : Kind) × (principal c.args.term.now ≡ pair kind (principal c.in-And.left.value) (principal c.in-And.right.value)) =
    elim c.in-And.is [ inl e ↦ (And, ap principal e) | inr r ↦ elim r [ inl e ↦ (Quoting, ap principal e) | inr e ↦ (For, ap principal e) ] ] in
    let left : principal c.deref-in-And.result.now ≡ principal c.in-And.left.value = ap principal c.deref-in-And.ensures in
    let fits : FitsIn c.args.self.now.room c.args.self.now.nodes.items (post_order (pair which.0 (principal c.in-And.left.value) (principal c.in-And.right.value)))
    = subst (λ (p : Principal). FitsIn c.args.self.now.room c.args.self.now.nodes.items (post_order p)) which.1 c.requires.fits in
    let right : principal c.deref-in-And-2.result.now ≡ principal c.in-And.right.value = ap principal c.deref-in-And-2.ensures in
    let first : TakesIn c.args.self.now.nodes.items c.intern-a-in-And.new.self.nodes.items (post_order (principal c.in-And.left.value)) (principal c.in-And.left.value) c.intern-a-in-And.result
    = subst (λ (p : Principal). TakesIn c.args.self.now.nodes.items c.intern-a-in-And.new.self.nodes.items (post_order p) p c.intern-a-in-And.result) left c.intern-a-in-And.ensures.taken in
    let second : TakesIn c.intern-a-in-And.new.self.nodes.items c.intern-b.new.self.nodes.items (post_order (principal c.in-And.right.value)) (principal c.in-And.right.value) c.intern-b.result
    = subst (λ (p : Principal). TakesIn c.intern-a-in-And.new.self.nodes.items c.intern-b.new.self.nodes.items (post_order p) p c.intern-b.result) right c.intern-b.ensures.taken in
    let node = c.pair_node.ensures which.0 (principal c.in-And.left.value) (principal c.in-And.right.value) which.1 in
    let third = subst (λ (n : Node). TakesIn c.intern-b.new.self.nodes.items c.place-in-And.new.self.nodes.items (shape (named c.intern-b.new.self.nodes.items) n ∷ []) (shape (named c.intern-b.new.self.nodes.items) n) c.place-in-And.result) node c.place-in-And.ensures.taken in
    subst (λ (p : Principal). TakesIn c.args.self.now.nodes.items c.place-in-And.new.self.nodes.items (post_order p) p c.place-in-And.result) (sym which.1)
    (pair_taken c.args.self.now.nodes.items c.intern-a-in-And.new.self.nodes.items c.intern-b.new.self.nodes.items which.0 (principal c.in-And.left.value)
    (principal c.in-And.right.value) c.intern-a-in-And.result c.intern-b.result first second c.place-in-And.new.self.nodes.items c.place-in-And.result third)
