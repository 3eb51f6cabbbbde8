use Rattle.std.proofs.Common.{◌≡◌, ap, refl, subst, inl, inr}
use Rattle.prin_term.specs.Kind.{Kind, And, Quoting, For, pair}
use Rattle.prin_term.specs.Principal.{Principal, Key, Name}
use Rattle.prin_term.specs.View.{principal}
use Rattle.taos_calculus.specs.declared.line.Node.{Node}
use Rattle.term_pool.proofs.Sought.{Absent, IsAt, sought, sought_pair, sought_role, absent_first, absent_second, absent_base}
use Rattle.term_pool.proofs.region.Region.+find.Goals as goal

pub returns-in-Key : goal.returns-in-Key
returns-in-Key t c =
    rw (ap principal c.in-Key.is) (sought c.args.self.now.nodes.items c.requires.region.table (Node.Key c.in-Key.key) (Key c.in-Key.key) tt refl c.number.result c.number.ensures)

pub returns-in-Name : goal.returns-in-Name
returns-in-Name t c =
    rw (ap principal c.in-Name.is) (sought c.args.self.now.nodes.items c.requires.region.table (Node.Name c.in-Name.name) (Name c.in-Name.name) tt refl c.number-in-Name.result c.number-in-Name.ensures)

pub returns-in-Some : goal.returns-in-Some
returns-in-Some t c =
    let nodes = c.args.self.now.nodes.items in
    let base : principal c.deref.result.now ≡ principal c.in-AsRole.base.value = ap principal c.deref.ensures in
    rw (ap principal c.in-AsRole.is)
    (sought_role nodes c.requires.region.table (principal c.in-AsRole.base.value) c.in-AsRole.role c.in-Some.a
    (subst (λ (p : Principal). IsAt nodes c.requires.region.table p c.in-Some.a) base c.in-Some.ensures) c.number-in-Some.result c.number-in-Some.ensures)

pub returns-in-None : goal.returns-in-None
returns-in-None t c =
    let nodes = c.args.self.now.nodes.items in
    let base : principal c.deref.result.now ≡ principal c.in-AsRole.base.value = ap principal c.deref.ensures in
    rw (ap principal c.in-AsRole.is)
    (absent_base nodes c.requires.region.table (principal c.in-AsRole.base.value) c.in-AsRole.role (subst (λ (p : Principal). Absent nodes c.requires.region.table p) base c.in-None.ensures))

pub returns-in-Some-find-2 : goal.returns-in-Some-find-2
returns-in-Some-find-2 t c =
    let nodes = c.args.self.now.nodes.items in
    let a = principal c.in-And.left.value in
    let b = principal c.in-And.right.value in
    let left : principal c.deref-in-And.result.now ≡ principal c.in-And.left.value = ap principal c.deref-in-And.ensures in
    let right : principal c.deref-in-Some-find.result.now ≡ principal c.in-And.right.value = ap principal c.deref-in-Some-find.ensures in
    let which : (kind : Kind) × (principal c.args.term.now ≡ pair kind (principal c.in-And.left.value) (principal c.in-And.right.value)) =
    elim c.in-And.is [ inl e ↦ (And, ap principal e) | inr r ↦ elim r [ inl e ↦ (Quoting, ap principal e) | inr e ↦ (For, ap principal e) ] ] in
    rw which.1
    (sought_pair nodes c.requires.region.table which.0 a b c.in-Some-find.a c.in-Some-find-2.b c.pair_node.result
    (subst (λ (p : Principal). IsAt nodes c.requires.region.table p c.in-Some-find.a) left c.in-Some-find.ensures)
    (subst (λ (p : Principal). IsAt nodes c.requires.region.table p c.in-Some-find-2.b) right c.in-Some-find-2.ensures)
    (c.pair_node.ensures which.0 a b which.1) c.number-in-Some-find-2.result c.number-in-Some-find-2.ensures)

pub returns-in-None-find-2 : goal.returns-in-None-find-2
returns-in-None-find-2 t c =
    let nodes = c.args.self.now.nodes.items in
    let right : principal c.deref-in-Some-find.result.now ≡ principal c.in-And.right.value = ap principal c.deref-in-Some-find.ensures in
    let which : (kind : Kind) × (principal c.args.term.now ≡ pair kind (principal c.in-And.left.value) (principal c.in-And.right.value)) =
    elim c.in-And.is [ inl e ↦ (And, ap principal e) | inr r ↦ elim r [ inl e ↦ (Quoting, ap principal e) | inr e ↦ (For, ap principal e) ] ] in
    rw which.1
    (absent_second nodes c.requires.region.table which.0 (principal c.in-And.left.value) (principal c.in-And.right.value)
    (subst (λ (p : Principal). Absent nodes c.requires.region.table p) right c.in-None-find-2.ensures))

pub returns-in-None-find : goal.returns-in-None-find
returns-in-None-find t c =
    let nodes = c.args.self.now.nodes.items in
    let left : principal c.deref-in-And.result.now ≡ principal c.in-And.left.value = ap principal c.deref-in-And.ensures in
    let which : (kind : Kind) × (principal c.args.term.now ≡ pair kind (principal c.in-And.left.value) (principal c.in-And.right.value)) =
    elim c.in-And.is [ inl e ↦ (And, ap principal e) | inr r ↦ elim r [ inl e ↦ (Quoting, ap principal e) | inr e ↦ (For, ap principal e) ] ] in
    rw which.1
    (absent_first nodes c.requires.region.table which.0 (principal c.in-And.left.value) (principal c.in-And.right.value)
    (subst (λ (p : Principal). Absent nodes c.requires.region.table p) left c.in-None-find.ensures))
