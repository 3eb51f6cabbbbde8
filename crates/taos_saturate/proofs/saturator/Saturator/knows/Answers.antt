use Rattle.std.proofs.Common.{sym, refl}
use Rattle.prin_term.specs.View.{principal}
use Rattle.taos_saturate.proofs.Seen.{seen_decides, has_number}
use Rattle.taos_saturate.proofs.saturator.Saturator.knows.Goals as goal

pub returns-in-Some-speaks : goal.returns-in-Some-speaks
returns-in-Some-speaks c =
    let i = rw c.deref.ensures.value at c.in-Some.ensures in
    let j = rw c.deref-in-Some.ensures.value at c.in-Some-find.ensures in
    let both = seen_decides c.self.inside.held c.self.invariant c.args.self.now (sym c.self.view_is) (principal c.args.left.now) (principal c.args.right.now) c.in-Some.i c.in-Some-find.j i.0 j.0 i.1 j.1 in
    (λ h. both.0 (c.in-Some-speaks.field-0, c.in-Some-speaks.ensures), λ h. refl)

pub returns-in-None-speaks : goal.returns-in-None-speaks
returns-in-None-speaks c =
    let i = rw c.deref.ensures.value at c.in-Some.ensures in
    let j = rw c.deref-in-Some.ensures.value at c.in-Some-find.ensures in
    let both = seen_decides c.self.inside.held c.self.invariant c.args.self.now (sym c.self.view_is) (principal c.args.left.now) (principal c.args.right.now) c.in-Some.i c.in-Some-find.j i.0 j.0 i.1 j.1 in
    (λ h. cc, λ d. let k = both.1 d in absurd (c.in-None-speaks.ensures k.0 k.1))

pub returns-in-None-find : goal.returns-in-None-find
returns-in-None-find c =
    absurd (has_number c.self.inside.held c.self.invariant c.args.self.now (sym c.self.view_is) (principal c.args.right.now) c.requires.right_in
    (rw c.deref-in-Some.ensures.value at c.in-None-find.ensures))

pub returns-in-None : goal.returns-in-None
returns-in-None c =
    absurd (has_number c.self.inside.held c.self.invariant c.args.self.now (sym c.self.view_is) (principal c.args.left.now) c.requires.left_in
    (rw c.deref.ensures.value at c.in-None.ensures))
