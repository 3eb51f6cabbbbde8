use Rattle.std.proofs.Common.{List, ℕ, ◌+◌, ◌++◌, map, sym, ap, subst, ◌∙◌}
use Rattle.std.specs.Option.{option_map}
use Rattle.relay_path.specs.Domains.{knows}
use Rattle.relay_path.specs.Going.{GoesAs, hops_from}
use Rattle.relay_path.specs.Opening.{hopped}
use Rattle.relay_path.specs.Paths.{line_of}
use Rattle.relay_path.proofs.Gone.{goes_further, line_pushed, said_given}
use Rattle.relay_path.proofs.route.+hops.Goals as goal

pub returns : goal.returns
returns t c =
    let ds = map knows c.args.domains.now in
    let d = knows c.in-Some-domain_of.domain.now in
    let given = c.args.given.now in
    let made = c.hop.new.out.items in
    let old = c.args.out.now.items in
    let mid = c.push_line.new.out.items in
    let is = sym c.domain_of.ensures ∙ ap (option_map (λ k. knows k.now)) c.in-Some-domain_of.is in
    let gave = ap (λ a. hopped d a given) (sym c.target_of.ensures) ∙ said_given (hopped d c.target_of.result given) made c.in-Passed.ensures.exact in
    let line = line_pushed c.push_line.result _ (sym c.is_err.ensures.value ∙ c.if-is_err.false) c.push_line.ensures.pushed ∙ ap (λ (l : List ℕ). old ++ line_of l) c.deref.ensures.0 in
    let goes = subst (λ (l : List ℕ). GoesAs (hops_from ds c.args.node (c.args.place + 1) c.in-Some.later.now l) c.hops.result mid c.hops.new.out.items) c.deref-2.ensures.0 c.hops.ensures in
    subst (λ (l : List ℕ). GoesAs (hops_from ds c.args.node c.args.place l given) c.hops.result old c.hops.new.out.items) (sym c.in-Some.ensures.cases.0)
    (goes_further ds c.args.node c.args.place c.in-Some.number.now c.in-Some.later.now given made d is gave old mid c.hops.new.out.items c.hops.result line goes)
