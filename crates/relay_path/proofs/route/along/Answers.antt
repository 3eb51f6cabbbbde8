use Rattle.std.proofs.Common.{rules, ◌≡◌, List, ℕ, length, map, take, sym, ap, subst, ◌∙◌, arith}
use Rattle.relay_path.specs.Domains.{DomainKnows, knows, LinksAgree}
use Rattle.relay_path.specs.Paths.{Goes, IsRoute}
use Rattle.relay_path.proofs.Gone.{gone_back, gone_done, is_route}
use Rattle.relay_path.proofs.route.along.Goals as goal

pub returns-in-Done : goal.returns-in-Done
returns-in-Done c =
    let ds = map knows c.args.domains.now in
    let route = c.args.route.now in
    let bytes = c.args.bytes.now in
    let is = is_route ds route bytes c.requires.some c.requires.short (λ i. omega (arith, c.type_inv.route i)) c.requires.links (λ i. omega (arith, c.type_inv.bytes i)) in
    gone_done ds route bytes c.args.node is c.args.out.now.items c.pass.new.out.items c.in-Done.ensures

pub returns-in_default : goal.returns-in_default
returns-in_default c =
    let ds = map knows c.args.domains.now in
    let route = c.args.route.now in
    let bytes = c.args.bytes.now in
    let old = c.args.out.now.items in
    let is = is_route ds route bytes c.requires.some c.requires.short (λ i. omega (arith, c.type_inv.route i)) c.requires.links (λ i. omega (arith, c.type_inv.bytes i)) in
    let len : c.len-len.result ≡ length old = search rules in
    let cut = c.truncate.ensures.items ∙ ap (λ (n : ℕ). take n c.pass.new.out.items) len in
    subst (λ (l : List ℕ). Goes ds route c.args.node bytes c.pass.result old l) (sym cut) (gone_back ds route bytes c.args.node is c.pass.result old c.pass.new.out.items c.in_default.not-Done c.pass.ensures)
