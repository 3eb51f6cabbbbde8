use Rattle.std.proofs.Common.{◌≡◌, ◌≤◌, Bool, List, length, take, true, ap, ◌∙◌, arith, Global}
use Rattle.std.specs.Prelude.{replicate}
use Rattle.std.specs.declared.sync.Arc.{Arc}
use Rattle.std.proofs.lemmas.List.{length-map, length-replicate, take-replicate}
use Rattle.stmt_codec.specs.declared.cert.Cert.{Cert}
use Rattle.stmt_codec.specs.Certificates.{certificate}
use Rattle.stmt_codec.specs.View.{certificates}
use Rattle.goal_search.proofs.Answered.{among_all, among_none}
use Rattle.goal_search.proofs.asked.Asked.prepare.Goals as goal

count_of : (certs : List (Arc Cert Global)) → length (certificates certs) ≡ length certs
count_of certs = length-map certs (λ (a : Arc Cert Global). certificate a.value.body)

pub returns-then-not-are_among-clause-taken : goal.returns-then-not-are_among-clause-taken
returns-then-not-are_among-clause-taken c =
    let few : length c.args.certs.now ≤ 64 = omega (arith, c.requires.askable.certs_fit, count_of c.args.certs.now) in
    let all = c.start-then-not-are_among.ensures.taken ∙ take-replicate (length c.args.certs.now) 64 true few in
    among_all c.args.chosen.now c.start-then-not-are_among.new.self.taken.items (length c.args.certs.now) all (omega (arith, c.requires.askable.chosen_fit, count_of c.args.certs.now))

pub returns-then-not-are_among-clause-still : goal.returns-then-not-are_among-clause-still
returns-then-not-are_among-clause-still c =
    let few : length c.args.certs.now ≤ 64 = omega (arith, c.requires.askable.certs_fit, count_of c.args.certs.now) in
    let long : length (take (length c.args.certs.now) (replicate 64 true)) ≡ length c.args.chosen.now =
    omega (arith, ap (λ (bs : List Bool). length bs) (take-replicate (length c.args.certs.now) 64 true few), length-replicate {A = Bool} (length c.args.certs.now) true, c.requires.askable.chosen_fit, count_of c.args.certs.now) in
    among_none c.start-then-not-are_among.new.self.marks.items c.args.chosen.now _ c.start-then-not-are_among.ensures.none long
