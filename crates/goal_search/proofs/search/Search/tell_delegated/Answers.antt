use Rattle.std.proofs.Common.{◌≡◌, ℕ, Some, slice_get, sym, ◌∙◌, subst}
use Rattle.std.proofs.lemmas.Option.{same_Some}
use Rattle.taos_calculus.specs.Numbered.{delegate}
use Rattle.taos_calculus.specs.declared.line.Node.{Node}
use Rattle.term_pool.specs.declared.cited.Cited.{Cited}
use Rattle.goal_search.specs.Searching.{core}
use Rattle.goal_search.specs.Telling.{TellsSaid}
use Rattle.goal_search.proofs.Told.{same_cited, more_then}
use Rattle.goal_search.proofs.search.Search.tell_delegated.Goals as goal

pub tell_speaks-requires-clause-gives : goal.tell_speaks-requires-clause-gives
tell_speaks-requires-clause-gives c =
    let (b, d) = c.in-Some.ensures.1 in
    let same : d.cited ≡ c.cite-it.result = same_cited (core c.args.self.now) c.args.number d.cited c.cite-it.result d.stands c.cite-it.ensures.stands in
    delegate (subst (λ (x : Cited). slice_get c.args.self.now.nodes.items x.left ≡ Some (Node.Quote b c.in-Some.who)) same d.left_is)
    (subst (λ (x : Cited). slice_get c.args.self.now.nodes.items x.right ≡ Some (Node.For b c.in-Some.who)) same d.right_is)
    (c.in-Some-says_line.ensures c.cite-it.result c.cite-it.ensures.stands)

pub returns-in-Some-says_line-clause-more : goal.returns-in-Some-says_line-clause-more
returns-in-Some-says_line-clause-more c =
    more_then (core c.args.self.now) c.args.found.now c.tell_said.new.found c.tell_speaks.new.found c.tell_said.ensures.more c.tell_speaks.ensures.more

-- the certificate is no delegation
pub returns-in-None-clause-told : goal.returns-in-None-clause-told
returns-in-None-clause-told c = λ k a b e l r t. absurd (c.in-None.ensures a b (record { cited = k; stands = e; left_is = l; right_is = r }))

-- who delegates is the one that the certificate's form tells
pub returns-in-None-says_line-clause-told : goal.returns-in-None-says_line-clause-told
returns-in-None-says_line-clause-told c = λ k a b e l r t.
    let (b', d) = c.in-Some.ensures.1 in
    let same : d.cited ≡ k = same_cited (core c.args.self.now) c.args.number d.cited k d.stands e in
    let left_is : slice_get c.args.self.now.nodes.items k.left ≡ Some (Node.Quote b' c.in-Some.who) =
    subst (λ (x : Cited). slice_get c.args.self.now.nodes.items x.left ≡ Some (Node.Quote b' c.in-Some.who)) same d.left_is in
    let one : Node.Quote b' c.in-Some.who ≡ Node.Quote b a = same_Some (Node.Quote b' c.in-Some.who) (Node.Quote b a) (sym left_is ∙ l) in
    let who_is : c.in-Some.who ≡ a = cc in
    absurd (c.in-None-says_line.ensures k e (c.tell_said.ensures.told k e
    (subst (λ (x : ℕ). TellsSaid (core c.args.self.now) c.args.found.now c.args.number k x) (sym who_is) t)))
