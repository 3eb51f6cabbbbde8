use Rattle.std.proofs.Common.{◌≡◌, ◌+◌, ◌<◌, ◌++◌, ◌∷◌, [], ℕ, List, All, get_or, length, take, refl, sym, ap, subst, ◌∙◌, arith}
use Rattle.std.proofs.lemmas.List.{take_all, take_more}
use Rattle.std.proofs.lemmas.List.Elements.{All-push}
use Rattle.goal_search.specs.Searching.{core, Has, IsNumber}
use Rattle.goal_search.proofs.search.Search.has_followed.Goals as goal

-- what holds of the first ones and the next
one_more : (P : ℕ → Type 0) (xs : List ℕ) (i x : ℕ) → i < length xs → x ≡ get_or xs i x → All P (take i xs) → P x → All P (take (i + 1) xs)
one_more P xs i x inside is all p = subst (All P) (sym (take_more xs i x inside ∙ ap (λ (y : ℕ). take i xs ++ y ∷ []) (sym is))) (All-push P (take i xs) x all p)

pub loop-i-preserved : goal.loop-i-preserved
loop-i-preserved c =
    one_more (λ (row : ℕ). IsNumber (core c.args.self.now) row × (Has (core c.args.self.now) row c.args.it.left → Has (core c.args.self.now) row c.args.it.right)) c.args.self.now.wanted.items c.loop-i.i
    c.index.result.now (omega arith) c.index.ensures c.loop-i.invariant (c.if-not-row_has_followed.ensures.number refl, c.if-not-row_has_followed.ensures.followed refl)

pub returns : goal.returns
returns c t =
    subst (All (λ (row : ℕ). IsNumber (core c.args.self.now) row × (Has (core c.args.self.now) row c.args.it.left → Has (core c.args.self.now) row c.args.it.right)))
    (take_all c.loop-i.i c.args.self.now.wanted.items (omega arith)) c.loop-i.invariant
