-- a row whose proof has not ended is one more of such
use Rattle.std.proofs.Common.{◌≡◌, false, subst, arith, rules, tests}
use Rattle.std.specs.List.{All}
use Rattle.std.proofs.lemmas.List.{take_all}
use Rattle.std.proofs.lemmas.List.Elements.{All-map, All-more}
use Rattle.proof_cache.specs.Cached.{Cached}
use Rattle.proof_cache.specs.Cache.{has_lapsed, kept}
use Rattle.proof_cache.specs.declared.row.Row.{Row}
use Rattle.proof_cache.proofs.kept.are_unended.Goals as goal

pub loop-place-preserved : goal.loop-place-preserved
loop-place-preserved c =
    let Live = λ (r : Row). has_lapsed c.args.clock (kept r) ≡ false in
    let live : Live c.index-rows-place.result = search (rules, tests, c.deref.ensures, c.if-deref-clock.false) in
    All-more Live c.args.rows.now c.loop-place.place c.index-rows-place.result
    c.loop-place-test.true c.loop-place.invariant
    (subst Live c.index-rows-place.is live)

pub returns : goal.returns
returns c is_true =
    All-map (λ (x : Cached). has_lapsed c.args.clock x ≡ false) kept c.args.rows.now
    (subst (All (λ (r : Row). has_lapsed c.args.clock (kept r) ≡ false))
    (take_all c.loop-place.place c.args.rows.now (omega arith)) c.loop-place.invariant)
