-- the first row that is kept for these stands there, and those before it are kept for others
use Rattle.std.proofs.Common.{◌≡◌, ◌∙◌, ap, false, refl, sym, subst, arith}
use Rattle.std.specs.List.{All}
use Rattle.std.proofs.lemmas.List.{take_all}
use Rattle.std.proofs.lemmas.Option.{slice_get-map, slice_get_read}
use Rattle.std.proofs.lemmas.List.Elements.{All-map, All-more}
use Rattle.std.specs.Option.{option_map}
use Rattle.prin_term.specs.View.{principal}
use Rattle.proof_cache.specs.Cached.{Cached}
use Rattle.proof_cache.specs.Cache.{is_for, kept}
use Rattle.proof_cache.specs.declared.row.Row.{Row}
use Rattle.proof_cache.proofs.kept.place_of.Goals as goal

pub returns-then-is_row_for : goal.returns-then-is_row_for
returns-then-is_row_for c =
    let rows = c.args.rows.now in
    let at = slice_get_read rows _ c.loop-place.place _ refl c.loop-place-test.true
    c.index-rows-place.is in (
      kept c.index-rows-place.result,
      slice_get-map kept rows c.loop-place.place ∙ ap (option_map kept) at,
      sym c.is_row_for.ensures ∙ c.if-is_row_for.true,
    )

pub loop-place-preserved : goal.loop-place-preserved
loop-place-preserved c =
    let Other = λ (r : Row). is_for (principal c.args.subject.now) (principal c.args.who.now)
    (kept r) ≡ false in
    All-more Other c.args.rows.now c.loop-place.place c.index-rows-place.result
    c.loop-place-test.true c.loop-place.invariant
    (subst Other c.index-rows-place.is (sym c.is_row_for.ensures ∙ c.if-is_row_for.false))

pub returns : goal.returns
returns c =
    let for = is_for (principal c.args.subject.now) (principal c.args.who.now) in
    All-map (λ (x : Cached). for x ≡ false) kept c.args.rows.now
    (subst (All (λ (r : Row). for (kept r) ≡ false))
    (take_all c.loop-place.place c.args.rows.now (omega arith)) c.loop-place.invariant)
