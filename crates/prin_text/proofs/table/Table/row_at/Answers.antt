use Rattle.std.proofs.Common.{◌≡◌, ◌≤◌, List, ℕ, length, Some, sym, ap, ◌∙◌, arith}
use Rattle.std.specs.Prelude.{slice_get}
use Rattle.std.specs.Map.Iter.{deref_pair}
use Rattle.std.proofs.lemmas.Map.Iter.{iter_end, iter_turn}
use Rattle.std.proofs.lemmas.Option.{slice_get_past}
use Rattle.prin_text.specs.Labels.{Rows}
use Rattle.prin_text.proofs.table.Table.row_at.Goals as goal

-- as many rows were gone over as stand before the place
pub returns-then-at-place : goal.returns-then-at-place
returns-then-at-place c =
    let all = c.self.inside.rows.entries in
    let turn = iter_turn deref_pair all c.loop-number.yielded c.into_iter-number-iterator.result c.loop-number.number-iterator c.next.new.self c.next.result c.into_iter-number-iterator.ensures.into_iter_gives.0 c.loop-number.yielded_by (c.in-Some.number, c.in-Some.label) c.in-Some.is c.next.ensures.steps in
    let here : length c.loop-number.yielded ≡ c.args.place = grind (arith, c.loop-number.invariant.count, c.if-at-place.true) in
    ap (λ (t : List ℕ). Some (c.in-Some.number.now, t)) c.text.ensures ∙ sym turn.1 ∙ ap (slice_get all) here ∙ ap (λ (l : Rows). slice_get l c.args.place) c.self.view_is

pub returns : goal.returns
returns c =
    let all = c.self.inside.rows.entries in
    let end = iter_end deref_pair all c.loop-number.yielded c.into_iter-number-iterator.result c.loop-number.number-iterator c.next.new.self c.next.result c.into_iter-number-iterator.ensures.into_iter_gives.0 c.loop-number.yielded_by c.in-None.is c.next.ensures.steps in
    let past : length all ≤ c.args.place = omega (arith, end.1, c.loop-number.invariant.count, c.loop-number.invariant.within) in
    sym (slice_get_past all c.args.place past) ∙ ap (λ (l : Rows). slice_get l c.args.place) c.self.view_is
