use Rattle.std.proofs.Common.{◌≡◌, ℕ, ◌<◌, Some, slice_get, below_more, arith}
use Rattle.std.proofs.lemmas.Option.{slice_get_within}
use Rattle.term_pool.specs.declared.found.Pair.{Pair}
use Rattle.taos_saturate.specs.Saturating.{IsNumber, SaysFull, LiftFull}
use Rattle.taos_saturate.proofs.saturation.Saturation.new_in_statements.Goals as goal

pub loop-place-preserved : goal.loop-place-preserved
loop-place-preserved c = below_more
    (λ m. (w : ℕ) → IsNumber c.args.self.now w → (p : Pair) → slice_get c.args.self.now.found.statements.items m ≡ Some p → SaysFull c.args.self.now w p × LiftFull c.args.self.now w p)
    c.loop-place.place c.loop-place.invariant c.in_default.ensures

pub returns : goal.returns
returns c = λ k w p e h.
    let k_in : k < c.loop-place.place = omega (arith, slice_get_within c.args.self.now.found.statements.items k p e, c.args.self.now.found.statements.ok.0) in
    c.loop-place.invariant k k_in w h p e
