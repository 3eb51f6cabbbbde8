-- the relay at hand never fails, and the call was none of those that do
use Rattle.std.proofs.Common.{◌≡◌, ℕ, true, false, Result, Ok, Err, sym, ap, ◌∙◌}
use Rattle.std.specs.Prelude.{MatchResult, ◌==◌}
use Rattle.std.specs.Result.{IsOk}
use Rattle.std.specs.List.{list_any}
use Rattle.frame_link.specs.Plan.{Plan, fails_now, passed, failed}
use Rattle.relay_core.specs.Plans.{plan}
use Rattle.relay_core.proofs.mem.MemRelayRelayLink.reseal.Goals as goal

passes : {A E : Type 0} (r : Result A E) (before after : Plan) → IsOk r → fails_now before ≡ false → after ≡ passed before →
    MatchResult r (λ _. (fails_now before ≡ false) × (after ≡ passed before)) (λ _. (fails_now before ≡ true) × (after ≡ failed before))
passes (Ok x) before after ok quiet is = (quiet, is)
passes (Err e) before after ok quiet is = absurd cc

pub returns-clause-exact : goal.returns-clause-exact
returns-clause-exact c =
    let before = plan c.args.self.now in
    passes c.reseal.result before _ c.reseal.ensures.never
    (ap (list_any (λ (n : ℕ). n == before.calls)) (sym c.deref.ensures.value) ∙ sym c.contains.ensures.value ∙ c.if-contains.false)
    (ap (λ (n : ℕ). record before { calls = n }) c.saturating_add-self.ensures)
