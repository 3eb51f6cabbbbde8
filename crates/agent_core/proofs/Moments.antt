-- The moment at which an Ask is judged.
use Rattle.std.proofs.Common.{◌≡◌, ℕ, List, sym, ◌∙◌}
use Rattle.stmt_codec.specs.Certificates.{Certificate}
use Rattle.agent_core.specs.declared.told.Told.{Told}
use Rattle.agent_core.specs.State.{Plan, State, Ask, Asks, moment_of, swept}
use Rattle.agent_core.specs.Journals.{Entry, entry, Stands, state_after, moment_at, IsJudged}
use Rattle.agent_core.proofs.Clocks.{asking_clock, moment_there}
use Rattle.agent_core.proofs.Hits.{judged_as}

-- it is the moment of its entry
pub moment_judged : (plan : Plan) (journal before : List Entry) (place moment : ℕ) (a : Ask) (certs : List Certificate) (told : Told) → Stands journal place before (entry (Asks a) told) → IsJudged plan before a moment certs
    → moment ≡ moment_at plan journal place
moment_judged plan journal before place moment a certs told s judged =
    let t : State = swept plan.keep (moment_of (state_after plan before) a.reading) (state_after plan before) in
    (judged_as t a moment certs judged).0 ∙ sym (asking_clock t a) ∙ sym (moment_there plan journal before place (entry (Asks a) told) s)
