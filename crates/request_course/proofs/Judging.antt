-- What it says of an Ask, by the state that it meets, that it is judged, and of a Hold that it was done.
use Rattle.std.proofs.Common.{◌≡◌, ℕ, ◌+◌, ◌<◌, ◌≤◌, false, List, length, nat_lt, sym, ◌∙◌, arith}
use Rattle.std.specs.Prelude.{nat_le}
use Rattle.std.proofs.lemmas.Bool.{cond_both, false≢true, leb-false, ltb-false}
use Rattle.proof_cache.specs.Cached.{Cached}
use Rattle.stmt_codec.specs.Certificates.{Certificate}
use Rattle.agent_core.specs.declared.limits.TheConstants.{MAX_OWN, MAX_COMMONS, MAX_WITHDRAWN}
use Rattle.agent_core.specs.declared.told.Told.{Told}
use Rattle.agent_core.specs.Held.{is_withdrawn}
use Rattle.agent_core.specs.State.{Plan, State, Ask, Asks, Holds, Withdraws, Answer, Judged, asking, brought, holding, withdrawing, moment_of, swept}
use Rattle.agent_core.specs.Journals.{Entry, state_after, told_of, Verdict, IsVerdict, granted, denied}
use Rattle.request_course.specs.Effects.{IsDone}

-- what an Ask met: its shard without what was gone at its moment
abbrev pub met : Plan → List Entry → Ask → State
met plan before a = swept plan.keep (moment_of (state_after plan before) a.reading) (state_after plan before)

-- its number is new, and there is room for what it presents
abbrev pub FitsIn : State → Ask → Type 0
FitsIn s a = (s.last a.channel < a.seq) × (length (s.own a.channel) + length (brought s a) ≤ MAX_OWN)

judged_fits : (s : State) (a : Ask) (moment : ℕ) (certs : List Certificate) → (asking s a).1 ≡ Judged moment certs → FitsIn s a
judged_fits s a moment certs =
    cond_both (nat_le a.seq (s.last a.channel)) _ _ (λ (r : State × Answer). r.1 ≡ Judged moment certs → FitsIn s a)
    (λ _ e. let no : ⊥ = cc in absurd no)
    (λ new. cond_both (nat_lt MAX_OWN (length (s.own a.channel) + length (brought s a))) _ _ (λ (r : State × Answer). r.1 ≡ Judged moment certs → FitsIn s a)
    (λ _ e. let no : ⊥ = cc in absurd no)
    (λ few _. (leb-false a.seq (s.last a.channel) new, ltb-false MAX_OWN (length (s.own a.channel) + length (brought s a)) few)))

pub verdict_fits : (plan : Plan) (before : List Entry) (a : Ask) (v : Verdict) → IsVerdict plan before a v → FitsIn (met plan before a) a
verdict_fits plan before a v (granted {moment} {certs} j g) = judged_fits (met plan before a) a moment certs j
verdict_fits plan before a v (denied {moment} {certs} j none first) = judged_fits (met plan before a) a moment certs j

-- what is told that there is no room has a new number
pub full_is_new : (cache : List Cached) (s : State) (a : Ask) (held : ℕ) → told_of cache (Asks a) (asking s a).1 ≡ Told.Full held → s.last a.channel < a.seq
full_is_new cache s a held =
    cond_both (nat_le a.seq (s.last a.channel)) _ _ (λ (r : State × Answer). told_of cache (Asks a) r.1 ≡ Told.Full held → s.last a.channel < a.seq)
    (λ _ e. let no : ⊥ = cc in absurd no)
    (λ new _. leb-false a.seq (s.last a.channel) new)

-- what was held in common had room
pub held_fits : (cache : List Cached) (s : State) (certs new : List Certificate) → IsDone (told_of cache (Holds certs) (holding s new).1) → MAX_COMMONS < length s.commons + length new → ⊥
held_fits cache s certs new =
    cond_both (nat_lt MAX_COMMONS (length s.commons + length new)) _ _ (λ (r : State × Answer). IsDone (told_of cache (Holds certs) r.1) → MAX_COMMONS < length s.commons + length new → ⊥)
    (λ _ done more. done)
    (λ few _ more. omega (arith, ltb-false MAX_COMMONS (length s.commons + length new) few, more))

-- an issuer that was withdrawn, and was not before, had room
pub withdrawn_fits : (plan : Plan) (cache : List Cached) (s : State) (issuer : ℕ) → IsDone (told_of cache (Withdraws issuer) (withdrawing plan issuer s).1) → is_withdrawn s.withdrawn issuer ≡ false → MAX_WITHDRAWN ≤ length s.withdrawn → ⊥
withdrawn_fits plan cache s issuer =
    cond_both (is_withdrawn s.withdrawn issuer) _ _ (λ (r : State × Answer). IsDone (told_of cache (Withdraws issuer) r.1) → is_withdrawn s.withdrawn issuer ≡ false → MAX_WITHDRAWN ≤ length s.withdrawn → ⊥)
    (λ is _ isnt _. false≢true (sym isnt ∙ is))
    (λ _. cond_both (nat_le MAX_WITHDRAWN (length s.withdrawn)) _ _ (λ (r : State × Answer). IsDone (told_of cache (Withdraws issuer) r.1) → is_withdrawn s.withdrawn issuer ≡ false → MAX_WITHDRAWN ≤ length s.withdrawn → ⊥)
    (λ _ done _ _. done)
    (λ room _ _ full. omega (arith, leb-false MAX_WITHDRAWN (length s.withdrawn) room, full)))
