-- What a shard is told of an effect: neither what an Ask is told, nor what takes memory.
use Rattle.std.proofs.Common.{◌≡◌, ℕ, ◌+◌, nat_le, nat_lt, List, length, subst}
use Rattle.std.proofs.lemmas.Bool.{cond_both}
use Rattle.stmt_codec.specs.Certificates.{Certificate}
use Rattle.proof_cache.specs.Cached.{Cached}
use Rattle.agent_core.specs.declared.told.Told.{Told}
use Rattle.agent_core.specs.declared.limits.TheConstants.{MAX_COMMONS, MAX_WITHDRAWN}
use Rattle.agent_core.specs.Held.{is_withdrawn}
use Rattle.agent_core.specs.State.{Plan, State, Event, Asks, Keeps, Holds, Withdraws, Answer, Plain, holding, withdrawing, new_commons, next}
use Rattle.agent_core.specs.Journals.{Entry, entry, state_after, cache_after, told_of, told_at}
use Rattle.agent_core.specs.Answers.{TakesMemory}
use Rattle.agent_core.specs.Steps.{StepAnswer, Other, IsAnswer, other, JournalSeen, StepsTo}
use Rattle.request_course.specs.Operations.{IsEffect}

abbrev pub IsToldOfEffect : Told → Type 0
IsToldOfEffect (Told.Held added) = Unit {0}
IsToldOfEffect (Told.CommonsFull held) = Unit {0}
IsToldOfEffect (Told.Removed count) = Unit {0}
IsToldOfEffect (Told.WithdrawnFull held) = Unit {0}
IsToldOfEffect _ = ⊥

plain_told : (a b : Told) → Plain a ≡ Plain b → a ≡ b
plain_told a b e = cc

holding_tells : (s : State) (new : List Certificate) (told : Told) → (holding s new).1 ≡ Plain told → IsToldOfEffect told
holding_tells s new told =
    cond_both (nat_lt MAX_COMMONS (length s.commons + length new)) _ _ (λ (r : State × Answer). r.1 ≡ Plain told → IsToldOfEffect told)
    (λ _ e. subst IsToldOfEffect (plain_told (Told.CommonsFull (length s.commons)) told e) tt)
    (λ _ e. subst IsToldOfEffect (plain_told (Told.Held (length new)) told e) tt)

withdrawing_tells : (plan : Plan) (issuer : ℕ) (s : State) (told : Told) → (withdrawing plan issuer s).1 ≡ Plain told → IsToldOfEffect told
withdrawing_tells plan issuer s told =
    cond_both (is_withdrawn s.withdrawn issuer) _ _ (λ (r : State × Answer). r.1 ≡ Plain told → IsToldOfEffect told)
    (λ _ e. subst IsToldOfEffect (plain_told _ told e) tt)
    (λ _. cond_both (nat_le MAX_WITHDRAWN (length s.withdrawn)) _ _ (λ (r : State × Answer). r.1 ≡ Plain told → IsToldOfEffect told)
    (λ _ e. subst IsToldOfEffect (plain_told _ told e) tt)
    (λ _ e. subst IsToldOfEffect (plain_told _ told e) tt))

effect_tells : (plan : Plan) (s : State) (event : Event) (told : Told) → IsEffect event → (next plan s event).1 ≡ Plain told → IsToldOfEffect told
effect_tells plan s (Asks a) told is e = absurd is
effect_tells plan s (Keeps ask entry c) told is e = absurd is
effect_tells plan s (Holds certs) told is e = holding_tells s (new_commons s certs) told e
effect_tells plan s (Withdraws issuer) told is e = withdrawing_tells plan issuer s told e
effect_tells plan s _ told is e = subst IsToldOfEffect (plain_told _ told e) tt

abbrev pub IsAnswerToEffect : StepAnswer → Type 0
IsAnswerToEffect (Other told) = IsToldOfEffect told
IsAnswerToEffect _ = ⊥

answer_to_effect : (plan : Plan) (before : List Entry) (event : Event) (told : Told) (x : StepAnswer) → IsAnswer plan before event told x → IsEffect event → IsAnswerToEffect x
answer_to_effect plan before event told x (other p) is = effect_tells plan (state_after plan before) event told is p
answer_to_effect plan before event told x _ is = absurd is

-- what a step of an effect hands out is told
pub told_effect : {plan : Plan} {earlier later : JournalSeen} {event : Event} (place : ℕ) (x : StepAnswer) → IsEffect event → StepsTo plan earlier later event place x → IsAnswerToEffect x
told_effect {plan = plan} {event = event} place x is s = answer_to_effect plan s.before event s.steps.told x s.steps.answers is

holding_takes_none : (s : State) (new : List Certificate) (cache : List Cached) (event : Event) → TakesMemory (told_of cache event (holding s new).1) → ⊥
holding_takes_none s new cache event =
    cond_both (nat_lt MAX_COMMONS (length s.commons + length new)) _ _ (λ (r : State × Answer). TakesMemory (told_of cache event r.1) → ⊥)
    (λ _ none. none)
    (λ _ none. none)

withdrawing_takes_none : (plan : Plan) (issuer : ℕ) (s : State) (cache : List Cached) (event : Event) → TakesMemory (told_of cache event (withdrawing plan issuer s).1) → ⊥
withdrawing_takes_none plan issuer s cache event =
    cond_both (is_withdrawn s.withdrawn issuer) _ _ (λ (r : State × Answer). TakesMemory (told_of cache event r.1) → ⊥)
    (λ _ none. none)
    (λ _. cond_both (nat_le MAX_WITHDRAWN (length s.withdrawn)) _ _ (λ (r : State × Answer). TakesMemory (told_of cache event r.1) → ⊥)
    (λ _ none. none)
    (λ _ none. none))

-- no effect takes memory
pub takes_none : (plan : Plan) (before : List Entry) (event : Event) → IsEffect event → TakesMemory (told_at plan before event) → ⊥
takes_none plan before (Asks a) is takes = is
takes_none plan before (Keeps ask entry c) is takes = is
takes_none plan before (Holds certs) is takes = holding_takes_none (state_after plan before) (new_commons (state_after plan before) certs) (cache_after plan before) (Holds certs) takes
takes_none plan before (Withdraws issuer) is takes = withdrawing_takes_none plan issuer (state_after plan before) (cache_after plan before) (Withdraws issuer) takes
takes_none plan before _ is takes = takes
