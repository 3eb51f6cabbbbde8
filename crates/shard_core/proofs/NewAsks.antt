-- An Ask whose number is new and that has room: what is told of it, and by what it is judged.
use Rattle.std.proofs.Common.{◌≡◌, ℕ, List, ◌++◌, Option, None, Some, refl, sym, ap, ◌∙◌, subst}
use Rattle.stmt_codec.specs.Certificates.{Certificate}
use Rattle.proof_cache.specs.Cached.{Cached}
use Rattle.agent_core.specs.declared.told.Told.{Told}
use Rattle.agent_core.specs.Answers.{IsPlain, TakesMemory}
use Rattle.agent_core.specs.Caches.{unlapsed, first_hit, hit_or_miss, used_by}
use Rattle.shard_core.specs.declared.shard.asking.Look.{Look}
use Rattle.shard_core.specs.declared.shard.store.Store.{Store}
use Rattle.agent_core.specs.Journals.{Entry, cache_after, told_of, told_at, IsJudged}
use Rattle.shard_core.specs.Kept.{IsStore, state_of}
use Rattle.shard_core.specs.Names.{book}
use Rattle.shard_core.specs.Looking.{IsLook, IsTaken, state_met}
use Rattle.agent_core.specs.State.{Plan, State, Ask, Asks, Answer, Judged, brought}
use Rattle.shard_core.proofs.Judging.{taken}
use Rattle.shard_core.proofs.Looks.{asked_now, judged_now}

-- what is told at once of an Ask brings no kept proof to the front
pub plain_uses_none : (a : Ask) (told : Told) (cache : List Cached) → IsPlain told → used_by a told cache ≡ cache
plain_uses_none a (Told.Replayed last) cache plain = refl
plain_uses_none a (Told.Full held) cache plain = refl
plain_uses_none a (Told.Hit entry) cache plain = absurd plain
plain_uses_none a Told.Miss cache plain = refl
plain_uses_none a Told.Kept cache plain = refl
plain_uses_none a (Told.Dropped cause) cache plain = refl
plain_uses_none a (Told.Held added) cache plain = refl
plain_uses_none a (Told.CommonsFull held) cache plain = refl
plain_uses_none a (Told.Removed count) cache plain = refl
plain_uses_none a (Told.WithdrawnFull held) cache plain = refl

memory_taken : (o : Option ℕ) → TakesMemory (hit_or_miss o)
memory_taken None = tt
memory_taken (Some e) = tt

module _ (plan : Plan) (journal : List Entry) (store : Store) (is : IsStore (book plan journal) (state_of (book plan journal)) store) (a : Ask) (look : Look)
    (l : IsLook (book plan journal) store a look) (takes : IsTaken (state_met (book plan journal) look.moment) a) where
  abbrev now : State
  now = state_met (book plan journal) look.moment

  pub told_now : told_at plan journal (Asks a) ≡ hit_or_miss (first_hit (unlapsed look.moment (cache_after plan journal)) a)
  told_now =
      ap (λ (r : State × Answer). told_of (cache_after plan journal) (Asks a) r.1)
      (asked_now plan journal store is a look l ∙ taken now a takes)

  pub wanted_now : TakesMemory (told_at plan journal (Asks a))
  wanted_now = subst TakesMemory (sym told_now) (memory_taken (first_hit (unlapsed look.moment (cache_after plan journal)) a))

  pub judged_here : (certs : List Certificate) → certs ≡ (now.own a.channel ++ brought now a) ++ now.commons → IsJudged plan journal a look.moment certs
  judged_here certs e = judged_now plan journal store is a look l takes ∙ ap (Judged look.moment) (sym e)
