-- From what an event did to the parts of a shard to what a step promises.
use Rattle.std.proofs.Common.{◌≡◌, ℕ, All, List, [], ◌∷◌, ◌++◌, length, map, sym, ap, ◌∙◌, subst}
use Rattle.std.specs.declared.alloc.Global.{Global}
use Rattle.std.specs.declared.vec.Vec.{Vec}
use Rattle.std.proofs.lemmas.List.{length-map}
use Rattle.std.proofs.lemmas.List.Elements.{All-push}
use Rattle.stmt_codec.specs.Certificates.{Certificate}
use Rattle.proof_cache.specs.Cached.{Cached}
use Rattle.agent_core.specs.declared.event.ShardEntry.{ShardEntry}
use Rattle.shard_core.specs.declared.shard.store.Store.{Store}
use Rattle.agent_core.specs.declared.told.Told.{Told}
use Rattle.agent_core.specs.declared.told.Answer.{Answer}
use Rattle.agent_core.specs.Answers.{FitsEvent, Handed, OfGiven, Stepped, given_by}
use Rattle.agent_core.specs.State.{Plan, Event}
use Rattle.agent_core.specs.Journals.{Entry, cache_after, entry}
use Rattle.shard_core.specs.Kept.{IsKept, IsShard, Tells}
use Rattle.shard_core.specs.Looking.{Answered, HandsOut, Hits, Misses}
use Rattle.agent_core.specs.Steps.{StepAnswer, Hit, Miss, Other, Steps, IsAnswer, hit, miss, other}
use Rattle.agent_core.specs.Views.{entry_of}
use Rattle.shard_core.proofs.OneOwner.{of_answer, from_answer}

module _ (plan : Plan) (before : Vec ShardEntry Global) (event : Event) (after : Vec ShardEntry Global) (store : Store) where
  told_steps : (told : Told) → Tells plan before event told after store → Steps plan (map entry_of before.items) event (map entry_of after.items) (length before.items) (Other told)
  told_steps told t = record {
    told = told;
    adds = t.adds;
    placed = length-map before.items entry_of;
    legal = t.kept.legal;
    answers = other t.plain;
  }

  miss_steps : (moment : ℕ) (certs : List Certificate) → Misses plan before event moment certs after store →
      Steps plan (map entry_of before.items) event (map entry_of after.items) (length before.items) (Miss moment certs)
  miss_steps moment certs m = record {
    told = Told.Miss;
    adds = m.takes.adds ∙ ap (λ e. map entry_of before.items ++ entry e Told.Miss ∷ []) (sym m.is);
    placed = length-map before.items entry_of;
    legal = m.takes.kept.legal;
    answers = subst (λ e. IsAnswer plan (map entry_of before.items) e Told.Miss (Miss moment certs)) (sym m.is) (miss m.judged);
  }

  hit_steps : (e : ℕ) (c : Cached) → Hits plan before event e c after store →
      Steps plan (map entry_of before.items) event (map entry_of after.items) (length before.items) (Hit e c)
  hit_steps e c h = record {
    told = Told.Hit e;
    adds = h.takes.adds ∙ ap (λ x. map entry_of before.items ++ entry x (Told.Hit e) ∷ []) (sym h.is);
    placed = length-map before.items entry_of;
    legal = h.takes.kept.legal;
    answers = subst (λ x. IsAnswer plan (map entry_of before.items) x (Told.Hit e) (Hit e c)) (sym h.is) (hit h.judged h.there h.found);
  }

  handed_steps : (x : StepAnswer) → HandsOut plan before event after store x →
      Steps plan (map entry_of before.items) event (map entry_of after.items) (length before.items) x
  handed_steps (Hit e c) h = hit_steps e c h
  handed_steps (Miss moment certs) m = miss_steps moment certs m
  handed_steps (Other told) t = told_steps told t

  handed_kept : (x : StepAnswer) → HandsOut plan before event after store x → IsKept plan after store
  handed_kept (Hit e c) h = h.takes.kept
  handed_kept (Miss moment certs) m = m.takes.kept
  handed_kept (Other told) t = t.kept

  pub answered_steps : (a : Answer) → Answered plan before event a after store → Stepped plan (map entry_of before.items) event (map entry_of after.items) (length before.items) a
  answered_steps = of_answer _ _ _ _ handed_steps (λ n none. absurd none)

  -- there is one entry more
  pub answered_adds : (a : Answer) → Answered plan before event a after store → (told : Told) × (map entry_of after.items ≡ map entry_of before.items ++ entry event told ∷ [])
  answered_adds = from_answer _ _ _ (λ x h. let s = handed_steps x h in (s.told, s.adds)) (λ n none. absurd none)

  -- and what is kept stands for it
  pub answered_kept : (a : Answer) → Answered plan before event a after store → IsKept plan after store
  answered_kept = from_answer _ _ _ handed_kept (λ n none. absurd none)

-- what was told is answered
pub told_answered : {plan : Plan} {before after : Vec ShardEntry Global} {event : Event} {store : Store} {told : Told} (a : Answer) → given_by a ≡ Handed (Other told) →
    Tells plan before event told after store → Answered plan before event a after store
told_answered {plan} {before} {after} {event} {store} a is tells = subst (OfGiven (HandsOut plan before event after store) (λ n. ⊥)) (sym is) tells

-- ---- a shard

module _ (plan : Plan) (entries : Vec ShardEntry Global) (store : Store) (cache : List Cached) (is : IsShard plan entries store cache)
    (entries' : Vec ShardEntry Global) (store' : Store) (cache' : List Cached) where
  -- nothing has changed
  pub shard_stays : (entries' ≡ entries) × (store' ≡ store) × (cache' ≡ cache) → IsShard plan entries' store' cache'
  shard_stays same =
      subst (λ (z : Vec ShardEntry Global × (Store × List Cached)). IsShard plan z.0 z.1.0 z.1.1) (λ k. (sym same.0 k, (sym same.1 k, sym same.2 k))) is

  -- or there is one entry more
  pub shard_answered : (event : Event) (a : Answer) → Answered plan entries event a entries' store' → FitsEvent event →
      cache' ≡ cache_after plan (map entry_of entries'.items) → IsShard plan entries' store' cache'
  shard_answered event a answered fits cached =
      let (told, adds) = answered_adds plan entries event entries' store' a answered in
      record {
        kept = answered_kept plan entries event entries' store' a answered;
        fits = subst (All (λ (e : Entry). FitsEvent e.event)) (sym adds) (All-push (λ (e : Entry). FitsEvent e.event) (map entry_of entries.items) (entry event told) is.fits fits);
        cached = cached;
      }
