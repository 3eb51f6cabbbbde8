-- One more entry: what is kept stands for the state behind it.
use Rattle.std.proofs.Common.{◌≡◌, ℕ, ◌+◌, ◌<◌, ◌≤◌, List, [], ◌∷◌, ◌++◌, length, map, refl, sym, ap, ap₂, ◌∙◌, subst, arith, vec_capacity, length-append}
use Rattle.std.specs.declared.alloc.Global.{Global}
use Rattle.std.specs.declared.vec.Vec.{Vec}
use Rattle.std.proofs.lemmas.List.{map_push, length-map}
use Rattle.stmt_codec.specs.Certificates.{Certificate}
use Rattle.agent_core.specs.declared.event.ShardEntry.{ShardEntry}
use Rattle.proof_cache.specs.Cached.{Cached}
use Rattle.agent_core.specs.Caches.{cache_next, unlapsed, used_by}
use Rattle.shard_core.specs.Looking.{Takes}
use Rattle.shard_core.specs.declared.shard.store.Row.{Row}
use Rattle.shard_core.specs.declared.shard.store.Store.{Store}
use Rattle.agent_core.specs.declared.told.Told.{Told}
use Rattle.agent_core.specs.State.{Plan, State, Ask, Event, Asks, Answer, Plain, next, opened}
use Rattle.agent_core.specs.Journals.{Entry, entry, state_after, cache_after, told_of, told_at, IsMeant, IsLegalJournal}
use Rattle.shard_core.specs.Kept.{row_certs, IsRow, IsStore, IsKept, Tells, now_at}
use Rattle.shard_core.specs.Names.{book, named, AreNames}
use Rattle.agent_core.specs.Views.{entry_of}
use Rattle.shard_core.proofs.NamesLeft.{journal_names_more, names_more, named_more}
use Rattle.agent_core.proofs.Journaling.{state_from-push, cache_after-push, legal_more}

-- ---- what is kept

row_certs_more : (plan : Plan) (journal more : List Entry) (clock swept : ℕ) (row : Row) → AreNames (book plan journal) row.own.items → row_certs (now_at (book plan (journal ++ more)) clock swept) row ≡ row_certs (now_at (book plan journal) clock swept) row
row_certs_more plan journal more clock swept row names =
    rw (named_more (named (book plan journal)) (named (book plan (journal ++ more))) (journal_names_more plan journal more) row.own.items names) refl

pub row_more : (plan : Plan) (journal more : List Entry) (clock swept : ℕ) (row : Row) (last : ℕ) (own : List Certificate) → IsRow (now_at (book plan journal) clock swept) row last own → IsRow (now_at (book plan (journal ++ more)) clock swept) row last own
row_more plan journal more clock swept row last own is = record {
  last_is = is.last_is;
  own_is = row_certs_more plan journal more clock swept row is.names ∙ is.own_is;
  names = names_more (named (book plan journal)) (named (book plan (journal ++ more))) (journal_names_more plan journal more) row.own.items is.names;
  swept_before = is.swept_before;
}

pub store_more : (plan : Plan) (journal more : List Entry) (s : State) (store : Store) → IsStore (book plan journal) s store → IsStore (book plan (journal ++ more)) s store
store_more plan journal more s store is = record {
  clock_is = is.clock_is;
  commons_are = named_more (named (book plan journal)) (named (book plan (journal ++ more))) (journal_names_more plan journal more) store.commons.items is.commons_names ∙ is.commons_are;
  commons_names = names_more (named (book plan journal)) (named (book plan (journal ++ more))) (journal_names_more plan journal more) store.commons.items is.commons_names;
  withdrawn_are = is.withdrawn_are;
  row_count = is.row_count;
  rows_are = λ i row c at channel. row_more plan journal more store.clock store.swept row (s.last c) (s.own c) (is.rows_are i row c at channel);
}

module _ (plan : Plan) (before : Vec ShardEntry Global) (store : Store) (kept : IsKept plan before store) (e : ShardEntry) (after : Vec ShardEntry Global)
    (room : length before.items < plan.limit) (added : after.items ≡ before.items ++ e ∷ []) (capacity : vec_capacity before ≤ vec_capacity after) where
  pub adds_entry : map entry_of after.items ≡ map entry_of before.items ++ entry_of e ∷ []
  adds_entry = ap (map entry_of) added ∙ map_push entry_of before.items e

  -- the state's next one is what is kept afterwards
  pub kept_more : (store' : Store) → IsMeant plan (map entry_of before.items) (entry_of e).event → e.told ≡ told_at plan (map entry_of before.items) (entry_of e).event →
      IsStore (book plan (map entry_of before.items ++ entry_of e ∷ [])) (next plan (state_after plan (map entry_of before.items)) (entry_of e).event).0 store' → store'.swept ≤ length before.items + 1 →
      IsKept plan after store'
  kept_more store' meant tells is swept = record {
    planned = kept.planned;
    legal = subst (IsLegalJournal plan) (sym adds_entry) (legal_more plan (map entry_of before.items) (entry_of e) kept.legal
        (record { room = omega (arith, room, length-map before.items entry_of); meant = meant; tells = tells }));
    store_is = subst (λ journal. IsStore (book plan journal) (state_after plan journal) store') (sym adds_entry)
        (subst (λ s. IsStore (book plan (map entry_of before.items ++ entry_of e ∷ [])) s store') (sym (state_from-push plan _ (map entry_of before.items) (entry_of e))) is);
    swept_within = omega (arith, swept, ap (λ (es : List ShardEntry). length es) added, length-append before.items (e ∷ []));
    within = omega (arith, room, ap (λ (es : List ShardEntry). length es) added, length-append before.items (e ∷ []));
    room = omega (arith, kept.room, capacity);
  }

  -- what is told at once
  pub tells_more : (store' : Store) (s : State) (event : Event) → (entry_of e).event ≡ event → IsMeant plan (map entry_of before.items) event → next plan (state_after plan (map entry_of before.items)) event ≡ (s, Plain e.told) →
      IsStore (book plan (map entry_of before.items ++ entry_of e ∷ [])) s store' → store'.swept ≤ length before.items + 1 → Tells plan before event e.told after store'
  tells_more store' s event event_is meant nexts is swept = record {
    adds = adds_entry ∙ ap (λ x. map entry_of before.items ++ entry x e.told ∷ []) event_is;
    plain = ap (λ (r : State × Answer). r.1) nexts;
    kept = kept_more store' (subst (IsMeant plan (map entry_of before.items)) (sym event_is) meant)
        (ap (told_of (cache_after plan (map entry_of before.items)) (entry_of e).event) (sym (ap (λ (x : Event). (next plan (state_after plan (map entry_of before.items)) x).1) event_is ∙ ap (λ (r : State × Answer). r.1) nexts)))
        (subst (λ t. IsStore (book plan (map entry_of before.items ++ entry_of e ∷ [])) t store') (sym (ap (λ (x : Event). (next plan (state_after plan (map entry_of before.items)) x).0) event_is ∙ ap (λ (r : State × Answer). r.0) nexts)) is) swept;
  }

-- ---- the kept proofs behind one entry more, by what the store then says

module _ (plan : Plan) (journal after : List Entry) (event : Event) (told : Told) (store : Store) (added : after ≡ journal ++ entry event told ∷ [])
    (is : IsStore (book plan after) (state_after plan after) store) where
  clock_now : store.clock ≡ (next plan (state_after plan journal) event).0.clock
  clock_now =
      is.clock_is ∙ ap (λ (j : List Entry). (state_after plan j).clock) added ∙
      ap (λ (s : State). s.clock) (state_from-push plan (opened plan) journal (entry event told))

  pub cache_follows : (cache new : List Cached) → cache ≡ cache_after plan journal → new ≡ cache_next store.clock event told cache → new ≡ cache_after plan after
  cache_follows cache new was is_next =
      is_next ∙ ap₂ (λ n (cs : List Cached). cache_next n event told cs) clock_now was ∙
      sym (ap (cache_after plan) added ∙ cache_after-push plan journal (entry event told))

pub tells_follow : (plan : Plan) (before after : Vec ShardEntry Global) (event : Event) (told : Told) (store : Store) → Tells plan before event told after store → (cache new : List Cached) →
    cache ≡ cache_after plan (map entry_of before.items) → new ≡ cache_next store.clock event told cache → new ≡ cache_after plan (map entry_of after.items)
tells_follow plan before after event told store t = cache_follows plan (map entry_of before.items) (map entry_of after.items) event told store t.adds t.kept.store_is

pub takes_follow : (plan : Plan) (before after : Vec ShardEntry Global) (a : Ask) (told : Told) (store : Store) → Takes plan before a told after store → (cache new : List Cached) →
    cache ≡ cache_after plan (map entry_of before.items) → new ≡ used_by a told (unlapsed store.clock cache) → new ≡ cache_after plan (map entry_of after.items)
takes_follow plan before after a told store t = cache_follows plan (map entry_of before.items) (map entry_of after.items) (Asks a) told store t.adds t.kept.store_is
