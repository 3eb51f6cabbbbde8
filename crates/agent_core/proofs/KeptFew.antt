-- Few proofs are kept, no two of which are for the same.
use Rattle.std.proofs.Common.{ℕ, List, [], ◌∷◌, not, Option, Some, None, arith}
use Rattle.prin_term.specs.Principal.{Principal}
use Rattle.proof_cache.specs.Cached.{Cached}
use Rattle.proof_cache.specs.Cache.{IsCache, cites_issuer, cites_it, has_lapsed, is_of_channel}
use Rattle.proof_cache.proofs.Lists.{stays_filtered, stays_in_order, stays_kept}
use Rattle.agent_core.specs.declared.told.Told.{Told}
use Rattle.agent_core.specs.Caches.{unlapsed, used, used_by, kept_by, left_by, who_at, cache_next}
use Rattle.agent_core.specs.State.{Plan, State, Ask, Event, Asks, Keeps, Holds, Discards, Forgets, Expires, Withdraws, opened, next}
use Rattle.agent_core.specs.Journals.{Entry, cache_from}
use Rattle.agent_core.specs.Laws.{CacheIsSmall}

pub few_unlapsed : (moment : ℕ) (cache : List Cached) → IsCache cache → IsCache (unlapsed moment cache)
few_unlapsed moment cache h = stays_filtered (λ c. not (has_lapsed moment c)) cache h

few_used : (subject : Principal) (o : Option Principal) (cache : List Cached) → IsCache cache → IsCache (used subject o cache)
few_used subject None cache h = h
few_used subject (Some who) cache h = stays_in_order subject who cache h

few_used_by : (a : Ask) (told : Told) (cache : List Cached) → IsCache cache → IsCache (used_by a told cache)
few_used_by a (Told.Hit e) cache h = few_used a.subject (who_at a.list e) cache h
few_used_by a _ cache h = h

few_kept_by : (c : Cached) (told : Told) (cache : List Cached) → IsCache cache → IsCache (kept_by c told cache)
few_kept_by c Told.Kept cache h = stays_kept c cache h
few_kept_by c _ cache h = h

few_left_by : (issuer : ℕ) (told : Told) (cache : List Cached) → IsCache cache → IsCache (left_by issuer told cache)
few_left_by issuer (Told.Removed count) cache h = stays_filtered (λ c. not (cites_issuer issuer c)) cache h
few_left_by issuer _ cache h = h

few_next : (moment : ℕ) (e : Event) (told : Told) (cache : List Cached) → IsCache cache → IsCache (cache_next moment e told cache)
few_next moment (Asks a) told cache h = few_used_by a told (unlapsed moment cache) (few_unlapsed moment cache h)
few_next moment (Keeps ask e c) told cache h = few_kept_by c told cache h
few_next moment (Holds certs) told cache h = h
few_next moment (Discards digest) told cache h = stays_filtered (λ c. not (cites_it digest c)) cache h
few_next moment (Forgets channel) told cache h = stays_filtered (λ c. not (is_of_channel channel c)) cache h
few_next moment (Expires reading) told cache h = few_unlapsed moment cache h
few_next moment (Withdraws issuer) told cache h = few_left_by issuer told cache h

few_from : (plan : Plan) (s : State) (cache : List Cached) (journal : List Entry) → IsCache cache → IsCache (cache_from plan s cache journal)
few_from plan s cache [] h = h
few_from plan s cache (e ∷ es) h =
    few_from plan (next plan s e.event).0 (cache_next (next plan s e.event).0.clock e.event e.told cache) es
    (few_next (next plan s e.event).0.clock e.event e.told cache h)

pub cache_small : (plan : Plan) → CacheIsSmall plan
cache_small plan journal = few_from plan (opened plan) [] journal (record { few = omega arith; apart = λ i j d lt within. absurd (omega arith) })
