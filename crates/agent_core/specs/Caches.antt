-- The proofs that a shard keeps: what each event makes of them, and which of them serves an Ask.
use Rattle.std.specs.Prelude.{ℕ, not, ◌&&◌, ◌==◌, List, Option, Some, None, slice_get, position, bit_and, Bool}
use Rattle.std.specs.List.{list_any}
use Rattle.std.specs.Option.{option_map}
use Rattle.prin_term.specs.Principal.{Principal}
use Rattle.prin_term.specs.View.{Grant}
use Rattle.proof_cache.specs.Cached.{Cached}
use Rattle.proof_cache.specs.Cache.{cites_issuer, cites_it, has_lapsed, is_for, is_of_channel, keeping, to_front, without}
use Rattle.agent_core.specs.declared.told.Told.{Told}
use Rattle.agent_core.specs.State.{Ask, Event, Asks, Keeps, Holds, Discards, Forgets, Expires, Withdraws}

-- the kept proofs whose lease has not ended at the moment
abbrev pub unlapsed : ℕ → List Cached → List Cached
unlapsed moment cache = without (has_lapsed moment) cache

-- ---- what serves an Ask

-- the entry has the right
abbrev pub gives_right : ℕ → Grant → Bool
gives_right right g = not (bit_and g.rights right == 0)

-- a proof is kept that the subject speaks for this entry, which has the right
abbrev pub is_served : List Cached → Principal → ℕ → Grant → Bool
is_served cache subject right g = gives_right right g && list_any (is_for subject g.who) cache

-- the first entry with the right for which a proof is kept
abbrev pub first_hit : List Cached → Ask → Option ℕ
first_hit cache a = position (is_served cache a.subject a.right) a.list

-- what is told of an Ask that is judged, by the entry that a kept proof serves, if there is one
abbrev pub hit_or_miss : Option ℕ → Told
hit_or_miss None = Told.Miss
hit_or_miss (Some entry) = Told.Hit entry

-- ---- what the events make of them

-- the principal of an entry of a list
abbrev pub who_at : List Grant → ℕ → Option Principal
who_at list entry = option_map (λ (g : Grant). g.who) (slice_get list entry)

-- the proof for these two, if a principal is named, stands in front
abbrev pub used : Principal → Option Principal → List Cached → List Cached
used subject None cache = cache
used subject (Some who) cache = to_front (is_for subject who) cache

-- the proof that served an Ask stands in front
abbrev pub used_by : Ask → Told → List Cached → List Cached
used_by a (Told.Hit entry) cache = used a.subject (who_at a.list entry) cache
used_by a _ cache = cache

-- a proof is kept where this was told of it
abbrev pub kept_by : Cached → Told → List Cached → List Cached
kept_by c Told.Kept cache = keeping c cache
kept_by c _ cache = cache

-- the proofs that cite a certificate of the issuer go where this was told of its withdrawal
abbrev pub left_by : (issuer : ℕ) → Told → List Cached → List Cached
left_by issuer (Told.Removed count) cache = without (cites_issuer issuer) cache
left_by issuer _ cache = cache

-- the kept proofs after an event of which this was told, where the clock then stands at the moment
abbrev pub cache_next : (moment : ℕ) → Event → Told → List Cached → List Cached
cache_next moment (Asks a) told cache = used_by a told (unlapsed moment cache)
cache_next moment (Keeps ask entry c) told cache = kept_by c told cache
cache_next moment (Holds certs) told cache = cache
cache_next moment (Discards digest) told cache = without (cites_it digest) cache
cache_next moment (Forgets channel) told cache = without (is_of_channel channel) cache
cache_next moment (Expires reading) told cache = unlapsed moment cache
cache_next moment (Withdraws issuer) told cache = left_by issuer told cache
