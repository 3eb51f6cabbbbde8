-- What an Ask finds.
use Rattle.std.specs.Prelude.{◌≡◌, ℕ, ◌+◌, ◌<◌, ◌≤◌, max, List, [], ◌∷◌, ◌++◌, length, map, find, slice_get, if◌then◌else◌, Option, None, Some, All}
use Rattle.std.specs.declared.alloc.Global.{Global}
use Rattle.std.specs.declared.vec.Vec.{Vec}
use Rattle.std.specs.declared.sync.Arc.{Arc}
use Rattle.std.specs.Arc.{arc_value}
use Rattle.prin_term.specs.Principal.{Principal}
use Rattle.prin_term.specs.View.{Grant}
use Rattle.stmt_codec.specs.Certificates.{Certificate}
use Rattle.proof_cache.specs.Cached.{Cached, cached}
use Rattle.proof_cache.specs.Cache.{is_for}
use Rattle.proof_cache.specs.declared.cached.Cached.{Cached as CachedValue}
use Rattle.shard_core.specs.declared.shard.asking.Look.{Look}
use Rattle.agent_core.specs.declared.limits.TheConstants.{MAX_OWN}
use Rattle.agent_core.specs.declared.event.ShardEntry.{ShardEntry}
use Rattle.shard_core.specs.declared.shard.store.Store.{Store}
use Rattle.agent_core.specs.declared.told.Told.{Told}
use Rattle.agent_core.specs.declared.told.Answer.{Answer}
use Rattle.agent_core.specs.State.{Plan, State, Ask, Event, Asks, swept, brought}
use Rattle.agent_core.specs.Caches.{first_hit, gives_right, unlapsed}
use Rattle.agent_core.specs.Journals.{ShardSeen, entry, cache_after, IsJudged}
use Rattle.shard_core.specs.Kept.{IsKept, Tells, state_of}
use Rattle.shard_core.specs.Names.{certs_at}
use Rattle.agent_core.specs.Answers.{OfAnswer}
use Rattle.agent_core.specs.Steps.{StepAnswer, Hit, Miss, Other}
use Rattle.agent_core.specs.Views.{entry_of}

-- the state that an Ask meets at this moment, after a book's journal
abbrev pub state_met : ShardSeen → ℕ → State
state_met book moment = swept book.plan.keep moment (state_of book)

-- the Ask's moment, how much its channel holds then, and what the Ask brings
pub record IsLook (book : ShardSeen) (store : Store) (a : Ask) (look : Look) : Type 0 where
  -- the place of the Ask's channel among those of the plan
  pub here : slice_get book.plan.channels look.place ≡ Some a.channel
  pub moment : look.moment ≡ max store.clock a.reading
  -- how many certificates of its own the channel holds then
  pub held : look.held ≡ length ((state_met book look.moment).own a.channel)
  pub few : look.held ≤ MAX_OWN
  -- the places of those presented certificates that the channel does not hold yet
  pub new_are : certs_at a.presented look.new.items ≡ brought (state_met book look.moment) a
  pub new_within : All (λ i. i < length a.presented) look.new.items

-- the Ask's number is new, and what it brings fits
pub record IsTaken (s : State) (a : Ask) : Type 0 where
  pub new : s.last a.channel < a.seq
  pub fits : length (s.own a.channel) + length (brought s a) ≤ MAX_OWN

-- the Ask's number is new and it has room; it is journaled with what was told of it
pub record Takes (plan : Plan) (before : Vec ShardEntry Global) (a : Ask) (told : Told)
    (after : Vec ShardEntry Global) (store : Store) : Type 0 where
  pub adds : map entry_of after.items ≡ map entry_of before.items ++ entry (Asks a) told ∷ []
  pub kept : IsKept plan after store

-- the proof that serves a subject at an entry with the right, if there is one
abbrev pub served_at : List Cached → Principal → ℕ → Grant → Option Cached
served_at cache subject right g =
    if gives_right right g then find (is_for subject g.who) cache else None

-- what serves the Ask of these proofs: the first entry for which one is kept, with that proof
abbrev pub Serves : List Cached → Ask → Option (ℕ × Arc CachedValue Global) → Type 0
Serves cache a None = first_hit cache a ≡ None
Serves cache a (Some (e, c)) = (g : Grant) × (first_hit cache a ≡ Some e)
    × (slice_get a.list e ≡ Some g)
    × (find (is_for a.subject g.who) cache ≡ Some (cached (arc_value {X = CachedValue} c)))

-- the event is an Ask that is to be judged at the moment by these certificates
pub record Misses (plan : Plan) (before : Vec ShardEntry Global) (event : Event) (moment : ℕ)
    (certs : List Certificate) (after : Vec ShardEntry Global) (store : Store) : Type 0 where
  pub ask : Ask
  pub is : event ≡ Asks ask
  pub takes : Takes plan before ask Told.Miss after store
  pub judged : IsJudged plan (map entry_of before.items) ask moment certs

-- the event is an Ask that this serves: an entry, and the proof that is kept for it
pub record Hits (plan : Plan) (before : Vec ShardEntry Global) (event : Event) (e : ℕ)
    (c : Cached) (after : Vec ShardEntry Global) (store : Store) : Type 0 where
  pub ask : Ask
  pub is : event ≡ Asks ask
  pub takes : Takes plan before ask (Told.Hit e) after store
  pub moment : ℕ
  pub certs : List Certificate
  pub judged : IsJudged plan (map entry_of before.items) ask moment certs
  pub grant : Grant
  pub there : slice_get ask.list e ≡ Some grant
  pub found : find (is_for ask.subject grant.who)
      (unlapsed moment (cache_after plan (map entry_of before.items))) ≡ Some c

-- what holds after what is handed out or told of an event
abbrev pub HandsOut : Plan → Vec ShardEntry Global → Event → Vec ShardEntry Global → Store →
    StepAnswer → Type 0
HandsOut plan before event after store (Hit e c) = Hits plan before event e c after store
HandsOut plan before event after store (Miss moment certs) =
    Misses plan before event moment certs after store
HandsOut plan before event after store (Other told) = Tells plan before event told after store

-- what holds after an answer to an event, at a journal that was not full
abbrev pub Answered : Plan → Vec ShardEntry Global → Event →
    Answer → Vec ShardEntry Global → Store → Type 0
Answered plan before event answer after store =
    OfAnswer (HandsOut plan before event after store) (λ n. ⊥) answer
