-- What the code keeps of a shard and what it stands for; no contract of another crate speaks of it.
use Rattle.std.specs.Prelude.{◌≡◌, ◌≢◌, ℕ, ◌<◌, ◌≤◌, get_or, Bool, false, not, ◌==◌, if◌then◌else◌, List, [], ◌∷◌, ◌++◌, length, map, Option, None, Some, slice_get, filter, bytes_eq, vec_capacity, All}
use Rattle.std.specs.declared.alloc.Global.{Global}
use Rattle.std.specs.declared.vec.Vec.{Vec}
use Rattle.stmt_codec.specs.Certificates.{Certificate, digest_of}
use Rattle.std.specs.List.{range_with_len}
use Rattle.shard_core.specs.declared.held.name.Name.{Name}
use Rattle.shard_core.specs.declared.held.name.Name.TheVariants.{Common}
use Rattle.agent_core.specs.declared.event.ShardEntry.{ShardEntry}
use Rattle.shard_core.specs.declared.held.newness.Holding.{Holding}
use Rattle.shard_core.specs.declared.held.removal.Removal.{Removal}
use Rattle.shard_core.specs.declared.held.removal.Removal.TheVariants.{Nothing, Ended, Named, Issued}
use Rattle.shard_core.specs.declared.shard.store.Row.{Row}
use Rattle.shard_core.specs.declared.shard.store.Store.{Store}
use Rattle.shard_core.specs.Names.{book, named, certs_named, AreNames}
use Rattle.agent_core.specs.Plans.{IsPlan}
use Rattle.agent_core.specs.declared.told.DropCause.{DropCause}
use Rattle.agent_core.specs.declared.told.Told.{Told}
use Rattle.proof_cache.specs.Cached.{Cached}
use Rattle.agent_core.specs.Caches.{who_at}
use Rattle.agent_core.specs.State.{Plan, State, Ask, Event, Asks, Plain, is_gone, next}
use Rattle.agent_core.specs.Journals.{Entry, ShardSeen, entry, state_after, cache_after, IsLegalJournal}
use Rattle.agent_core.specs.Answers.{FitsEvent}
use Rattle.agent_core.specs.Views.{entry_of}

-- whether the removal lets the certificate go
abbrev pub lets_go : Removal → Certificate → Bool
lets_go Nothing c = false
lets_go (Ended keep moment) c = is_gone keep moment c
lets_go (Named digest) c = bytes_eq (digest_of c) digest
lets_go (Issued issuer) c = c.issuer == issuer

-- whether the removal leaves the certificate
abbrev pub stays : Removal → Certificate → Bool
stays removal c = not (lets_go removal c)

-- whether what is named stays; a name of nothing does not
abbrev pub stays_if_named : Removal → Option Certificate → Bool
stays_if_named removal None = false
stays_if_named removal (Some c) = stays removal c

-- whether the certificate of a name stays
abbrev pub name_stays : ShardSeen → Removal → Name → Bool
name_stays book removal name = stays_if_named removal (named book name)

-- the certificates of names, those that stay
abbrev pub certs_staying : ShardSeen → Removal → List Name → List Certificate
certs_staying book removal names = filter (stays removal) (certs_named book names)

-- the certificates that a channel holds after a removal: its own ones, and those in common
abbrev pub certs_held : Holding → List Certificate
certs_held held =
    certs_staying held.book.now held.removal.now held.own.now.items
    ++ certs_staying held.book.now held.removal.now held.shared.now.items

-- a shard as its rows are read
pub record ShardNow : Type 0 where
  pub book : ShardSeen
  pub clock : ℕ
  -- how long the journal was when the shard swept last
  pub swept : ℕ

-- a shard of this book, at this clock, that swept when its journal was so long
abbrev pub now_at : ShardSeen → ℕ → ℕ → ShardNow
now_at book clock swept = record { book = book; clock = clock; swept = swept }

-- the own certificates that a row stands for: where the shard swept since the row was, what is
-- gone by now is still to be let go
abbrev pub row_certs : ShardNow → Row → List Certificate
row_certs now row =
    if row.swept == now.swept then certs_named now.book row.own.items
    else certs_staying now.book (Ended now.book.plan.keep now.clock) row.own.items

-- the row stands for the channel's last number and its own certificates
pub record IsRow (now : ShardNow) (row : Row) (last : ℕ) (own : List Certificate) : Type 0 where
  pub last_is : row.last ≡ last
  pub own_is : row_certs now row ≡ own
  pub names : AreNames now.book row.own.items
  -- the row was swept no later than the shard
  pub swept_before : row.swept ≤ now.swept

-- what is kept stands for the state: a row for each channel, in their order
pub record IsStore (book : ShardSeen) (s : State) (store : Store) : Type 0 where
  pub clock_is : store.clock ≡ s.clock
  pub commons_are : certs_named book store.commons.items ≡ s.commons
  pub commons_names : AreNames book store.commons.items
  pub withdrawn_are : store.withdrawn.items ≡ s.withdrawn
  pub row_count : length store.rows.items ≡ length book.plan.channels
  -- the row of each channel stands for its last number and its own certificates
  pub rows_are : (i : ℕ) (row : Row) (c : ℕ) → slice_get store.rows.items i ≡ Some row →
      slice_get book.plan.channels i ≡ Some c →
      IsRow (now_at book store.clock store.swept) row (s.last c) (s.own c)

-- the state after a book's journal
abbrev pub state_of : ShardSeen → State
state_of book = state_after book.plan book.journal

-- the proofs that are kept after a book's journal
abbrev pub cache_of : ShardSeen → List Cached
cache_of book = cache_after book.plan book.journal

-- what is kept stands for the state after the entries, which are legal and have room
pub record IsKept (plan : Plan) (entries : Vec ShardEntry Global) (store : Store) : Type 0 where
  pub planned : IsPlan plan
  pub legal : IsLegalJournal plan (map entry_of entries.items)
  pub store_is : IsStore (book plan (map entry_of entries.items))
      (state_after plan (map entry_of entries.items)) store
  -- the shard was swept no later than at its last entry
  pub swept_within : store.swept ≤ length entries.items
  pub within : length entries.items ≤ plan.limit
  -- no entry that the plan allows needs more memory
  pub room : plan.limit ≤ vec_capacity entries

-- a shard: its store stands for the state after its entries, which are within the limits, and its
-- cache has the proofs that are kept after them
pub record IsShard (plan : Plan) (entries : Vec ShardEntry Global) (store : Store)
    (cache : List Cached) : Type 0 where
  pub kept : IsKept plan entries store
  pub fits : All (λ (e : Entry). FitsEvent e.event) (map entry_of entries.items)
  pub cached : cache ≡ cache_after plan (map entry_of entries.items)

-- the event is told at once, and journaled
pub record Tells (plan : Plan) (before : Vec ShardEntry Global) (event : Event) (told : Told)
    (after : Vec ShardEntry Global) (store : Store) : Type 0 where
  pub adds : map entry_of after.items ≡ map entry_of before.items ++ entry event told ∷ []
  pub plain : (next plan (state_after plan (map entry_of before.items)) event).1 ≡ Plain told
  pub kept : IsKept plan after store

-- ---- a shard that was opened

-- the rows of a shard that was opened: one for each channel, without number and certificate
pub record AreNew (rows : List Row) (count : ℕ) : Type 0 where
  pub long : length rows ≡ count
  pub blank : (i : ℕ) (row : Row) → slice_get rows i ≡ Some row →
      (row.last ≡ 0) × (row.swept ≡ 0) × (row.own.items ≡ [])

-- the names of the first commons, so many
abbrev pub first_names : ℕ → List Name
first_names count = map (λ place. Common place) (range_with_len 0 count)

-- ---- a proof that is to be kept

-- what is told of it, where this speaks against it, or nothing does
abbrev pub told_against : Option DropCause → Told
told_against None = Told.Kept
told_against (Some cause) = Told.Dropped cause

-- the proof is for the entry e of the Ask
abbrev pub IsForEntry : Ask → ℕ → Cached → Type 0
IsForEntry a e c = (c.subject ≡ a.subject) × (who_at a.list e ≡ Some c.who)

-- the proof is for the entry e of the Ask at the place: its subject is the Ask's, and it is for the
-- entry's principal
pub record IsAsked (before : List Entry) (ask e : ℕ) (c : Cached) : Type 0 where
  pub asked : Ask
  pub told : Told
  pub stands : slice_get before ask ≡ Some (entry (Asks asked) told)
  pub subject_is : c.subject ≡ asked.subject
  pub who_is : who_at asked.list e ≡ Some c.who

-- the certificate at the place has begun at the moment
abbrev pub HasBegun : List Certificate → (moment place : ℕ) → Type 0
HasBegun certs moment place = (d : Certificate) → (get_or certs place d).from ≤ moment

-- the certificate at the place is none of the first of these, so many
abbrev pub DiffersBefore : List Certificate → (place count : ℕ) → Type 0
DiffersBefore certs place count =
    (i : ℕ) (d : Certificate) → i < count → get_or certs i d ≢ get_or certs place d
