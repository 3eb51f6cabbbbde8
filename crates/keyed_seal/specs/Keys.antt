-- Key tables: pairs of a number and a key, ascending by number, and room for so many.
use Rattle.std.specs.Prelude.{◌≡◌, ◌≢◌, ℕ, ◌+◌, ◌^◌, ◌<◌, ◌≤◌, All, List, [], length}
use Rattle.std.specs.Prelude.{Option, Some, None}
use Rattle.byte_fields.specs.Rows as rows

-- numbers, each with its key
abbrev pub Entries : Type 0
Entries = List (ℕ × List ℕ)

-- a table as its users see it
pub record Keys : Type 0 where
  pub room : ℕ
  pub entries : Entries

-- the key of the first entry that has the number
abbrev pub key_of : Entries → ℕ → Option (List ℕ)
key_of entries number = rows.value_of (λ e. e.0) (λ e. e.1) entries number

-- the number of the entry at place i
abbrev pub number_at : Entries → ℕ → ℕ
number_at entries i = rows.number_at (λ e. e.0) (0, []) entries i

-- the numbers rise, so no number comes twice
abbrev pub IsAscending : Entries → Type 0
IsAscending entries = rows.IsAscending (λ e. e.0) (0, []) entries

-- a key has 32 bytes
abbrev pub IsKey : List ℕ → Type 0
IsKey key = (length key ≡ 32) × All (λ byte. byte < 2 ^ 8) key

-- a number of 32 bits, and a key
abbrev pub IsEntry : ℕ × List ℕ → Type 0
IsEntry entry = (entry.0 < 2 ^ 32) × IsKey entry.1

-- what is true of every table
pub record IsKeyTable (keys : Keys) : Type 0 where
  pub ascending : IsAscending keys.entries
  pub within : length keys.entries ≤ keys.room
  pub whole : All IsEntry keys.entries

-- a table whose memory, enough for `space` keys, was taken at the start
pub record IsReserved (keys : Keys) (space : ℕ) : Type 0 where
  pub sound : IsKeyTable keys
  pub reserved : keys.room ≤ space

-- the number is new, and there is room for one more
pub record HasRoomFor (keys : Keys) (number : ℕ) : Type 0 where
  pub is_new : key_of keys.entries number ≡ None
  pub room_left : length keys.entries < keys.room

-- the number is new, and as many keys are there as the table has room for
pub record LacksRoomFor (keys : Keys) (number : ℕ) : Type 0 where
  pub is_new : key_of keys.entries number ≡ None
  pub no_room_left : length keys.entries ≡ keys.room

-- the new table has one more key, at this number, and is otherwise the old one
pub record AddsKey (old new : Keys) (number : ℕ) (key : List ℕ) : Type 0 where
  pub this_key : key_of new.entries number ≡ Some key
  pub other_keys : (n : ℕ) → n ≢ number → key_of new.entries n ≡ key_of old.entries n
  pub count : length new.entries ≡ length old.entries + 1
  pub room : new.room ≡ old.room

-- the entry at place i has the number
abbrev pub IsAt : Entries → ℕ → ℕ → Type 0
IsAt entries number i = rows.IsAt (λ e. e.0) (0, []) entries number i

-- the number would go at place i: smaller numbers before it, and greater ones from it on
abbrev pub IsGapFor : Entries → ℕ → ℕ → Type 0
IsGapFor entries number i = rows.IsGapFor (λ e. e.0) (0, []) entries number i
