-- What a search finds among entries, and what a new entry at that place does.
use Rattle.std.proofs.Common.{◌≡◌, ℕ, ◌<◌, List, [], ◌∷◌, length, take, drop, Some, None, Result, arith}
use Rattle.std.specs.List.{insert}
use Rattle.std.proofs.lemmas.List.Edits.{length-insert}
use Rattle.std.proofs.lemmas.List.Elements.{All-append, All-cons, All-drop, All-take}
use Rattle.byte_fields.proofs.RowPlaces as places
use Rattle.keyed_seal.specs.Keys.{AddsKey, Entries, Keys, IsEntry, IsGapFor, IsKeyTable}

-- what a search for a number answers
abbrev pub Finds : Entries → ℕ → Result ℕ ℕ → Type 0
Finds l n r = places.Finds (λ e. e.0) (λ e. e.1) (0, []) l n r

module _ (old new : Keys) (n at : ℕ) (key : List ℕ) (gap : IsGapFor old.entries n at) (same_room : new.room ≡ old.room) (inserted : new.entries ≡ insert old.entries at (n, key)) where
  -- the new table has the key at this number, and the others as before
  pub adds_in_gap : AddsKey old new n key
  adds_in_gap = record {
    this_key = rw inserted (places.value_of-insert_here (λ e. e.0) (λ e. e.1) (0, []) old.entries (n, key) at gap);
    other_keys = rw inserted (places.value_of-insert_else (λ e. e.0) (λ e. e.1) (0, []) old.entries (n, key) at gap);
    count = rw inserted (length-insert old.entries at (n, key) gap.in_range);
    room = same_room;
  }

  -- and it is a table again, where there was room
  pub sound_in_gap : IsKeyTable old → length old.entries < old.room → IsEntry (n, key) → IsKeyTable new
  sound_in_gap sound room_left entry = record {
    ascending = rw inserted (places.ascending-insert (λ e. e.0) (0, []) old.entries (n, key) at gap sound.ascending);
    within = rw (inserted, same_room) (omega (arith, length-insert old.entries at (n, key) gap.in_range));
    whole = rw inserted (All-append IsEntry (take at old.entries) ((n, key) ∷ drop at old.entries) (All-take IsEntry at old.entries sound.whole) (All-cons IsEntry (n, key) (drop at old.entries) entry (All-drop IsEntry at old.entries sound.whole)));
  }
