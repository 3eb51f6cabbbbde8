-- What a new row does that is put into the gap for its number.
use Rattle.std.proofs.Common.{◌≡◌, ℕ, ◌<◌, List, ◌∷◌, length, take, drop, None, [], Result, arith}
use Rattle.std.specs.List.{insert}
use Rattle.std.proofs.lemmas.List.Edits.{length-insert}
use Rattle.std.proofs.lemmas.List.Elements.{All-append, All-cons, All-drop, All-take}
use Rattle.byte_fields.proofs.RowPlaces as places
use Rattle.prin_text.specs.Labels.{Rows, AddsRow, IsTable, number_of, IsRow, IsGapFor}
use Rattle.prin_text.proofs.Texts.{number_of-insert_here, number_of-insert_else, differ-insert}

-- what a search for a number answers
abbrev pub Finds : Rows → ℕ → Result ℕ ℕ → Type 0
Finds l n r = places.Finds (λ row. row.0) (λ row. row.1) (0, []) l n r

module _ (old new : Rows) (n : ℕ) (text : List ℕ) (at : ℕ) (gap : IsGapFor old n at) (is_new : number_of old text ≡ None) (inserted : new ≡ insert old at (n, text)) where
  -- the new table has the text for this number, and the others as before
  pub adds_in_gap : AddsRow old new n text
  adds_in_gap = record {
    this_text = rw inserted (places.value_of-insert_here (λ row. row.0) (λ row. row.1) (0, []) old (n, text) at gap);
    other_texts = rw inserted (places.value_of-insert_else (λ row. row.0) (λ row. row.1) (0, []) old (n, text) at gap);
    this_number = rw inserted (number_of-insert_here old n text at is_new);
    other_numbers = rw inserted (number_of-insert_else old n text at is_new);
    count = rw inserted (length-insert old at (n, text) gap.in_range);
  }

  -- and it is a table again, where there was room
  pub sound_in_gap : (room : ℕ) → IsTable room old → length old < room → IsRow (n, text) → IsTable room new
  sound_in_gap room sound room_left row = record {
    ascending = rw inserted (places.ascending-insert (λ row. row.0) (0, []) old (n, text) at gap sound.ascending);
    differ = rw inserted (differ-insert old n text at is_new sound.differ);
    within = rw inserted (omega (arith, length-insert old at (n, text) gap.in_range));
    whole = rw inserted (All-append IsRow (take at old) ((n, text) ∷ drop at old) (All-take IsRow at old sound.whole) (All-cons IsRow (n, text) (drop at old) row (All-drop IsRow at old sound.whole)));
  }
