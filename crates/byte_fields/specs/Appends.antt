-- What a writer does to a buffer.
use Rattle.std.specs.Prelude.{◌≡◌, ℕ, ◌+◌, ◌<◌, ◌≤◌, List, ◌++◌, length}
use Rattle.std.specs.Prelude.{Vec, vec_capacity, Result, OnOk, OnErr}

-- a call appended this text to the old buffer, or changed none of its bytes for want of room
pub record Appends {Z A E : Type 0}
    (old new : Vec ℕ Z) (text : List ℕ) (result : Result A E) : Type 0 where
  pub ok : OnOk result (new.items ≡ old.items ++ text)
  pub err : OnErr result (new.items ≡ old.items)
  pub capacity : vec_capacity old ≤ vec_capacity new
  -- memory is refused only where the room after what is there is too small
  pub room : OnErr result (vec_capacity old < length old.items + length text)

-- a call appended this text, or for want of room some other bytes: the old ones stand before them
pub record Pushes {Z A E : Type 0}
    (old new : Vec ℕ Z) (text : List ℕ) (result : Result A E) : Type 0 where
  pub ok : OnOk result (new.items ≡ old.items ++ text)
  pub err : OnErr result ((more : List ℕ) × (new.items ≡ old.items ++ more))
  pub capacity : vec_capacity old ≤ vec_capacity new
  pub room : OnErr result (vec_capacity old < length old.items + length text)
