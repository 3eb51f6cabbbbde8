-- Tables that hold what a list has, in an order of their own.
use Rattle.std.specs.Prelude.{◌≡◌, ℕ, List, length}
use Rattle.keyed_seal.specs.Keys.{Entries, Keys, key_of}
use Rattle.prin_text.specs.Labels.{Rows, number_of, text_of}

-- a look-up in the table of keys gives what the list has, and they have as many keys
pub record HoldsKeys (table : Keys) (keys : Entries) : Type 0 where
  pub each : (number : ℕ) → key_of table.entries number ≡ key_of keys number
  pub count : length table.entries ≡ length keys

-- look-ups by number and by text give what the list has, and they have as many rows
pub record HoldsRows (table rows : Rows) : Type 0 where
  pub texts : (number : ℕ) → text_of table number ≡ text_of rows number
  pub numbers : (text : List ℕ) → number_of table text ≡ number_of rows text
  pub count : length table ≡ length rows
