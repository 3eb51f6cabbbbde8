-- One key and one text more, in a table and in a list.
use Rattle.std.proofs.Common.{◌≡◌, ℕ, ◌<◌, ◌≤◌, true, false, leb, List, [], ◌∷◌, ◌++◌, length, Option, Some, None, Ok, Err, refl, sym, ap, ◌∙◌, arith}
use Rattle.std.specs.Option.{is_some}
use Rattle.std.proofs.lemmas.Bool.Decides.{nat_tests}
use Rattle.keyed_seal.specs.Keys.{Entries, Keys, key_of}
use Rattle.prin_text.specs.declared.lines.fault.FileCause.TheVariants.{Twice, Limit}
use Rattle.prin_text.specs.FileLines.{key_cause, unless}
use Rattle.prin_text.specs.Held.{HoldsKeys}

pub none_from : {A : Type 0} (o : Option A) → is_some o ≡ false → o ≡ None
none_from None e = refl
none_from (Some x) e = absurd cc

module _ (old : Keys) (keys : Entries) (number : ℕ) (key : List ℕ) (held : HoldsKeys old keys) where
  abbrev more : Entries
  more = keys ++ (number, key) ∷ []

  pub key_twice : is_some (key_of old.entries number) ≡ true → unless (key_cause old.room keys number) more ≡ Err Twice
  unfolding key_cause
  key_twice there =
      let same : is_some (key_of keys number) ≡ true = ap is_some (sym (held.each number)) ∙ there in
      rw same refl

  pub key_full : is_some (key_of old.entries number) ≡ false → old.room ≤ length old.entries → unless (key_cause old.room keys number) more ≡ Err Limit
  unfolding key_cause
  key_full absent full =
      let same : is_some (key_of keys number) ≡ false = ap is_some (sym (held.each number)) ∙ absent in
      let over : leb old.room (length keys) ≡ true = grind (arith, nat_tests, full, held.count) in
      rw (same, over) refl

  pub key_fits : is_some (key_of old.entries number) ≡ false → length old.entries < old.room → unless (key_cause old.room keys number) more ≡ Ok more
  unfolding key_cause
  key_fits absent room =
      let same : is_some (key_of keys number) ≡ false = ap is_some (sym (held.each number)) ∙ absent in
      let within : leb old.room (length keys) ≡ false = grind (arith, nat_tests, room, held.count) in
      rw (same, within) refl

-- what holds the keys of a table holds what this holds
pub holds_what : (table from : Keys) (keys : Entries) → HoldsKeys table from.entries → HoldsKeys from keys → HoldsKeys table keys
holds_what table from keys all held = record { each = λ n. all.each n ∙ held.each n; count = all.count ∙ held.count }
