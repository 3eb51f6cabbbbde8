-- What was before a call and is after, of what the call borrows.
use denote.Triple.Both.{Both}
use Rattle.std.specs.Borrow.{MutBor}

-- a thing as it was before something was done, and as it is after
pub record Change (A : Type 0) : Type 0 where
  pub before : A
  pub after : A

-- from the one to the other
abbrev pub change : {A : Type 0} → (before after : A) → Change A
change before after = record { before = before; after = after }

-- what a clause has by the name of a thing that a call borrows: it as the call begins, and at its return
abbrev pub Borrowed : Type 0 → Type 0
Borrowed A = Both (MutBor A) (MutBor A)

-- how that changed what it shows
abbrev pub change_of : {A B : Type 0} → (A → B) → Borrowed A → Change B
change_of shown x = change (shown x.entry.now) (shown x.exit.now)
