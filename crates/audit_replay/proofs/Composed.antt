-- Reading one after the other, and what was made of it.
use Rattle.std.proofs.Common.{◌≡◌, ◌⊎◌, inl, inr, ℕ, Bool, true, false, ltb, List, [], length, Result, Ok, Err, refl}
use Rattle.byte_fields.specs.declared.fault.FormatFault.{FormatFault}
use Rattle.byte_fields.specs.declared.fault.FormatFault.TheVariants.{Malformed, NoMemory}
use Rattle.byte_fields.specs.Formats.{FormatReader, u32_in}
use Rattle.byte_fields.specs.Readers.{items_behind, passing}
use Rattle.object_core.specs.Objects.{ObjectEntry}
use Rattle.journal_bytes.specs.JournalsReading.{head_at, items_at, journals_at, journals_in, object_by, objects_at, rulings_at, shards_at}
use Rattle.journal_bytes.specs.Spelled.{Journals, ObjectJournal, SpelledEntry, numbered}
use Rattle.audit_replay.specs.Stepping.{MakesOf}
use Rattle.audit_replay.proofs.Passing.{refused}

-- what is read is the same, and more is known of what was made of it
pub makes_more : {X Y : Type 0} (R S : Y → X → Type 0) (r : Result X FormatFault) (read : Result Y FormatFault) → ((y : Y) (x : X) → R y x → S y x) → MakesOf R r read → MakesOf S r read
makes_more R S (Ok x) read on (y, is, related) = (y, is, on y x related)
makes_more R S (Err f) read on refused = refused

-- the same in view of what was read
pub makes_known : {X Y : Type 0} (R S : Y → X → Type 0) (r : Result X FormatFault) (read : Result Y FormatFault) → ((y : Y) (x : X) → read ≡ Ok y → R y x → S y x) → MakesOf R r read → MakesOf S r read
makes_known R S (Ok x) read on (y, is, related) = (y, is, on y x is related)
makes_known R S (Err f) read on refused = refused

module _ {A X : Type 0} (count : FormatReader ℕ) (item : List A → FormatReader A) (Related : List A × ℕ → X → Type 0) (at : ℕ) where
  -- a count, and so many items
  pub after_count : (n start : ℕ) (r : Result X FormatFault) → count at ≡ Ok (n, start) → MakesOf Related r (items_behind item n [] start) → MakesOf Related r (items_at count item at)
  after_count n start (Ok x) e (y, is, related) = (y, rw (e, is) refl, related)
  after_count n start (Err f) e (inl want) = inl want
  after_count n start (Err f) e (inr is) = inr (rw (e, is) refl)

  -- a count that is refused
  pub no_count : (f : FormatFault) → count at ≡ Err f → MakesOf Related (refused X f) (items_at count item at)
  no_count f e = inr (rw e refl)

module _ {X : Type 0} (bytes : List ℕ) (test : ℕ → Bool) (at : ℕ) where
  -- the number of an object, and its entries
  pub after_number : (number next : ℕ) (Related : List ObjectEntry × ℕ → X → Type 0) (r : Result X FormatFault) → passing test Malformed (u32_in bytes) at ≡ Ok (number, next) → MakesOf Related r (rulings_at bytes next) →
      MakesOf (λ (o : ObjectJournal × ℕ) x. (o.0.number ≡ number) × Related (o.0.entries, o.1) x) r (object_by test bytes at)
  unfolding object_by
  after_number number next Related (Ok x) e (y, is, related) = ((numbered number y.0, y.1), rw (e, is) refl, (refl, related))
  after_number number next Related (Err f) e (inl want) = inl want
  after_number number next Related (Err f) e (inr is) = inr (rw (e, is) refl)

  -- a number that is refused
  pub no_number : (Related : ObjectJournal × ℕ → X → Type 0) (f : FormatFault) → passing test Malformed (u32_in bytes) at ≡ Err f → MakesOf Related (refused X f) (object_by test bytes at)
  unfolding object_by
  no_number Related f e = inr (rw e refl)

module _ {X : Type 0} (bytes : List ℕ) where
  -- the head, the shards and the objects, and nothing behind them
  pub all_journals : (version start : ℕ) (shards : List (List SpelledEntry)) (middle : ℕ) (objects : List ObjectJournal) (end : ℕ) (Related : Journals → X → Type 0) (x : X) → head_at bytes 0 ≡ Ok (version, start) → shards_at bytes start ≡ Ok (shards, middle) →
      objects_at bytes middle ≡ Ok (objects, end) → ltb end (length bytes) ≡ false → Related (record { shards = shards; objects = objects }) x → MakesOf Related (Ok x) (journals_in bytes)
  unfolding journals_at journals_in
  all_journals version start shards middle objects end Related x head first second whole related = (record { shards = shards; objects = objects }, rw (head, first, second, whole) refl, related)

  pub bytes_behind : (version start : ℕ) (shards : List (List SpelledEntry)) (middle : ℕ) (objects : List ObjectJournal) (end : ℕ) (Related : Journals → X → Type 0) → head_at bytes 0 ≡ Ok (version, start) → shards_at bytes start ≡ Ok (shards, middle) →
      objects_at bytes middle ≡ Ok (objects, end) → ltb end (length bytes) ≡ true → MakesOf Related (refused X (Malformed end)) (journals_in bytes)
  unfolding journals_at journals_in
  bytes_behind version start shards middle objects end Related head first second more = inr (rw (head, first, second, more) refl)

  -- what is refused before the end
  pub no_head : (Related : Journals → X → Type 0) (f : FormatFault) → head_at bytes 0 ≡ Err f → MakesOf Related (refused X f) (journals_in bytes)
  unfolding journals_at journals_in
  no_head Related f e = inr (rw e refl)

  pub no_shards : (version start : ℕ) (Related : Journals → X → Type 0) (f : FormatFault) → head_at bytes 0 ≡ Ok (version, start) → (f ≡ NoMemory) ⊎ (shards_at bytes start ≡ Err f) → MakesOf Related (refused X f) (journals_in bytes)
  unfolding journals_at journals_in
  no_shards version start Related f head (inl want) = inl want
  no_shards version start Related f head (inr e) = inr (rw (head, e) refl)

  pub no_objects_read : (version start : ℕ) (shards : List (List SpelledEntry)) (middle : ℕ) (Related : Journals → X → Type 0) (f : FormatFault) → head_at bytes 0 ≡ Ok (version, start) → shards_at bytes start ≡ Ok (shards, middle) →
      (f ≡ NoMemory) ⊎ (objects_at bytes middle ≡ Err f) → MakesOf Related (refused X f) (journals_in bytes)
  unfolding journals_at journals_in
  no_objects_read version start shards middle Related f head first (inl want) = inl want
  no_objects_read version start shards middle Related f head first (inr e) = inr (rw (head, first, e) refl)
