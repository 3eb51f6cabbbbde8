-- Objects by their numbers, of which one at a time may be taken off and given back.
use Rattle.std.specs.Prelude.{◌≡◌, ◌≢◌, ◌⊎◌, ℕ, ◌≤◌, ◌==◌, Bool, true, List, [], ◌∷◌, ◌++◌, length, map, find, Option, None, Some, AllPairs, IfSome, MatchOption}
use Rattle.object_core.specs.Objects.{ObjectEntry, ObjectPlan, ObjectSeen}

-- what never changes of an object
pub record ObjectFixed : Type 0 where
  -- what it was opened with
  pub plan : ObjectPlan
  -- how many entries its journal has at most
  pub limit : ℕ

-- what never changes of this object
abbrev pub fixed_of : ObjectSeen → ObjectFixed
fixed_of o = record { plan = o.plan; limit = o.limit }

-- the numbers of the objects, in order
abbrev pub numbers_of : List ObjectFixed → List ℕ
numbers_of objects = map (λ (f : ObjectFixed). f.plan.number) objects

-- no two have one number
abbrev pub HaveOwnNumbers : List ObjectFixed → Type 0
HaveOwnNumbers objects = AllPairs (λ (m : ℕ) (n : ℕ). m ≢ n) (numbers_of objects)

-- the first object that has the number
abbrev pub fixed_at : List ObjectFixed → ℕ → Option ObjectFixed
fixed_at objects number = find (λ (f : ObjectFixed). f.plan.number == number) objects

-- the journal of each object, by its number, is within its limit
abbrev pub AreWithin : List ObjectFixed → (ℕ → List ObjectEntry) → Type 0
AreWithin objects journals =
    (number : ℕ) (f : ObjectFixed) → fixed_at objects number ≡ Some f →
    length (journals number) ≤ f.limit

-- a shelf as contracts see it
pub record ShelfSeen : Type 0 where
  -- what never changes of each object
  pub objects : List ObjectFixed
  -- whether nobody else takes them
  pub alone : Bool
  -- what was seen of the journal of the object of each number
  pub seen : ℕ → List ObjectEntry
  -- the own places in it
  pub own : ℕ → List ℕ
  -- the object that is taken, as it was then
  pub taken : Option ObjectSeen

-- what is always so of a shelf
pub record IsShelf (s : ShelfSeen) : Type 0 where
  pub numbers : HaveOwnNumbers s.objects
  pub within : AreWithin s.objects s.seen

-- ---- taking and giving back

-- what an object that is taken has in its journal: what was seen of it, and then entries of others
pub record GoesOn (alone : Bool) (seen : List ObjectEntry) (o : ObjectSeen) : Type 0 where
  pub others : List ObjectEntry
  pub goes_on : o.journal ≡ seen ++ others
  -- where nobody else takes the object there are none
  pub undisturbed : alone ≡ true → o.journal ≡ seen

-- at most one entry more
abbrev pub AddsOne : List ObjectEntry → List ObjectEntry → Type 0
AddsOne before after = (after ≡ before) ⊎ ((e : ObjectEntry) × (after ≡ before ++ e ∷ []))

-- the object is the one that was taken, with at most one entry more
pub record IsBack (was now : ObjectSeen) : Type 0 where
  pub fixed : fixed_of now ≡ fixed_of was
  pub journal : AddsOne was.journal now.journal

-- nothing changes of a shelf but which object is taken
pub record SameObjects (before after : ShelfSeen) : Type 0 where
  pub objects : after.objects ≡ before.objects
  pub alone : after.alone ≡ before.alone
  pub seen : after.seen ≡ before.seen
  pub own : after.own ≡ before.own

-- the object of the number is taken, if there is one; what is seen of it stays until it is given back
pub record TakenFrom (before after : ShelfSeen) (number : ℕ) (r : Option ObjectSeen) :
    Type 0 where
  pub found : MatchOption r (fixed_at before.objects number ≡ None)
      (λ o. fixed_at before.objects number ≡ Some (fixed_of o))
  pub journal : IfSome r (GoesOn before.alone (before.seen number))
  pub taken : after.taken ≡ r
  pub rest : SameObjects before after

-- what never changes of a shelf stays, and so does what is seen of each object but one
pub record LeavesObjects (before after : ShelfSeen) (number : ℕ) : Type 0 where
  pub objects : after.objects ≡ before.objects
  pub alone : after.alone ≡ before.alone
  pub others : (n : ℕ) → n ≢ number →
      (after.seen n ≡ before.seen n) × (after.own n ≡ before.own n)

-- the object that was taken is given back: the place of an entry that it has more is an own one
pub record GivenBack (before after : ShelfSeen) (o : ObjectSeen) : Type 0 where
  pub seen : after.seen o.plan.number ≡ o.journal
  pub kept : (was : ObjectSeen) → before.taken ≡ Some was → o.journal ≡ was.journal →
      after.own o.plan.number ≡ before.own o.plan.number
  pub added : (was : ObjectSeen) (e : ObjectEntry) → before.taken ≡ Some was →
      o.journal ≡ was.journal ++ e ∷ [] →
      after.own o.plan.number ≡ before.own o.plan.number ++ length was.journal ∷ []
  pub taken : after.taken ≡ None
  pub rest : LeavesObjects before after o.plan.number
