-- Journals that grow by allowed entries, and places in them.
use Rattle.std.specs.Prelude.{◌≡◌, ℕ, ◌==◌, ◌⊎◌, ◌&&◌, List, [], ◌∷◌, ◌++◌, length, count_by, cond, leb, ltb}

module _ {F E : Type 0} (allows : F → List E → E → Type 0) (fixed : F) where
  -- each entry may follow those before it
  abbrev pub AllAllowed : List E → List E → Type 0
  AllAllowed before [] = Unit {0}
  AllAllowed before (e ∷ es) = allows fixed before e × AllAllowed (before ++ e ∷ []) es

  -- `later` is `earlier`, and then entries that are allowed
  abbrev pub Grows : List E → List E → Type 0
  Grows earlier later = (more : List E) × (later ≡ earlier ++ more) × AllAllowed earlier more

  -- the journal that goes home is the one that was entered, or has one allowed entry more
  abbrev pub MayLeave : List E → List E → Type 0
  MayLeave entered journal = (journal ≡ entered)
      ⊎ ((e : E) × allows fixed entered e × (journal ≡ entered ++ e ∷ []))

-- how often the place stands in the list
abbrev pub times : ℕ → List ℕ → ℕ
times place places = count_by (λ q. q == place) places

-- 1 where the place is from `first` to before `last`, and else 0
abbrev pub once_within : ℕ → ℕ → ℕ → ℕ
once_within first last place = cond (leb first place && ltb place last) 1 0

-- the list has each place from `first` to before `last` once, and no other
abbrev pub HasEach : ℕ → ℕ → List ℕ → Type 0
HasEach first last places = (place : ℕ) → times place places ≡ once_within first last place

-- the longer of two lists, and the second where they are as long
abbrev pub longer : {E : Type 0} → List E → List E → List E
longer xs ys = cond (leb (length xs) (length ys)) ys xs
