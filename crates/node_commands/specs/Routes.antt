-- The numbers of a route, and how a text spells them.
use Rattle.std.specs.Prelude.{◌≡◌, ℕ, ◌<◌, ◌≤◌, ◌^◌, ◌==◌, List, [], ◌++◌, length, map, take, All, Option, Some, None, decimal}
use Rattle.std.specs.List.{slice_split}
use Rattle.relay_path.specs.declared.limits.TheConstants.{MAX_ROUTE}
use Rattle.node_commands.specs.declared.words.wanted.Route.{Route}

-- the numbers that the program has of a route
abbrev pub numbers_in : Route → List ℕ
numbers_in r = take r.count r.numbers

-- what stands between the commas (44) of a text
abbrev pub pieces : List ℕ → List (List ℕ)
pieces text = slice_split (λ b. b == 44) text

-- the pieces are numbers of 32 bits, each as it is written, with neither sign nor leading zero
pub record AreNumbers (parts : List (List ℕ)) (numbers : List ℕ) : Type 0 where
  pub are : parts ≡ map decimal numbers
  pub fit : All (λ n. n < 2 ^ 32) numbers

-- the text is the numbers of a route, joined by commas
pub record IsRoute (text : List ℕ) (route : List ℕ) : Type 0 where
  pub numbers : AreNumbers (pieces text) route
  pub short : length route ≤ MAX_ROUTE

-- the pieces of a text that may be there
abbrev pub pieces_behind : Option (List ℕ) → List (List ℕ)
pieces_behind None = []
pieces_behind (Some text) = pieces text

-- the route goes on from the numbers before by those that a text joins, where there is one
pub record GoesOn (before : List ℕ) (text : Option (List ℕ)) (route : List ℕ) : Type 0 where
  pub later : List ℕ
  pub numbers : AreNumbers (pieces_behind text) later
  pub are : route ≡ before ++ later
  pub short : length route ≤ MAX_ROUTE
