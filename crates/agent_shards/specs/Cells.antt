-- Cells in a row, with a pass of each.
use Rattle.std.specs.Prelude.{◌≡◌, ℕ, ◌+◌, ◌≤◌, ◌<◌, List, [], ◌++◌, length, map, All}
use Rattle.std.specs.List.{AllZip}
use Rattle.turn_cell.specs.declared.shares.TheConstants.{ALL_SHARES}
use Rattle.turn_cell.specs.Journal.{Grows, HasEach, longer, times}
use Rattle.turn_cell.specs.Known.{Cell, Known, IsPassOf}
use Rattle.agent_shards.specs.Each.{Each4}

module _ {F E : Type 0} where
  -- there is a pass of each cell, and no other
  abbrev pub AreOf : List (Cell F E) → List (Known F E) → Type 0
  AreOf cells passes = AllZip IsPassOf cells passes

  -- each pass has more shares than so many
  abbrev pub HaveMore : ℕ → List (Known F E) → Type 0
  HaveMore shares passes = All (λ (p : Known F E). shares < p.shares) passes

  -- the shares of each pass
  abbrev pub shares_of : List (Known F E) → List ℕ
  shares_of passes = map (λ (p : Known F E). p.shares) passes

  -- each pass has all shares
  abbrev pub HaveAll : List (Known F E) → Type 0
  HaveAll passes = All (λ (p : Known F E). p.shares ≡ ALL_SHARES) passes

  -- a new cell of a value with these fixed data and this journal, and its first pass
  pub record IsOpened (fixed : F) (journal : List E) (cell : Cell F E) (pass : Known F E) :
      Type 0 where
    pub its_fixed : cell.fixed ≡ fixed
    pub opening : cell.opening ≡ journal
    pub of_cell : IsPassOf cell pass
    pub seen : pass.seen ≡ journal
    pub own : pass.own ≡ []
    pub shares : pass.shares ≡ ALL_SHARES

  -- the pass of a cell, what is kept of it, and what is given of it
  pub record IsSplit (shares : ℕ) (cell : Cell F E) (before kept given : Known F E) : Type 0 where
    pub kept_of : IsPassOf cell kept
    pub given_of : IsPassOf cell given
    pub shared : kept.shares + shares ≡ before.shares
    pub gives : given.shares ≡ shares
    pub seen : (kept.seen ≡ before.seen) × (given.seen ≡ before.seen)
    pub own : (kept.own ≡ before.own) × (given.own ≡ [])

  -- the pass of each cell was split so
  abbrev pub AreSplit : ℕ → List (Cell F E) → (before kept given : List (Known F E)) → Type 0
  AreSplit shares cells before kept given = Each4 (IsSplit shares) cells before kept given

  -- what a closed cell gives, of its last pass: these fixed data and this journal
  pub record IsClosed (cell : Cell F E) (pass : Known F E) (fixed : F) (journal : List E) :
      Type 0 where
    pub its_fixed : fixed ≡ cell.fixed
    pub its_journal : journal ≡ pass.seen
    -- each place from the opening on is the pass's own, once, and no other is
    pub own : HasEach (length cell.opening) (length pass.seen) pass.own

module _ {F E : Type 0} (allows : F → List E → E → Type 0) where
  -- two passes of a cell, and the one that they were joined to
  pub record IsJoined (cell : Cell F E) (first both second : Known F E) : Type 0 where
    pub of_cell : IsPassOf cell both
    pub shares : both.shares ≡ first.shares + second.shares
    pub own : both.own ≡ first.own ++ second.own
    -- no place was own of both
    pub apart : (place : ℕ) → times place first.own + times place second.own ≤ 1
    pub seen : both.seen ≡ longer first.seen second.seen
    -- what each had seen begins what is seen now
    pub first_goes_on : Grows allows cell.fixed first.seen both.seen
    pub second_goes_on : Grows allows cell.fixed second.seen both.seen

  -- the passes of each cell were joined so
  abbrev pub AreJoined : List (Cell F E) → (first both second : List (Known F E)) → Type 0
  AreJoined cells first both second = Each4 IsJoined cells first both second
