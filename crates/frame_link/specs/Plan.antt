-- The calls of an object in memory, counted from 0, and those of them that fail.
use Rattle.std.specs.Prelude.{◌≡◌, ◌⊎◌, ℕ, ◌+◌, ◌-◌, ◌^◌, ◌≤◌, min, Bool, ◌==◌, List}
use Rattle.std.specs.List.{list_any}

-- how many calls came, which of them fail, and how often one has failed
pub record Plan : Type 0 where
  pub calls : ℕ
  pub fails : List ℕ
  pub faults : ℕ

-- the plan of an object to which no call came yet
abbrev pub plan_of : List ℕ → Plan
plan_of fails = record { calls = 0; fails = fails; faults = 0 }

-- a count with one more, which stands still at the largest u64
abbrev pub counted : ℕ → ℕ
counted n = min (n + 1) (2 ^ 64 - 1)

-- a count that went up by so many, or stands still at the largest u64
abbrev pub HasCounted : ℕ → (before after : ℕ) → Type 0
HasCounted n before after = (after ≡ before + n) ⊎ (2 ^ 64 - 1 ≤ after)

-- whether the call that comes now is one that fails
abbrev pub fails_now : Plan → Bool
fails_now plan = list_any (λ n. n == plan.calls) plan.fails

-- the plan after a call that did not fail
abbrev pub passed : Plan → Plan
passed plan = record plan { calls = counted plan.calls }

-- the plan after a call that failed
abbrev pub failed : Plan → Plan
failed plan = record plan { calls = counted plan.calls; faults = counted plan.faults }
