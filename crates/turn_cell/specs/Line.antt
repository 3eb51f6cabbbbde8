-- The line of those who hold a ticket.
use Rattle.std.specs.Prelude.{◌≡◌, ℕ, ◌+◌, ◌%◌, ◌^◌, ◌<◌, List, sum_by}
use mathlib.Core.Option.{some}
use lib.ListN.{get_elem?}
use Rattle.turn_cell.specs.declared.view.Stage.{Stage}
use Rattle.turn_cell.specs.declared.view.Stage.TheVariants.{Idle, Waiting, Turn, Joined}
use Rattle.turn_cell.specs.declared.view.View.{View}

module _ {E : Type 0} where
  -- the stage has this ticket, and waits for its turn or has it
  abbrev pub Holds : ℕ → Stage E → Type 0
  Holds ticket Idle = ⊥
  Holds ticket (Waiting t) = t ≡ ticket
  Holds ticket (Turn t entered) = t ≡ ticket
  Holds ticket (Joined xs ys) = ⊥

  -- 1 where the stage has a ticket, and else 0
  abbrev pub tickets : Stage E → ℕ
  tickets Idle = 0
  tickets (Waiting t) = 1
  tickets (Turn t entered) = 1
  tickets (Joined xs ys) = 0

module _ {F E : Type 0} where
  -- The tickets that are out are the numbers from `serving` to before `ticket`, modulo 2 ^ 64,
  -- one for each view that holds one
  pub record IsLined (serving ticket : ℕ) (views : List (View F E)) : Type 0 where
    -- how many are out
    pub out : ℕ
    -- the next ticket comes right after them
    pub next : ticket ≡ (serving + out) % 2 ^ 64
    -- as many views hold one as are out
    pub one_each : sum_by (λ v. tickets v.stage) views ≡ out
    -- what a view holds is one of these numbers
    pub in_line : (seat t : ℕ) (v : View F E) → get_elem? views seat ≡ some v → Holds t v.stage
        → (k : ℕ) × (k < out) × (t ≡ (serving + k) % 2 ^ 64)
    -- each of these numbers is held
    pub each_held : (k : ℕ) → k < out
        → (seat : ℕ) × (v : View F E) × (get_elem? views seat ≡ some v)
        × Holds ((serving + k) % 2 ^ 64) v.stage
    -- two views with one ticket are one
    pub alone : (seat other t : ℕ) (v w : View F E)
        → get_elem? views seat ≡ some v → get_elem? views other ≡ some w
        → Holds t v.stage → Holds t w.stage → seat ≡ other
