-- Objects by ascending number, and one more of them.
use Rattle.std.specs.Prelude.{◌≡◌, ◌≢◌, ℕ, ◌+◌, List, [], length, map, Some}
use Rattle.std.specs.Option.{option_map}
use Rattle.std.specs.Arc.{arc_value}
use Rattle.prin_term.specs.View.{grant}
use Rattle.byte_fields.specs.Rows as rows
use Rattle.node_file.specs.declared.object_drafts.ObjectDraft.{ObjectDraft}
use Rattle.node_file.specs.declared.object_plan.ObjectPlan as code
use Rattle.object_core.specs.Objects.{ObjectPlan, object_of}

-- the object that the program's one stands for
abbrev pub plan : code.ObjectPlan → ObjectPlan
plan p = record {
  number = p.number;
  content = p.content.items;
  list = map grant (arc_value p.list).items;
}

-- the object that a gathered one stands for, which is kept under its number
abbrev pub drafted : ℕ × ObjectDraft → ObjectPlan
drafted e = record {
  number = e.0;
  content = e.1.content.items;
  list = map grant e.1.list.items;
}

-- what stands where there is no object
abbrev pub nothing : ObjectPlan
nothing = record { number = 0; content = []; list = [] }

-- the number of the object at place i
abbrev pub number_at : List ObjectPlan → ℕ → ℕ
number_at plans i = rows.number_at (λ p. p.number) nothing plans i

-- the numbers rise, so no number comes twice
abbrev pub AreByNumber : List ObjectPlan → Type 0
AreByNumber plans = rows.IsAscending (λ p. p.number) nothing plans

-- the object at place i has the number
abbrev pub IsAt : List ObjectPlan → ℕ → ℕ → Type 0
IsAt plans number i = rows.IsAt (λ p. p.number) nothing plans number i

-- the number would go at place i: smaller numbers before it, and greater ones from it on
abbrev pub IsGapFor : List ObjectPlan → ℕ → ℕ → Type 0
IsGapFor plans number i = rows.IsGapFor (λ p. p.number) nothing plans number i

-- the new objects are the old ones and this one, found by its number
pub record AddsPlan (old new : List ObjectPlan) (p : ObjectPlan) : Type 0 where
  pub this_plan : object_of new p.number ≡ Some p
  pub other_plans : (n : ℕ) → n ≢ p.number → object_of new n ≡ object_of old n
  pub count : length new ≡ length old + 1

-- a look-up finds the same in both, and they have as many objects
pub record HoldsPlans (plans list : List ObjectPlan) : Type 0 where
  pub each : (number : ℕ) → object_of plans number ≡ object_of list number
  pub count : length plans ≡ length list

-- the object of the number is changed so, where there is one, and the others are the old ones
pub record ChangesPlan (old new : List ObjectPlan) (number : ℕ)
    (change : ObjectPlan → ObjectPlan) : Type 0 where
  pub this_plan : object_of new number ≡ option_map change (object_of old number)
  pub other_plans : (n : ℕ) → n ≢ number → object_of new n ≡ object_of old n
  pub count : length new ≡ length old
