-- Own places where the effect of a granted operation stands are those of its steps.
use Rattle.std.proofs.Common.{◌≡◌, ℕ, zero, suc, ◌+◌, ◌<◌, Bool, List, [], ◌∷◌, ◌++◌, length, map, get_or, All, Contains, Option, refl, sym, ap, subst, ◌∙◌, inl, inr, arith, length-append}
use Rattle.std.specs.List.{range_with_len}
use Rattle.std.proofs.Math.Seq.{get_or-append_seam}
use Rattle.std.proofs.lemmas.List.{get_or-map, get_or_append_left, length-map}
use Rattle.std.proofs.lemmas.List.Elements.{All-cons, All-contains, All-nil, Contains-append_cases, Contains-append_left, Contains-append_right, Contains-get_or}
use Rattle.std.proofs.lemmas.List.FromFn.{get_or-range_with_len, length-range_with_len}
use Rattle.std.proofs.lemmas.List.Sums.{get_or-le-sum_by, sum_by-cons}
use Rattle.object_core.specs.Operation.{Op, Read, Write, SetList, Forget}
use Rattle.proof_cache.specs.Cached.{Cached}
use Rattle.agent_core.specs.declared.asked.Settled.{Settled}
use Rattle.agent_core.specs.declared.told.Told.{Told}
use Rattle.agent_core.specs.Asked.{IsToldOf, IsGrant, by_kept, was_kept, was_dropped, had_no_room}
use Rattle.agent_core.specs.Journals.{Entry, entry, Stands}
use Rattle.agent_core.specs.State.{Plan, Ask, Event, Asks, Keeps}
use Rattle.request_course.specs.AtObject.{Seeking, own_at, places_at}
use Rattle.request_course.specs.Causes.{TookStep, SomeLetGo}
use Rattle.request_course.specs.Cells.{Node, HasPlan, Journals, AreLegal, Place, OfShard, OfObject, in_shard, in_object}
use Rattle.request_course.specs.Effects.{ShardStep, step_at, its_place, IsStep, LetsGo, removed_by}
use Rattle.request_course.specs.Operations.{IsEffect, targets_of}
use Rattle.request_course.proofs.Agreeing.{same_entry, IsEntry, one_step}
use Rattle.request_course.proofs.Complete.{effect, has_plan, owned_step}
use Rattle.request_course.proofs.Effecting.{is_effect}

-- ---- places

-- what is in a list of values came from one of its elements
pub unmapped : {X Y : Type 0} (f : X → Y) (d : X) (xs : List X) (y : Y) → Contains (map f xs) y → (x : X) × Contains xs x × (f x ≡ y)
unmapped f d xs y (i, lt, at) =
    let within : i < length xs = omega (arith, lt, length-map xs f) in
    (get_or xs i d, Contains-get_or xs i d within, sym (get_or-map f xs i d y within) ∙ at)

same_shard : (s p t q : ℕ) → in_shard s p ≡ in_shard t q → (s ≡ t) × (p ≡ q)
same_shard s p t q e = (cells s t (ap (λ (x : Place). x.cell) e), ap (λ (x : Place). x.number) e)
  where
    cells : (s t : ℕ) → OfShard s ≡ OfShard t → s ≡ t
    cells s t e = cc

no_object : (o at s p : ℕ) → in_object o at ≡ in_shard s p → ⊥
no_object o at s p e = apart o s (ap (λ (x : Place). x.cell) e)
  where
    apart : (o s : ℕ) → OfObject o ≡ OfShard s → ⊥
    apart o s e = cc

-- the entry at this place of the shard is none of an effect
pub record IsAside (journal : List Entry) (place : ℕ) : Type 0 where
  pub before : List Entry
  pub event : Event
  pub told : Told
  pub stands : Stands journal place before (entry event told)
  pub aside : IsEffect event → ⊥

module _ (plan : Plan) (journal : List Entry) (a : Ask) (place e : ℕ) (c : Cached) where
  one_aside : (before : List Entry) (told : Told) → Stands journal place before (entry (Asks a) told) → All (IsAside journal) (place ∷ [])
  one_aside before told s = All-cons (IsAside journal) place [] (record { before = before; event = Asks a; told = told; stands = s; aside = λ is. is }) (All-nil (IsAside journal))

  two_aside : (keep : ℕ) (before : List Entry) (told said : Told) → Stands journal place before (entry (Asks a) told) → IsToldOf plan journal a (Keeps place e c) keep said → All (IsAside journal) (place ∷ keep ∷ [])
  two_aside keep before told said s t =
      All-cons (IsAside journal) place (keep ∷ []) (record { before = before; event = Asks a; told = told; stands = s; aside = λ is. is })
      (All-cons (IsAside journal) keep [] (record { before = t.0; event = Keeps place e c; told = said; stands = t.1; aside = λ is. is }) (All-nil (IsAside journal)))

  -- at the places of an ask that is granted no effect stands
  pub grant_aside : (kept : Bool) (settled : Settled) (own : List ℕ) → IsGrant plan journal a place e c kept settled own → All (IsAside journal) own
  grant_aside kept settled own (by_kept g) = one_aside g.before (Told.Hit e) g.stands
  grant_aside kept settled own (was_kept {keep} g t) = two_aside keep g.before Told.Miss Told.Kept g.stands t
  grant_aside kept settled own (was_dropped {keep} {cause} g t) = two_aside keep g.before Told.Miss (Told.Dropped cause) g.stands t
  grant_aside kept settled own (had_no_room g at) = one_aside g.before Told.Miss g.stands

-- ---- the shards that are stepped

once_in_range : (first count shard : ℕ) (front rest : List ℕ) → range_with_len first count ≡ front ++ shard ∷ rest → Contains front shard → ⊥
once_in_range first count shard front rest is (i, lt, at) =
    let long : count ≡ length front + (1 + length rest) = sym (length-range_with_len first count) ∙ ap length is ∙ length-append front (shard ∷ rest) ∙ omega arith in
    let here : first + length front ≡ shard = sym (get_or-range_with_len first count (length front) shard (omega (arith, long))) ∙ ap (λ (l : List ℕ). get_or l (length front) shard) is ∙ get_or-append_seam front shard rest shard in
    let there : first + i ≡ shard = sym (get_or-range_with_len first count i shard (omega (arith, long, lt))) ∙ ap (λ (l : List ℕ). get_or l i shard) is ∙ get_or_append_left front (shard ∷ rest) shard i lt ∙ at in
    omega (arith, here, there, lt)

at_most_one : (h shard : ℕ) (front rest : List ℕ) → h ∷ [] ≡ front ++ shard ∷ rest → Contains front shard → ⊥
at_most_one h shard front rest is (i, lt, at) = omega (arith, lt, ap (λ (l : List ℕ). length l) is, length-append front (shard ∷ rest))

none_of_none : (shard : ℕ) (front rest : List ℕ) → [] ≡ front ++ shard ∷ rest → ⊥
none_of_none shard front rest is = omega (arith, ap (λ (l : List ℕ). length l) is, length-append front (shard ∷ rest))

-- no shard is stepped twice
pub stepped_once : (plans : List Plan) (op : Op) (shard : ℕ) (front rest : List ℕ) → targets_of plans op ≡ front ++ shard ∷ rest → Contains front shard → ⊥
stepped_once plans Read shard front rest is c = none_of_none shard front rest is
stepped_once plans (Write new) shard front rest is c = none_of_none shard front rest is
stepped_once plans (SetList list) shard front rest is c = none_of_none shard front rest is
stepped_once plans (Forget channel) shard front rest is c = at_most_one _ shard front rest is c
stepped_once plans _ shard front rest is c = once_in_range 0 (length plans) shard front rest is c

-- ---- what was let go

pub some_removed : (told : Told) → 0 < removed_by told → (count : ℕ) × (0 < count) × (told ≡ Told.Removed count)
some_removed (Told.Removed count) some = (count, some, refl)
some_removed _ some = absurd (omega (arith, some))

-- a step that let go of some
abbrev pub HasLetGo : List ShardStep → Type 0
HasLetGo steps = (d : ShardStep) × Contains steps d × (0 < removed_by d.told)

first_or_later : (s : ShardStep) (steps : List ShardStep) → (LetsGo steps → HasLetGo steps) → LetsGo (s ∷ steps) → (k : ℕ) → removed_by s.told ≡ k → HasLetGo (s ∷ steps)
first_or_later s steps later some zero none =
    let (d, there, more) = later (omega (arith, some, none, sum_by-cons (λ (x : ShardStep). removed_by x.told) s steps)) in
    (d, Contains-append_right (s ∷ []) steps d there, more)
first_or_later s steps later some (suc k) is = (s, Contains-append_left (s ∷ []) steps s (0, omega arith, refl), omega (arith, is))

pub one_let_go : (steps : List ShardStep) → LetsGo steps → HasLetGo steps
one_let_go [] some = absurd (omega (arith, some))
one_let_go (s ∷ steps) some = first_or_later s steps (λ more. one_let_go steps more) some (removed_by s.told) refl

-- ---- own places

module _ (n : Node) (J : Journals) (legal : AreLegal n J) (x : Seeking) (plan : Plan) (planned : HasPlan n x.shard plan) (asks ruling : List ℕ) (steps : List ShardStep) where
  abbrev own : List Place
  own = places_at x (own_at asks ruling steps)

  abbrev its_effect : Option Event
  its_effect = effect n J legal x plan planned

  -- a step of the effect is at an own place
  pub took : (d : ShardStep) → Contains steps d → IsStep J.shards its_effect d → d.shard < length n.plans → TookStep n J own x d.shard d.told
  took d there s lt = record {
    event = s.event;
    effect_is = s.effect_is;
    step = record {
      plan = get_or n.plans d.shard plan;
      planned = has_plan n J legal x plan planned d.shard lt;
      place = d.place;
      owned = owned_step n J legal x plan planned asks ruling steps d there;
      before = s.before;
      stands = s.stands;
    };
  }

  module _ (aside : All (IsAside (J.shards x.shard)) asks) (entries : All (IsEntry J.shards) steps) where
    among_steps : (s p : ℕ) (before : List Entry) (event : Event) (told : Told) → Stands (J.shards s) p before (entry event told) → IsEffect event → (d : ShardStep) → its_place d ≡ in_shard s p → Contains steps d → Contains steps (step_at s p told)
    among_steps s p before event told stands is d at there =
        subst (Contains steps) (one_step J.shards d (step_at s p told) (All-contains (IsEntry J.shards) steps d entries there) (event, before, stands) at) there

    not_asking : (s p : ℕ) (before : List Entry) (event : Event) (told : Told) → Stands (J.shards s) p before (entry event told) → IsEffect event → Contains (map (in_shard x.shard) asks) (in_shard s p) → ⊥
    not_asking s p before event told stands is c =
        let (q, there, at) = unmapped (in_shard x.shard) 0 asks (in_shard s p) c in
        let (shard, place) = same_shard x.shard q s p at in
        let a = All-contains (IsAside (J.shards x.shard)) asks q aside there in
        let stood = subst (λ (h : ℕ). Stands (J.shards h) p before (entry event told)) (sym shard) stands in
        let same = same_entry (J.shards x.shard) a.before before p (entry a.event a.told) (entry event told) (subst (λ (k : ℕ). Stands (J.shards x.shard) k a.before (entry a.event a.told)) place a.stands) stood in
        a.aside (subst IsEffect (sym (ap (λ (e : Entry). e.event) same)) is)

    not_ruling : (s p : ℕ) → Contains (map (in_object x.request.object) ruling) (in_shard s p) → ⊥
    not_ruling s p c =
        let (at, there, same) = unmapped (in_object x.request.object) 0 ruling (in_shard s p) c in
        no_object x.request.object at s p same

    -- what an own place tells of the effect, a step does
    pub located : (shard : ℕ) (told : Told) → TookStep n J own x shard told → (place : ℕ) × Contains steps (step_at shard place told)
    located shard told t =
        let p = t.step.place in
        let is = is_effect x.request.op x.certs x.reading t.event t.effect_is in
        let front = map (in_shard x.shard) asks ++ map (in_object x.request.object) ruling in (
          p,
          elim (Contains-append_cases front (map its_place steps) (in_shard shard p) t.step.owned) [
            | inl before ↦ elim (Contains-append_cases (map (in_shard x.shard) asks) (map (in_object x.request.object) ruling) (in_shard shard p) before) [
              | inl asking ↦ absurd (not_asking shard p t.step.before t.event told t.step.stands is asking)
              | inr ruled ↦ absurd (not_ruling shard p ruled)
            ]
            | inr stepped ↦
                let (d, there, at) = unmapped its_place (step_at 0 0 Told.Miss) steps (in_shard shard p) stepped in
                among_steps shard p t.step.before t.event told t.step.stands is d at there
          ],
        )

    -- where an own place tells that some were let go, the steps let go
    pub lets_go : SomeLetGo n J own x → LetsGo steps
    lets_go (shard, count, some, t) =
        let (place, (i, lt, at)) = located shard (Told.Removed count) t in
        omega (arith, some, get_or-le-sum_by (λ (s : ShardStep). removed_by s.told) steps i (step_at shard place (Told.Removed count)) lt, ap (λ (s : ShardStep). removed_by s.told) at)
