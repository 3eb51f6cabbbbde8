-- Entries by their places, and places by their cells.
use Rattle.std.proofs.Common.{◌≡◌, ◌⊎◌, ℕ, ◌<◌, Bool, true, cond, List, [], ◌∷◌, ◌++◌, length, map, get_or, slice_get, Option, Some, None, All, Contains, refl, sym, ap, subst, ◌∙◌, inl, inr, arith}
use Rattle.std.specs.List.{cons_option}
use Rattle.std.proofs.lemmas.Bool.{cases_Bool, eqb-true, false≢true}
use Rattle.std.proofs.lemmas.List.{get_or_append_left}
use Rattle.std.proofs.lemmas.List.Elements.{All-nil, All-cons, All-head, All-tail, All-append, All-contains, All-map, All-contains_itself}
use Rattle.std.proofs.lemmas.Option.{get_or_from_slice_get, slice_get-get_or}
use Rattle.taos_calculus.proofs.Building.{slice_get-back}
use Rattle.agent_core.specs.Journals.{Begins, Stands}
use Rattle.request_course.specs.AtObject.{Seeking, Own, places_at}
use Rattle.request_course.specs.Cells.{Cell, OfShard, OfObject, Place, in_shard, in_object, is_cell, number_in, numbers_in}
use Rattle.request_course.specs.Effects.{its_place}

-- ---- entries

pub stands_at : {E : Type 0} {journal before : List E} {place : ℕ} {e : E} → Stands journal place before e → slice_get journal place ≡ Some e
stands_at {before = before} {place = place} {e = e} s = ap (λ l. slice_get l place) s.is ∙ slice_get-back before (e ∷ s.rest) 0 place (omega (arith, s.placed))

-- an entry that was there before the journal went on
pub was_there : {E : Type 0} (xs ys : List E) (k : ℕ) (e : E) → Begins xs ys → k < length xs → slice_get ys k ≡ Some e → slice_get xs k ≡ Some e
was_there xs ys k e b within at =
    let there : slice_get (xs ++ b.rest) k ≡ Some e = ap (λ l. slice_get l k) (sym b.is) ∙ at in
    slice_get-get_or xs k e within ∙ ap Some (sym (get_or_append_left xs b.rest e k within) ∙ get_or_from_slice_get (xs ++ b.rest) k e e there)

-- ---- cells

same_cell : (c d : Cell) → is_cell c d ≡ true → d ≡ c
same_cell (OfShard s) (OfShard t) e = ap OfShard (sym (eqb-true s t e))
same_cell (OfObject o) (OfObject p) e = ap OfObject (sym (eqb-true o p e))
same_cell _ _ e = absurd (false≢true e)

-- a place is in the cell by its number, or not
pub seen_in : (cell : Cell) (p : Place) → ((number_in cell p ≡ Some p.number) × (p.cell ≡ cell)) ⊎ (number_in cell p ≡ None)
seen_in cell p = elim (cases_Bool (is_cell cell p.cell)) [
  | inl e ↦ inl (ap (λ (b : Bool). cond b (Some p.number) None) e, same_cell cell p.cell e)
  | inr e ↦ inr (ap (λ (b : Bool). cond b (Some p.number) None) e)
]

-- what holds of the places in a cell holds of their numbers
pub numbers_all : (P : ℕ → Type 0) (cell : Cell) (places : List Place) → All (λ (p : Place). p.cell ≡ cell → P p.number) places → All P (numbers_in cell places)
numbers_all P cell [] all = All-nil P
numbers_all P cell (p ∷ places) all =
    let rest = numbers_all P cell places (All-tail (λ (q : Place). q.cell ≡ cell → P q.number) p places all) in
    elim (seen_in cell p) [
      | inl here ↦ subst (All P) (sym (ap (λ (o : Option ℕ). cons_option o (numbers_in cell places)) here.0))
          (All-cons P p.number (numbers_in cell places) (All-head (λ (q : Place). q.cell ≡ cell → P q.number) p places all here.1) rest)
      | inr none ↦ subst (All P) (sym (ap (λ (o : Option ℕ). cons_option o (numbers_in cell places)) none)) rest
    ]

-- ---- places of a request at objects

shard_is_not : (s k o n : ℕ) → in_shard s k ≡ in_object o n → ⊥
shard_is_not s k o n e = two_cells s o (ap (λ (p : Place). p.cell) e)
  where
    two_cells : (s o : ℕ) → OfShard s ≡ OfObject o → ⊥
    two_cells s o e = cc

object_is : (t k o n : ℕ) → in_object t k ≡ in_object o n → (o ≡ t) × (n ≡ k)
object_is t k o n e = (one_cell t o (ap (λ (p : Place). p.cell) e), sym (ap (λ (p : Place). p.number) e))
  where
    one_cell : (t o : ℕ) → OfObject t ≡ OfObject o → o ≡ t
    one_cell t o e = cc

-- where it is one of an object, it is one of these of this object
abbrev IsRuling : ℕ → List ℕ → Place → Type 0
IsRuling t ruling p = (o n : ℕ) → p ≡ in_object o n → (o ≡ t) × Contains ruling n

-- of a request's own places only that of the ruling is at an object
pub ruling_place : (x : Seeking) (own : Own) (o n : ℕ) → Contains (places_at x own) (in_object o n) → (o ≡ x.request.object) × Contains own.ruling n
ruling_place x own o n has =
    let t = x.request.object in
    let Is = IsRuling t own.ruling in
    All-contains Is (places_at x own) (in_object o n)
    (All-append Is (map (in_shard x.shard) own.asks ++ map (in_object t) own.ruling) (map its_place own.steps)
    (All-append Is (map (in_shard x.shard) own.asks) (map (in_object t) own.ruling)
    (All-map Is (in_shard x.shard) own.asks (λ k d lt i j e. absurd (shard_is_not x.shard (get_or own.asks k d) i j e)))
    (All-map Is (in_object t) own.ruling (λ k d lt. at_object t own.ruling (get_or own.ruling k d) (All-contains_itself own.ruling k d lt))))
    (All-map Is its_place own.steps (λ k d lt i j e. absurd (shard_is_not (get_or own.steps k d).shard (get_or own.steps k d).place i j e)))) has o n refl
  where
    at_object : (t : ℕ) (ruling : List ℕ) (k : ℕ) → Contains ruling k → IsRuling t ruling (in_object t k)
    at_object t ruling k there i j e = let is = object_is t k i j e in (is.0, subst (Contains ruling) (sym is.1) there)

-- a list of one has no other
pub the_only : (k n : ℕ) → Contains (k ∷ []) n → n ≡ k
the_only k n has = All-contains (λ (i : ℕ). i ≡ k) (k ∷ []) n (All-cons (λ (i : ℕ). i ≡ k) k [] refl (All-nil (λ (i : ℕ). i ≡ k))) has
