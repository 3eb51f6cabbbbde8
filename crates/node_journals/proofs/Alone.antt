-- What came of the requests of a connection that was served alone.
use Rattle.std.proofs.Common.{◌≡◌, ◌≢◌, inl, inr, ℕ, ◌+◌, ◌<◌, ◌≤◌, Bool, true, false, List, [], ◌∷◌, length, refl, sym, ap, subst, arith}
use Rattle.std.specs.Prelude.{AllPairs}
use Rattle.std.proofs.lemmas.Bool.{cases_eq}
use Rattle.frame_link.specs.declared.outcome.Outcome.{Outcome}
use Rattle.frame_link.specs.Served.{Line}
use Rattle.request_course.specs.Cells.{Cell, GoesOn, IsAfter, Journals, Node, OfObject, OfShard, Place, Seen, alone_of, entries_in, is_cell, no_entries, numbers_in}
use Rattle.request_course.specs.Connection.{IsConnection}
use Rattle.request_course.specs.World.{World, setting_of}
use Rattle.node_journals.specs.Works.{In}
use Rattle.node_journals.proofs.Members.{all_in}
use Rattle.node_journals.proofs.Ordering.{Rises, pairs_first, pairs_tail}
use Rattle.node_journals.specs.LeftLaws.{HasServed, lanes, alone}
use Rattle.node_journals.proofs.Owning.{Came, at_cell, in_numbers, left, one_cell, taken}
use Rattle.node_journals.proofs.Placing.{came_of_lanes}

-- ---- numbers that rise

rises_few : (ns : List ℕ) (low high : ℕ) → low ≤ high → Rises ns → ((m : ℕ) → In m ns → (low ≤ m) × (m < high)) → length ns + low ≤ high
rises_few [] low high order rises bounds = omega (arith, order)
rises_few (h ∷ ns) low high order rises bounds =
    let here = bounds h (inl refl) in
    let rest = rises_few ns (h + 1) high (omega (arith, here.1)) rises.1 (λ m is. let later = bounds m (inr is) in (omega (arith, rises.0 m is), later.1)) in
    omega (arith, here.0, rest)

-- as many as there are between the bounds are all of them
each_number : (ns : List ℕ) (low : ℕ) → Rises ns → ((m : ℕ) → In m ns → (low ≤ m) × (m < low + length ns)) → (k : ℕ) → low ≤ k → k < low + length ns → In k ns
each_number [] low rises bounds k from below = absurd (omega (arith, from, below))
each_number (h ∷ ns) low rises bounds k from below =
    let here = bounds h (inl refl) in
    let few : length ns + (h + 1) ≤ low + length (h ∷ ns) = rises_few ns (h + 1) (low + length (h ∷ ns)) (omega (arith, here.1)) rises.1 (λ m is. let later = bounds m (inr is) in (omega (arith, rises.0 m is), later.1)) in
    let first : h ≡ low = omega (arith, few, here.0) in
    elim (cases_eq h k) [
      | inl same ↦ inl same
      | inr other ↦ inr (each_number ns (low + 1) rises.1 (λ m is. let later = bounds m (inr is) in (omega (arith, first, rises.0 m is), omega (arith, later.1))) k (omega (arith, from, first, other)) (omega (arith, below)))
    ]

one_rises : (cell : Cell) (p : Place) (ps : List Place) → AllPairs IsAfter (p ∷ ps) → (b : Bool) → is_cell cell p.cell ≡ b → Rises (numbers_in cell ps) → Rises (numbers_in cell (p ∷ ps))
one_rises cell p ps ascending true is rises =
    let later : (m : ℕ) → In m (numbers_in cell ps) → p.number < m = λ m there. pairs_first IsAfter p ps ascending (at_cell cell m) (in_numbers cell m ps there) (sym (one_cell cell p.cell is)) in
    subst Rises (sym (taken cell p ps is)) (later, rises)
one_rises cell p ps ascending false is rises = subst Rises (sym (left cell p ps is)) rises

-- the numbers in a cell rise where its places do
numbers_rise : (cell : Cell) (ps : List Place) → AllPairs IsAfter ps → Rises (numbers_in cell ps)
numbers_rise cell [] ascending = tt
numbers_rise cell (p ∷ ps) ascending = one_rises cell p ps ascending (is_cell cell p.cell) refl (numbers_rise cell ps (pairs_tail IsAfter p ps ascending))

all_alone : (cell : Cell) → alone_of true true cell ≡ true
all_alone (OfShard s) = refl
all_alone (OfObject o) = refl

no_entry : (cell : Cell) → entries_in no_entries cell ≡ 0
no_entry (OfShard s) = refl
no_entry (OfObject o) = refl

-- ---- the places of a connection are all that there are

module _ (old new : Seen) (places : List Place) (begun : old.journals ≡ no_entries) (g : GoesOn (alone_of true true) old new places) where
  places_differ : AllPairs (λ (p q : Place). p ≢ q) places
  places_differ i j d less within same = omega (arith, g.ascending i j d less within (ap (λ (p : Place). p.cell) same), ap (λ (p : Place). p.number) same)

  as_many : (cell : Cell) → entries_in new.journals cell ≡ length (numbers_in cell places)
  as_many cell = omega (arith, g.undisturbed cell (all_alone cell), ap (λ (J : Journals). entries_in J cell) begun, no_entry cell)

  each_place : (cell : Cell) (k : ℕ) → k < entries_in new.journals cell → In (at_cell cell k) places
  each_place cell k below =
      let ns : List ℕ = numbers_in cell places in
      let bounds : (m : ℕ) → In m ns → (0 ≤ m) × (m < 0 + length ns) =
      λ m is. (omega arith, omega (arith, all_in (λ (p : Place). p.number < entries_in new.journals p.cell) places (at_cell cell m) g.there (in_numbers cell m places is), as_many cell)) in
      in_numbers cell k places (each_number ns 0 (numbers_rise cell places g.ascending) bounds k (omega arith) (omega (arith, below, as_many cell)))

module _ (n : Node) where
  came_alone : (limit : ℕ) (before after : Line World) (outcome : Outcome) → IsConnection (setting_of n (alone_of true true)) limit before after outcome → before.service.seen.journals ≡ no_entries → Came n after.service.seen.journals
  came_alone limit before after outcome c begun =
      let old : Seen = before.service.seen in
      let new : Seen = after.service.seen in
      record {
        legal = c.legal;
        turns = c.answered.turns;
        courses = c.answered.courses;
        apart = subst (AllPairs (λ (p q : Place). p ≢ q)) c.answered.owned (places_differ old new c.used.places begun c.goes_on);
        each = λ cell k below. subst (In (at_cell cell k)) c.answered.owned (each_place old new c.used.places begun c.goes_on cell k below);
      }

  pub came_of : (J : Journals) → HasServed n J → Came n J
  came_of J (lanes runs serves) = came_of_lanes J runs serves
  came_of J (alone {limit = limit} {before = before} {after = after} {outcome = outcome} c begun is) = subst (Came n) is (came_alone limit before after outcome c begun)
