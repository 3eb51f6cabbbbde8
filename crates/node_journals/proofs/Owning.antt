-- Places of which none is own twice: each is one request's.
use Rattle.std.proofs.Common.{◌≡◌, ◌≢◌, inl, inr, ℕ, ◌<◌, ◌≤◌, Bool, true, false, eqb, List, [], ◌∷◌, ◌++◌, refl, sym, ap, subst, ◌∙◌, arith}
use Rattle.std.specs.Prelude.{All, AllPairs}
use Rattle.std.proofs.lemmas.Bool.{cases_eq}
use Rattle.std.proofs.lemmas.Bool.Decides.{nat_tests}
use Rattle.std.proofs.lemmas.List.Kept.{AllPairs-cons}
use Rattle.turn_cell.specs.Journal.{times}
use Rattle.request_course.specs.Cells.{Cell, Journals, Node, OfObject, OfShard, Place, entries_in, is_cell, numbers_in, AreLegal}
use Rattle.request_course.specs.Run.{IsCourse, Turn, places_of}
use Rattle.node_journals.specs.Works.{In}
use Rattle.node_journals.proofs.Members.{in_all, in_left, in_right, in_times, one_here, times-cons, times_in}
use Rattle.node_journals.proofs.Members as members
use Rattle.node_journals.proofs.Ordering.{pairs_first, pairs_tail}

-- the place of this number in the cell
abbrev pub at_cell : Cell → ℕ → Place
at_cell cell number = record { cell = cell; number = number }

-- What came of all requests: the journals are legal, the course of each request stands in them, no place is own twice, and each place is own of one.
pub record Came (n : Node) (J : Journals) : Type 0 where
  pub legal : AreLegal n J
  pub turns : List Turn
  pub courses : All (IsCourse n J) turns
  pub apart : AllPairs (λ (p q : Place). p ≢ q) (places_of turns)
  pub each : (cell : Cell) (number : ℕ) → number < entries_in J cell → In (at_cell cell number) (places_of turns)

-- ---- cells and numbers

true_eq : (a b : ℕ) → eqb a b ≡ true → a ≡ b
true_eq a b e = elim (cases_eq a b) [
  | inl same ↦ same
  | inr other ↦ let no : eqb a b ≡ false = grind (arith, nat_tests, other) in absurd (cc (e, no))
]

eq_true : (a : ℕ) → eqb a a ≡ true
eq_true a = grind (arith, nat_tests)

pub one_cell : (c d : Cell) → is_cell c d ≡ true → c ≡ d
one_cell (OfShard s) (OfShard t) e = ap OfShard (true_eq s t e)
one_cell (OfObject o) (OfObject p) e = ap OfObject (true_eq o p e)
one_cell (OfShard s) (OfObject p) e = absurd cc
one_cell (OfObject o) (OfShard t) e = absurd cc

same_cell : (c : Cell) → is_cell c c ≡ true
same_cell (OfShard s) = eq_true s
same_cell (OfObject o) = eq_true o

-- the numbers in a cell of one place more
module _ (cell : Cell) (p : Place) (ps : List Place) where
  pub taken : is_cell cell p.cell ≡ true → numbers_in cell (p ∷ ps) ≡ p.number ∷ numbers_in cell ps
  taken is = rw is refl

  pub left : is_cell cell p.cell ≡ false → numbers_in cell (p ∷ ps) ≡ numbers_in cell ps
  left is = rw is refl

placed : (cell : Cell) (p : Place) (k : ℕ) → cell ≡ p.cell → p.number ≡ k → p ≡ at_cell cell k
placed cell p k cells numbers = rw (cells, ← numbers) refl

found_more : (cell : Cell) (k : ℕ) (p : Place) (ps : List Place) (b : Bool) → is_cell cell p.cell ≡ b → In k (numbers_in cell (p ∷ ps)) → (In k (numbers_in cell ps) → In (at_cell cell k) ps) → In (at_cell cell k) (p ∷ ps)
found_more cell k p ps true is h more = elim (subst (In k) (taken cell p ps is) h) [
  | inl same ↦ inl (placed cell p k (one_cell cell p.cell is) same)
  | inr later ↦ inr (more later)
]
found_more cell k p ps false is h more = inr (more (subst (In k) (left cell p ps is) h))

-- a number in a cell is that of a place
pub in_numbers : (cell : Cell) (k : ℕ) (ps : List Place) → In k (numbers_in cell ps) → In (at_cell cell k) ps
in_numbers cell k [] h = absurd h
in_numbers cell k (p ∷ ps) h = found_more cell k p ps (is_cell cell p.cell) refl h (in_numbers cell k ps)

number_stays : (p q : Place) (ps : List Place) (b : Bool) → is_cell p.cell q.cell ≡ b → In p.number (numbers_in p.cell ps) → In p.number (numbers_in p.cell (q ∷ ps))
number_stays p q ps true is there = subst (In p.number) (sym (taken p.cell q ps is)) (inr there)
number_stays p q ps false is there = subst (In p.number) (sym (left p.cell q ps is)) there

-- and a place has its number there
pub numbers_have : (p : Place) (ps : List Place) → In p ps → In p.number (numbers_in p.cell ps)
numbers_have p [] h = absurd h
numbers_have p (q ∷ ps) (inl same) = subst (λ (x : Place). In x.number (numbers_in x.cell (q ∷ ps))) same (subst (In q.number) (sym (taken q.cell q ps (same_cell q.cell))) (inl refl))
numbers_have p (q ∷ ps) (inr later) = number_stays p q ps (is_cell p.cell q.cell) refl (numbers_have p ps later)

-- how often a place is own, with one more in front
times_more : (cell : Cell) (k : ℕ) (p : Place) (ps : List Place) → times k (numbers_in cell ps) ≤ times k (numbers_in cell (p ∷ ps))
times_more cell k p ps = by (is_cell cell p.cell) refl
  where
    by : (b : Bool) → is_cell cell p.cell ≡ b → times k (numbers_in cell ps) ≤ times k (numbers_in cell (p ∷ ps))
    by true is = omega (arith, ap (times k) (taken cell p ps is), times-cons k p.number (numbers_in cell ps))
    by false is = omega (arith, ap (times k) (left cell p ps is))

-- where each number in each cell stands at most once, no place does twice
pub all_apart : (ps : List Place) → ((cell : Cell) (k : ℕ) → times k (numbers_in cell ps) ≤ 1) → AllPairs (λ (p q : Place). p ≢ q) ps
all_apart [] once = λ i j d less within. absurd (omega arith)
all_apart (p ∷ ps) once = AllPairs-cons (λ (a b : Place). a ≢ b) p ps (in_all (λ (q : Place). p ≢ q) ps (λ q is same. twice q is same)) (all_apart ps (λ cell k. omega (arith, once cell k, times_more cell k p ps)))
  where
    twice : (q : Place) → In q ps → p ≡ q → ⊥
    twice q is same =
        let there : In p ps = subst (λ (x : Place). In x ps) (sym same) is in
        let more : 0 < times p.number (numbers_in p.cell ps) = times_in p.number (numbers_in p.cell ps) (numbers_have p ps there) in
        omega (arith, once p.cell p.number, ap (times p.number) (taken p.cell p ps (same_cell p.cell)), times-cons p.number p.number (numbers_in p.cell ps), one_here p.number p.number refl, more)

-- ---- requests

abbrev its_places : Turn → List Place
its_places t = t.used.places

none_in_both : (xs ys : List Place) → AllPairs (λ (p q : Place). p ≢ q) (xs ++ ys) → (p : Place) → In p xs → In p ys → ⊥
none_in_both [] ys apart p is also = is
none_in_both (x ∷ xs) ys apart p (inl same) also = pairs_first (λ (a b : Place). a ≢ b) x (xs ++ ys) apart p (in_right p xs ys also) same
none_in_both (x ∷ xs) ys apart p (inr later) also = none_in_both xs ys (pairs_tail (λ (a b : Place). a ≢ b) x (xs ++ ys) apart) p later also

apart_behind : (xs ys : List Place) → AllPairs (λ (p q : Place). p ≢ q) (xs ++ ys) → AllPairs (λ (p q : Place). p ≢ q) ys
apart_behind [] ys apart = apart
apart_behind (x ∷ xs) ys apart = apart_behind xs ys (pairs_tail (λ (a b : Place). a ≢ b) x (xs ++ ys) apart)

-- two requests of one place are one
pub one_turn : (turns : List Turn) → AllPairs (λ (p q : Place). p ≢ q) (places_of turns) → (p : Place) (t u : Turn) → In t turns → In u turns → In p (its_places t) → In p (its_places u) → t ≡ u
one_turn [] apart p t u is also has have = absurd is
one_turn (v ∷ turns) apart p t u (inl one) (inl other) has have = sym one ∙ other
one_turn (v ∷ turns) apart p t u (inl one) (inr other) has have =
    absurd (none_in_both (its_places v) (places_of turns) apart p (subst (λ (x : Turn). In p (its_places x)) (sym one) has) (members.flat_in its_places turns u p other have))
one_turn (v ∷ turns) apart p t u (inr one) (inl other) has have =
    absurd (none_in_both (its_places v) (places_of turns) apart p (subst (λ (x : Turn). In p (its_places x)) (sym other) have) (members.flat_in its_places turns t p one has))
one_turn (v ∷ turns) apart p t u (inr one) (inr other) has have = one_turn turns (apart_behind (its_places v) (places_of turns) apart) p t u one other has have
