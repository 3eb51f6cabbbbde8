-- Journals that nobody else steps, entry by entry: an own place is the next one of its cell.
use Rattle.std.proofs.Common.{◌≡◌, ◌≢◌, ℕ, suc, ◌+◌, ◌<◌, ◌≤◌, Bool, true, false, cond, List, [], ◌∷◌, ◌++◌, length, take, get_or, Some, None, All, AllPairs, refl, sym, ap, ap₂, subst, ◌∙◌, inl, inr, arith, append-nil, append_assoc, length-append}
use Rattle.std.specs.Prelude.{◌==◌}
use Rattle.std.proofs.Math.Path.{fun_ext}
use Rattle.std.proofs.Math.Seq.{take-append_seam}
use Rattle.std.proofs.lemmas.Bool.{cases_Bool, eqb-true, eq-eqb, false≢true}
use Rattle.std.proofs.lemmas.List.Elements.{All-head, All-tail}
use Rattle.object_core.specs.Objects.{ObjectEntry}
use Rattle.agent_core.specs.State.{at_channel}
use Rattle.agent_core.specs.Journals.{Entry, Begins, Stands}
use Rattle.request_course.specs.Cells.{Journals, Cell, OfShard, OfObject, Place, in_shard, in_object, is_cell, numbers_in, entries_in, IsAfter, Seen, GoesOn}

-- ---- cells

pub same_cell : (a b : Cell) → is_cell a b ≡ true → a ≡ b
same_cell (OfShard s) (OfShard t) e = ap OfShard (eqb-true s t e)
same_cell (OfObject o) (OfObject p) e = ap OfObject (eqb-true o p e)
same_cell _ _ e = absurd (false≢true e)

pub itself : (a : Cell) → is_cell a a ≡ true
itself (OfShard s) = eq-eqb s s refl
itself (OfObject o) = eq-eqb o o refl

picked : (b : Bool) (n : ℕ) → b ≡ true → cond b (Some n) None ≡ Some n
picked b n e = ap (λ (c : Bool). cond c (Some n) None) e

passed : (b : Bool) (n : ℕ) → b ≡ false → cond b (Some n) None ≡ None
passed b n e = ap (λ (c : Bool). cond c (Some n) None) e

numbers_here : (cell : Cell) (p : Place) (ps : List Place) → is_cell cell p.cell ≡ true → numbers_in cell (p ∷ ps) ≡ p.number ∷ numbers_in cell ps
numbers_here cell p ps e = rw (picked (is_cell cell p.cell) p.number e) refl

numbers_past : (cell : Cell) (p : Place) (ps : List Place) → is_cell cell p.cell ≡ false → numbers_in cell (p ∷ ps) ≡ numbers_in cell ps
numbers_past cell p ps e = rw (passed (is_cell cell p.cell) p.number e) refl

-- ---- own places of a journal

-- a place is within these
abbrev Within : Cell → ℕ → ℕ → Place → Type 0
Within cell low high p = p.cell ≡ cell → (low ≤ p.number) × (p.number < high)

after_head : (p : Place) (ps : List Place) → AllPairs IsAfter (p ∷ ps) → All (IsAfter p) ps
after_head p ps up = λ k d lt. up 0 (suc k) d (omega arith) (omega (arith, lt))

after_tail : (p : Place) (ps : List Place) → AllPairs IsAfter (p ∷ ps) → AllPairs IsAfter ps
after_tail p ps up = λ i j d lt within. up (suc i) (suc j) d (omega (arith, lt)) (omega (arith, within))

-- ascending places between two numbers are few
few : (cell : Cell) (ps : List Place) (low high : ℕ) → low ≤ high → All (Within cell low high) ps → AllPairs IsAfter ps → low + length (numbers_in cell ps) ≤ high
few cell [] low high le all up = omega (arith, le)
few cell (p ∷ ps) low high le all up = elim (cases_Bool (is_cell cell p.cell)) [
  | inl same ↦
      let here : p.cell ≡ cell = sym (same_cell cell p.cell same) in
      let (from, below) = All-head (Within cell low high) p ps all here in
      let later = after_head p ps up in
      let rest = All-tail (Within cell low high) p ps all in
      let more = few cell ps (p.number + 1) high (omega (arith, below)) (λ k d lt is. (omega (arith, later k d lt (here ∙ sym is)), (rest k d lt is).1)) (after_tail p ps up) in
      omega (arith, more, from, ap (λ (l : List ℕ). length l) (numbers_here cell p ps same))
  | inr not ↦
      let more = few cell ps low high le (All-tail (Within cell low high) p ps all) (after_tail p ps up) in
      omega (arith, more, ap (λ (l : List ℕ). length l) (numbers_past cell p ps not))
]

-- ---- journals that go on by own places alone

pub record Grows (K J : Journals) (places : List Place) : Type 0 where
  pub shards : (s : ℕ) → Begins (K.shards s) (J.shards s)
  pub objects : (o : ℕ) → Begins (K.objects o) (J.objects o)
  pub new : All (λ (p : Place). entries_in K p.cell ≤ p.number) places
  pub there : All (λ (p : Place). p.number < entries_in J p.cell) places
  pub ascending : AllPairs IsAfter places
  pub grown : (cell : Cell) → entries_in J cell ≡ entries_in K cell + length (numbers_in cell places)

pub grows_alone : (alone : Cell → Bool) → ((cell : Cell) → alone cell ≡ true) → (old new : Seen) (places : List Place) → GoesOn alone old new places → Grows old.journals new.journals places
grows_alone alone lone old new places g = record {
  shards = g.goes_on.shards;
  objects = g.goes_on.objects;
  new = g.new_places;
  there = g.there;
  ascending = g.ascending;
  grown = λ cell. g.undisturbed cell (lone cell);
}

-- the first place is the next one of its cell
next_place : (K J : Journals) (p : Place) (ps : List Place) → Grows K J (p ∷ ps) → p.number ≡ entries_in K p.cell
next_place K J p ps g =
    let from = All-head (λ (q : Place). entries_in K q.cell ≤ q.number) p ps g.new in
    let below = All-head (λ (q : Place). q.number < entries_in J q.cell) p ps g.there in
    let there = All-tail (λ (q : Place). q.number < entries_in J q.cell) p ps g.there in
    let later = after_head p ps g.ascending in
    let more = few p.cell ps (p.number + 1) (entries_in J p.cell) (omega (arith, below))
    (λ k d lt is. (omega (arith, later k d lt (sym is)), omega (arith, there k d lt, ap (entries_in J) is))) (after_tail p ps g.ascending) in
    omega (arith, from, more, g.grown p.cell, ap (λ (l : List ℕ). length l) (numbers_here p.cell p ps (itself p.cell)))

-- no more places: the journals are the same
pub same_front : {E : Type 0} (xs ys : List E) → Begins xs ys → length ys ≡ length xs → ys ≡ xs
same_front xs ys b e = nothing b.rest b.is
  where
    nothing : (rest : List _) → ys ≡ xs ++ rest → ys ≡ xs
    nothing [] is = is ∙ append-nil xs
    nothing (r ∷ rest) is = absurd (omega (arith, e, ap (λ l. length l) is, length-append xs (r ∷ rest)))

pub grown_none : (K J : Journals) → Grows K J [] → J ≡ K
grown_none K J g = ap₂ (λ (a : ℕ → List Entry) (b : ℕ → List ObjectEntry). record { shards = a; objects = b })
    (fun_ext (λ s. same_front (K.shards s) (J.shards s) (g.shards s) (omega (arith, g.grown (OfShard s)))))
    (fun_ext (λ o. same_front (K.objects o) (J.objects o) (g.objects o) (omega (arith, g.grown (OfObject o)))))

-- ---- one entry more

-- the journals with one entry more in a shard, and in an object
abbrev pub add_shard : Journals → ℕ → Entry → Journals
add_shard K s e = record { shards = at_channel s (K.shards s ++ e ∷ []) K.shards; objects = K.objects }

abbrev pub add_object : Journals → ℕ → ObjectEntry → Journals
add_object K o e = record { shards = K.shards; objects = at_channel o (K.objects o ++ e ∷ []) K.objects }

pub at_itself : {X : Type 0} (s : ℕ) (x : X) (f : ℕ → X) → at_channel s x f s ≡ x
at_itself s x f = ap (λ (b : Bool). cond b x (f s)) (eq-eqb s s refl)

at_other : {X : Type 0} (s t : ℕ) (x : X) (f : ℕ → X) → (t == s) ≡ false → at_channel s x f t ≡ f t
at_other s t x f e = ap (λ (b : Bool). cond b x (f t)) e

-- what is as long as the front that stands there is that front
pub front_of : {E : Type 0} (xs ys journal : List E) (place : ℕ) (e : E) → Begins xs journal → Stands journal place ys e → place ≡ length xs → ys ≡ xs
front_of xs ys journal place e b s is =
    let as_long : length ys ≡ length xs = s.placed ∙ is in
    sym (take-append_seam ys (e ∷ s.rest)) ∙ ap₂ take as_long (sym s.is ∙ b.is) ∙ take-append_seam xs b.rest

one_begins : {E : Type 0} (xs ys journal : List E) (place : ℕ) (e : E) → Stands journal place ys e → ys ≡ xs → Begins (xs ++ e ∷ []) journal
one_begins xs ys journal place e s is = record { rest = s.rest; is = s.is ∙ ap (λ l. l ++ e ∷ s.rest) is ∙ sym (append_assoc xs (e ∷ []) s.rest) }

module _ {E : Type 0} (s : ℕ) (e : E) (f g : ℕ → List E) (there : Begins (f s ++ e ∷ []) (g s)) (begins : (t : ℕ) → Begins (f t) (g t)) where
  all_begin : (t : ℕ) → Begins (at_channel s (f s ++ e ∷ []) f t) (g t)
  all_begin t = elim (cases_Bool (t == s)) [
    | inl same ↦ subst (λ (k : ℕ). Begins (at_channel s (f s ++ e ∷ []) f k) (g k)) (sym (eqb-true t s same)) (subst (λ (l : List E). Begins l (g s)) (sym (at_itself s (f s ++ e ∷ []) f)) there)
    | inr not ↦ subst (λ (l : List E). Begins l (g t)) (sym (at_other s t (f s ++ e ∷ []) f not)) (begins t)
  ]

-- the journals M have one entry more than K in one cell, and no other
record AddsIn (K M : Journals) (cell : Cell) : Type 0 where
  here : entries_in M cell ≡ entries_in K cell + 1
  others : (other : Cell) → is_cell other cell ≡ false → entries_in M other ≡ entries_in K other

adds_shard : (K : Journals) (s : ℕ) (e : Entry) → AddsIn K (add_shard K s e) (OfShard s)
adds_shard K s e = record {
  here = ap (λ (l : List Entry). length l) (at_itself s (K.shards s ++ e ∷ []) K.shards) ∙ length-append (K.shards s) (e ∷ []);
  others = others;
}
  where
    others : (other : Cell) → is_cell other (OfShard s) ≡ false → entries_in (add_shard K s e) other ≡ entries_in K other
    others (OfShard t) not = ap (λ (l : List Entry). length l) (at_other s t (K.shards s ++ e ∷ []) K.shards not)
    others (OfObject o) not = refl

adds_object : (K : Journals) (o : ℕ) (e : ObjectEntry) → AddsIn K (add_object K o e) (OfObject o)
adds_object K o e = record {
  here = ap (λ (l : List ObjectEntry). length l) (at_itself o (K.objects o ++ e ∷ []) K.objects) ∙ length-append (K.objects o) (e ∷ []);
  others = others;
}
  where
    others : (other : Cell) → is_cell other (OfObject o) ≡ false → entries_in (add_object K o e) other ≡ entries_in K other
    others (OfObject t) not = ap (λ (l : List ObjectEntry). length l) (at_other o t (K.objects o ++ e ∷ []) K.objects not)
    others (OfShard t) not = refl

module _ (K M J : Journals) (p : Place) (ps : List Place) (g : Grows K J (p ∷ ps)) (adds : AddsIn K M p.cell) (shards : (s : ℕ) → Begins (M.shards s) (J.shards s)) (objects : (o : ℕ) → Begins (M.objects o) (J.objects o)) where
  no_later : (q : Place) → IsAfter p q → entries_in K q.cell ≤ q.number → entries_in M q.cell ≤ q.number
  no_later q later from = elim (cases_Bool (is_cell q.cell p.cell)) [
    | inl same ↦
        let is = same_cell q.cell p.cell same in
        omega (arith, later (sym is), next_place K J p ps g, adds.here, ap (entries_in M) is)
    | inr not ↦ omega (arith, from, adds.others q.cell not)
  ]

  grows_on : Grows M J ps
  grows_on = record {
    shards = shards;
    objects = objects;
    new = λ k d lt. no_later (get_or ps k d) (after_head p ps g.ascending k d lt) (All-tail (λ (q : Place). entries_in K q.cell ≤ q.number) p ps g.new k d lt);
    there = All-tail (λ (q : Place). q.number < entries_in J q.cell) p ps g.there;
    ascending = after_tail p ps g.ascending;
    grown = λ cell. elim (cases_Bool (is_cell cell p.cell)) [
      | inl same ↦
          let is = same_cell cell p.cell same in
          omega (arith, g.grown cell, ap (λ (l : List ℕ). length l) (numbers_here cell p ps same), adds.here, ap (entries_in M) is, ap (entries_in K) is)
      | inr not ↦ omega (arith, g.grown cell, ap (λ (l : List ℕ). length l) (numbers_past cell p ps not), adds.others cell not)
    ];
  }

-- an own entry of a shard stands right after what was there
pub record Next {E : Type 0} (there before : List E) (place : ℕ) : Type 0 where
  pub at : place ≡ length there
  pub front : before ≡ there

module _ (K J : Journals) (ps : List Place) where
  pub shard_next : (s place : ℕ) (before : List Entry) (e : Entry) → Grows K J (in_shard s place ∷ ps) → Stands (J.shards s) place before e → Next (K.shards s) before place
  shard_next s place before e g stands =
      let at = next_place K J (in_shard s place) ps g in
      record { at = at; front = front_of (K.shards s) before (J.shards s) place e (g.shards s) stands at }

  pub shard_on : (s place : ℕ) (before : List Entry) (e : Entry) → Grows K J (in_shard s place ∷ ps) → Stands (J.shards s) place before e → Grows (add_shard K s e) J ps
  shard_on s place before e g stands =
      let next = shard_next s place before e g stands in
      grows_on K (add_shard K s e) J (in_shard s place) ps g (adds_shard K s e)
      (all_begin s e K.shards J.shards (one_begins (K.shards s) before (J.shards s) place e stands next.front) g.shards) g.objects

  pub object_next : (o place : ℕ) (before : List ObjectEntry) (e : ObjectEntry) → Grows K J (in_object o place ∷ ps) → Stands (J.objects o) place before e → Next (K.objects o) before place
  object_next o place before e g stands =
      let at = next_place K J (in_object o place) ps g in
      record { at = at; front = front_of (K.objects o) before (J.objects o) place e (g.objects o) stands at }

  pub object_on : (o place : ℕ) (before : List ObjectEntry) (e : ObjectEntry) → Grows K J (in_object o place ∷ ps) → Stands (J.objects o) place before e → Grows (add_object K o e) J ps
  object_on o place before e g stands =
      let next = object_next o place before e g stands in
      grows_on K (add_object K o e) J (in_object o place) ps g (adds_object K o e) g.shards
      (all_begin o e K.objects J.objects (one_begins (K.objects o) before (J.objects o) place e stands next.front) g.objects)

-- a cell in which no place is has no more entries
pub unchanged_in : (K J : Journals) (places : List Place) (cell : Cell) → Grows K J places → All (λ (p : Place). p.cell ≢ cell) places → entries_in J cell ≡ entries_in K cell
unchanged_in K J places cell g none = omega (arith, g.grown cell, ap (λ (l : List ℕ). length l) (no_numbers places none))
  where
    no_numbers : (ps : List Place) → All (λ (p : Place). p.cell ≢ cell) ps → numbers_in cell ps ≡ []
    no_numbers [] all = refl
    no_numbers (p ∷ ps) all = elim (cases_Bool (is_cell cell p.cell)) [
      | inl same ↦ absurd (All-head (λ (q : Place). q.cell ≢ cell) p ps all (sym (same_cell cell p.cell same)))
      | inr not ↦ numbers_past cell p ps not ∙ no_numbers ps (All-tail (λ (q : Place). q.cell ≢ cell) p ps all)
    ]
