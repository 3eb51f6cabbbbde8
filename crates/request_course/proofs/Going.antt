-- What was seen goes on by own entries of one cell, and then goes on.
use Rattle.std.proofs.Common.{◌≡◌, ◌≢◌, ℕ, ◌+◌, ◌-◌, ◌<◌, ◌≤◌, Bool, true, false, cond, List, [], ◌∷◌, ◌++◌, length, map, get_or, Some, None, All, AllPairs, refl, sym, ap, ap₂, subst, subst₂, ◌∙◌, inl, inr, arith, append-nil, append_assoc, length-append}
use Rattle.std.specs.Prelude.{◌==◌}
use Rattle.std.specs.List.{cons_option}
use Rattle.std.proofs.lemmas.Bool.{cases_Bool, cases_lt, eqb-true, eq-eqb, false≢true}
use Rattle.std.proofs.lemmas.List.{get_or-append_right, get_or-map, get_or_append_left, length-map}
use Rattle.std.proofs.lemmas.List.Elements.{All-cons, All-nil, All-append, filter_map-append}
use Rattle.object_core.specs.Objects.{ObjectEntry}
use Rattle.agent_core.specs.State.{Plan, Ask}
use Rattle.agent_core.specs.Journals.{Entry, Begins}
use Rattle.agent_core.proofs.Onward.{begins_itself, begins_on}
use Rattle.agent_core.specs.Asked.{AskedTo}
use Rattle.agent_core.specs.Steps.{JournalSeen}
use Rattle.request_course.specs.Cells.{Cell, OfShard, OfObject, Place, in_shard, in_object, IsAfter, number_in, numbers_in, entries_in, Seen, GoesOn, Viewed, viewed, seen_of, alone_of, ShardsGoOn}

-- ---- one cell

-- one journal went on, by own entries at these places
pub record OneGoesOn {E : Type 0} (alone : Bool) (journal journal' : List E) (own own' places : List ℕ) : Type 0 where
  pub goes_on : Begins journal journal'
  pub owned : own' ≡ own ++ places
  pub new : All (λ p. length journal ≤ p) places
  pub there : All (λ p. p < length journal') places
  pub ascending : AllPairs (λ p q. p < q) places
  pub undisturbed : alone ≡ true → length journal' ≡ length journal + length places

pub asked_goes_on : {plan : Plan} {earlier later : JournalSeen} {a : Ask} {Ends : List ℕ → Type 0} → (asked : AskedTo plan earlier later a Ends) →
    OneGoesOn earlier.alone earlier.journal later.journal earlier.own later.own asked.places
asked_goes_on asked = record {
  goes_on = asked.goes_on;
  owned = asked.owned;
  new = asked.new;
  there = asked.there;
  ascending = asked.ascending;
  undisturbed = asked.undisturbed;
}

-- by one entry
pub one_place : {E : Type 0} (alone : Bool) (journal before journal' : List E) (own own' : List ℕ) (e : E) (place : ℕ) → Begins journal before → (alone ≡ true → before ≡ journal) → journal' ≡ before ++ e ∷ [] → length before ≡ place → own' ≡ own ++ place ∷ [] →
    OneGoesOn alone journal journal' own own' (place ∷ [])
one_place alone journal before journal' own own' e place begins undisturbed adds here owned =
    let more : length before ≡ length journal + length begins.rest = ap (λ l. length l) begins.is ∙ length-append journal begins.rest in
    let grown : length journal' ≡ length before + 1 = ap (λ l. length l) adds ∙ length-append before (e ∷ []) in
    record {
      goes_on = begins_on begins (record { rest = e ∷ []; is = adds });
      owned = owned;
      new = All-cons (λ p. length journal ≤ p) place [] (omega (arith, more, here)) (All-nil (λ p. length journal ≤ p));
      there = All-cons (λ p. p < length journal') place [] (omega (arith, grown, here)) (All-nil (λ p. p < length journal'));
      ascending = λ i j d lt within. absurd (omega (arith, lt, within));
      undisturbed = λ lone. grown ∙ ap (λ l. length l + 1) (undisturbed lone);
    }

-- by none
pub no_places : {E : Type 0} (alone : Bool) (journal journal' : List E) (own own' : List ℕ) → Begins journal journal' → (alone ≡ true → journal' ≡ journal) → own' ≡ own → OneGoesOn alone journal journal' own own' []
no_places alone journal journal' own own' begins undisturbed owned = record {
  goes_on = begins;
  owned = owned ∙ sym (append-nil own);
  new = All-nil (λ p. length journal ≤ p);
  there = All-nil (λ p. p < length journal');
  ascending = λ i j d lt within. absurd (omega (arith, within));
  undisturbed = λ lone. omega (arith, ap (λ l. length l) (undisturbed lone));
}

-- ---- among all

-- of places that are all in a cell, the numbers there are theirs
all_numbers : (cell : Cell) (place : ℕ → Place) → ((n : ℕ) → number_in cell (place n) ≡ Some n) → (own : List ℕ) → numbers_in cell (map place own) ≡ own
all_numbers cell place here [] = refl
all_numbers cell place here (n ∷ own) = ap₂ cons_option (here n) (all_numbers cell place here own)

-- of places that are all elsewhere there is none
no_numbers : (cell : Cell) (place : ℕ → Place) → ((n : ℕ) → number_in cell (place n) ≡ None) → (own : List ℕ) → numbers_in cell (map place own) ≡ []
no_numbers cell place elsewhere [] = refl
no_numbers cell place elsewhere (n ∷ own) = ap₂ cons_option (elsewhere n) (no_numbers cell place elsewhere own)

-- the number, if the place is in the cell
number_if : (b answer : Bool) (n : ℕ) → b ≡ answer → cond b (Some n) None ≡ cond answer (Some n) None
number_if b answer n e = ap (λ (c : Bool). cond c (Some n) None) e

pub numbers_here : (s : ℕ) (own : List ℕ) → numbers_in (OfShard s) (map (in_shard s) own) ≡ own
numbers_here s = all_numbers (OfShard s) (in_shard s) (λ n. number_if (s == s) true n (eq-eqb s s refl))

pub numbers_there : (s t : ℕ) (own : List ℕ) → (s == t) ≡ false → numbers_in (OfShard s) (map (in_shard t) own) ≡ []
numbers_there s t own e = no_numbers (OfShard s) (in_shard t) (λ n. number_if (s == t) false n e) own

pub no_object_numbers : (o t : ℕ) (own : List ℕ) → numbers_in (OfObject o) (map (in_shard t) own) ≡ []
no_object_numbers o t = no_numbers (OfObject o) (in_shard t) (λ n. refl)

pub numbers_object : (o : ℕ) (own : List ℕ) → numbers_in (OfObject o) (map (in_object o) own) ≡ own
numbers_object o = all_numbers (OfObject o) (in_object o) (λ n. number_if (o == o) true n (eq-eqb o o refl))

pub numbers_others : (o t : ℕ) (own : List ℕ) → (o == t) ≡ false → numbers_in (OfObject o) (map (in_object t) own) ≡ []
numbers_others o t own e = no_numbers (OfObject o) (in_object t) (λ n. number_if (o == t) false n e) own

pub no_shard_numbers : (s t : ℕ) (own : List ℕ) → numbers_in (OfShard s) (map (in_object t) own) ≡ []
no_shard_numbers s t = no_numbers (OfShard s) (in_object t) (λ n. refl)

apart : (s h : ℕ) → (s == h) ≡ false → s ≢ h
apart s h e = λ same. false≢true (sym e ∙ eq-eqb s h same)

-- an earlier one of places in a cell is less
ascend_in : (cell : ℕ → Place) (places : List ℕ) → ((n : ℕ) → (cell n).number ≡ n) → AllPairs (λ p q. p < q) places → AllPairs IsAfter (map cell places)
ascend_in cell places number up i j d lt within =
    let second : j < length places = omega (arith, within, length-map places cell) in
    let at_i : get_or (map cell places) i d ≡ cell (get_or places i 0) = get_or-map cell places i 0 d (omega (arith, lt, second)) in
    let at_j : get_or (map cell places) j d ≡ cell (get_or places j 0) = get_or-map cell places j 0 d second in
    λ same. omega (arith, up i j 0 lt second, ap (λ (p : Place). p.number) at_i, ap (λ (p : Place). p.number) at_j, number (get_or places i 0), number (get_or places j 0))

module _ (h : ℕ) (seen0 seen1 : ℕ → List Entry) (own0 own1 : ℕ → List ℕ) (others : (s : ℕ) → s ≢ h → (seen1 s ≡ seen0 s) × (own1 s ≡ own0 s)) where
  pub shard_went_on : (alone : Bool) (places : List ℕ) → OneGoesOn alone (seen0 h) (seen1 h) (own0 h) (own1 h) places → ShardsGoOn alone (viewed seen0 own0) (viewed seen1 own1) (map (in_shard h) places)
  shard_went_on alone places one lone objects = record {
    goes_on = record {
      shards = λ s. elim (cases_Bool (s == h)) [
        | inl e ↦ subst (λ (t : ℕ). Begins (seen0 t) (seen1 t)) (sym (eqb-true s h e)) one.goes_on
        | inr e ↦ subst (Begins (seen0 s)) (sym (others s (apart s h e)).0) (begins_itself (seen0 s))
      ];
      objects = λ o. begins_itself (objects.seen o);
    };
    owned = owned;
    new_places = λ k d lt.
        let within : k < length places = omega (arith, lt, length-map places (in_shard h)) in
        subst (λ (p : Place). entries_in (seen_of (viewed seen0 own0) objects).journals p.cell ≤ p.number) (sym (get_or-map (in_shard h) places k 0 d within)) (one.new k 0 within);
    there = λ k d lt.
        let within : k < length places = omega (arith, lt, length-map places (in_shard h)) in
        subst (λ (p : Place). p.number < entries_in (seen_of (viewed seen1 own1) objects).journals p.cell) (sym (get_or-map (in_shard h) places k 0 d within)) (one.there k 0 within);
    ascending = ascend_in (in_shard h) places (λ n. refl) one.ascending;
    undisturbed = grown;
  }
    where
      owned : (cell : Cell) → (seen_of (viewed seen1 own1) objects).own cell ≡ (seen_of (viewed seen0 own0) objects).own cell ++ numbers_in cell (map (in_shard h) places)
      owned (OfShard s) = elim (cases_Bool (s == h)) [
        | inl e ↦ subst (λ (t : ℕ). own1 t ≡ own0 t ++ numbers_in (OfShard t) (map (in_shard h) places)) (sym (eqb-true s h e))
            (one.owned ∙ ap (λ (l : List ℕ). own0 h ++ l) (sym (numbers_here h places)))
        | inr e ↦ (others s (apart s h e)).1 ∙ sym (append-nil (own0 s)) ∙ ap (λ (l : List ℕ). own0 s ++ l) (sym (numbers_there s h places e))
      ]
      owned (OfObject o) = sym (append-nil (objects.own o)) ∙ ap (λ (l : List ℕ). objects.own o ++ l) (sym (no_object_numbers o h places))

      grown : (cell : Cell) → alone_of alone lone cell ≡ true → entries_in (seen_of (viewed seen1 own1) objects).journals cell ≡ entries_in (seen_of (viewed seen0 own0) objects).journals cell + length (numbers_in cell (map (in_shard h) places))
      grown (OfShard s) is = elim (cases_Bool (s == h)) [
        | inl e ↦ subst (λ (t : ℕ). length (seen1 t) ≡ length (seen0 t) + length (numbers_in (OfShard t) (map (in_shard h) places))) (sym (eqb-true s h e))
            (omega (arith, one.undisturbed is, ap length (numbers_here h places)))
        | inr e ↦ omega (arith, ap length (others s (apart s h e)).0, ap length (numbers_there s h places e))
      ]
      grown (OfObject o) is = omega (arith, ap length (no_object_numbers o h places))

module _ (k : ℕ) (seen0 seen1 : ℕ → List ObjectEntry) (own0 own1 : ℕ → List ℕ) (others : (n : ℕ) → n ≢ k → (seen1 n ≡ seen0 n) × (own1 n ≡ own0 n)) where
  pub object_went_on : (alone lone : Bool) (shards : Viewed Entry) (places : List ℕ) → OneGoesOn lone (seen0 k) (seen1 k) (own0 k) (own1 k) places →
      GoesOn (alone_of alone lone) (seen_of shards (viewed seen0 own0)) (seen_of shards (viewed seen1 own1)) (map (in_object k) places)
  object_went_on alone lone shards places one = record {
    goes_on = record {
      shards = λ s. begins_itself (shards.seen s);
      objects = λ o. elim (cases_Bool (o == k)) [
        | inl e ↦ subst (λ (t : ℕ). Begins (seen0 t) (seen1 t)) (sym (eqb-true o k e)) one.goes_on
        | inr e ↦ subst (Begins (seen0 o)) (sym (others o (apart o k e)).0) (begins_itself (seen0 o))
      ];
    };
    owned = owned;
    new_places = λ i d lt.
        let within : i < length places = omega (arith, lt, length-map places (in_object k)) in
        subst (λ (p : Place). entries_in (seen_of shards (viewed seen0 own0)).journals p.cell ≤ p.number) (sym (get_or-map (in_object k) places i 0 d within)) (one.new i 0 within);
    there = λ i d lt.
        let within : i < length places = omega (arith, lt, length-map places (in_object k)) in
        subst (λ (p : Place). p.number < entries_in (seen_of shards (viewed seen1 own1)).journals p.cell) (sym (get_or-map (in_object k) places i 0 d within)) (one.there i 0 within);
    ascending = ascend_in (in_object k) places (λ n. refl) one.ascending;
    undisturbed = grown;
  }
    where
      owned : (cell : Cell) → (seen_of shards (viewed seen1 own1)).own cell ≡ (seen_of shards (viewed seen0 own0)).own cell ++ numbers_in cell (map (in_object k) places)
      owned (OfObject o) = elim (cases_Bool (o == k)) [
        | inl e ↦ subst (λ (t : ℕ). own1 t ≡ own0 t ++ numbers_in (OfObject t) (map (in_object k) places)) (sym (eqb-true o k e))
            (one.owned ∙ ap (λ (l : List ℕ). own0 k ++ l) (sym (numbers_object k places)))
        | inr e ↦ (others o (apart o k e)).1 ∙ sym (append-nil (own0 o)) ∙ ap (λ (l : List ℕ). own0 o ++ l) (sym (numbers_others o k places e))
      ]
      owned (OfShard s) = sym (append-nil (shards.own s)) ∙ ap (λ (l : List ℕ). shards.own s ++ l) (sym (no_shard_numbers s k places))

      grown : (cell : Cell) → alone_of alone lone cell ≡ true → entries_in (seen_of shards (viewed seen1 own1)).journals cell ≡ entries_in (seen_of shards (viewed seen0 own0)).journals cell + length (numbers_in cell (map (in_object k) places))
      grown (OfObject o) is = elim (cases_Bool (o == k)) [
        | inl e ↦ subst (λ (t : ℕ). length (seen1 t) ≡ length (seen0 t) + length (numbers_in (OfObject t) (map (in_object k) places))) (sym (eqb-true o k e))
            (omega (arith, one.undisturbed is, ap length (numbers_object k places)))
        | inr e ↦ omega (arith, ap length (others o (apart o k e)).0, ap length (numbers_others o k places e))
      ]
      grown (OfShard s) is = omega (arith, ap length (no_shard_numbers s k places))

-- before any step nothing went on
pub stood : (alone : Cell → Bool) (seen : Seen) → GoesOn alone seen seen []
stood alone seen = record {
  goes_on = record { shards = λ s. begins_itself (seen.journals.shards s); objects = λ o. begins_itself (seen.journals.objects o) };
  owned = λ cell. sym (append-nil (seen.own cell));
  new_places = All-nil (λ (p : Place). entries_in seen.journals p.cell ≤ p.number);
  there = All-nil (λ (p : Place). p.number < entries_in seen.journals p.cell);
  ascending = λ i j d lt within. absurd (omega (arith, within));
  undisturbed = λ cell lone. omega arith;
}

pub shards_stood : (alone : Bool) (seen : Viewed Entry) → ShardsGoOn alone seen seen []
shards_stood alone seen lone objects = stood (alone_of alone lone) (seen_of seen objects)

-- ---- one after the other

pairs_append : {X : Type 0} (R : X → X → Type 0) (xs ys : List X) → AllPairs R xs → AllPairs R ys →
    ((i j : ℕ) (d : X) → i < length xs → j < length ys → R (get_or xs i d) (get_or ys j d)) → AllPairs R (xs ++ ys)
pairs_append R xs ys p q across i j d lt within = elim (cases_lt j (length xs)) [
  | inl near ↦ subst₂ R (sym (get_or_append_left xs ys d i (omega (arith, lt, near)))) (sym (get_or_append_left xs ys d j near)) (p i j d lt near)
  | inr far ↦ elim (cases_lt i (length xs)) [
    | inl near ↦ subst₂ R (sym (get_or_append_left xs ys d i near)) (sym (get_or-append_right xs ys (length xs) j d refl far))
        (across i (j - length xs) d near (omega (arith, within, length-append xs ys, far)))
    | inr past ↦ subst₂ R (sym (get_or-append_right xs ys (length xs) i d refl past)) (sym (get_or-append_right xs ys (length xs) j d refl far))
        (q (i - length xs) (j - length xs) d (omega (arith, lt, past)) (omega (arith, within, length-append xs ys, far)))
  ]
]

-- a journal that goes on is no shorter
pub longer_by : {E : Type 0} {xs ys : List E} → Begins xs ys → length xs ≤ length ys
longer_by {xs = xs} b = let e = ap (λ l. length l) b.is ∙ length-append xs b.rest in omega (arith, e)

pub longer_in : (a b : Seen) (alone : Cell → Bool) (places : List Place) → GoesOn alone a b places → (cell : Cell) → entries_in a.journals cell ≤ entries_in b.journals cell
longer_in a b alone places g (OfShard s) = longer_by (g.goes_on.shards s)
longer_in a b alone places g (OfObject o) = longer_by (g.goes_on.objects o)

module _ (alone : Cell → Bool) (a b c : Seen) (first later : List Place) (g : GoesOn alone a b first) (h : GoesOn alone b c later) where
  numbers_of_both : (cell : Cell) → numbers_in cell (first ++ later) ≡ numbers_in cell first ++ numbers_in cell later
  numbers_of_both cell = filter_map-append (number_in cell) first later

  pub goes_on_twice : GoesOn alone a c (first ++ later)
  goes_on_twice = record {
    goes_on = record {
      shards = λ s. begins_on (g.goes_on.shards s) (h.goes_on.shards s);
      objects = λ o. begins_on (g.goes_on.objects o) (h.goes_on.objects o);
    };
    owned = λ cell. h.owned cell ∙ ap (λ (l : List ℕ). l ++ numbers_in cell later) (g.owned cell) ∙ append_assoc (a.own cell) (numbers_in cell first) (numbers_in cell later)
        ∙ ap (λ (l : List ℕ). a.own cell ++ l) (sym (numbers_of_both cell));
    new_places = All-append (λ (p : Place). entries_in a.journals p.cell ≤ p.number) first later g.new_places
        (λ k d lt. omega (arith, h.new_places k d lt, longer_in a b alone first g (get_or later k d).cell));
    there = All-append (λ (p : Place). p.number < entries_in c.journals p.cell) first later
        (λ k d lt. omega (arith, g.there k d lt, longer_in b c alone later h (get_or first k d).cell)) h.there;
    ascending = both_ascend;
    undisturbed = λ cell lone. omega (arith, h.undisturbed cell lone, g.undisturbed cell lone, ap length (numbers_of_both cell), length-append (numbers_in cell first) (numbers_in cell later));
  }
    where
      -- an earlier one is there before a later one comes
      across : (p q : Place) → p.number < entries_in b.journals p.cell → entries_in b.journals q.cell ≤ q.number → p.cell ≡ q.cell → p.number < q.number
      across p q before behind same = omega (arith, before, behind, ap (entries_in b.journals) same)

      both_ascend : AllPairs IsAfter (first ++ later)
      both_ascend = pairs_append IsAfter first later g.ascending h.ascending
          (λ i j d lt within. across (get_or first i d) (get_or later j d) (g.there i d lt) (h.new_places j d within))

-- ---- the shards alone

pub shards_twice : (alone : Bool) (a b c : Viewed Entry) (first later : List Place) → ShardsGoOn alone a b first → ShardsGoOn alone b c later → ShardsGoOn alone a c (first ++ later)
shards_twice alone a b c first later g h lone objects =
    goes_on_twice (alone_of alone lone) (seen_of a objects) (seen_of b objects) (seen_of c objects) first later (g lone objects) (h lone objects)

pub shards_begin : (alone : Bool) (a b : Viewed Entry) (places : List Place) → ShardsGoOn alone a b places → (s : ℕ) → Begins (a.seen s) (b.seen s)
shards_begin alone a b places g s = (g true (viewed (λ o. []) (λ o. []))).goes_on.shards s
