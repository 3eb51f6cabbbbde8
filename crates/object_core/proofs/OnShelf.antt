-- Objects on a shelf of one owner: one is taken, and given back with at most one entry more.
use Rattle.std.proofs.Common.{◌≡◌, ◌≢◌, ℕ, zero, suc, ◌+◌, ◌-◌, ◌<◌, ◌≤◌, true, List, [], ◌∷◌, ◌++◌, length, map, take, get_or, set, Option, Some, None, slice_get, refl, sym, ap, ap₂, subst, ◌∙◌, arith, inl, inr, length-append, length-set}
use Rattle.std.specs.Prelude.{All, Contains, MatchOption, is_some, ◌==◌}
use Rattle.std.specs.List.{position_or_len, range_with_len}
use Rattle.std.specs.Option.{option_map}
use Rattle.std.proofs.lemmas.Bool.{cases_eq, eqb-true}
use Rattle.std.proofs.lemmas.List.{append-nil, length-map, map-set, map_more, set-set}
use Rattle.std.proofs.lemmas.List.Elements.{All-more, All-set}
use Rattle.std.proofs.lemmas.List.Sums.{passes_at_first}
use Rattle.std.proofs.lemmas.Option.{none-some, same_Some, slice_get-map, slice_get_past, slice_get_within, get_or_from_slice_get}
use Rattle.object_core.specs.declared.rows.Row.{Row}
use Rattle.object_core.specs.declared.taken.Taken.{Taken}
use Rattle.object_core.specs.Objects.{ObjectEntry, ObjectSeen}
use Rattle.object_core.specs.Numbered.{row, AreRowsOf, AreAscending, LacksNumber}
use Rattle.object_core.specs.Shelving.{ObjectFixed, fixed_of, fixed_at, numbers_of, HaveOwnNumbers, AreWithin, GivenBack, IsBack, TakenFrom}
use Rattle.object_core.specs.OneOwner.{LoneShelfSeen, fixed_on, place_on, journal_of, seen_on, places_from, own_on, object_there, taken_from, as_taken, place_taken, FitsLimit, IsLoneShelf, HasStandIn, shelf_seen}
use Rattle.object_core.proofs.FindingRows.{place_found, place_missing, number_there, number_missing, fixed_at-place}

-- ---- lists by place

standing : {X : Type 0} (xs : List X) (i : ℕ) → i < length xs → (x : X) × (slice_get xs i ≡ Some x)
standing [] i lt = absurd (omega (arith, lt))
standing (x ∷ xs) zero lt = (x, refl)
standing (x ∷ xs) (suc i) lt = standing xs i (omega (arith, lt))

set_here : {X : Type 0} (xs : List X) (i : ℕ) (x : X) → i < length xs → slice_get (set xs i x) i ≡ Some x
set_here [] i x lt = absurd (omega (arith, lt))
set_here (y ∷ ys) zero x lt = refl
set_here (y ∷ ys) (suc i) x lt = set_here ys i x (omega (arith, lt))

set_other : {X : Type 0} (xs : List X) (i : ℕ) (x : X) (k : ℕ) → k ≢ i → slice_get (set xs i x) k ≡ slice_get xs k
set_other [] i x k ne = refl
set_other (y ∷ ys) zero x zero ne = absurd (ne refl)
set_other (y ∷ ys) zero x (suc k) ne = refl
set_other (y ∷ ys) (suc i) x zero ne = refl
set_other (y ∷ ys) (suc i) x (suc k) ne = set_other ys i x k (λ e. ne (ap suc e))

set_itself : {X : Type 0} (xs : List X) (i : ℕ) (x : X) → slice_get xs i ≡ Some x → set xs i x ≡ xs
set_itself [] i x e = refl
set_itself (y ∷ ys) zero x e = ap (λ z. z ∷ ys) (sym (same_Some y x e))
set_itself (y ∷ ys) (suc i) x e = ap (λ l. y ∷ l) (set_itself ys i x e)

all_at : {X : Type 0} (P : X → Type 0) (xs : List X) (i : ℕ) (x : X) → All P xs → slice_get xs i ≡ Some x → P x
all_at P xs i x all is = subst P (get_or_from_slice_get xs i x x is) (all i x (slice_get_within xs i x is))

mapped : {X Y : Type 0} (f : X → Y) (o : Option X) (y : Y) → option_map f o ≡ Some y → (x : X) × (o ≡ Some x) × (f x ≡ y)
mapped f None y e = absurd cc
mapped f (Some x) y e = (x, refl, same_Some (f x) y e)

range_more : (first n place : ℕ) → first + n ≡ place → range_with_len first (suc n) ≡ range_with_len first n ++ place ∷ []
range_more first zero place e = let same : first ≡ place = omega arith in ap (λ p. p ∷ []) same
range_more first (suc n) place e = ap (λ l. first ∷ l) (range_more (first + 1) n place (omega arith))

-- ---- which object has a number

module _ (l : LoneShelfSeen) (rows : List Row) (is : IsLoneShelf l.objects l.opened rows) (number : ℕ) where
  pub place_is : (place : ℕ) → Contains rows (row number place) → place_on l number ≡ place
  place_is place there = place_found (numbers_of (fixed_on l)) number place is.numbers (number_there (numbers_of (fixed_on l)) rows is.listed number place there)

  place_none : LacksNumber rows number → length (fixed_on l) ≤ place_on l number
  place_none lacks =
      let all : place_on l number ≡ length (numbers_of (fixed_on l)) = place_missing (numbers_of (fixed_on l)) number (number_missing (numbers_of (fixed_on l)) rows is.listed number lacks) in
      omega (arith, all, length-map (fixed_on l) (λ (f : ObjectFixed). f.plan.number))

  pub fixed_none : LacksNumber rows number → fixed_at (fixed_on l) number ≡ None
  fixed_none lacks = fixed_at-place (fixed_on l) number ∙ slice_get_past (fixed_on l) (place_on l number) (place_none lacks)

  pub fixed_here : (place : ℕ) (o : ObjectSeen) → place_on l number ≡ place → slice_get l.objects place ≡ Some o → fixed_at (fixed_on l) number ≡ Some (fixed_of o)
  fixed_here place o at here = fixed_at-place (fixed_on l) number ∙ ap (slice_get (fixed_on l)) at ∙ slice_get-map fixed_of l.objects place ∙ ap (option_map fixed_of) here

  pub row_within : (place : ℕ) → Contains rows (row number place) → place < length l.objects
  row_within place there =
      let within : place < length (numbers_of (fixed_on l)) = slice_get_within (numbers_of (fixed_on l)) place number (number_there (numbers_of (fixed_on l)) rows is.listed number place there) in
      omega (arith, within, length-map (fixed_on l) (λ (f : ObjectFixed). f.plan.number), length-map l.objects fixed_of)

  pub is_there : (r : Option ℕ) → MatchOption r (LacksNumber rows number) (λ place. Contains rows (row number place)) → is_some r ≡ is_some (fixed_at (fixed_on l) number)
  is_there None lacks = sym (ap is_some (fixed_none lacks))
  is_there (Some place) there =
      let (o, here) = standing l.objects place (row_within place there) in
      sym (ap is_some (fixed_here place o (place_is place there) here))

pub are_within : (l : LoneShelfSeen) → All FitsLimit l.objects → AreWithin (fixed_on l) (seen_on l)
are_within l within number f at =
    let (o, here, same) = mapped fixed_of (slice_get l.objects (place_on l number)) f (sym (slice_get-map fixed_of l.objects (place_on l number)) ∙ sym (fixed_at-place (fixed_on l) number) ∙ at) in
    subst (λ (x : ObjectFixed). length (seen_on l number) ≤ x.limit) same
    (subst (λ (j : List ObjectEntry). length j ≤ o.limit) (sym (ap journal_of here)) (all_at FitsLimit l.objects (place_on l number) o within here))

-- ---- a new shelf

abbrev entries_in : ObjectSeen → ℕ
entries_in o = length o.journal

module _ (objects : List ObjectSeen) (opened : List ℕ) (are : opened ≡ map entries_in objects) where
  pub new_shelf : (rows : List Row) → HaveOwnNumbers (map fixed_of objects) → All FitsLimit objects → AreRowsOf (numbers_of (map fixed_of objects)) rows → AreAscending rows → IsLoneShelf objects opened rows
  new_shelf rows numbers within listed ascending = record {
    numbers = numbers;
    counted = ap (λ (ns : List ℕ). length ns) are ∙ length-map objects entries_in;
    longer = λ i n o at here.
        let same : entries_in o ≡ n = same_Some (entries_in o) n (sym (ap (λ (ns : List ℕ). slice_get ns i) are ∙ (slice_get-map entries_in objects i ∙ ap (option_map entries_in) here)) ∙ at) in
        omega (arith, same);
    within = within;
    listed = listed;
    ascending = ascending;
  }

  none_added : (o : Option ObjectSeen) → places_from (option_map entries_in o) (length (journal_of o)) ≡ []
  none_added None = refl
  none_added (Some o) = let none : length o.journal - length o.journal ≡ 0 = omega arith in ap (range_with_len (length o.journal)) none

  pub own_new : (place : ℕ) → places_from (slice_get opened place) (length (journal_of (slice_get objects place))) ≡ []
  own_new place =
      ap (λ o. places_from o (length (journal_of (slice_get objects place)))) (ap (λ (ns : List ℕ). slice_get ns place) are ∙ slice_get-map entries_in objects place)
      ∙ none_added (slice_get objects place)

-- ---- one is taken

-- the shelf as contracts see it, by what it keeps
abbrev pub shelf_of : List ObjectSeen → List ℕ → Option Taken → LoneShelfSeen
shelf_of objects opened taken = record { objects = as_taken objects taken; opened = opened; taken = place_taken taken }

none_taken : (l : LoneShelfSeen) (rows : List Row) (is : IsLoneShelf l.objects l.opened rows) (number : ℕ) → l.taken ≡ None → LacksNumber rows number → TakenFrom (shelf_seen l) (shelf_seen l) number None
none_taken l rows is number none lacks = record {
  found = fixed_none l rows is number lacks;
  journal = tt;
  taken = ap (object_there l.objects) none;
  rest = record { objects = refl; alone = refl; seen = refl; own = refl };
}

one_taken : (l : LoneShelfSeen) (rows : List Row) (is : IsLoneShelf l.objects l.opened rows) (number place : ℕ) (o : ObjectSeen) → Contains rows (row number place) → slice_get l.objects place ≡ Some o →
    TakenFrom (shelf_seen l) (shelf_seen (record { objects = l.objects; opened = l.opened; taken = Some place })) number (Some o)
one_taken l rows is number place o there here =
    let at : place_on l number ≡ place = place_is l rows is number place there in
    let seen : seen_on l number ≡ o.journal = ap (λ p. journal_of (slice_get l.objects p)) at ∙ ap journal_of here in
    record {
      found = fixed_here l rows is number place o at here;
      journal = record { others = []; goes_on = sym seen ∙ sym (append-nil (seen_on l number)); undisturbed = λ _. sym seen };
      taken = here;
      rest = record { objects = refl; alone = refl; seen = refl; own = refl };
    }

-- the object that stands in is hidden by the one that was taken
hidden : (objects later : List ObjectSeen) (place : ℕ) (o stand_in remembered : ObjectSeen) → slice_get objects place ≡ Some o → later ≡ set objects place stand_in → remembered ≡ o → set later place remembered ≡ objects
hidden objects later place o stand_in remembered here stood same =
    ap (λ os. set os place remembered) stood ∙ set-set objects place stand_in remembered ∙ set_itself objects place remembered (here ∙ ap Some (sym same))

module _ (objects : List ObjectSeen) (opened : List ℕ) (rows : List Row) (number : ℕ) where
  pub takes_none : (taken : Option Taken) → IsLoneShelf (as_taken objects taken) opened rows → place_taken taken ≡ None → LacksNumber rows number → TakenFrom (shelf_seen (shelf_of objects opened taken)) (shelf_seen (shelf_of objects opened taken)) number None
  takes_none taken is none lacks = none_taken (shelf_of objects opened taken) rows is number none lacks

  module _ (place : ℕ) (o stand_in : ObjectSeen) (later : List ObjectSeen) (t : Taken) (there : Contains rows (row number place)) (here : slice_get objects place ≡ Some o) (stood : later ≡ set objects place stand_in) (at : t.place ≡ place) (same : t.object.value ≡ o) where
    covered : set later t.place t.object.value ≡ objects
    covered = ap (λ p. set later p t.object.value) at ∙ hidden objects later place o stand_in t.object.value here stood same

    pub takes_one : (taken : Option Taken) → IsLoneShelf (as_taken objects taken) opened rows → place_taken taken ≡ None → TakenFrom (shelf_seen (shelf_of objects opened taken)) (shelf_seen (shelf_of later opened (Some t))) number (Some o)
    takes_one (Some t') is none = absurd cc
    takes_one None is none =
        subst (λ os. TakenFrom (shelf_seen (shelf_of objects opened None)) (shelf_seen (record { objects = os; opened = opened; taken = Some t.place })) number (Some o)) (sym covered)
        (subst (λ p. TakenFrom (shelf_seen (shelf_of objects opened None)) (shelf_seen (record { objects = objects; opened = opened; taken = Some p })) number (Some o)) (sym at)
        (one_taken (shelf_of objects opened None) rows is number place o there here))

    pub kept_taken : (taken : Option Taken) (stand : Option ObjectSeen) → IsLoneShelf (as_taken objects taken) opened rows → place_taken taken ≡ None → IsLoneShelf (as_taken later (Some t)) opened rows × HasStandIn later (Some t) stand
    kept_taken (Some t') stand is none = absurd cc
    kept_taken None stand is none = (
      subst (λ os. IsLoneShelf os opened rows) (sym covered) is,
      (let long : length later ≡ length objects = ap (λ (os : List ObjectSeen). length os) stood ∙ length-set objects place stand_in in
          omega (arith, long, at, slice_get_within objects place o here)),
    )

-- where contracts see none taken, none is
pub none_out : (objects : List ObjectSeen) (opened : List ℕ) (taken : Option Taken) (stand : Option ObjectSeen) → HasStandIn objects taken stand → taken_from (shelf_of objects opened taken) ≡ None → place_taken taken ≡ None
none_out objects opened None stand has none = refl
none_out objects opened (Some t) stand has none = absurd (none-some t.object.value (sym none ∙ set_here objects t.place t.object.value has))

-- so the objects stand as they are
pub all_here : (objects : List ObjectSeen) (taken : Option Taken) → place_taken taken ≡ None → as_taken objects taken ≡ objects
all_here objects None none = refl
all_here objects (Some t) none = absurd cc

-- one stands in, where none is taken
pub stands_in : (objects : List ObjectSeen) (taken : Option Taken) (stand : Option ObjectSeen) → place_taken taken ≡ None → HasStandIn objects taken stand → is_some stand ≡ true
stands_in objects None stand none has = has
stands_in objects (Some t) stand none has = absurd cc

-- ---- and given back

module _ (l : LoneShelfSeen) (rows : List Row) (is : IsLoneShelf l.objects l.opened rows) (place : ℕ) (was o : ObjectSeen) (here : slice_get l.objects place ≡ Some was) (back : IsBack was o) where
  abbrev l' : LoneShelfSeen
  l' = record { objects = set l.objects place o; opened = l.opened; taken = None }

  same_fixed : map fixed_of (set l.objects place o) ≡ map fixed_of l.objects
  same_fixed =
      map-set fixed_of l.objects place o
      ∙ set_itself (map fixed_of l.objects) place (fixed_of o) (slice_get-map fixed_of l.objects place ∙ ap (option_map fixed_of) here ∙ ap Some (sym back.fixed))

  not_shorter : length was.journal ≤ length o.journal
  not_shorter = elim back.journal [
    | inl same ↦ omega (arith, ap (λ (j : List ObjectEntry). length j) same)
    | inr more ↦ omega (arith, ap (λ (j : List ObjectEntry). length j) more.1 ∙ length-append was.journal (more.0 ∷ []))
  ]

  still_longer : (i first : ℕ) (x : ObjectSeen) → slice_get l.opened i ≡ Some first → slice_get (set l.objects place o) i ≡ Some x → first ≤ length x.journal
  still_longer i first x at there = elim (cases_eq i place) [
    | inl e ↦
        (let now : slice_get (set l.objects place o) i ≡ Some o = subst (λ k. slice_get (set l.objects place o) k ≡ Some o) (sym e) (set_here l.objects place o (slice_get_within l.objects place was here)) in
        let same : o ≡ x = same_Some o x (sym now ∙ there) in
        let before : first ≤ length was.journal = is.longer i first was at (subst (λ k. slice_get l.objects k ≡ Some was) (sym e) here) in
        subst (λ (y : ObjectSeen). first ≤ length y.journal) same (omega (arith, before, not_shorter)))
    | inr ne ↦ is.longer i first x at (sym (set_other l.objects place o i ne) ∙ there)
  ]

  pub kept_given : FitsLimit o → IsLoneShelf (set l.objects place o) l.opened rows
  kept_given fits = record {
    numbers = subst HaveOwnNumbers (sym same_fixed) is.numbers;
    counted = is.counted ∙ sym (length-set l.objects place o);
    longer = still_longer;
    within = All-set FitsLimit l.objects place o fits is.within;
    listed = subst (λ fs. AreRowsOf (numbers_of fs) rows) (sym same_fixed) is.listed;
    ascending = is.ascending;
  }

  number_here : slice_get (numbers_of (fixed_on l)) place ≡ Some o.plan.number
  number_here =
      slice_get-map (λ (f : ObjectFixed). f.plan.number) (fixed_on l) place
      ∙ ap (option_map (λ (f : ObjectFixed). f.plan.number)) (slice_get-map fixed_of l.objects place ∙ ap (option_map fixed_of) here)
      ∙ ap Some (sym (ap (λ (f : ObjectFixed). f.plan.number) back.fixed))

  same_place : (n : ℕ) → place_on l' n ≡ place_on l n
  same_place n = ap (λ fs. position_or_len (λ m. m == n) (numbers_of fs)) same_fixed

  its_place : place_on l o.plan.number ≡ place
  its_place = place_found (numbers_of (fixed_on l)) o.plan.number place is.numbers number_here

  seen_before : seen_on l o.plan.number ≡ was.journal
  seen_before = ap (λ p. journal_of (slice_get l.objects p)) its_place ∙ ap journal_of here

  seen_after : seen_on l' o.plan.number ≡ o.journal
  seen_after =
      ap (λ p. journal_of (slice_get (set l.objects place o) p)) (same_place o.plan.number ∙ its_place)
      ∙ ap journal_of (set_here l.objects place o (slice_get_within l.objects place was here))

  own_before : own_on l o.plan.number ≡ places_from (slice_get l.opened place) (length was.journal)
  own_before = ap₂ (λ p (j : List ObjectEntry). places_from (slice_get l.opened p) (length j)) its_place seen_before

  own_after : own_on l' o.plan.number ≡ places_from (slice_get l.opened place) (length o.journal)
  own_after = ap₂ (λ p (j : List ObjectEntry). places_from (slice_get l.opened p) (length j)) (same_place o.plan.number ∙ its_place) seen_after

  own_more : (e : ObjectEntry) → o.journal ≡ was.journal ++ e ∷ [] → places_from (slice_get l.opened place) (length o.journal) ≡ places_from (slice_get l.opened place) (length was.journal) ++ length was.journal ∷ []
  own_more e more =
      let (first, opened) = standing l.opened place (omega (arith, is.counted, slice_get_within l.objects place was here)) in
      let long : length o.journal ≡ length was.journal + 1 = ap (λ (j : List ObjectEntry). length j) more ∙ length-append was.journal (e ∷ []) in
      let before : first ≤ length was.journal = is.longer place first was opened here in
      let count : length o.journal - first ≡ suc (length was.journal - first) = omega arith in
      ap (λ x. places_from x (length o.journal)) opened ∙ ap (range_with_len first) count ∙ range_more first (length was.journal - first) (length was.journal) (omega arith)
      ∙ sym (ap (λ x. places_from x (length was.journal) ++ length was.journal ∷ []) opened)

  other_place : (n : ℕ) → n ≢ o.plan.number → place_on l n ≢ place
  other_place n ne e =
      let numbers : List ℕ = numbers_of (fixed_on l) in
      let within : place < length numbers = slice_get_within numbers place o.plan.number number_here in
      let passes : get_or numbers (place_on l n) 0 ≡ n = eqb-true (get_or numbers (place_on l n) 0) n (passes_at_first (λ m. m == n) numbers 0 (omega (arith, e, within))) in
      ne (sym passes ∙ ap (λ p. get_or numbers p 0) e ∙ get_or_from_slice_get numbers place o.plan.number 0 number_here)

  other_seen : (n : ℕ) → n ≢ o.plan.number → seen_on l' n ≡ seen_on l n
  other_seen n ne =
      ap (λ p. journal_of (slice_get (set l.objects place o) p)) (same_place n)
      ∙ ap journal_of (set_other l.objects place o (place_on l n) (other_place n ne))

  pub gives_one : l.taken ≡ Some place → GivenBack (shelf_seen l) (shelf_seen l') o
  gives_one taken =
      let was_taken : taken_from l ≡ Some was = ap (object_there l.objects) taken ∙ here in
      record {
        seen = seen_after;
        kept = λ was' is_taken same.
            let equal : was' ≡ was = same_Some was' was (sym is_taken ∙ was_taken) in
            own_after ∙ ap (λ (j : List ObjectEntry). places_from (slice_get l.opened place) (length j)) (same ∙ ap (λ (x : ObjectSeen). x.journal) equal) ∙ sym own_before;
        added = λ was' e is_taken more.
            let equal : was' ≡ was = same_Some was' was (sym is_taken ∙ was_taken) in
            own_after ∙ own_more e (more ∙ ap (λ (x : ObjectSeen). x.journal ++ e ∷ []) equal)
            ∙ ap₂ (λ (own : List ℕ) (x : ObjectSeen). own ++ length x.journal ∷ []) (sym own_before) (sym equal);
        taken = refl;
        rest = record {
          objects = same_fixed;
          alone = refl;
          others = λ n ne. (
            other_seen n ne,
            ap₂ (λ p (j : List ObjectEntry). places_from (slice_get l.opened p) (length j)) (same_place n) (other_seen n ne),
          );
        };
      }

-- by what is kept
module _ (objects later : List ObjectSeen) (opened : List ℕ) (rows : List Row) (t : Taken) (o : ObjectSeen) (set_back : later ≡ set objects t.place o) where
  abbrev Given : Option Taken → Type 0
  Given taken =
      IsLoneShelf (as_taken objects taken) opened rows → (was : ObjectSeen) → taken_from (shelf_of objects opened taken) ≡ Some was → IsBack was o → FitsLimit o →
      IsLoneShelf later opened rows × GivenBack (shelf_seen (shelf_of objects opened taken)) (shelf_seen (shelf_of later opened None)) o

  given_some : Given (Some t)
  given_some is was at back fits =
      let l : LoneShelfSeen = shelf_of objects opened (Some t) in
      let same : set l.objects t.place o ≡ later = set-set objects t.place t.object.value o ∙ sym set_back in (
        subst (λ os. IsLoneShelf os opened rows) same (kept_given l rows is t.place was o at back fits),
        subst (λ os. GivenBack (shelf_seen l) (shelf_seen (record { objects = os; opened = opened; taken = None })) o) same (gives_one l rows is t.place was o at back refl),
      )

  pub given : (taken : Option Taken) → taken ≡ Some t → Given taken
  given taken e = subst Given (sym e) given_some

-- one is taken, and its place is there
pub is_taken : (objects : List ObjectSeen) (opened : List ℕ) (taken : Option Taken) (was : ObjectSeen) → taken_from (shelf_of objects opened taken) ≡ Some was → is_some taken ≡ true
is_taken objects opened None was at = absurd cc
is_taken objects opened (Some t) was at = refl

pub taken_within : (objects : List ObjectSeen) (taken : Option Taken) (stand : Option ObjectSeen) (t : Taken) → taken ≡ Some t → HasStandIn objects taken stand → t.place < length objects
taken_within objects taken stand t e = subst (λ x. HasStandIn objects x stand → t.place < length objects) (sym e) (λ has. has)

-- one more object was looked at
pub lengths_more : (objects : List ObjectSeen) (i : ℕ) (o : ObjectSeen) → i < length objects → o ≡ get_or objects i o → (lengths later : List ℕ) (n : ℕ) →
    (lengths ≡ map entries_in (take i objects)) × All FitsLimit (take i objects) → later ≡ lengths ++ n ∷ [] → n ≡ length o.journal → FitsLimit o →
    (later ≡ map entries_in (take (i + 1) objects)) × All FitsLimit (take (i + 1) objects)
lengths_more objects i o lt here lengths later n so_far added is fits = (
  added ∙ (ap₂ (λ (l : List ℕ) k. l ++ k ∷ []) so_far.0 (is ∙ ap entries_in here) ∙ sym (map_more entries_in objects i o lt)),
  All-more FitsLimit objects i o lt so_far.1 (subst FitsLimit here fits),
)
