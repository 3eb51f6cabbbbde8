-- Seats at objects: what a pass tells is within the limit, and one object at a time is taken and given back.
use Rattle.std.proofs.Common.{◌≡◌, ℕ, ◌+◌, ◌<◌, ◌≤◌, Bool, true, false, cond, Option, None, Some, List, [], ◌∷◌, ◌++◌, length, map, get_or, set, refl, sym, ap, ◌∙◌, subst, arith, inl, inr, length-append}
use Rattle.std.specs.Prelude.{◌==◌, is_some, ltb}
use Rattle.std.specs.declared.alloc.Global.{Global}
use Rattle.std.specs.declared.vec.Vec.{Vec}
use Rattle.std.specs.List.{AllZip, position, slice_get}
use Rattle.std.specs.Option.{option_map}
use Rattle.std.proofs.lemmas.Bool.{false≢true, eqb-true}
use Rattle.std.proofs.lemmas.Bool.Decides.{nat_tests}
use Rattle.std.proofs.lemmas.List.{length-map}
use Rattle.std.proofs.lemmas.List.Sums.{passes_at_first}
use Rattle.std.proofs.lemmas.Option.{cond_some, get_or_from_slice_get, same_Some, slice_get-map, slice_get-get_or, slice_get_past, slice_get_within}
use Rattle.object_core.specs.Objects.{ObjectEntry, ObjectSeen}
use Rattle.object_core.specs.Shelving.{ObjectFixed, AreWithin, GivenBack, HaveOwnNumbers, IsBack, TakenFrom, fixed_at, fixed_of, numbers_of}
use Rattle.object_core.proofs.FindingRows.{fixed_at-place, place_found}
use Rattle.turn_cell.specs.declared.shares.TheConstants.{ALL_SHARES}
use Rattle.turn_cell.specs.Journal.{Grows, MayLeave}
use Rattle.turn_cell.specs.Known.{IsPassOf}
use Rattle.turn_cell.proofs.Journals.{longer_has}
use Rattle.agent_shards.specs.declared.taking.Out.{Out}
use Rattle.agent_shards.specs.Cells.{IsOpened, AreSplit, AreJoined}
use Rattle.agent_shards.specs.Objects.{ObjectCell, KnownObject, IsObjectPass, AreObjectPasses, IsObjectOpened, AreObjectsOpened, RackSeen, IsOutOf, IsGiven, IsOutAt, MayBeOut, fixed_in, journal_by, place_among, places_by, rack_seen, seen_on, taken_as}
use Rattle.agent_shards.specs.Room.{HasRoom}
use Rattle.agent_shards.proofs.Rows.{each3_long, each3_map, each3_zip, set_other, set_same, zip_there, zip_map}

-- ---- passes of all objects

pub of_object_cells : (cells : List ObjectCell) (passes : List KnownObject) → AreObjectPasses cells passes → AllZip IsPassOf cells passes
of_object_cells cells passes are = zip_map IsObjectPass IsPassOf (λ c p h. h.of_cell) cells passes are

-- the pass is of the cell, with all shares
abbrev pub IsLastObject : ObjectCell → KnownObject → Type 0
IsLastObject cell pass = IsPassOf cell pass × (pass.shares ≡ ALL_SHARES)

pub object_opened : (o g : ObjectSeen) (cell : ObjectCell) (pass : KnownObject) → g ≡ o → IsOpened (fixed_of g) g.journal cell pass → length o.journal ≤ o.limit → IsObjectOpened o cell pass
object_opened o g cell pass same opened within = record { opened = subst (λ (x : ObjectSeen). IsOpened (fixed_of x) x.journal cell pass) same opened; within = within }

opened_pass : (o : ObjectSeen) (cell : ObjectCell) (pass : KnownObject) → IsObjectOpened o cell pass → IsObjectPass cell pass
opened_pass o cell pass h = record {
  of_cell = h.opened.of_cell;
  within = subst (λ (z : ObjectFixed × List ObjectEntry). length z.1 ≤ z.0.limit) (λ k. (sym h.opened.its_fixed k, sym h.opened.seen k)) h.within;
}

module _ (objects : List ObjectSeen) (cells : List ObjectCell) (passes : List KnownObject) (are : AreObjectsOpened objects cells passes) where
  pub opened_object_passes : AreObjectPasses cells passes
  opened_object_passes = each3_zip IsObjectOpened IsObjectPass opened_pass objects cells passes are

  pub opened_fixed : fixed_in cells ≡ map fixed_of objects
  opened_fixed = each3_map IsObjectOpened fixed_of (λ (c : ObjectCell). c.fixed) (λ o c p h. h.opened.its_fixed) objects cells passes are

  pub opened_object_count : length cells ≡ length objects
  opened_object_count = each3_long IsObjectOpened objects cells passes are

pub split_object_passes : (shares : ℕ) (cells : List ObjectCell) (before kept given : List KnownObject) → AreObjectPasses cells before → AreSplit shares cells before kept given → AreObjectPasses cells kept × AreObjectPasses cells given
split_object_passes shares [] [] [] [] are split = (tt, tt)
split_object_passes shares (c ∷ cs) (p ∷ ps) (k ∷ ks) (g ∷ gs) are split =
    let rest = split_object_passes shares cs ps ks gs are.1 split.1 in (
      (record { of_cell = split.0.kept_of; within = subst (λ (j : List ObjectEntry). length j ≤ c.fixed.limit) (sym split.0.seen.0) are.0.within }, rest.0),
      (record { of_cell = split.0.given_of; within = subst (λ (j : List ObjectEntry). length j ≤ c.fixed.limit) (sym split.0.seen.1) are.0.within }, rest.1),
    )
split_object_passes shares _ _ _ _ are split = absurd split

pub joined_object_passes : (cells : List ObjectCell) (first both second : List KnownObject) → AreObjectPasses cells first → AreObjectPasses cells second → AreJoined HasRoom cells first both second → AreObjectPasses cells both
joined_object_passes [] [] [] [] are too joined = tt
joined_object_passes (c ∷ cs) (a ∷ firsts) (b ∷ bs) (s ∷ ss) are too joined = (
  record {
    of_cell = joined.0.of_cell;
    within = subst (λ (j : List ObjectEntry). length j ≤ c.fixed.limit) (sym joined.0.seen) (longer_has (λ (j : List ObjectEntry). length j ≤ c.fixed.limit) a.seen s.seen are.0.within too.0.within);
  },
  joined_object_passes cs firsts bs ss are.1 too.1 joined.1,
)
joined_object_passes _ _ _ _ are too joined = absurd joined

pub seated_objects : (shares : ℕ) (cells cells' : List ObjectCell) (before before' kept given : List KnownObject) → cells' ≡ cells → before' ≡ before → AreObjectPasses cells before → AreSplit shares cells' before' kept given → AreObjectPasses cells kept × AreObjectPasses cells given
seated_objects shares cells cells' before before' kept given c b are split =
    split_object_passes shares cells before kept given are (subst (λ (z : List ObjectCell × List KnownObject). AreSplit shares z.0 z.1 kept given) (λ k. (c k, b k)) split)

pub unseated_objects : (cells cells' : List ObjectCell) (first first' both second second' : List KnownObject) → cells' ≡ cells → first' ≡ first → second' ≡ second → AreObjectPasses cells first → AreObjectPasses cells second → AreJoined HasRoom cells' first' both second' → AreObjectPasses cells both
unseated_objects cells cells' first first' both second second' c f s are too joined =
    joined_object_passes cells first both second are too (subst (λ (z : List ObjectCell × (List KnownObject × List KnownObject)). AreJoined HasRoom z.0 z.1.0 both z.1.1) (λ k. (c k, (f k, s k))) joined)

-- the same passes of the same cells
pub same_object_cells : (cells cells' : List ObjectCell) (passes passes' : List KnownObject) → cells' ≡ cells → passes' ≡ passes → AreObjectPasses cells passes → AllZip IsPassOf cells' passes'
same_object_cells cells cells' passes passes' c p are =
    subst (λ (z : List ObjectCell × List KnownObject). AllZip IsPassOf z.0 z.1) (λ k. (sym c k, sym p k)) (of_object_cells cells passes are)

-- ---- one object, out of its cell and back

module _ (cell : ObjectCell) (now : Vec KnownObject Global) (out : Out) (is : IsOutOf cell now out) (o : ObjectSeen) (back : IsBack out.object.value o) where
  same_limit : o.limit ≡ cell.fixed.limit
  same_limit = ap (λ (f : ObjectFixed). f.limit) (back.fixed ∙ is.its_fixed)

  pub may_give : length o.journal ≤ o.limit → MayLeave HasRoom cell.fixed out.held.entered o.journal
  may_give within = elim back.journal [
    | inl same ↦ inl (same ∙ sym is.entered)
    | inr more ↦ inr (
      more.0,
      (let a : length o.journal ≡ length out.object.value.journal + 1 = ap (λ (j : List ObjectEntry). length j) more.1 ∙ length-append out.object.value.journal (more.0 ∷ []) in
          let b : length out.held.entered ≡ length out.object.value.journal = ap (λ (j : List ObjectEntry). length j) is.entered in
          let d = same_limit in omega arith),
      more.1 ∙ ap (λ (j : List ObjectEntry). j ++ more.0 ∷ []) (sym is.entered),
    )
  ]

  pub given_back : (g : ObjectSeen) (q : KnownObject) → g ≡ o → length o.journal ≤ o.limit → IsPassOf cell q → q.seen ≡ g.journal → q.shares ≡ out.held.shares →
      (g.journal ≡ out.held.entered → q.own ≡ out.held.own) → ((e : ObjectEntry) → g.journal ≡ out.held.entered ++ e ∷ [] → q.own ≡ out.held.own ++ length out.held.entered ∷ []) →
      IsGiven cell out.object.value is.pass q o
  given_back g q same within of_cell seen shares kept added =
      let journal : g.journal ≡ o.journal = ap (λ (x : ObjectSeen). x.journal) same in record {
        pass = record { of_cell = of_cell; within = subst (λ (z : ℕ × List ObjectEntry). length z.1 ≤ z.0) (λ k. (same_limit k, sym (seen ∙ journal) k)) within };
        seen = seen ∙ journal;
        kept = λ stays. kept (journal ∙ (stays ∙ sym is.entered)) ∙ is.own;
        added = λ e more. added e (journal ∙ (more ∙ ap (λ (j : List ObjectEntry). j ++ e ∷ []) (sym is.entered)))
            ∙ (ap (λ (l : List ℕ). l ++ length out.held.entered ∷ []) is.own ∙ ap (λ (j : List ObjectEntry). is.pass.own ++ length j ∷ []) is.entered);
        shares = shares ∙ is.shares;
      }

-- ---- where contracts see none taken, none is out

pub none_out : (out : Option Out) → taken_as out ≡ None → out ≡ None
none_out None none = refl
none_out (Some out) none = absurd cc

-- and where they see one, it is out
pub one_out : (cells : List ObjectCell) (now : Vec KnownObject Global) (o : Option Out) (out : Out) → o ≡ Some out → MayBeOut cells now o → IsOutAt cells now out
one_out cells now o out is may = subst (MayBeOut cells now) is may

-- ---- the object of a number

-- a list that has a place has a first
first_cell : {place : ℕ} (cells : List ObjectCell) → place < length cells → ObjectCell
first_cell {place} [] lt = absurd (omega (arith, lt))
first_cell (c ∷ cells) lt = c

module _ (cells : List ObjectCell) where
  number_at : (place : ℕ) (c : ObjectCell) → slice_get cells place ≡ Some c → slice_get (numbers_of (fixed_in cells)) place ≡ Some c.fixed.plan.number
  number_at place c at =
      slice_get-map (λ (f : ObjectFixed). f.plan.number) (fixed_in cells) place
      ∙ ap (option_map (λ (f : ObjectFixed). f.plan.number)) (slice_get-map (λ (x : ObjectCell). x.fixed) cells place ∙ ap (option_map (λ (x : ObjectCell). x.fixed)) at)

  numbers_long : length (numbers_of (fixed_in cells)) ≡ length cells
  numbers_long = length-map (fixed_in cells) (λ (f : ObjectFixed). f.plan.number) ∙ length-map cells (λ (x : ObjectCell). x.fixed)

  -- it has its number
  pub found_at : HaveOwnNumbers (fixed_in cells) → (place : ℕ) (c : ObjectCell) → slice_get cells place ≡ Some c → place_among cells c.fixed.plan.number ≡ place
  found_at own place c at = place_found (numbers_of (fixed_in cells)) c.fixed.plan.number place own (number_at place c at)

  -- no other number leads to it
  pub elsewhere : (place : ℕ) (c : ObjectCell) (n : ℕ) → slice_get cells place ≡ Some c → (n ≡ c.fixed.plan.number → ⊥) → place_among cells n ≡ place → ⊥
  elsewhere place c n at other same =
      let numbers : List ℕ = numbers_of (fixed_in cells) in
      let lt : place_among cells n < length numbers = let w = slice_get_within numbers place c.fixed.plan.number (number_at place c at) in omega (arith, w, same) in
      let here : get_or numbers (place_among cells n) 0 ≡ c.fixed.plan.number = ap (λ i. get_or numbers i 0) same ∙ get_or_from_slice_get numbers place c.fixed.plan.number 0 (number_at place c at) in
      other (sym (sym here ∙ eqb-true (get_or numbers (place_among cells n) 0) n (passes_at_first (λ m. m == n) numbers 0 lt)))

  module _ (number : ℕ) where
    pub place_is : (place : ℕ) → position (λ n. n == number) (numbers_of (fixed_in cells)) ≡ Some place → (place_among cells number ≡ place) × (place < length cells)
    place_is place is =
        let (test, same) = cond_some (ltb (place_among cells number) (length (numbers_of (fixed_in cells)))) (place_among cells number) place is in
        let lt : place_among cells number < length (numbers_of (fixed_in cells)) = grind (arith, nat_tests, test) in
        (same, (let a = numbers_long in omega (arith, a, same, lt)))

    fixed_found : (place : ℕ) (c : ObjectCell) → place_among cells number ≡ place → slice_get cells place ≡ Some c → fixed_at (fixed_in cells) number ≡ Some c.fixed
    fixed_found place c same at =
        fixed_at-place (fixed_in cells) number
        ∙ (ap (slice_get (fixed_in cells)) same ∙ (slice_get-map (λ (x : ObjectCell). x.fixed) cells place ∙ ap (option_map (λ (x : ObjectCell). x.fixed)) at))

    not_less : (b : Bool) (x : ℕ) → cond b (Some x) None ≡ None → b ≡ false
    not_less true x e = absurd cc
    not_less false x e = refl

    pub fixed_missing : position (λ n. n == number) (numbers_of (fixed_in cells)) ≡ None → fixed_at (fixed_in cells) number ≡ None
    fixed_missing none =
        let test : ltb (place_among cells number) (length (numbers_of (fixed_in cells))) ≡ false = not_less (ltb (place_among cells number) (length (numbers_of (fixed_in cells)))) (place_among cells number) none in
        let past : length (numbers_of (fixed_in cells)) ≤ place_among cells number = grind (arith, nat_tests, test) in
        fixed_at-place (fixed_in cells) number
        ∙ slice_get_past (fixed_in cells) (place_among cells number) (let a = length-map (fixed_in cells) (λ (f : ObjectFixed). f.plan.number) in omega (arith, a, past))

-- ---- taking and giving back

module _ (cells : List ObjectCell) (passes : List KnownObject) where
  abbrev pub resting : RackSeen
  resting = record { cells = cells; passes = passes; taken = None }

  pub takes_none : (number : ℕ) → position (λ n. n == number) (numbers_of (fixed_in cells)) ≡ None → TakenFrom (rack_seen resting) (rack_seen resting) number None
  takes_none number none = record {
    found = fixed_missing cells number none;
    journal = tt;
    taken = refl;
    rest = record { objects = refl; alone = refl; seen = refl; own = refl };
  }

  module _ (place : ℕ) (c : ObjectCell) (p : KnownObject) (at : slice_get cells place ≡ Some c) (there : slice_get passes place ≡ Some p) where
    abbrev out_with : ObjectSeen → RackSeen
    out_with o = record { cells = cells; passes = passes; taken = Some o }

    pub takes_one : (number : ℕ) (o : ObjectSeen) → place_among cells number ≡ place → fixed_of o ≡ c.fixed → Grows HasRoom c.fixed p.seen o.journal → TakenFrom (rack_seen resting) (rack_seen (out_with o)) number (Some o)
    takes_one number o same fixed grows =
        let seen : seen_on resting number ≡ p.seen = ap (λ n. journal_by (slice_get passes n)) same ∙ ap journal_by there in record {
          found = fixed_found cells number place c same at ∙ ap Some (sym fixed);
          journal = record { others = grows.0; goes_on = grows.1 ∙ ap (λ (j : List ObjectEntry). j ++ grows.0) (sym seen); undisturbed = λ e. absurd (false≢true e) };
          taken = refl;
          rest = record { objects = refl; alone = refl; seen = refl; own = refl };
        }

    module _ (was o : ObjectSeen) (q : KnownObject) (found : place_among cells c.fixed.plan.number ≡ place) (fixed : fixed_of was ≡ c.fixed) (back : IsBack was o) (g : IsGiven c was p q o) where
      abbrev back_with : RackSeen
      back_with = record { cells = cells; passes = set passes place q; taken = None }

      its_number : o.plan.number ≡ c.fixed.plan.number
      its_number = ap (λ (f : ObjectFixed). f.plan.number) (back.fixed ∙ fixed)

      its_place : place_among cells o.plan.number ≡ place
      its_place = ap (place_among cells) its_number ∙ found

      now_there : slice_get (set passes place q) (place_among cells o.plan.number) ≡ Some q
      now_there = ap (slice_get (set passes place q)) its_place ∙ set_same passes place q (slice_get_within passes place p there)

      was_there : slice_get passes (place_among cells o.plan.number) ≡ Some p
      was_there = ap (slice_get passes) its_place ∙ there

      pub gives_one : GivenBack (rack_seen (out_with was)) (rack_seen back_with) o
      gives_one = record {
        seen = ap journal_by now_there ∙ g.seen;
        kept = λ w is stays.
            ap places_by now_there ∙ (g.kept (stays ∙ ap (λ (x : ObjectSeen). x.journal) (sym (same_Some was w is))) ∙ ap places_by (sym was_there));
        added = λ w e is more.
            let same : was ≡ w = same_Some was w is in
            ap places_by now_there ∙ (g.added e (more ∙ ap (λ (x : ObjectSeen). x.journal ++ e ∷ []) (sym same))
            ∙ (ap (λ (x : ObjectSeen). p.own ++ length x.journal ∷ []) same ∙ ap (λ (l : List ℕ). l ++ length w.journal ∷ []) (ap places_by (sym was_there))));
        taken = refl;
        rest = record {
          objects = refl;
          alone = refl;
          others = λ n ne. let e = set_other passes place q (place_among cells n) (elsewhere cells place c n at (λ same. ne (same ∙ sym its_number))) in (ap journal_by e, ap places_by e);
        };
      }

  module _ (now : Vec KnownObject Global) (out : Out) (place : ℕ) (c : ObjectCell) (at : slice_get cells place ≡ Some c) (is : IsOutOf c now out) (placed : out.place ≡ place) where
    pub out_at : HaveOwnNumbers (fixed_in cells) → IsOutAt cells now out
    out_at own = record { cell = c; its_cell = ap (slice_get cells) placed ∙ at; found = found_at cells own place c at ∙ sym placed; is = is }

    pub taken : (number : ℕ) (o : ObjectSeen) → place_among cells number ≡ place → out.passes.value.items ≡ passes → out.object.value ≡ o →
        TakenFrom (rack_seen resting) (rack_seen (record { cells = cells; passes = out.passes.value.items; taken = Some out.object.value })) number (Some o)
    taken number o same before object =
        let there : slice_get passes place ≡ Some is.pass = (λ k. slice_get (sym before k) (sym placed k)) ∙ is.its_pass in
        subst (λ (z : List KnownObject × Option ObjectSeen). TakenFrom (rack_seen resting) (rack_seen (record { cells = cells; passes = z.0; taken = Some out.object.value })) number z.1) (λ k. (sym before k, Some (object k)))
        (takes_one place c is.pass at there number out.object.value same is.its_fixed is.grows)

-- the object that is out is given back
pub given : (cells : List ObjectCell) (now nows : Vec KnownObject Global) (out : Out) (one : IsOutAt cells now out) (c : ObjectCell) (p q : KnownObject) (was o : ObjectSeen) →
    slice_get cells out.place ≡ Some c → slice_get out.passes.value.items out.place ≡ Some p → nows.items ≡ set out.passes.value.items out.place q → IsGiven c out.object.value p q o → Some out.object.value ≡ Some was → IsBack was o →
    GivenBack (rack_seen (record { cells = cells; passes = out.passes.value.items; taken = Some out.object.value })) (rack_seen (record { cells = cells; passes = nows.items; taken = None })) o
given cells now nows out one c p q was o at there put g told back =
    let same : one.cell ≡ c = same_Some one.cell c (sym one.its_cell ∙ at) in
    subst (λ (l : List KnownObject). GivenBack (rack_seen (record { cells = cells; passes = out.passes.value.items; taken = Some out.object.value })) (rack_seen (record { cells = cells; passes = l; taken = None })) o) (sym put)
    (gives_one cells out.passes.value.items out.place c p at there out.object.value o q
    (ap (λ (x : ObjectCell). place_among cells x.fixed.plan.number) (sym same) ∙ one.found)
    (one.is.its_fixed ∙ ap (λ (x : ObjectCell). x.fixed) same)
    (subst (λ (x : ObjectSeen). IsBack x o) (sym (same_Some out.object.value was told)) back)
    g)

-- a number has a place exactly where an object has it
pub has_there : (cells : List ObjectCell) (number : ℕ) (r : Option ℕ) → r ≡ position (λ n. n == number) (numbers_of (fixed_in cells)) → is_some r ≡ is_some (fixed_at (fixed_in cells) number)
has_there cells number None is = sym (ap is_some (fixed_missing cells number (sym is)))
has_there cells number (Some place) is =
    let (same, lt) = place_is cells number place (sym is) in
    let here : slice_get cells place ≡ Some (get_or cells place (first_cell cells lt)) = slice_get-get_or cells place (first_cell cells lt) lt in
    sym (ap is_some (fixed_found cells number place (get_or cells place (first_cell cells lt)) same here))

-- ---- what is told is within the limits

module _ (cells : List ObjectCell) (passes : List KnownObject) (are : AreObjectPasses cells passes) (number : ℕ) (f : ObjectFixed) where
  within_at : (o : Option ObjectCell) → slice_get cells (place_among cells number) ≡ o → option_map (λ (x : ObjectCell). x.fixed) o ≡ Some f → length (journal_by (slice_get passes (place_among cells number))) ≤ f.limit
  within_at None here is = absurd cc
  within_at (Some c) here is =
      let (p, there, h) = zip_there IsObjectPass cells passes (place_among cells number) c are here in
      subst (λ (z : ObjectFixed × Option KnownObject). length (journal_by z.1) ≤ z.0.limit) (λ k. (same_Some c.fixed f is k, sym there k)) h.within

pub told_within : (s : RackSeen) → AreObjectPasses s.cells s.passes → AreWithin (fixed_in s.cells) (seen_on s)
told_within s are number f at =
    within_at s.cells s.passes are number f (slice_get s.cells (place_among s.cells number)) refl
    (sym (slice_get-map (λ (x : ObjectCell). x.fixed) s.cells (place_among s.cells number)) ∙ (sym (fixed_at-place (fixed_in s.cells) number) ∙ at))
