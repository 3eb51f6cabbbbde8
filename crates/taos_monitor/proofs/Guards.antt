-- What came of a request at its object: it was ruled on or not, the object given back, and what was granted performed.
use Rattle.std.proofs.Common.{◌≡◌, ◌≢◌, ℕ, ◌<◌, ◌≤◌, Bool, true, false, cond, List, [], ◌∷◌, ◌++◌, length, map, All, Option, None, Some, slice_get, refl, sym, ap, subst, subst₂, ◌∙◌, inl, inr, arith, length-append}
use Rattle.std.specs.Prelude.{◌==◌}
use Rattle.std.proofs.lemmas.Bool.{cases_eq, eqb-true}
use Rattle.std.proofs.lemmas.List.{get_or-map, length-map}
use Rattle.std.proofs.lemmas.Option.{none-some, same_Some}
use Rattle.object_core.specs.Objects.{ObjectEntry, ObjectSeen}
use Rattle.object_core.specs.Operation.{Op}
use Rattle.object_core.specs.Shelving.{ObjectFixed, ShelfSeen, fixed_of, fixed_at, AreWithin}
use Rattle.object_core.specs.Shelving.{GoesOn as TakenOn}
use Rattle.object_core.specs.declared.ruling.Ruling.{Ruling}
use Rattle.object_core.specs.declared.ruling.Ruling.TheVariants as rulings
use Rattle.stmt_codec.specs.Certificates.{Certificate}
use Rattle.taos_wire.specs.Reply as replies
use Rattle.taos_wire.specs.Reply.{Reply}
use Rattle.taos_wire.specs.View.{request}
use Rattle.proof_cache.specs.Cached.{Cached}
use Rattle.agent_core.specs.declared.asked.Settled.{Settled}
use Rattle.agent_core.specs.State.{Plan, Ask}
use Rattle.agent_core.specs.Journals.{Entry, Begins, ShardSeen, Stands}
use Rattle.agent_core.specs.Shards.{ShardsSeen}
use Rattle.agent_core.specs.Asked.{FoundRoom, IsGrant, had_no_room}
use Rattle.agent_core.proofs.Asks.{some_own, standing}
use Rattle.agent_core.proofs.Onward.{begins_itself, denied_stays, grant_stays}
use Rattle.taos_monitor.specs.declared.deciding.Came.{Came}
use Rattle.taos_monitor.specs.declared.deciding.Ruled.{Ruled}
use Rattle.request_course.specs.Asking.{TellsFull, unanswered}
use Rattle.request_course.specs.AtObject.{Seeking, own_at, ruled_as, told_or, HasLooked, LeavesOut, IsGuardedAfter, object_is_full, no_ruling, asks_for}
use Rattle.request_course.specs.AtObject as guarded
use Rattle.request_course.specs.Cells.{Cell, Journals, Place, entries_in, in_shard, in_object, objects_in, shards_in, seen_by, alone_of, AreLegalShards}
use Rattle.request_course.specs.Effects.{ShardStep, its_place, IsPerformed}
use Rattle.taos_monitor.specs.Performing.{PerformedAs, SteppedBy}
use Rattle.request_course.specs.Operations.{effect_of}
use Rattle.taos_monitor.specs.Ruling.{DecidedTo, GuardedTo, IsRuled, at_limit, unruled, shard_of, standing_by, ruled_at, seeking_of}
use Rattle.taos_monitor.specs.Ruling as ruling
use Rattle.request_course.proofs.Going.{OneGoesOn, one_place, no_places, object_went_on, goes_on_twice, stood, shards_begin}
use Rattle.request_course.proofs.Short.{short}
use Rattle.taos_monitor.proofs.Telling.{has_places}

-- ---- objects by their numbers

numbered_so : (b : Bool) (f g : ObjectFixed) (number : ℕ) (found : Option ObjectFixed) → b ≡ (f.plan.number == number) → cond b (Some f) found ≡ Some g → (found ≡ Some g → g.plan.number ≡ number) → g.plan.number ≡ number
numbered_so true f g number found is e later = subst (λ (h : ObjectFixed). h.plan.number ≡ number) (same_Some f g e) (eqb-true f.plan.number number (sym is))
numbered_so false f g number found is e later = later e

-- what is found has the number
pub fixed_at-number : (objects : List ObjectFixed) (number : ℕ) (g : ObjectFixed) → fixed_at objects number ≡ Some g → g.plan.number ≡ number
fixed_at-number [] number g e = absurd (none-some g e)
fixed_at-number (f ∷ objects) number g e = numbered_so (f.plan.number == number) f g number (fixed_at objects number) refl e (fixed_at-number objects number g)

within_after : (objects : List ObjectFixed) (seen0 seen1 : ℕ → List ObjectEntry) (number : ℕ) (o : ObjectSeen) → fixed_at objects number ≡ Some (fixed_of o) → AreWithin objects seen0 →
    ((n : ℕ) → n ≢ number → seen1 n ≡ seen0 n) → length (seen1 number) ≤ o.limit → AreWithin objects seen1
within_after objects seen0 seen1 number o at within others fits n f is = elim (cases_eq n number) [
  | inl same ↦
      let one : fixed_of o ≡ f = same_Some (fixed_of o) f (sym at ∙ ap (fixed_at objects) (sym same) ∙ is) in
      subst (λ (h : ObjectFixed). length (seen1 n) ≤ h.limit) one (subst (λ (k : ℕ). length (seen1 k) ≤ o.limit) (sym same) fits)
  | inr not ↦ subst (λ (l : List ObjectEntry). length l ≤ f.limit) (sym (others n not)) (within n f is)
]

-- ---- the object given back

module _ (number : ℕ) (o : ObjectSeen) (lone : Bool) (seen0 seen1 : ℕ → List ObjectEntry) (own0 own1 : ℕ → List ℕ) (taken : TakenOn lone (seen0 number) o) where
  as_taken : Begins (seen0 number) o.journal
  as_taken = record { rest = taken.others; is = taken.goes_on }

  -- as it was taken
  pub given_unruled : seen1 number ≡ o.journal → own1 number ≡ own0 number → OneGoesOn lone (seen0 number) (seen1 number) (own0 number) (own1 number) []
  given_unruled seen own =
      no_places lone (seen0 number) (seen1 number) (own0 number) (own1 number) (subst (Begins (seen0 number)) (sym seen) as_taken) (λ is. seen ∙ taken.undisturbed is) own

  -- with a ruling
  pub given_ruled : (e : ObjectEntry) → seen1 number ≡ o.journal ++ e ∷ [] → own1 number ≡ own0 number ++ length o.journal ∷ [] → OneGoesOn lone (seen0 number) (seen1 number) (own0 number) (own1 number) (length o.journal ∷ [])
  given_ruled e seen own = one_place lone (seen0 number) o.journal (seen1 number) (own0 number) (own1 number) e (length o.journal) as_taken taken.undisturbed seen refl own

-- ---- what came of the ask, by what is ruled

module _ (plans : List Plan) (plan : Plan) (past : Journals) (shards : ℕ → List Entry) (objects : ℕ → List ObjectEntry) (x : Seeking) (before : List ObjectEntry) (after : Begins (past.objects x.request.object) before) where
  unruled_as : (ruled : Option Ruled) (own : List ℕ) (reply : Reply) → IsRuled (shard_of plan (shards x.shard)) x before ruled own reply → ruled ≡ None → objects x.request.object ≡ before →
      IsGuardedAfter plans plan (past, record { shards = shards; objects = objects }) x (own_at own [] []) reply
  unruled_as ruled own reply (at_limit full) none there = object_is_full (ap (λ (l : List ObjectEntry). length l) there ∙ full)
  unruled_as ruled own reply (unruled room u) none there = no_ruling before (record { begins = subst (Begins before) (sym there) (begins_itself before); after = λ told. after; room = λ told. room }) u
  unruled_as ruled own reply _ none there = absurd cc

same_ruled : (a b : Ruled) → Some a ≡ Some b → a ≡ b
same_ruled a b e = cc

-- the journals of the shards go on while what was granted is performed
module _ (plans : List Plan) (plan : Plan) (past : Journals) (shards later : ℕ → List Entry) (objects : ℕ → List ObjectEntry) (x : Seeking) (before : List ObjectEntry) (goes : Begins (shards x.shard) (later x.shard)) (within : length (later x.shard) ≤ plan.limit)
    (r : Ruled) (rest : List ObjectEntry) (stands : objects x.request.object ≡ before ++ ruled_as r.shard r.place x.request.op r.ruling ∷ rest) (steps : List ShardStep) (refused : Option Reply)
    (performed : PerformedAs r.ruling (IsPerformed plans later x.request.op (effect_of x.request.op x.certs x.reading)) steps refused)
    (new : All (λ (p : Place). entries_in (record { shards = shards; objects = objects }) p.cell ≤ p.number) (map its_place steps)) (there : All (λ (p : Place). p.number < entries_in (record { shards = later; objects = objects }) p.cell) (map its_place steps)) where
  -- a journal at its limit has no step
  none_there : length (shards x.shard) ≡ plan.limit → All (λ (s : ShardStep). s.shard ≢ x.shard) steps
  none_there full = λ k d lt.
      let inside : k < length (map its_place steps) = omega (arith, lt, length-map steps its_place) in
      let at = get_or-map its_place steps k d (its_place d) lt in
      let below = subst (λ (p : Place). entries_in (record { shards = shards; objects = objects }) p.cell ≤ p.number) at (new k (its_place d) inside) in
      let above = subst (λ (p : Place). p.number < entries_in (record { shards = later; objects = objects }) p.cell) at (there k (its_place d) inside) in
      λ same. omega (arith, full, within, below, above, ap (λ (s : ℕ). length (shards s)) same, ap (λ (s : ℕ). length (later s)) same)

  left_out : (a : Ask) (place e : ℕ) (c : Cached) (kept : Bool) (settled : Settled) (own : List ℕ) → IsGrant plan (shards x.shard) a place e c kept settled own → LeavesOut settled x.shard steps
  left_out a place e c kept settled own (had_no_room g full) = none_there full
  left_out a place e c kept settled own _ = tt

  entry_stands : (s : Ruled) → r ≡ s → Stands (objects x.request.object) (length before) before (ruled_as s.shard s.place x.request.op s.ruling)
  entry_stands s is = record { rest = rest; is = stands ∙ ap (λ (t : Ruled). before ++ ruled_as t.shard t.place x.request.op t.ruling ∷ rest) is; placed = refl }

  performed_as : (s : Ruled) → r ≡ s → PerformedAs s.ruling (IsPerformed plans later x.request.op (effect_of x.request.op x.certs x.reading)) steps refused
  performed_as s is = subst (λ (t : Ruled). PerformedAs t.ruling (IsPerformed plans later x.request.op (effect_of x.request.op x.certs x.reading)) steps refused) is performed

  abbrev Guarded : List ℕ → Reply → Type 0
  Guarded own reply = IsGuardedAfter plans plan (past, record { shards = later; objects = objects }) x (own_at own (length before ∷ []) steps) (told_or refused reply)

  pub ruled_on : (ruled : Option Ruled) (own : List ℕ) (reply : Reply) → IsRuled (shard_of plan (shards x.shard)) x before ruled own reply → ruled ≡ Some r → Guarded own reply
  ruled_on ruled own reply (ruling.denied {place} {denial} {told} d tells) some =
      let is : r ≡ ruled_at x.shard place rulings.Denied = same_ruled r (ruled_at x.shard place rulings.Denied) (sym some) in
      let (none, nothing) = performed_as (ruled_at x.shard place rulings.Denied) is in
      subst₂ (λ (ss : List ShardStep) (o : Option Reply). IsGuardedAfter plans plan (past, record { shards = later; objects = objects }) x (own_at (place ∷ []) (length before ∷ []) ss) (told_or o (replies.Denied x.shard place told))) (sym none) (sym nothing)
      (guarded.denied before (entry_stands (ruled_at x.shard place rulings.Denied) is) (denied_stays plan (shards x.shard) (later x.shard) (asks_for x before) goes place denial d) tells)
  ruled_on ruled own reply (ruling.granted {place} {entry} {c} {kept} {settled} {own = asks} g) some =
      let is : r ≡ ruled_at x.shard place (rulings.Granted entry) = same_ruled r (ruled_at x.shard place (rulings.Granted entry)) (sym some) in
      guarded.granted before (entry_stands (ruled_at x.shard place (rulings.Granted entry)) is)
      (grant_stays plan (shards x.shard) (later x.shard) (asks_for x before) goes place entry c kept settled asks within g)
      (performed_as (ruled_at x.shard place (rulings.Granted entry)) is)
      (left_out (asks_for x before) place entry c kept settled asks g)
  ruled_on ruled own reply _ some = absurd cc

-- the shards as they are, by the plans that stayed
abbrev pub as_at_first : (first now : ShardsSeen) → ShardsSeen
as_at_first first now = record { plans = first.plans; alone = first.alone; seen = now.seen; own = now.own }

-- the steps of what was performed, by these plans
pub stepped_over : (first old new : ShardsSeen) → old.plans ≡ first.plans → old.alone ≡ first.alone → (r : Ruling) (op same_op : Op) → same_op ≡ op → (certs : List Certificate) (reading : ℕ) (answer refused : Option Reply) → answer ≡ refused →
    SteppedBy old new (λ steps. PerformedAs r (IsPerformed old.plans new.seen same_op (effect_of same_op certs reading)) steps answer) → SteppedBy (as_at_first first old) new (λ steps. PerformedAs r (IsPerformed first.plans new.seen op (effect_of op certs reading)) steps refused)
stepped_over first old new same solo r op same_op op_is certs reading answer refused is s =
    subst (λ (o : Option Reply). SteppedBy (as_at_first first old) new (λ steps. PerformedAs r (IsPerformed first.plans new.seen op (effect_of op certs reading)) steps o)) is
    (subst₂ (λ (ps : List Plan) (b : Bool). SteppedBy (record { plans = ps; alone = b; seen = old.seen; own = old.own }) new (λ steps. PerformedAs r (IsPerformed ps new.seen op (effect_of op certs reading)) steps answer)) same solo
    (subst (λ (o : Op). SteppedBy old new (λ steps. PerformedAs r (IsPerformed old.plans new.seen o (effect_of o certs reading)) steps answer)) op_is s))

-- what is ruled has its Ask
pub ruled_has : (s : ShardSeen) (x : Seeking) (before : List ObjectEntry) (r : Ruled) (ruled : Option Ruled) (own : List ℕ) (reply : Reply) → IsRuled s x before ruled own reply → ruled ≡ Some r → own ≡ [] → ⊥
ruled_has s x before r ruled own reply (ruling.denied {place} d tells) some none = some_own place none
ruled_has s x before r ruled own reply (ruling.granted {place} {entry} {c} {kept} {settled} {own = asks} g) some none = has_places s.plan s.journal (asks_for x before) place entry c kept settled asks g none
ruled_has s x before r ruled own reply _ some none = absurd cc

-- no shard's journal was found full, where that of the shard that was asked was not
full_told : (before after : ShardsSeen) (h : ℕ) (plan : Plan) (own : List ℕ) (reply : Reply) → slice_get before.plans h ≡ Some plan → TellsFull plan (before.seen h) (after.seen h) own reply → ((n : ℕ) → n ≢ h → after.seen n ≡ before.seen n) →
    (shard : ℕ) (p : Plan) → slice_get before.plans shard ≡ Some p → TellsFull p (before.seen shard) (after.seen shard) own reply
full_told before after h plan own reply planned here others shard p at lacks none = elim (cases_eq shard h) [
  | inl same ↦
      let is : p ≡ plan = same_Some p plan (sym at ∙ ap (slice_get before.plans) same ∙ planned) in
      subst (λ (n : ℕ). FoundRoom p (before.seen n) (after.seen n)) (sym same) (subst (λ (q : Plan). FoundRoom q (before.seen h) (after.seen h)) (sym is) (here lacks none))
  | inr not ↦ inl (others shard not)
]

-- no Ask stands, and memory lacks
unasked : HasLooked [] replies.NoMemory → ⊥
unasked (inl some) = some refl
unasked (inr told) = told refl

-- ---- the whole

module _ (shards0 : ShardsSeen) (shelf0 : ShelfSeen) (c : Came) (within : AreWithin shelf0.objects shelf0.seen) where
  abbrev number : ℕ
  number = (request c.asked.now).object

  abbrev alone : Cell → Bool
  alone = alone_of shards0.alone shelf0.alone

  -- memory was refused before the object was taken
  pub unready : (fixed : ObjectFixed) → AreLegalShards shards0.plans shards0.seen → c.shard < length shards0.plans →
      GuardedTo (standing_by shards0 shelf0) (seen_by shards0 shelf0) (seen_by shards0 shelf0) (seeking_of c fixed) replies.NoMemory
  unready fixed legal there =
      let (plan, planned) = standing shards0.plans c.shard there in
      record {
        plan = plan;
        planned = planned;
        own = own_at [] [] [];
        goes_on = stood alone (seen_by shards0 shelf0);
        legal = record { shards = legal; objects = within };
        tells_full = λ shard p is lacks none. inl refl;
        guarded = no_ruling [] (record { begins = record { rest = shelf0.seen number; is = refl }; after = λ told. absurd (unasked told); room = λ told. absurd (unasked told) }) (unanswered (inl refl));
      }

  module _ (o : ObjectSeen) (at : fixed_at shelf0.objects number ≡ Some (fixed_of o)) (taken : TakenOn shelf0.alone (shelf0.seen number) o)
      (shelf1 : ShelfSeen) (others : (n : ℕ) → n ≢ number → (shelf1.seen n ≡ shelf0.seen n) × (shelf1.own n ≡ shelf0.own n)) (shards1 : ShardsSeen) where
    -- there is no ruling
    pub guarded_unruled : (ruled : Option Ruled) (reply : Reply) → DecidedTo shards0 shards1 (c, o, ruled) reply → ruled ≡ None → shelf1.seen number ≡ o.journal → shelf1.own number ≡ shelf0.own number → length o.journal ≤ o.limit →
        GuardedTo (standing_by shards0 shelf0) (seen_by shards0 shelf0) (seen_by shards1 shelf1) (seeking_of c (fixed_of o)) reply
    guarded_unruled ruled reply d none seen own fits = record {
      plan = d.plan;
      planned = d.planned;
      own = own_at d.own [] [];
      goes_on =
          goes_on_twice alone (seen_by shards0 shelf0) (seen_by shards1 shelf1) (seen_by shards1 shelf1) (map (in_shard c.shard) d.own ++ []) []
          (goes_on_twice alone (seen_by shards0 shelf0) (seen_by shards1 shelf0) (seen_by shards1 shelf1) (map (in_shard c.shard) d.own) []
          (d.goes_on shelf0.alone (objects_in shelf0)) (object_went_on number shelf0.seen shelf1.seen shelf0.own shelf1.own others shards0.alone shelf0.alone (shards_in shards1) []
          (given_unruled number o shelf0.alone shelf0.seen shelf1.seen shelf0.own shelf1.own taken seen own)))
          (stood alone (seen_by shards1 shelf1));
      legal = record {
        shards = d.legal;
        objects = within_after shelf0.objects shelf0.seen shelf1.seen number o at within (λ n not. (others n not).0) (omega (arith, ap (λ (l : List ObjectEntry). length l) seen, fits));
      };
      tells_full = full_told shards0 shards1 c.shard d.plan d.own reply d.planned d.ends.1 d.others;
      guarded = unruled_as shards0.plans d.plan (seen_by shards0 shelf0).journals shards1.seen shelf1.seen (seeking_of c (fixed_of o)) o.journal
          (as_taken number o shelf0.alone shelf0.seen shelf1.seen shelf0.own shelf1.own taken) ruled d.own reply d.ends.0 none seen;
    }

    module _ (r : Ruled) (seen : shelf1.seen number ≡ o.journal ++ ruled_as r.shard r.place (request c.asked.now).op r.ruling ∷ []) (own : shelf1.own number ≡ shelf0.own number ++ length o.journal ∷ []) (room : length o.journal < o.limit) (shards2 : ShardsSeen) where
      -- there is one, and what it grants was performed
      pub guarded_ruled : (ruled : Option Ruled) (reply : Reply) (refused : Option Reply) → DecidedTo shards0 shards1 (c, o, ruled) reply → ruled ≡ Some r →
          SteppedBy (as_at_first shards0 shards1) shards2 (λ steps. PerformedAs r.ruling (IsPerformed shards0.plans shards2.seen (request c.asked.now).op (effect_of (request c.asked.now).op (seeking_of c (fixed_of o)).certs c.reading)) steps refused) →
          GuardedTo (standing_by shards0 shelf0) (seen_by shards0 shelf0) (seen_by shards2 shelf1) (seeking_of c (fixed_of o)) (told_or refused reply)
      guarded_ruled ruled reply refused d some s = record {
        plan = d.plan;
        planned = d.planned;
        own = own_at d.own (length o.journal ∷ []) s.steps;
        goes_on =
            goes_on_twice alone (seen_by shards0 shelf0) (seen_by shards1 shelf1) (seen_by shards2 shelf1)
            (map (in_shard c.shard) d.own ++ map (in_object number) (length o.journal ∷ [])) (map its_place s.steps)
            (goes_on_twice alone (seen_by shards0 shelf0) (seen_by shards1 shelf0) (seen_by shards1 shelf1) (map (in_shard c.shard) d.own) (map (in_object number) (length o.journal ∷ []))
            (d.goes_on shelf0.alone (objects_in shelf0))
            (object_went_on number shelf0.seen shelf1.seen shelf0.own shelf1.own others shards0.alone shelf0.alone (shards_in shards1) (length o.journal ∷ [])
            (given_ruled number o shelf0.alone shelf0.seen shelf1.seen shelf0.own shelf1.own taken (ruled_as r.shard r.place (request c.asked.now).op r.ruling) seen own)))
            (s.goes_on shelf0.alone (objects_in shelf1));
        legal = record {
          shards = s.legal;
          objects = within_after shelf0.objects shelf0.seen shelf1.seen number o at within (λ n not. (others n not).0)
              (omega (arith, ap (λ (l : List ObjectEntry). length l) seen, length-append o.journal (ruled_as r.shard r.place (request c.asked.now).op r.ruling ∷ []), room));
        };
        tells_full = λ shard p is lacks none. absurd (ruled_has (shard_of d.plan (shards1.seen c.shard)) (seeking_of c (fixed_of o)) o.journal r ruled d.own reply d.ends.0 some none);
        guarded = ruled_on shards0.plans d.plan (seen_by shards0 shelf0).journals shards1.seen shards2.seen shelf1.seen (seeking_of c (fixed_of o)) o.journal
            (shards_begin shards0.alone (shards_in shards1) (shards_in shards2) (map its_place s.steps) s.goes_on c.shard)
            (short d.plan (shards2.seen c.shard) (s.legal c.shard d.plan d.planned)) r [] seen s.steps refused s.ends
            (s.goes_on shelf0.alone (objects_in shelf1)).new_places (s.goes_on shelf0.alone (objects_in shelf1)).there ruled d.own reply d.ends.0 some;
      }
