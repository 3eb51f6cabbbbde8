-- The journals of objects that are read one after the other, and what becomes of them.
use Rattle.std.proofs.Common.{◌≡◌, ◌⊎◌, ℕ, ◌+◌, ◌<◌, ◌≤◌, Bool, true, false, leb, not, ◌||◌, List, [], ◌∷◌, ◌++◌, length, map, Option, Some, None, Result, Ok, Err, refl, sym, ap, ◌∙◌, subst, arith, length-append}
use Rattle.std.specs.Prelude.{◌↔◌, IsTrue}
use Rattle.std.specs.Option.{is_some, option_map}
use Rattle.std.proofs.lemmas.List.{length-map, map_push}
use Rattle.std.proofs.lemmas.List.Sums.{sum_by_push}
use Rattle.byte_fields.specs.declared.fault.FormatFault.{FormatFault}
use Rattle.byte_fields.specs.declared.fault.FormatFault.TheVariants.{Malformed, NoMemory}
use Rattle.byte_fields.specs.Formats.{u32_in, u64_in}
use Rattle.byte_fields.specs.Readers.{items_behind, passing}
use Rattle.object_core.specs.Objects.{ObjectEntry, ObjectSeen}
use Rattle.object_core.specs.Shelving.{ObjectFixed, fixed_of}
use Rattle.agent_core.proofs.Journaling.{slice_front}
use Rattle.agent_core.proofs.AtPlaces.{slice_at}
use Rattle.shard_core.specs.Cells.{Cells}
use Rattle.journal_bytes.specs.JournalsReading.{IsLeastAbove, object_at, object_by, objects_at, rulings_at}
use Rattle.journal_bytes.specs.Reading.{ruled_at}
use Rattle.journal_bytes.specs.Spelled.{ObjectJournal, SpelledEntry, numbered}
use Rattle.journal_bytes.proofs.Rising.{by_least, least_first, least_next, refused_by_least}
use Rattle.audit_replay.specs.declared.fall.Failure.{Failure}
use Rattle.audit_replay.specs.declared.fall.Fall.{Fall}
use Rattle.audit_replay.specs.declared.fall.Progress.{Progress}
use Rattle.audit_replay.specs.declared.replayed.Cell.{Cell}
use Rattle.audit_replay.specs.declared.stepping.ShardReplay.{ShardReplay}
use Rattle.audit_replay.specs.Passes.{AreFreshObjects, EntriesRuled, HaveNumbers, IsFreshObject, ObjectComes, ObjectsCome, RulingsCome, rulings_of}
use Rattle.audit_replay.specs.Stepping.{HaveCome, MakesOf, PassesObject, PassesOver, failure_at, stepped_again}
use Rattle.audit_replay.proofs.Composed.{after_count}
use Rattle.audit_replay.proofs.Passing.{HasRead, ends_there, items_counted, reading_ends, reading_stops, reads_on, refused}
use Rattle.audit_replay.proofs.Progressing.{failed_after, object_begins, object_ends}
use Rattle.audit_replay.proofs.Splits.{same_parts}

-- ---- objects that are let go

pub object_passes : (bytes : List ℕ) (at number next end least : ℕ) → passing (λ n. leb least n) Malformed (u32_in bytes) at ≡ Ok (number, next) → least ≤ number → PassesOver (Ok end) (rulings_at bytes next) →
    MakesOf (PassesObject least) (Ok (number + 1, end)) (object_by (λ n. leb least n) bytes at)
unfolding object_by
object_passes bytes at number next end least e from (y, is, ends) = ((numbered number y.0, y.1), rw (e, is) refl, record { ends = ends; rises = (from, refl) })

module _ (bytes : List ℕ) (count start : ℕ) where
  -- one object more, whose number is above those before
  pub object_on : (i next then least above : ℕ) (h : HasRead (object_at bytes) count start i next (IsLeastAbove least)) → i < count → MakesOf (PassesObject least) (Ok (above, then)) (object_by (λ n. leb least n) bytes next) →
      HasRead (object_at bytes) count start (i + 1) then (IsLeastAbove above)
  object_on i next then least above h less (y, is, p) =
      reads_on (object_at bytes) count start i next then y.0 (IsLeastAbove least) (IsLeastAbove above) h less (by_least least h.read h.holds bytes next ∙ ends_there y.0 y.1 then (object_by (λ n. leb least n) bytes next) is p.ends)
      (λ holds. subst (λ n. IsLeastAbove n (h.read ++ y.0 ∷ [])) (sym p.rises.1) (least_next least h.read y.0 holds p.rises.0))

  -- an object that is refused
  pub object_refused : {X : Type 0} (Related : List ObjectJournal × ℕ → X → Type 0) (i next least : ℕ) (f : FormatFault) (h : HasRead (object_at bytes) count start i next (IsLeastAbove least)) → i < count →
      (f ≡ NoMemory) ⊎ (object_by (λ n. leb least n) bytes next ≡ Err f) → MakesOf Related (refused X f) (items_behind (object_at bytes) count [] start)
  object_refused Related i next least f h less refused =
      reading_stops (object_at bytes) count start Related i next f (IsLeastAbove least) h less (refused_by_least least h.read h.holds bytes next NoMemory f refused)

-- ---- whether entries are only read

pub all_same : (same : Bool) (failure : Option Failure) → not same || is_some failure ≡ false → same ≡ true
all_same false failure test = absurd cc
all_same true failure test = refl

pub none_failed_yet : (same : Bool) (failure : Option Failure) → not same || is_some failure ≡ false → failure ≡ None
none_failed_yet same None test = refl
none_failed_yet false (Some f) test = absurd cc
none_failed_yet true (Some f) test = absurd cc

-- ---- the entries of one object

module _ (rs after : List ShardReplay) (o now : ObjectSeen) (count next : ℕ) (read : Result (List ObjectEntry × ℕ) FormatFault) (counted : (y : List ObjectEntry × ℕ) → read ≡ Ok y → length y.0 ≡ count) where
  -- they are only read, where the cells are others or an entry failed
  pub entries_passed : (progress : Progress) → not progress.same || is_some progress.failure ≡ true → PassesOver (Ok next) read →
      MakesOf (EntriesRuled rs rs o progress) (Ok (record { same = progress.same; failure = progress.failure; entries = progress.entries + count }, next)) read
  entries_passed progress test (y, is, ends) = (
    y,
    is,
    record {
      ends = ends;
      same = refl;
      counted = omega (arith, counted y is);
      come = λ cells shards objects true_is fresh come. goes cells shards objects (numbered o.plan.number y.0) progress.same progress.failure test true_is come;
    },
  )
    where
      goes : (cells : Cells) (shards : List (List SpelledEntry)) (objects : List ObjectJournal) (x : ObjectJournal) (b : Bool) (f : Option Failure) → not b || is_some f ≡ true → IsTrue b → HaveCome cells shards objects rs f → HaveCome cells shards (objects ++ x ∷ []) rs f
      goes cells shards objects x false f test never come = absurd cc
      goes cells shards objects x true None test truly come = absurd cc
      goes cells shards objects x true (Some f) test truly come = failed_after cells shards objects rs rs x f come

  -- they are ruled
  pub entries_ruled : (fall : Option Fall) (progress : Progress) → progress.same ≡ true → progress.failure ≡ None → fixed_of now ≡ fixed_of o → MakesOf (RulingsCome rs after o now) (Ok (fall, next)) read →
      MakesOf (EntriesRuled rs after o progress) (Ok (record { same = true; failure = option_map (failure_at (Cell.Object o.plan.number)) fall; entries = progress.entries + count }, next)) read
  entries_ruled fall progress same whole fixed (y, is, r) = (
    y,
    is,
    record {
      ends = r.ends;
      same = sym same;
      counted = omega (arith, counted y is);
      come = λ cells shards objects truly fresh come.
          let stands : HaveCome cells shards objects rs None = subst (HaveCome cells shards objects rs) whole come in
          object_ends cells shards objects rs o.plan.number now after y.0 fall stands (r.come cells (stepped_again rs) objects o.plan.number (object_begins cells shards objects rs o.plan.number o fresh stands))
          (fresh.opened ∙ ap (λ (k : ObjectFixed). Some k) (sym fixed));
    },
  )

-- ---- one object

module _ (bytes : List ℕ) (rs after : List ShardReplay) (o : ObjectSeen) (progress : Progress) (at least number next count start : ℕ) where
  pub object_came : (compared : Bool) (now : Progress) (end : ℕ) → passing (λ n. leb least n) Malformed (u32_in bytes) at ≡ Ok (number, next) → least ≤ number → u64_in bytes next ≡ Ok (count, start) →
      (IsTrue compared ↔ (IsTrue progress.same × (number ≡ o.plan.number))) →
      MakesOf (EntriesRuled rs after o (record { same = compared; failure = progress.failure; entries = progress.entries })) (Ok (now, end)) (items_behind (λ _. ruled_at bytes) count [] start) →
      MakesOf (ObjectComes rs after o progress least) (Ok (now, number + 1, end)) (object_by (λ n. leb least n) bytes at)
  unfolding object_by rulings_at
  object_came compared now end e from counts same (y, is, c) = (
    (numbered number y.0, y.1),
    rw (e, counts, is) refl,
    record {
      ends = c.ends;
      rises = (from, refl);
      same = ((λ truly. same.0 (sym c.same ∙ truly)), (λ both. c.same ∙ same.1 both));
      counted = c.counted;
      come = λ cells shards objects truly fresh come.
          subst (λ n. HaveCome cells shards (objects ++ numbered n y.0 ∷ []) after now.failure) (sym (same.0 (sym c.same ∙ truly)).1) (c.come cells shards objects (sym c.same ∙ truly) fresh come);
    },
  )

-- ---- object after object

-- what is known behind these objects
pub record ObjectsSoFar (replayed rs : List ShardReplay) (gone : List ObjectSeen) (begun progress : Progress) (least : ℕ) (read : List ObjectJournal) : Type 0 where
  pub long : length read ≡ length gone
  pub above : IsLeastAbove least read
  pub same : IsTrue progress.same ↔ (IsTrue begun.same × HaveNumbers gone read)
  pub counted : progress.entries ≡ begun.entries + rulings_of read
  pub come : (cells : Cells) (shards : List (List SpelledEntry)) → IsTrue progress.same → AreFreshObjects cells gone → HaveCome cells shards [] replayed begun.failure → HaveCome cells shards read rs progress.failure

pub objects_begin : (rs : List ShardReplay) (begun : Progress) → ObjectsSoFar rs rs [] begun begun 0 []
objects_begin rs begun = record {
  long = refl;
  above = least_first;
  same = ((λ truly. (truly, refl)), (λ both. both.0));
  counted = omega arith;
  come = λ cells shards truly fresh come. come;
}

module _ (replayed rs after : List ShardReplay) (gone : List ObjectSeen) (begun progress now : Progress) (least : ℕ) (read : List ObjectJournal) (o : ObjectSeen) (one : ObjectJournal) (above end next : ℕ)
    (c : ObjectComes rs after o progress least (one, end) (now, above, next)) (h : ObjectsSoFar replayed rs gone begun progress least read) where
  abbrev numbers : List ObjectJournal → List ℕ
  numbers l = map (λ (j : ObjectJournal). j.number) l

  abbrev planned : List ObjectSeen → List ℕ
  planned l = map (λ (s : ObjectSeen). s.plan.number) l

  both_numbers : HaveNumbers (gone ++ o ∷ []) (read ++ one ∷ []) → HaveNumbers gone read × (one.number ≡ o.plan.number)
  both_numbers are =
      let pushed : numbers read ++ one.number ∷ [] ≡ planned gone ++ o.plan.number ∷ [] = sym (map_push (λ (j : ObjectJournal). j.number) read one) ∙ are ∙ map_push (λ (s : ObjectSeen). s.plan.number) gone o in
      let parts = same_parts (numbers read) (planned gone) one.number o.plan.number [] [] pushed (omega (arith, h.long, length-map read (λ (j : ObjectJournal). j.number), length-map gone (λ (s : ObjectSeen). s.plan.number))) in
      (parts.0, parts.1)

  numbers_more : HaveNumbers gone read → one.number ≡ o.plan.number → HaveNumbers (gone ++ o ∷ []) (read ++ one ∷ [])
  numbers_more are same =
      map_push (λ (j : ObjectJournal). j.number) read one ∙ ap (λ (l : List ℕ). l ++ one.number ∷ []) are ∙ ap (λ n. planned gone ++ n ∷ []) same ∙ sym (map_push (λ (s : ObjectSeen). s.plan.number) gone o)

  pub objects_next : ObjectsSoFar replayed after (gone ++ o ∷ []) begun now above (read ++ one ∷ [])
  objects_next = record {
    long = omega (arith, length-append read (one ∷ []), length-append gone (o ∷ []), h.long);
    above = subst (λ n. IsLeastAbove n (read ++ one ∷ [])) (sym c.rises.1) (least_next least read one h.above c.rises.0);
    same = (
      (λ truly. let (before, number) = c.same.0 truly in let (begins, are) = h.same.0 before in (begins, numbers_more are number)),
      (λ both. let (are, number) = both_numbers both.1 in c.same.1 (h.same.1 (both.0, are), number)),
    );
    counted = omega (arith, c.counted, h.counted, sum_by_push (λ (j : ObjectJournal). length j.entries) read one);
    come = λ cells shards truly fresh come.
        let before : IsTrue progress.same = (c.same.0 truly).0 in
        let new : IsFreshObject cells (length read) o = subst (λ n. IsFreshObject cells n o) (sym h.long) (fresh (length gone) o (slice_at gone o [])) in
        c.come cells shards read truly new (h.come cells shards before (λ i x at. fresh i x (slice_front gone (o ∷ []) i x at)) come);
  }

module _ (bytes : List ℕ) (count start : ℕ) (replayed : List ShardReplay) (begun : Progress) where
  -- the journals of these objects were read
  abbrev pub ObjectsRead : List ObjectSeen → ℕ → List ShardReplay → Progress → ℕ → Type 0
  ObjectsRead gone next rs progress least = HasRead (object_at bytes) count start (length gone) next (ObjectsSoFar replayed rs gone begun progress least)

  pub object_reads : (gone : List ObjectSeen) (next then least above : ℕ) (rs after : List ShardReplay) (progress now : Progress) (o : ObjectSeen) → length gone < count → ObjectsRead gone next rs progress least →
      MakesOf (ObjectComes rs after o progress least) (Ok (now, above, then)) (object_by (λ n. leb least n) bytes next) → ObjectsRead (gone ++ o ∷ []) then after now above
  object_reads gone next then least above rs after progress now o less h (y, is, c) =
      let Then = ObjectsSoFar replayed after (gone ++ o ∷ []) begun now above in
      let item : object_at bytes h.read next ≡ Ok (y.0, then) = by_least least h.read h.holds.above bytes next ∙ ends_there y.0 y.1 then (object_by (λ n. leb least n) bytes next) is c.ends in
      let one = reads_on (object_at bytes) count start (length gone) next then y.0 (ObjectsSoFar replayed rs gone begun progress least) Then h less item
      (λ so_far. objects_next replayed rs after gone begun progress now least h.read o y.0 above y.1 then c so_far) in
      let long : length gone + 1 ≡ length (gone ++ o ∷ []) = omega (arith, length-append gone (o ∷ [])) in
      subst (λ n. HasRead (object_at bytes) count start n then Then) long one

  pub object_fails : {X : Type 0} (Related : List ObjectJournal × ℕ → X → Type 0) (gone : List ObjectSeen) (next least : ℕ) (rs : List ShardReplay) (progress : Progress) (f : FormatFault) → length gone < count → (h : ObjectsRead gone next rs progress least) →
      (f ≡ NoMemory) ⊎ (object_by (λ n. leb least n) bytes next ≡ Err f) → MakesOf Related (refused X f) (items_behind (object_at bytes) count [] start)
  object_fails Related gone next least rs progress f less h refused =
      reading_stops (object_at bytes) count start Related (length gone) next f (ObjectsSoFar replayed rs gone begun progress least) h less (refused_by_least least h.read h.holds.above bytes next NoMemory f refused)

  pub objects_end : (objects : List ObjectSeen) (next least : ℕ) (rs : List ShardReplay) (progress : Progress) → count ≤ length objects → ObjectsRead objects next rs progress least →
      MakesOf (ObjectsCome replayed objects begun) (Ok (progress, next)) (items_behind (object_at bytes) count [] start)
  objects_end objects next least rs progress over h =
      reading_ends (object_at bytes) count start (ObjectsCome replayed objects begun) (length objects) next (progress, next) (ObjectsSoFar replayed rs objects begun progress least) h over
      (λ so_far. record { ends = refl; same = so_far.same; counted = λ _. so_far.counted; come = λ cells shards truly fresh come. (rs, so_far.come cells shards truly fresh come) })

-- ---- all objects

module _ (bytes : List ℕ) (replayed : List ShardReplay) (objects : List ObjectSeen) (progress : Progress) (at count start : ℕ) where
  -- as many as there are
  pub objects_compared : (r : Result (Progress × ℕ) FormatFault) → u32_in bytes at ≡ Ok (count, start) → count ≡ length objects → MakesOf (ObjectsCome replayed objects progress) r (items_behind (object_at bytes) (length objects) [] start) →
      MakesOf (ObjectsCome replayed objects progress) r (objects_at bytes at)
  unfolding objects_at
  objects_compared r e same made =
      after_count (u32_in bytes) (object_at bytes) (ObjectsCome replayed objects progress) at count start r e
      (subst (λ n. MakesOf (ObjectsCome replayed objects progress) r (items_behind (object_at bytes) n [] start)) (sym same) made)

  -- more or fewer, which are only read
  pub objects_differ : (next : ℕ) → u32_in bytes at ≡ Ok (count, start) → (count ≡ length objects → ⊥) → PassesOver (Ok next) (items_behind (object_at bytes) count [] start) →
      MakesOf (ObjectsCome replayed objects progress) (Ok (record { same = false; failure = progress.failure; entries = progress.entries }, next)) (objects_at bytes at)
  unfolding objects_at
  objects_differ next e differs (y, is, ends) =
      let others : HaveNumbers objects y.0 → ⊥ = λ are.
      differs (omega (arith, items_counted (object_at bytes) count [] start y is, ap (λ (l : List ℕ). length l) are, length-map y.0 (λ (j : ObjectJournal). j.number), length-map objects (λ (s : ObjectSeen). s.plan.number))) in
      after_count (u32_in bytes) (object_at bytes) (ObjectsCome replayed objects progress) at count start (Ok (record { same = false; failure = progress.failure; entries = progress.entries }, next)) e (
        y,
        is,
        record {
          ends = ends;
          same = ((λ never. absurd cc), (λ both. absurd (others both.1)));
          counted = λ never. absurd cc;
          come = λ cells shards never fresh come. absurd cc;
        },
      )
