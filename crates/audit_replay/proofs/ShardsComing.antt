-- The journals of shards that are read one after the other, and what becomes of them.
use Rattle.std.proofs.Common.{◌≡◌, ◌⊎◌, ℕ, ◌+◌, ◌<◌, ◌≤◌, true, false, List, [], ◌∷◌, ◌++◌, length, map, Option, Some, None, Result, Ok, Err, slice_get, refl, sym, ap, ◌∙◌, subst, arith, length-append}
use Rattle.std.specs.Prelude.{IsTrue}
use Rattle.std.specs.Option.{is_some, option_map}
use Rattle.std.specs.declared.alloc.Global.{Global}
use Rattle.std.specs.declared.vec.Vec.{Vec}
use Rattle.std.proofs.lemmas.List.Sums.{sum_by_push}
use Rattle.byte_fields.specs.declared.fault.FormatFault.{FormatFault}
use Rattle.byte_fields.specs.declared.fault.FormatFault.TheVariants.{NoMemory}
use Rattle.byte_fields.specs.Formats.{u32_in, u64_in}
use Rattle.byte_fields.specs.Readers.{items_behind}
use Rattle.agent_core.specs.Journals.{Entry, ShardSeen}
use Rattle.agent_core.specs.State.{Plan}
use Rattle.shard_core.specs.Cells.{Cells}
use Rattle.journal_bytes.specs.JournalsReading.{shard_at, shards_at}
use Rattle.journal_bytes.specs.Reading.{entry_at}
use Rattle.journal_bytes.specs.Spelled.{SpelledEntry, spelled}
use Rattle.audit_replay.specs.declared.due.Due.{Due}
use Rattle.audit_replay.specs.declared.fall.Failure.{Failure}
use Rattle.audit_replay.specs.declared.fall.Fall.{Fall}
use Rattle.audit_replay.specs.declared.fall.Progress.{Progress}
use Rattle.audit_replay.specs.declared.replayed.Cell.{Cell}
use Rattle.audit_replay.specs.declared.stepping.ShardReplay.{ShardReplay}
use Rattle.audit_replay.specs.Passes.{AreFresh, EntriesCome, IsFresh, ReplayComes, ShardComes, ShardsCome, ShardsCompare, entries_of}
use Rattle.audit_replay.specs.Stepping.{HasCome, HaveCome, MakesOf, PassesOver, comes, failure_at, stand}
use Rattle.audit_replay.proofs.Composed.{after_count, makes_known}
use Rattle.audit_replay.proofs.Passing.{HasRead, ends_there, items_counted, reading_ends, reading_stops, reads_on, refused}
use Rattle.audit_replay.proofs.Progressing.{failed_on, no_objects, one_more}
use Rattle.audit_replay.proofs.Splits.{next_at, next_within, nothing}

-- ---- whether an entry failed

pub some_is : (o : Option Failure) → is_some o ≡ true → (f : Failure) × (o ≡ Some f)
some_is None test = absurd cc
some_is (Some f) test = (f, refl)

pub none_is : (o : Option Failure) → is_some o ≡ false → o ≡ None
none_is None test = refl
none_is (Some f) test = absurd cc

-- ---- one shard

no_item : {X : Type 0} (i : ℕ) (x : X) → slice_get [] i ≡ Some x → ⊥
no_item i x e = absurd cc

-- a shard that has no entry yet
pub fresh_comes : (plans : List Plan) (number : ℕ) (r : ShardReplay) → r.marks.items ≡ [] → IsFresh plans number r.shard → HasCome plans number [] r None
fresh_comes plans number r none fresh =
    comes (record {
      opened = fresh.opened;
      planned = fresh.planned;
      legal = λ before e rest is. absurd (nothing before e rest (sym fresh.empty ∙ is));
      marks = record {
        counted = ap (λ (l : List (Option Due)). length l) none ∙ sym (ap (λ (l : List Entry). length l) fresh.empty);
        each = λ place mark stands. absurd (no_item place mark (ap (λ (l : List (Option Due)). slice_get l place) (sym none) ∙ stands));
      };
    }) (ap (λ (l : List Entry). map spelled l) fresh.empty)

pub replay_made : (s : ShardSeen) (before after : ShardReplay) (fall : Option Fall) (next : ℕ) (read : Result (List SpelledEntry × ℕ) FormatFault) → before.shard ≡ s → before.marks.items ≡ [] → MakesOf (EntriesCome before after) (Ok (fall, next)) read →
    MakesOf (ReplayComes s) (Ok (after, fall, next)) read
replay_made s before after fall next read is none (y, made, e) =
    (y, made, record { ends = e.ends; come = λ plans number fresh. e.come plans number (fresh_comes plans number before none (subst (IsFresh plans number) (sym is) fresh)) })

module _ (bytes : List ℕ) (s : ShardSeen) (rs : List ShardReplay) (progress : Progress) (at count start next : ℕ) where
  abbrev item : List SpelledEntry → ℕ → Result (SpelledEntry × ℕ) FormatFault
  item _ = entry_at bytes

  counted_so : (y : List SpelledEntry × ℕ) → items_behind item count [] start ≡ Ok y → progress.entries + count ≡ progress.entries + length y.0
  counted_so y is = omega (arith, items_counted item count [] start y is)

  -- it is only read, after an entry that failed
  pub shard_passed : (f : Failure) → progress.failure ≡ Some f → u64_in bytes at ≡ Ok (count, start) → PassesOver (Ok next) (items_behind item count [] start) →
      MakesOf (ShardComes s rs rs progress) (Ok (record { same = progress.same; failure = progress.failure; entries = progress.entries + count }, next)) (shard_at bytes at)
  unfolding shard_at
  shard_passed f failed e (y, is, ends) =
      after_count (u64_in bytes) item (ShardComes s rs rs progress) at count start (Ok (record { same = progress.same; failure = progress.failure; entries = progress.entries + count }, next)) e (
        y,
        is,
        record {
          ends = ends;
          same = refl;
          counted = counted_so y is;
          come = λ cells shards fresh come.
              subst (HaveCome cells (shards ++ y.0 ∷ []) [] rs) (sym failed) (failed_on cells shards rs y.0 rs f (subst (HaveCome cells shards [] rs) failed come));
        },
      )

  -- it is stepped
  pub shard_came : (replay : ShardReplay) (fall : Option Fall) (number : ℕ) → progress.failure ≡ None → number ≡ length rs → u64_in bytes at ≡ Ok (count, start) → MakesOf (ReplayComes s) (Ok (replay, fall, next)) (items_behind item count [] start) →
      MakesOf (ShardComes s rs (rs ++ replay ∷ []) progress) (Ok (record { same = progress.same; failure = option_map (failure_at (Cell.Shard number)) fall; entries = progress.entries + count }, next)) (shard_at bytes at)
  unfolding shard_at
  shard_came replay fall number whole is_number e (y, is, r) =
      let now : Progress = record { same = progress.same; failure = option_map (failure_at (Cell.Shard number)) fall; entries = progress.entries + count } in
      after_count (u64_in bytes) item (ShardComes s rs (rs ++ replay ∷ []) progress) at count start (Ok (now, next)) e (
        y,
        is,
        record {
          ends = r.ends;
          same = refl;
          counted = counted_so y is;
          come = λ cells shards fresh come.
              subst (λ n. HaveCome cells (shards ++ y.0 ∷ []) [] (rs ++ replay ∷ []) (option_map (failure_at (Cell.Shard n)) fall)) (sym is_number)
              (one_more cells shards rs y.0 replay fall (r.come cells.plans (length shards) fresh) (subst (HaveCome cells shards [] rs) whole come));
        },
      )

-- ---- shard after shard

-- what is known behind the first of these shards
pub record ShardsSoFar (shards : List ShardSeen) (i : ℕ) (rs : List ShardReplay) (progress : Progress) (read : List (List SpelledEntry)) : Type 0 where
  pub long : length read ≡ i
  pub same : IsTrue progress.same
  pub counted : progress.entries ≡ entries_of read
  pub come : (cells : Cells) → AreFresh cells.plans shards → HaveCome cells read [] rs progress.failure

pub shards_begin : (shards : List ShardSeen) (rs : List ShardReplay) → rs ≡ [] → ShardsSoFar shards 0 rs (record { same = true; failure = None; entries = 0 }) []
shards_begin shards rs none = record {
  long = refl;
  same = refl;
  counted = refl;
  come = λ cells fresh. subst (λ (l : List ShardReplay). HaveCome cells [] [] l None) (sym none) (stand (λ i r at. absurd (no_item i r at)) refl (no_objects cells []));
}

pub shards_next : (shards : List ShardSeen) (i : ℕ) (rs after : List ShardReplay) (progress now : Progress) (read : List (List SpelledEntry)) (s : ShardSeen) (one : List SpelledEntry) (end next : ℕ) → slice_get shards i ≡ Some s →
    ShardComes s rs after progress (one, end) (now, next) → ShardsSoFar shards i rs progress read → ShardsSoFar shards (i + 1) after now (read ++ one ∷ [])
shards_next shards i rs after progress now read s one end next at c h = record {
  long = omega (arith, length-append read (one ∷ []), h.long);
  same = c.same ∙ h.same;
  counted = omega (arith, c.counted, h.counted, sum_by_push (λ (entries : List SpelledEntry). length entries) read one);
  come = λ cells fresh. c.come cells read (subst (λ n. IsFresh cells.plans n s) (sym h.long) (fresh i s at)) (h.come cells fresh);
}

module _ (bytes : List ℕ) (shards : List ShardSeen) (start : ℕ) where
  abbrev pub journal : List (List SpelledEntry) → ℕ → Result (List SpelledEntry × ℕ) FormatFault
  journal _ = shard_at bytes

  -- the journals of the first of the shards were read
  abbrev pub ShardsRead : ℕ → ℕ → List ShardReplay → Progress → Type 0
  ShardsRead i next rs progress = HasRead journal (length shards) start i next (ShardsSoFar shards i rs progress)

  pub shard_reads : (i next then : ℕ) (rs after : List ShardReplay) (progress now : Progress) (s : ShardSeen) → i < length shards → slice_get shards i ≡ Some s → ShardsRead i next rs progress →
      MakesOf (ShardComes s rs after progress) (Ok (now, then)) (shard_at bytes next) → ShardsRead (i + 1) then after now
  shard_reads i next then rs after progress now s less at h (y, is, c) =
      reads_on journal (length shards) start i next then y.0 (ShardsSoFar shards i rs progress) (ShardsSoFar shards (i + 1) after now) h less (ends_there y.0 y.1 then (shard_at bytes next) is c.ends)
      (λ so_far. shards_next shards i rs after progress now h.read s y.0 y.1 then at c so_far)

  -- the next of the shards
  pub shard_follows : (gone old rest : List ShardSeen) (s : ShardSeen) (next then : ℕ) (rs after : List ShardReplay) (progress now : Progress) → old ≡ s ∷ rest → gone ++ old ≡ shards → ShardsRead (length gone) next rs progress →
      MakesOf (ShardComes s rs after progress) (Ok (now, then)) (shard_at bytes next) → ShardsRead (length (gone ++ s ∷ [])) then after now
  shard_follows gone old rest s next then rs after progress now steps left h made =
      let one = shard_reads (length gone) next then rs after progress now s (next_within gone old rest shards s steps left) (next_at gone old rest shards s steps left) h made in
      let long : length gone + 1 ≡ length (gone ++ s ∷ []) = omega (arith, length-append gone (s ∷ [])) in
      subst (λ n. ShardsRead n then after now) long one

  -- a shard that is refused
  pub shard_fails : {X : Type 0} (Related : List (List SpelledEntry) × ℕ → X → Type 0) (gone old rest : List ShardSeen) (s : ShardSeen) (next : ℕ) (rs : List ShardReplay) (progress : Progress) (f : FormatFault) → old ≡ s ∷ rest → gone ++ old ≡ shards →
      ShardsRead (length gone) next rs progress → (f ≡ NoMemory) ⊎ (shard_at bytes next ≡ Err f) → MakesOf Related (refused X f) (items_behind journal (length shards) [] start)
  shard_fails Related gone old rest s next rs progress f steps left h refused =
      reading_stops journal (length shards) start Related (length gone) next f (ShardsSoFar shards (length gone) rs progress) h (next_within gone old rest shards s steps left) refused

  pub shards_end : (i next : ℕ) (rs : Vec ShardReplay Global) (progress : Progress) → length shards ≤ i → ShardsRead i next rs.items progress → MakesOf (ShardsCome shards) (Ok (rs, progress, next)) (items_behind journal (length shards) [] start)
  shards_end i next rs progress over h =
      reading_ends journal (length shards) start (ShardsCome shards) i next (rs, progress, next) (ShardsSoFar shards i rs.items progress) h over
      (λ so_far. record { ends = refl; same = so_far.same; counted = so_far.counted; come = so_far.come })

-- ---- all shards

module _ (bytes : List ℕ) (shards : List ShardSeen) (at count start : ℕ) where
  -- as many as there are
  pub shards_compared : (r : Result (Vec ShardReplay Global × Progress × ℕ) FormatFault) → u32_in bytes at ≡ Ok (count, start) → count ≡ length shards → MakesOf (ShardsCome shards) r (items_behind (journal bytes shards start) (length shards) [] start) →
      MakesOf (ShardsCompare shards) r (shards_at bytes at)
  unfolding shards_at
  shards_compared r e same made =
      let item = journal bytes shards start in
      after_count (u32_in bytes) item (ShardsCompare shards) at count start r e
      (subst (λ n. MakesOf (ShardsCompare shards) r (items_behind item n [] start)) (sym same)
      (makes_known (ShardsCome shards) (ShardsCompare shards) r (items_behind item (length shards) [] start) (λ y x is c. record {
        ends = c.ends;
        same = ((λ _. omega (arith, items_counted item (length shards) [] start y is)), (λ _. c.same));
        counted = λ _. c.counted;
        come = λ cells _ fresh. c.come cells fresh;
      }) made))

  -- more or fewer, which are only read
  pub shards_differ : (next : ℕ) (none : Vec ShardReplay Global) → u32_in bytes at ≡ Ok (count, start) → (count ≡ length shards → ⊥) → PassesOver (Ok next) (items_behind (journal bytes shards start) count [] start) →
      MakesOf (ShardsCompare shards) (Ok (none, record { same = false; failure = None; entries = 0 }, next)) (shards_at bytes at)
  unfolding shards_at
  shards_differ next none e differs (y, is, ends) =
      let item = journal bytes shards start in
      after_count (u32_in bytes) item (ShardsCompare shards) at count start (Ok (none, record { same = false; failure = None; entries = 0 }, next)) e (
        y,
        is,
        record {
          ends = ends;
          same = ((λ never. absurd cc), (λ long. absurd (differs (omega (arith, items_counted item count [] start y is, long)))));
          counted = λ never. absurd cc;
          come = λ cells never fresh. absurd cc;
        },
      )
