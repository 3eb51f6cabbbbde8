-- All journals that were read, and what they come to.
use Rattle.std.proofs.Common.{◌≡◌, inl, inr, ℕ, Bool, true, false, ltb, List, [], ◌∷◌, length, map, Option, Some, None, Ok, slice_get, refl, sym, ap, ◌∙◌, subst, arith}
use Rattle.std.specs.Prelude.{IsTrue}
use Rattle.std.specs.Option.{option_map}
use Rattle.std.specs.declared.alloc.Global.{Global}
use Rattle.std.specs.declared.vec.Vec.{Vec}
use Rattle.taos_calculus.proofs.Induction.{All-at}
use Rattle.std.proofs.lemmas.Option.{slice_get-map}
use Rattle.byte_fields.specs.declared.fault.FormatFault.{FormatFault}
use Rattle.byte_fields.specs.declared.fault.FormatFault.TheVariants.{Malformed}
use Rattle.byte_fields.proofs.FieldLaws.{IsBytes}
use Rattle.prin_term.specs.declared.term.Anchor.{Anchor}
use Rattle.object_core.specs.Objects.{ObjectPlan, ObjectSeen}
use Rattle.object_core.specs.Shelving.{ObjectFixed, fixed_of, numbers_of}
use Rattle.shard_core.specs.Alone.{plans_in}
use Rattle.agent_core.specs.Journals.{ShardSeen}
use Rattle.shard_core.specs.Opened.{new_shard}
use Rattle.agent_core.specs.Plans.{AreShards, IsPlan}
use Rattle.agent_core.specs.State.{Plan}
use Rattle.shard_core.specs.Cells.{Cells, new_object}
use Rattle.journal_bytes.specs.JournalsReading.{head_at, journals_in, objects_at, shards_at}
use Rattle.journal_bytes.specs.Spelled.{Journals}
use Rattle.journal_bytes.proofs.JournalLaws.{journals_take}
use Rattle.audit_replay.specs.declared.fall.Failure.{Failure}
use Rattle.audit_replay.specs.declared.fall.Progress.{Progress}
use Rattle.audit_replay.specs.declared.replayed.Replayed.{Replayed}
use Rattle.audit_replay.specs.declared.stepping.ShardReplay.{ShardReplay}
use Rattle.audit_replay.specs.Legal.{HasCells}
use Rattle.audit_replay.specs.Passes.{AreFresh, AreFreshObjects, HaveNumbers, ObjectsCome, ShardsCompare, outcome_at, outcome_of}
use Rattle.audit_replay.specs.Replays.{AreReplayed, IsReplayed, entries_in, judged, malformed, other_cells}
use Rattle.audit_replay.specs.Stepping.{HaveCome, MakesOf}
use Rattle.audit_replay.proofs.Composed.{all_journals, bytes_behind, no_objects_read}
use Rattle.audit_replay.proofs.Passing.{ends_there, refused}
use Rattle.audit_replay.proofs.Progressing.{all_legal, first_failure}
use Rattle.audit_replay.proofs.Splits.{mapped_at}

-- the shards that were opened
pub shards_fresh : (plans : List Plan) (shards : List ShardSeen) (anchors : List Anchor) → shards ≡ map new_shard plans → AreShards (plans_in shards) anchors → AreFresh plans shards
shards_fresh plans shards anchors are sound i s at =
    let (plan, there, is) = mapped_at new_shard plans i s (ap (λ (l : List ShardSeen). slice_get l i) (sym are) ∙ at) in
    let one : slice_get (plans_in shards) i ≡ Some s.plan = slice_get-map (λ (x : ShardSeen). x.plan) shards i ∙ ap (option_map (λ (x : ShardSeen). x.plan)) at in
    record {
      opened = there ∙ ap (λ (x : ShardSeen). Some x.plan) is;
      planned = All-at IsPlan (plans_in shards) i s.plan sound.sound one;
      empty = sym (ap (λ (x : ShardSeen). x.journal) is);
    }

-- the objects that were opened
pub objects_fresh : (cells : Cells) (limit : ℕ) (plans : List ObjectPlan) (objects : List ObjectSeen) → objects ≡ map (new_object limit) plans → cells.objects ≡ map fixed_of objects → AreFreshObjects cells objects
objects_fresh cells limit plans objects are fixed i o at =
    let (plan, there, is) = mapped_at (new_object limit) plans i o (ap (λ (l : List ObjectSeen). slice_get l i) (sym are) ∙ at) in
    record {
      opened = ap (λ (l : List ObjectFixed). slice_get l i) fixed ∙ slice_get-map fixed_of objects i ∙ ap (option_map fixed_of) at;
      empty = sym (ap (λ (x : ObjectSeen). x.journal) is);
    }

-- the numbers of objects are those of what never changes of them
pub numbers_fixed : (objects : List ObjectSeen) → map (λ (o : ObjectSeen). o.plan.number) objects ≡ numbers_of (map fixed_of objects)
numbers_fixed [] = refl
numbers_fixed (o ∷ objects) = ap (λ (l : List ℕ). o.plan.number ∷ l) (numbers_fixed objects)

module _ (cells : Cells) (shards : List ShardSeen) (objects : List ObjectSeen) (j : Journals) (rs : Vec ShardReplay Global) (first last : Progress) (middle end : ℕ) (count : length shards ≡ length cells.plans) (fixed : cells.objects ≡ map fixed_of objects)
    (new : AreFresh cells.plans shards) (fresh : AreFreshObjects cells objects) (before : ShardsCompare shards (j.shards, middle) (rs, first, middle)) (c : ObjectsCome rs.items objects first (j.objects, end) (last, end)) where
  has_cells : IsTrue last.same → HasCells cells j
  has_cells truly =
      let (begun, are) = c.same.0 truly in
      record {
        shards = omega (arith, before.same.0 begun, count);
        objects = are ∙ numbers_fixed objects ∙ ap numbers_of (sym fixed);
      }

  counted : IsTrue last.same → last.entries ≡ entries_in j
  counted truly =
      let begun : IsTrue first.same = (c.same.0 truly).0 in
      omega (arith, c.counted truly, before.counted begun)

  judged_at : (f : Option Failure) → last.failure ≡ f → (truly : IsTrue last.same) → (after : List ShardReplay) → HaveCome cells j.shards j.objects after last.failure → AreReplayed cells j (outcome_at f last.entries)
  judged_at None e truly after come =
      subst (λ n. AreReplayed cells j (Replayed.Legal n)) (sym (counted truly)) (all_legal cells j after (has_cells truly) (subst (HaveCome cells j.shards j.objects after) e come))
  judged_at (Some f) e truly after come = first_failure cells j after (has_cells truly) f (subst (HaveCome cells j.shards j.objects after) e come)

  judged_by : (b : Bool) → last.same ≡ b → AreReplayed cells j (outcome_of (record { same = b; failure = last.failure; entries = last.entries }))
  judged_by true truly =
      let begun : IsTrue first.same = (c.same.0 truly).0 in
      let (after, come) = c.come cells j.shards truly fresh (before.come cells begun new) in
      judged_at last.failure refl truly after come
  judged_by false never = other_cells (λ has.
      let long : length j.shards ≡ length shards = omega (arith, has.shards, count) in
      let are : HaveNumbers objects j.objects = has.objects ∙ ap numbers_of fixed ∙ sym (numbers_fixed objects) in
      let truly : last.same ≡ true = c.same.1 (before.same.1 long, are) in
      absurd (cc (never, truly)))

  -- what all journals come to
  pub judged_all : AreReplayed cells j (outcome_of last)
  judged_all = judged_by last.same refl

-- ---- one pass over the bytes

module _ (cells : Cells) (shards : List ShardSeen) (objects : List ObjectSeen) (bytes : List ℕ) (version start : ℕ) (head : head_at bytes 0 ≡ Ok (version, start)) (rs : Vec ShardReplay Global) (first : Progress) (middle : ℕ)
    (one : MakesOf (ShardsCompare shards) (Ok (rs, first, middle)) (shards_at bytes start)) where
  were_read : shards_at bytes start ≡ Ok (one.0.0, middle)
  were_read = ends_there one.0.0 one.0.1 middle (shards_at bytes start) one.1 one.2.ends

  -- the objects are refused
  pub objects_refused : (f : FormatFault) → MakesOf (ObjectsCome rs.items objects first) (refused (Progress × ℕ) f) (objects_at bytes middle) → MakesOf (AreReplayed cells) (refused Replayed f) (journals_in bytes)
  objects_refused f refused = no_objects_read bytes version start one.0.0 middle (AreReplayed cells) f head were_read refused

  module _ (last : Progress) (end : ℕ) (two : MakesOf (ObjectsCome rs.items objects first) (Ok (last, end)) (objects_at bytes middle)) where
    also_read : objects_at bytes middle ≡ Ok (two.0.0, end)
    also_read = ends_there two.0.0 two.0.1 end (objects_at bytes middle) two.1 two.2.ends

    -- bytes stand behind them
    pub more_behind : ltb end (length bytes) ≡ true → MakesOf (AreReplayed cells) (refused Replayed (Malformed end)) (journals_in bytes)
    more_behind more = bytes_behind bytes version start one.0.0 middle two.0.0 end (AreReplayed cells) head were_read also_read more

    pub all_made : length shards ≡ length cells.plans → cells.objects ≡ map fixed_of objects → AreFresh cells.plans shards → AreFreshObjects cells objects → ltb end (length bytes) ≡ false → MakesOf (AreReplayed cells) (Ok (outcome_of last)) (journals_in bytes)
    all_made count fixed new fresh whole =
        let before : ShardsCompare shards (one.0.0, middle) (rs, first, middle) = subst (λ n. ShardsCompare shards (one.0.0, n) (rs, first, middle)) one.2.ends one.2 in
        let come : ObjectsCome rs.items objects first (two.0.0, end) (last, end) = subst (λ n. ObjectsCome rs.items objects first (two.0.0, n) (last, end)) two.2.ends two.2 in
        all_journals bytes version start one.0.0 middle two.0.0 end (AreReplayed cells) (outcome_of last) head were_read also_read whole
        (judged_all cells shards objects (record { shards = one.0.0; objects = two.0.0 }) rs first last middle end count fixed new fresh before come)

-- ---- what the bytes come to

pub was_judged : (cells : Cells) (bytes : List ℕ) → IsBytes bytes → (r : Replayed) → MakesOf (AreReplayed cells) (Ok r) (journals_in bytes) → IsReplayed cells bytes r
was_judged cells bytes ok r (j, is, come) = judged (journals_take bytes ok j is) come

pub was_malformed : (cells : Cells) (bytes : List ℕ) (offset : ℕ) → MakesOf (AreReplayed cells) (refused Replayed (Malformed offset)) (journals_in bytes) → IsReplayed cells bytes (Replayed.Malformed offset)
was_malformed cells bytes offset (inl never) = absurd cc
was_malformed cells bytes offset (inr is) = malformed is
