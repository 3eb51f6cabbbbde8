-- One entry, one shard and one object more, and how far that came.
use Rattle.std.proofs.Common.{◌≡◌, ◌≢◌, inl, inr, ℕ, ◌<◌, List, [], ◌∷◌, ◌++◌, length, map, Option, Some, None, slice_get, refl, sym, ap, ap₂, ◌∙◌, subst, subst₂, arith, append_assoc, append-nil}
use Rattle.std.specs.Prelude.{AllPairs}
use Rattle.std.specs.Option.{option_map}
use Rattle.std.proofs.lemmas.List.{length-map, map_push}
use Rattle.std.proofs.lemmas.Grind.{flat_map-append}
use Rattle.std.proofs.lemmas.Option.{same_Some}
use Rattle.object_core.specs.Objects.{ObjectEntry, ObjectSeen}
use Rattle.object_core.specs.Shelving.{ObjectFixed, fixed_of}
use Rattle.agent_core.specs.State.{Plan}
use Rattle.agent_core.specs.Journals.{Entry, IsLegalJournal}
use Rattle.shard_core.specs.Cells.{Cells}
use Rattle.journal_bytes.specs.Spelled.{Journals, ObjectJournal, SpelledEntry, numbered, spelled}
use Rattle.audit_replay.specs.declared.fall.Failure.{Failure}
use Rattle.audit_replay.specs.declared.fall.Fall.{Fall}
use Rattle.audit_replay.specs.declared.replayed.Cell.{Cell}
use Rattle.audit_replay.specs.declared.replayed.ReplayCause.{ReplayCause}
use Rattle.audit_replay.specs.declared.replayed.Replayed.{Replayed}
use Rattle.audit_replay.specs.declared.stepping.ShardReplay.{ShardReplay}
use Rattle.audit_replay.specs.Legal.{AreLegal, AreRuled, HasCells, IsRuled, IsRuledObject, all_named, named}
use Rattle.audit_replay.specs.Marks.{AreSound, IsSound}
use Rattle.audit_replay.specs.Passes.{IsFreshObject}
use Rattle.audit_replay.specs.Replays.{AreReplayed, FailsAt, ObjectCause, ObjectFailsAt, ShardCause, all_spelled, entries_in, legal}
use Rattle.audit_replay.specs.Replays as replay
use Rattle.audit_replay.specs.Ruling.{RulesNext, RulingCause}
use Rattle.audit_replay.specs.Stepping.{HasBeenRuled, HasCome, HaveCome, failure_at, stepped_again}
use Rattle.audit_replay.specs.Stepping.{comes, fell, stand, in_shard, in_object, rules, falls}
use Rattle.audit_replay.proofs.Marks.{slice_last}
use Rattle.audit_replay.proofs.Ruled.{names_more, ruled_more}
use Rattle.audit_replay.proofs.Splits.{mapped_at, nothing}

-- ---- entries of one shard

-- a failure stays when more is read
fails_on : (plan : Plan) (entries : List SpelledEntry) (x : SpelledEntry) (p : ℕ) (c : ReplayCause) → FailsAt plan entries p c → FailsAt plan (entries ++ x ∷ []) p c
fails_on plan entries x p c f = record {
  before = f.before;
  e = f.e;
  rest = f.rest ++ x ∷ [];
  is = ap (λ (l : List SpelledEntry). l ++ x ∷ []) f.is ∙ append_assoc (map spelled f.before) (f.e ∷ f.rest) (x ∷ []);
  placed = f.placed;
  legal = f.legal;
  fails = f.fails;
}

module _ (plans : List Plan) (number : ℕ) (entries : List SpelledEntry) (x : SpelledEntry) (r after : ShardReplay) where
  pub fallen_on : (f : Fall) → HasCome plans number entries r (Some f) → HasCome plans number (entries ++ x ∷ []) after (Some f)
  fallen_on f (fell {plan = plan} {place = p} {cause = c} opened fails) = fell opened (fails_on plan entries x p c fails)

  pub falls_now : (c : ReplayCause) → ShardCause r.shard.plan r.shard.journal x c → HasCome plans number entries r None →
      HasCome plans number (entries ++ x ∷ []) after (Some (record { place = length r.shard.journal; cause = c }))
  falls_now c fails (comes sound are) = fell sound.opened (record {
    before = r.shard.journal;
    e = x;
    rest = [];
    is = ap (λ (l : List SpelledEntry). l ++ x ∷ []) (sym are);
    placed = refl;
    legal = sound.legal;
    fails = fails;
  })

  pub comes_on : (y : Entry) → spelled y ≡ x → after.shard.journal ≡ r.shard.journal ++ y ∷ [] → (IsSound plans [] number r → IsSound plans [] number after) → HasCome plans number entries r None →
      HasCome plans number (entries ++ x ∷ []) after None
  comes_on y is grown on (comes sound are) =
      comes (on sound)
      (ap (λ (l : List Entry). map spelled l) grown ∙ map_push spelled r.shard.journal y ∙ ap₂ (λ (l : List SpelledEntry) e. l ++ e ∷ []) are is)

-- ---- entries of one object

module _ (cells : Cells) (journals : List (List Entry)) (front : List ObjectJournal) (number : ℕ) (b : List ObjectEntry) (e : ObjectEntry) (rs after : List ShardReplay) (o now : ObjectSeen) (fixed : fixed_of now ≡ fixed_of o) where
  pub still_fallen : (f : Fall) → HasBeenRuled cells journals front number b rs o (Some f) → HasBeenRuled cells journals front number (b ++ e ∷ []) after now (Some f)
  still_fallen f (falls {place = p} {cause = c} x) =
      falls (subst (λ (k : ObjectFixed). ObjectFailsAt cells journals k front (numbered number (b ++ e ∷ [])) p c) (sym fixed) (record {
        before = x.before;
        e = x.e;
        rest = x.rest ++ e ∷ [];
        is = ap (λ (l : List ObjectEntry). l ++ e ∷ []) x.is ∙ append_assoc x.before (x.e ∷ x.rest) (e ∷ []);
        placed = x.placed;
        ruled = x.ruled;
        fails = x.fails;
      }))

  pub falls_ruled : (c : ReplayCause) → ((names : List (ℕ × ℕ)) → AreSound cells.plans names rs → RulingCause cells rs o names e c) → HasBeenRuled cells journals front number b rs o None →
      HasBeenRuled cells journals front number (b ++ e ∷ []) after now (Some (record { place = length o.journal; cause = c }))
  falls_ruled c cause (rules opened sound same are ruled) =
      let names : List (ℕ × ℕ) = all_named (front ++ numbered number b ∷ []) in
      let Fails = λ (shards : List (List Entry)) (l : List ObjectEntry). ObjectCause cells shards (fixed_of o) names l e c in
      let fails : Fails journals b = subst (λ (l : List ObjectEntry). Fails journals l) are (subst (λ (shards : List (List Entry)). Fails shards o.journal) same (cause names sound)) in
      falls (subst (λ (k : ObjectFixed). ObjectFailsAt cells journals k front (numbered number (b ++ e ∷ [])) (length o.journal) c) (sym fixed) (record {
        before = b;
        e = e;
        rest = [];
        is = refl;
        placed = ap (λ (l : List ObjectEntry). length l) (sym are);
        ruled = ruled;
        fails = fails;
      }))

  pub rules_on : ((names : List (ℕ × ℕ)) → AreSound cells.plans names rs → RulesNext cells rs after o names e) → now.journal ≡ o.journal ++ e ∷ [] → HasBeenRuled cells journals front number b rs o None →
      HasBeenRuled cells journals front number (b ++ e ∷ []) after now None
  rules_on next grown (rules opened sound same are ruled) =
      let names : List (ℕ × ℕ) = all_named (front ++ numbered number b ∷ []) in
      let n = next names sound in
      let Ruled = λ (shards : List (List Entry)) (l : List ObjectEntry). IsRuled cells shards o.plan l e in
      let is : Ruled journals b = subst (λ (l : List ObjectEntry). Ruled journals l) are (subst (λ (shards : List (List Entry)). Ruled shards o.journal) same n.ruled) in
      let room : length b < o.limit = subst (λ (l : List ObjectEntry). length l < o.limit) are n.room in
      rules (opened ∙ ap (λ (k : ObjectFixed). Some k) (sym fixed)) (subst (λ (l : List (ℕ × ℕ)). AreSound cells.plans l after) (sym (names_more number b e front)) n.sound) (n.journals ∙ same)
      (grown ∙ ap (λ (l : List ObjectEntry). l ++ e ∷ []) are) (ruled_more cells journals (fixed_of o) front number b e ruled opened room is n.new)

-- ---- one shard more

-- which shard has the journal
pub journal_at : (rs : List ShardReplay) (i : ℕ) (journal : List Entry) → slice_get (stepped_again rs) i ≡ Some journal → (r : ShardReplay) × (slice_get rs i ≡ Some r) × (r.shard.journal ≡ journal)
journal_at rs i journal e = mapped_at (λ (r : ShardReplay). r.shard.journal) rs i journal e

-- the journals of shards that are sound are legal
pub legal_sound : (cells : Cells) (names : List (ℕ × ℕ)) (rs : List ShardReplay) → AreSound cells.plans names rs → AreLegal cells.plans (stepped_again rs)
legal_sound cells names rs sound i plan journal opened stands =
    let (r, at, is) = journal_at rs i journal stands in
    let s : IsSound cells.plans names i r = sound i r at in
    let one : r.shard.plan ≡ plan = same_Some r.shard.plan plan (sym s.opened ∙ opened) in
    subst₂ (λ (p : Plan) (l : List Entry). IsLegalJournal p l) one is s.legal

-- before any object nothing is ruled
pub no_objects : (cells : Cells) (shards : List (List Entry)) → AreRuled cells shards []
no_objects cells shards = record { each = λ i f o at stands. absurd cc; once = λ i j d less within. absurd (omega arith) }

module _ (cells : Cells) (shards : List (List SpelledEntry)) (rs : List ShardReplay) (entries : List SpelledEntry) where
  -- a failure stays when more is read
  pub failed_on : (after : List ShardReplay) (f : Failure) → HaveCome cells shards [] rs (Some f) → HaveCome cells (shards ++ entries ∷ []) [] after (Some f)
  failed_on after f (in_shard front {plan = plan} {entries = xs} others {place = p} {cause = c} parts goes opened fails) =
      in_shard front (others ++ entries ∷ []) (ap (λ (l : List (List SpelledEntry)). l ++ entries ∷ []) parts ∙ append_assoc (all_spelled front) (xs ∷ others) (entries ∷ [])) goes opened fails
  failed_on after f (in_object {o = o} {front = front} others are goes parts opened fails) = absurd (nothing front o others parts)

  pub shards_counted : HaveCome cells shards [] rs None → length rs ≡ length shards
  shards_counted (stand sound are ruled) =
      let each = λ (journal : List Entry). map spelled journal in
      let journal = λ (r : ShardReplay). r.shard.journal in
      omega (arith, ap (λ (l : List (List SpelledEntry)). length l) are, length-map (stepped_again rs) each, length-map rs journal)

  -- the next shard fails, or stands
  pub one_more : (r : ShardReplay) (f : Option Fall) → HasCome cells.plans (length shards) entries r f → HaveCome cells shards [] rs None →
      HaveCome cells (shards ++ entries ∷ []) [] (rs ++ r ∷ []) (option_map (failure_at (Cell.Shard (length rs))) f)
  one_more r None (comes sound are) (stand sounds all ruled) =
      let each = λ (journal : List Entry). map spelled journal in
      let journal = λ (x : ShardReplay). x.shard.journal in
      let counted : length rs ≡ length shards = shards_counted (stand sounds all ruled) in
      stand
      (λ i x at. elim (slice_last rs r i x at) [
        | inl before ↦ sounds i x before
        | inr last ↦ subst (λ (y : ShardReplay). IsSound cells.plans [] i y) last.1 (subst (λ (n : ℕ). IsSound cells.plans [] n r) (sym counted ∙ sym last.0) sound)
      ])
      (ap all_spelled (map_push journal rs r) ∙ map_push each (stepped_again rs) (journal r) ∙ ap₂ (λ (l : List (List SpelledEntry)) x. l ++ x ∷ []) all are)
      (no_objects cells (stepped_again (rs ++ r ∷ [])))
  one_more r (Some f) (fell {plan = plan} {place = p} {cause = c} opened fails) (stand sounds all ruled) =
      let counted : length rs ≡ length shards = shards_counted (stand sounds all ruled) in
      let long : length (stepped_again rs) ≡ length rs = length-map rs (λ (x : ShardReplay). x.shard.journal) in
      let at : slice_get cells.plans (length (stepped_again rs)) ≡ Some plan = ap (slice_get cells.plans) (long ∙ counted) ∙ opened in
      let Come = λ (n : ℕ). HaveCome cells (shards ++ entries ∷ []) [] (rs ++ r ∷ []) (Some (record { cell = Cell.Shard n; place = p; cause = c })) in
      subst Come long (in_shard (stepped_again rs) [] (ap (λ (l : List (List SpelledEntry)). l ++ entries ∷ []) (sym all)) (legal_sound cells [] rs sounds) at fails)

-- ---- one object more

module _ (cells : Cells) (shards : List (List SpelledEntry)) (objects : List ObjectJournal) (rs : List ShardReplay) where
  -- a failure stays when more is read
  pub failed_after : (after : List ShardReplay) (x : ObjectJournal) (f : Failure) → HaveCome cells shards objects rs (Some f) → HaveCome cells shards (objects ++ x ∷ []) after (Some f)
  failed_after after x f (in_shard front others parts goes opened fails) = in_shard front others parts goes opened fails
  failed_after after x f (in_object {o = o} {front = front} others are goes parts opened fails) =
      in_object (others ++ x ∷ []) are goes (ap (λ (l : List ObjectJournal). l ++ x ∷ []) parts ∙ append_assoc front (o ∷ others) (x ∷ [])) opened fails

  module _ (number : ℕ) (o : ObjectSeen) where
    names_none : all_named (objects ++ numbered number [] ∷ []) ≡ all_named objects
    names_none = flat_map-append (λ (j : ObjectJournal). map named j.entries) objects (numbered number [] ∷ []) ∙ append-nil (all_named objects)

    -- the object has no entry yet
    pub object_begins : IsFreshObject cells (length objects) o → HaveCome cells shards objects rs None → HasBeenRuled cells (stepped_again rs) objects number [] rs o None
    object_begins fresh (stand sound all ruled) =
        rules fresh.opened (subst (λ (l : List (ℕ × ℕ)). AreSound cells.plans l rs) (sym names_none) sound) refl fresh.empty (record {
          each = λ i f j at stands.
              elim (slice_last objects (numbered number []) i j stands) [
                | inl before ↦ ruled.each i f j at before
                | inr last ↦ subst (λ (k : ObjectJournal). IsRuledObject cells (stepped_again rs) f k.entries) last.1 (record { within = omega arith; ruled = λ b r e is. absurd (nothing b e r is) })
              ];
          once = subst (AllPairs (λ m n. m ≢ n)) (sym names_none) ruled.once;
        })

    -- the object fails, or stands
    pub object_ends : (after : List ShardReplay) (entries : List ObjectEntry) (f : Option Fall) → HaveCome cells shards objects rs None → HasBeenRuled cells (stepped_again rs) objects number entries after o f →
        slice_get cells.objects (length objects) ≡ Some (fixed_of o) → HaveCome cells shards (objects ++ numbered number entries ∷ []) after (option_map (failure_at (Cell.Object number)) f)
    object_ends after entries None (stand sound all ruled) (rules opened sounds same are now) at =
        stand sounds (ap all_spelled same ∙ all) (subst (λ (l : List (List Entry)). AreRuled cells l (objects ++ numbered number entries ∷ [])) (sym same) now)
    object_ends after entries (Some f) (stand sound all ruled) (falls fails) at =
        in_object {o = numbered number entries} [] (sym all) (legal_sound cells (all_named objects) rs sound) refl at fails

-- ---- the end

module _ (cells : Cells) (j : Journals) (rs : List ShardReplay) (has : HasCells cells j) where
  pub all_legal : HaveCome cells j.shards j.objects rs None → AreReplayed cells j (Replayed.Legal (entries_in j))
  all_legal (stand sound all ruled) = legal has (sym all) (legal_sound cells (all_named j.objects) rs sound) ruled

  pub first_failure : (f : Failure) → HaveCome cells j.shards j.objects rs (Some f) → AreReplayed cells j (Replayed.Illegal f.cell f.place f.cause)
  first_failure f (in_shard front others parts goes opened fails) = replay.in_shard front others has parts goes opened fails
  first_failure f (in_object others are goes parts opened fails) = replay.in_object others has are goes parts opened fails
