-- An entry that is stepped, and its mark: the shard stays sound.
use Rattle.std.proofs.Common.{◌≡◌, ℕ, List, [], ◌∷◌, ◌++◌, true, false, length, Option, Some, None, sym, ap, ◌∙◌, subst, subst₂}
use Rattle.std.specs.Prelude.{Contains}
use Rattle.std.specs.Option.{is_some}
use Rattle.object_core.specs.Objects.{ObjectEntry, ObjectSeen}
use Rattle.object_core.specs.Shelving.{fixed_of}
use Rattle.agent_core.specs.declared.told.Answer.{Answer}
use Rattle.agent_core.specs.Journals.{Entry, IsLegalJournal, ShardSeen, entry}
use Rattle.agent_core.specs.Plans.{IsPlan}
use Rattle.agent_core.specs.State.{Plan}
use Rattle.shard_core.specs.Cells.{Cells}
use Rattle.journal_bytes.specs.Limits.{FitsEntry}
use Rattle.journal_bytes.specs.Spelled.{ObjectJournal, SpelledEntry}
use Rattle.audit_replay.specs.declared.due.Due.{Due}
use Rattle.audit_replay.specs.declared.fall.Fall.{Fall}
use Rattle.audit_replay.specs.declared.stepping.ShardReplay.{ShardReplay}
use Rattle.audit_replay.specs.Marks.{AreMarks, IsSound}
use Rattle.audit_replay.specs.Stepping.{HasBeenRuled, HasCome, IsLastMark, IsStepped, WasStepped}
use Rattle.audit_replay.proofs.Marks.{marks_more}
use Rattle.audit_replay.proofs.Progressing.{fallen_on, still_fallen}

pub was_stepped : (old new : ShardSeen) (e : SpelledEntry) (answer : Answer) → new.plan ≡ old.plan → FitsEntry e → IsStepped old.plan old.journal e new.journal answer → WasStepped new.plan new.journal answer
was_stepped old new e answer same fits steps =
    record { before = old.journal; e = e; fits = fits; stepped = subst (λ (p : Plan). IsStepped p old.journal e new.journal answer) (sym same) steps }

pub step_sound : (plans : List Plan) (names : List (ℕ × ℕ)) (number : ℕ) (old new : ShardReplay) (e : SpelledEntry) (answer : Answer) (mark : Option Due) → new.shard.plan ≡ old.shard.plan → new.marks.items ≡ old.marks.items ++ mark ∷ [] →
    IsStepped old.shard.plan old.shard.journal e new.shard.journal answer → IsLastMark new.shard.plan new.shard.journal mark → (Contains names (number, length old.shard.journal) → ⊥) → IsSound plans names number old → IsSound plans names number new
step_sound plans names number old new e answer mark same pushed st last absent s =
    let x : Entry = entry st.event st.steps.told in
    let here : IsLastMark old.shard.plan (old.shard.journal ++ x ∷ []) mark =
    subst (λ (l : List Entry). IsLastMark old.shard.plan l mark) st.steps.adds (subst (λ (p : Plan). IsLastMark p new.shard.journal mark) same last) in
    let more : AreMarks old.shard.plan (old.shard.journal ++ x ∷ []) names number (old.marks.items ++ mark ∷ []) = marks_more old.shard.plan names number old.shard.journal x old.marks.items mark s.marks here absent in
    record {
      opened = s.opened ∙ ap (λ (p : Plan). Some p) (sym same);
      planned = subst IsPlan (sym same) s.planned;
      legal = subst (λ (p : Plan). IsLegalJournal p new.shard.journal) (sym same) st.steps.legal;
      marks = subst (λ (p : Plan). AreMarks p new.shard.journal names number new.marks.items) (sym same)
          (subst₂ (λ (l : List Entry) (m : List (Option Due)). AreMarks old.shard.plan l names number m) (sym st.steps.adds) (sym pushed) more);
    }

-- ---- whether an entry failed before

module _ (plans : List Plan) (number : ℕ) (entries : List SpelledEntry) (x : SpelledEntry) (r after : ShardReplay) where
  pub goes_fallen : (fall : Option Fall) → is_some fall ≡ true → HasCome plans number entries r fall → HasCome plans number (entries ++ x ∷ []) after fall
  goes_fallen None test h = absurd cc
  goes_fallen (Some f) test h = fallen_on plans number entries x r after f h

  pub none_fell : (fall : Option Fall) → is_some fall ≡ false → HasCome plans number entries r fall → HasCome plans number entries r None
  none_fell None test h = h
  none_fell (Some f) test h = absurd cc

module _ (cells : Cells) (journals : List (List Entry)) (front : List ObjectJournal) (number : ℕ) (b : List ObjectEntry) (e : ObjectEntry) (rs after : List ShardReplay) (o now : ObjectSeen) (fixed : fixed_of now ≡ fixed_of o) where
  pub rules_fallen : (fall : Option Fall) → is_some fall ≡ true → HasBeenRuled cells journals front number b rs o fall → HasBeenRuled cells journals front number (b ++ e ∷ []) after now fall
  rules_fallen None test h = absurd cc
  rules_fallen (Some f) test h = still_fallen cells journals front number b e rs after o now fixed f h

  pub none_failed : (fall : Option Fall) → is_some fall ≡ false → HasBeenRuled cells journals front number b rs o fall → HasBeenRuled cells journals front number b rs o None
  none_failed None test h = h
  none_failed (Some f) test h = absurd cc
