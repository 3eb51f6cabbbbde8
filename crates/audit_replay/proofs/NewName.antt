-- The Ask at a place gets a name.
use Rattle.std.proofs.Common.{◌≡◌, inl, inr, ℕ, List, [], ◌∷◌, ◌++◌, true, set, Option, Some, None, slice_get, refl, sym, ap, ◌∙◌, subst, arith, length-set}
use Rattle.std.specs.Prelude.{Contains}
use Rattle.std.proofs.lemmas.Bool.{cases_order}
use Rattle.std.proofs.lemmas.List.{map-set}
use Rattle.std.proofs.lemmas.List.Elements.{Contains-append_left, Contains-push, Contains-push_cases}
use Rattle.std.proofs.lemmas.Option.{same_Some, slice_get_within}
use Rattle.agent_core.specs.Journals.{Entry, IsLegalJournal, ShardSeen}
use Rattle.agent_core.specs.Plans.{IsPlan}
use Rattle.agent_core.specs.State.{Plan}
use Rattle.shard_core.proofs.OneOwner.{set_itself}
use Rattle.shard_core.proofs.Places.{set_other, set_same}
use Rattle.audit_replay.specs.declared.due.Due.{Due}
use Rattle.audit_replay.specs.declared.stepping.ShardReplay.{ShardReplay}
use Rattle.audit_replay.specs.Marks.{AreMarks, AreSound, IsDueThere, IsMark, IsSound}
use Rattle.audit_replay.specs.Stepping.{stepped_again}
use Rattle.audit_replay.proofs.Naming.{journal_of}

module _ (names : List (ℕ × ℕ)) (shard place : ℕ) where
  abbrev more : List (ℕ × ℕ)
  more = names ++ (shard, place) ∷ []

  same_first : (m n : ℕ) → ◌≡◌ {A = ℕ × ℕ} (shard, place) (m, n) → shard ≡ m
  same_first m n e = ap (λ (x : ℕ × ℕ). x.0) e

  same_second : (m n : ℕ) → ◌≡◌ {A = ℕ × ℕ} (shard, place) (m, n) → place ≡ n
  same_second m n e = ap (λ (x : ℕ × ℕ). x.1) e

  old_name : (m n : ℕ) → ((shard ≡ m) × (place ≡ n) → ⊥) → Contains more (m, n) → Contains names (m, n)
  old_name m n apart has =
      elim (Contains-push_cases names (shard, place) (m, n) has) [ inl old ↦ old | inr same ↦ absurd (apart (same_first m n same, same_second m n same)) ]

  module _ (plan : Plan) (journal : List Entry) where
    -- the mark of another place
    mark_stays : (m n : ℕ) (mark : Option Due) → ((shard ≡ m) × (place ≡ n) → ⊥) → IsMark plan journal names m n mark → IsMark plan journal more m n mark
    mark_stays m n None apart is = is
    mark_stays m n (Some d) apart is = record {
      asked = is.asked;
      told = is.told;
      stands = is.stands;
      judged = is.judged;
      due = is.due;
      named = ((λ truly. Contains-append_left names ((shard, place) ∷ []) (m, n) (is.named.0 truly)), (λ has. is.named.1 (old_name m n apart has)));
    }

    -- the mark of the place
    mark_named : (d : Due) → IsDueThere plan journal names shard place d → IsDueThere plan journal more shard place (record { ruling = d.ruling; named = true })
    mark_named d is = record {
      asked = is.asked;
      told = is.told;
      stands = is.stands;
      judged = is.judged;
      due = is.due;
      named = ((λ _. Contains-push names (shard, place)), (λ _. refl));
    }

    marks_named : (marks : List (Option Due)) (d : Due) → slice_get marks place ≡ Some (Some d) → AreMarks plan journal names shard marks → AreMarks plan journal more shard (set marks place (Some (record { ruling = d.ruling; named = true })))
    marks_named marks d at are = record {
      counted = length-set marks place (Some (record { ruling = d.ruling; named = true })) ∙ are.counted;
      each = λ n mark stands.
          let new : Due = record { ruling = d.ruling; named = true } in
          elim (cases_order place n) [
            | inl here ↦
                let one : Some new ≡ mark = same_Some (Some new) mark (sym (set_same marks place (Some new) (slice_get_within marks place (Some d) at)) ∙ ap (slice_get (set marks place (Some new))) here ∙ stands) in
                subst (IsMark plan journal more shard n) one (subst (λ k. IsDueThere plan journal more shard k new) here (mark_named d (are.each place (Some d) at)))
            | inr other ↦
                let apart : place ≡ n → ⊥ = λ same. elim other [ inl less ↦ omega (arith, less, same) | inr less ↦ omega (arith, less, same) ] in
                mark_stays shard n mark (λ both. apart both.1) (are.each n mark (sym (set_other marks place (Some new) n (λ same. apart (sym same))) ∙ stands))
          ];
    }

  module _ (plans : List Plan) (rs : List ShardReplay) (r now : ShardReplay) (d : Due) (at : slice_get rs shard ≡ Some r) (marked : slice_get r.marks.items place ≡ Some (Some d)) (same : now.shard ≡ r.shard)
      (marks : now.marks.items ≡ set r.marks.items place (Some (record { ruling = d.ruling; named = true }))) where
    one_named : IsSound plans names shard r → IsSound plans more shard now
    one_named s = record {
      opened = s.opened ∙ ap (λ (x : ShardSeen). Some x.plan) (sym same);
      planned = subst (λ (x : ShardSeen). IsPlan x.plan) (sym same) s.planned;
      legal = subst (λ (x : ShardSeen). IsLegalJournal x.plan x.journal) (sym same) s.legal;
      marks = subst (λ (x : ShardSeen). AreMarks x.plan x.journal more shard now.marks.items) (sym same)
          (subst (AreMarks r.shard.plan r.shard.journal more shard) (sym marks) (marks_named r.shard.plan r.shard.journal r.marks.items d marked s.marks));
    }

    other_stays : (i : ℕ) (x : ShardReplay) → (shard ≡ i → ⊥) → IsSound plans names i x → IsSound plans more i x
    other_stays i x apart s = record {
      opened = s.opened;
      planned = s.planned;
      legal = s.legal;
      marks = record { counted = s.marks.counted; each = λ n mark stands. mark_stays x.shard.plan x.shard.journal i n mark (λ both. apart both.0) (s.marks.each n mark stands) };
    }

    pub named_sound : AreSound plans names rs → AreSound plans more (set rs shard now)
    named_sound sound i x there =
        elim (cases_order shard i) [
          | inl here ↦
              let one : now ≡ x = same_Some now x (sym (set_same rs shard now (slice_get_within rs shard r at)) ∙ ap (slice_get (set rs shard now)) here ∙ there) in
              subst (IsSound plans more i) one (subst (λ k. IsSound plans more k now) here (one_named (sound shard r at)))
          | inr other ↦
              let apart : shard ≡ i → ⊥ = λ is. elim other [ inl less ↦ omega (arith, less, is) | inr less ↦ omega (arith, less, is) ] in
              other_stays i x apart (sound i x (sym (set_other rs shard now i (λ is. apart (sym is))) ∙ there))
        ]

-- the journals stay
pub same_journals_at : (rs : List ShardReplay) (shard : ℕ) (r now : ShardReplay) → slice_get rs shard ≡ Some r → now.shard ≡ r.shard → stepped_again (set rs shard now) ≡ stepped_again rs
same_journals_at rs shard r now at same =
    let journal = λ (x : ShardReplay). x.shard.journal in
    map-set journal rs shard now ∙ ap (set (stepped_again rs) shard) (ap (λ (x : ShardSeen). x.journal) same) ∙ set_itself (stepped_again rs) shard r.shard.journal (journal_of rs shard r at)
