-- An ask at the shard of its channel, by what is promised of it.
use Rattle.std.proofs.Common.{◌≡◌, ◌<◌, ℕ, List, [], length, slice_get, Result, IfOk, refl, sym, ap, subst, ◌∙◌, inl, inr}
use Rattle.std.specs.Prelude.{OnErr, ◌==◌}
use Rattle.std.proofs.lemmas.Bool.{cases_Bool, eqb-true, eq-eqb, false≢true}
use Rattle.std.proofs.lemmas.Option.{same_Some}
use Rattle.agent_core.specs.declared.asked.Asked.{Asked}
use Rattle.agent_core.specs.State.{Plan, Ask}
use Rattle.agent_core.specs.Journals.{Entry, IsLegalJournal}
use Rattle.agent_core.specs.Asked.{AskedTo, AskEnds, LacksMemory}
use Rattle.agent_core.proofs.Asks.{standing}
use Rattle.agent_core.specs.Shards.{HasPlanAt, LeavesShards, ShardsSeen, home_of, shard_at}
use Rattle.request_course.specs.Cells.{AreLegalShards, shards_in}
use Rattle.taos_monitor.specs.Ruling.{AskedAt}
use Rattle.taos_monitor.proofs.Presenting.{err_on, on_ok}
use Rattle.request_course.proofs.Going.{asked_goes_on, shard_went_on, shards_stood}

-- ---- what an ask asks for

-- ---- what it promises, of an ask by its own words

module _ {E : Type 0} (before after : ShardsSeen) where
  abbrev pub IsAskedAs : Result Asked E → Ask → Type 0
  IsAskedAs result a =
      (plan : Plan) → HasPlanAt before (home_of before a.channel) plan →
      IfOk result (λ r. AskedTo plan (shard_at before (home_of before a.channel)) (shard_at after (home_of before a.channel)) a (AskEnds plan (after.seen (home_of before a.channel)) a r))

  abbrev pub IsLackedAs : Result Asked E → Ask → Type 0
  IsLackedAs result a =
      (plan : Plan) → HasPlanAt before (home_of before a.channel) plan →
      OnErr result (AskedTo plan (shard_at before (home_of before a.channel)) (shard_at after (home_of before a.channel)) a (LacksMemory plan (before.seen (home_of before a.channel)) (after.seen (home_of before a.channel)) a))

module _ (before after : ShardsSeen) (h : ℕ) (legal : AreLegalShards before.plans before.seen) (rest : LeavesShards before after h) where
  pub asked_at : (plan : Plan) (a : Ask) (Ends : Plan → List Entry → List ℕ → Type 0) → HasPlanAt before h plan → AskedTo plan (shard_at before h) (shard_at after h) a (Ends plan (after.seen h)) → AskedAt before after h Ends
  asked_at plan a Ends planned asked = record {
    plan = plan;
    planned = planned;
    own = asked.places;
    goes_on = shard_went_on h before.seen after.seen before.own after.own rest.others before.alone asked.places (asked_goes_on asked);
    others = λ n not. (rest.others n not).0;
    legal = legal_still;
    ends = asked.ends;
  }
    where
      legal_still : AreLegalShards before.plans after.seen
      legal_still s p at = elim (cases_Bool (s == h)) [
        | inl e ↦
            let same : s ≡ h = eqb-true s h e in
            let is : p ≡ plan = same_Some p plan (sym at ∙ ap (slice_get before.plans) same ∙ planned) in
            subst (λ (q : Plan). IsLegalJournal q (after.seen s)) (sym is) (subst (λ (t : ℕ). IsLegalJournal plan (after.seen t)) (sym same) asked.legal)
        | inr e ↦ subst (IsLegalJournal p) (sym (rest.others s (λ same. false≢true (sym e ∙ eq-eqb s h same))).0) (legal s p at)
      ]

pub not_yet : (before : ShardsSeen) (h : ℕ) (plan : Plan) (Ends : Plan → List Entry → List ℕ → Type 0) → AreLegalShards before.plans before.seen → HasPlanAt before h plan → Ends plan (before.seen h) [] → AskedAt before before h Ends
not_yet before h plan Ends legal planned ends = record {
  plan = plan;
  planned = planned;
  own = [];
  goes_on = shards_stood before.alone (shards_in before);
  others = λ n not. refl;
  legal = legal;
  ends = ends;
}

-- how an ask ended at the shard of its channel, by what is promised of the one that was made
module _ {E : Type 0} (before after : ShardsSeen) (legal : AreLegalShards before.plans before.seen) (a : Ask) (there : home_of before a.channel < length before.plans)
    {made : Ask} (is : made ≡ a) (rest : LeavesShards before after (home_of before made.channel)) (result : Result Asked E) where
  abbrev h : ℕ
  h = home_of before a.channel

  ends_there : (plan : Plan) (Ends : Plan → List Entry → List ℕ → Type 0) → HasPlanAt before h plan →
      AskedTo plan (shard_at before h) (shard_at after h) a (Ends plan (after.seen h)) → AskedAt before after h Ends
  ends_there plan Ends = asked_at before after h legal (subst (λ (b : Ask). LeavesShards before after (home_of before b.channel)) is rest) plan a Ends

  pub ended_at_home : IsAskedAs before after result made → IfOk result (λ r. AskedAt before after h (λ p journal own. AskEnds p journal a r own))
  ended_at_home asked =
      let (plan, planned) = standing before.plans h there in
      on_ok result (λ r. ends_there plan (λ p journal own. AskEnds p journal a r own) planned) (subst (IsAskedAs before after result) is asked plan planned)

  pub lacked_at_home : IsLackedAs before after result made → OnErr result (AskedAt before after h (λ p journal own. LacksMemory p (before.seen h) journal a own))
  lacked_at_home lacked =
      let (plan, planned) = standing before.plans h there in
      err_on result (ends_there plan (λ p journal own. LacksMemory p (before.seen h) journal a own) planned) (subst (IsLackedAs before after result) is lacked plan planned)
