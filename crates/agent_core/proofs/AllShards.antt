-- The plans that a node is opened with are those of all its shards.
use Rattle.std.proofs.Common.{◌≡◌, ℕ, ◌<◌, ◌≤◌, ◌%◌, Bool, not, List, length, filter, Some, slice_get, refl, sym, ap, ◌∙◌, subst, arith}
use Rattle.std.specs.Prelude.{◌==◌, Contains}
use Rattle.std.specs.List.{range_with_len}
use Rattle.std.specs.List.Sorted.{IsStrictlyIncreasing}
use Rattle.std.proofs.lemmas.Bool.{eq-eqb}
use Rattle.std.proofs.lemmas.List.Elements.{All-map}
use Rattle.std.proofs.lemmas.List.Filters.{length-filter_both}
use Rattle.std.proofs.lemmas.List.FromFn.{length-map-range_with_len, get_or-map-range_with_len}
use Rattle.std.proofs.lemmas.List.Kept.{IsStrictlyIncreasing-filter}
use Rattle.std.proofs.lemmas.Option.{slice_get_within, get_or_from_slice_get}
use Rattle.prin_term.specs.declared.term.Anchor.{Anchor}
use Rattle.stmt_codec.specs.Certificates.{Certificate}
use Rattle.denial_link.proofs.Members.{Contains-to_filter}
use Rattle.taos_calculus.specs.declared.decide.TheConstants.{MAX_ANCHORS}
use Rattle.agent_core.specs.declared.limits.TheConstants.{MAX_COMMONS, MAX_JOURNAL}
use Rattle.agent_core.specs.State.{Plan}
use Rattle.agent_core.specs.Laws.{OpenedAreShards, EachChannelAtHome}
use Rattle.agent_core.specs.Opened.{MayOpen, own_channels, plan_for, plans_for}
use Rattle.agent_core.specs.Plans.{IsPlan}

filter_few : {X : Type 0} (p : X → Bool) (xs : List X) → length (filter p xs) ≤ length xs
filter_few p xs = omega (arith, length-filter_both p (λ x. not (p x)) (λ x. refl) xs)

module _ (channels : List ℕ) (shards : ℕ) (anchors : List Anchor) (commons : List Certificate) (keep limit : ℕ) where
  abbrev own_plan : ℕ → Plan
  own_plan = plan_for channels shards anchors commons keep limit

  abbrev plans : List Plan
  plans = plans_for channels shards anchors commons keep limit

  pub sound_plan : MayOpen channels shards anchors commons limit → (plan : Plan) (number : ℕ) →
      plan.anchors ≡ anchors → plan.channels ≡ own_channels channels shards number → plan.commons ≡ commons → plan.limit ≡ limit → IsPlan plan
  sound_plan may plan number same_anchors own same_commons same_limit = record {
    ascending = subst IsStrictlyIncreasing (sym own) (IsStrictlyIncreasing-filter (λ c. c % shards == number) channels may.ascending);
    few_anchors = subst (λ (l : List Anchor). length l ≤ MAX_ANCHORS) (sym same_anchors) may.few_anchors;
    few_channels = omega (arith, ap (λ (l : List ℕ). length l) own, filter_few (λ c. c % shards == number) channels, may.few_channels);
    few_commons = subst (λ (l : List Certificate). length l ≤ MAX_COMMONS) (sym same_commons) may.few_commons;
    short = subst (λ l. l ≤ MAX_JOURNAL) (sym same_limit) may.short;
  }

  plan_count : length plans ≡ shards
  plan_count = length-map-range_with_len own_plan 0 shards

  plan_at : (i : ℕ) (p : Plan) → slice_get plans i ≡ Some p → own_plan i ≡ p
  plan_at i p at =
      let lt : i < shards = omega (arith, slice_get_within plans i p at, plan_count) in
      sym (get_or-map-range_with_len own_plan 0 shards i i p lt (omega arith)) ∙ get_or_from_slice_get plans i p p at

  pub opened_are_shards : OpenedAreShards channels shards anchors commons keep limit
  opened_are_shards may = record {
    some = omega (arith, plan_count, may.some_shards);
    few = omega (arith, plan_count, may.few_shards);
    sound = All-map IsPlan own_plan (range_with_len 0 shards) (λ k number lt. sound_plan may (own_plan _) _ refl refl refl refl);
    numbered = λ i p at. ap (λ (q : Plan). q.number) (sym (plan_at i p at));
    counted = All-map (λ (p : Plan). p.shards ≡ length plans) own_plan (range_with_len 0 shards) (λ k number lt. sym plan_count);
    anchored = All-map (λ (p : Plan). p.anchors ≡ anchors) own_plan (range_with_len 0 shards) (λ k number lt. refl);
  }

  -- the channel leaves the number of its shard
  pub each_channel_at_home : EachChannelAtHome channels shards anchors commons keep limit
  each_channel_at_home channel plan has at =
      let here : own_plan (channel % shards) ≡ plan = plan_at (channel % shards) plan (subst (λ n. slice_get plans (channel % n) ≡ Some plan) plan_count at) in
      subst (λ (p : Plan). Contains p.channels channel) here
      (Contains-to_filter (λ c. c % shards == channel % shards) channels channel has (eq-eqb (channel % shards) (channel % shards) refl))
