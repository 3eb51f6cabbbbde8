-- Shards are opened one after another, and at last all of a node.
use Rattle.std.proofs.Common.{◌≡◌, ℕ, ◌+◌, List, [], ◌∷◌, ◌++◌, map, refl, sym, ap, ap₂, ◌∙◌, subst, arith}
use Rattle.std.specs.List.{range_with_len}
use Rattle.std.proofs.lemmas.List.{map_push}
use Rattle.std.proofs.lemmas.List.FromFn.{map-range_with_len_more}
use Rattle.prin_term.specs.declared.term.Anchor.{Anchor}
use Rattle.stmt_codec.specs.Certificates.{Certificate}
use Rattle.agent_core.specs.State.{Plan}
use Rattle.agent_core.specs.Journals.{ShardSeen}
use Rattle.shard_core.specs.Alone.{plans_in}
use Rattle.agent_core.proofs.AllShards.{opened_are_shards}
use Rattle.agent_core.specs.Opened.{MayOpen, plan_for, plans_for}
use Rattle.shard_core.specs.Opened.{new_shard}
use Rattle.agent_core.specs.Plans.{AreShards}

plans_opened : (plans : List Plan) → plans_in (map new_shard plans) ≡ plans
plans_opened [] = refl
plans_opened (plan ∷ plans) = ap (λ (l : List Plan). plan ∷ l) (plans_opened plans)

module _ (channels : List ℕ) (shards : ℕ) (anchors : List Anchor) (commons : List Certificate) (keep limit : ℕ) where
  abbrev own_plan : ℕ → Plan
  own_plan = plan_for channels shards anchors commons keep limit

  abbrev plans : List Plan
  plans = plans_for channels shards anchors commons keep limit

  pub whole_node : MayOpen channels shards anchors commons limit → (opened : List ShardSeen) → opened ≡ map new_shard plans → AreShards (plans_in opened) anchors
  whole_node may opened are = subst (λ ps. AreShards ps anchors) (sym (ap plans_in are ∙ plans_opened plans)) (opened_are_shards channels shards anchors commons keep limit may)

  -- one more shard was opened
  pub opened_more : (number : ℕ) (opened later : List ShardSeen) (s : ShardSeen) → opened ≡ map new_shard (map own_plan (range_with_len 0 number)) →
      s ≡ new_shard (own_plan number) → later ≡ opened ++ s ∷ [] → later ≡ map new_shard (map own_plan (range_with_len 0 (number + 1)))
  opened_more number opened later s so_far is added =
      added ∙ ap₂ (λ (l : List ShardSeen) x. l ++ x ∷ []) so_far is
      ∙ sym (ap (map new_shard) (map-range_with_len_more own_plan 0 number number (omega arith)) ∙ map_push new_shard (map own_plan (range_with_len 0 number)) (own_plan number))
