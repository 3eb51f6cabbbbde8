-- What an opening opens is small: its shards have few commons, and the lists of its objects fit.
use Rattle.std.proofs.Common.{◌≡◌, ℕ, ◌<◌, ◌≤◌, get_or, List, length, map, Option, None, Some, slice_get, refl, sym, ap, subst, ◌∙◌, arith}
use Rattle.std.specs.Prelude.{All}
use Rattle.std.specs.Option.{option_map}
use Rattle.std.specs.List.{range_with_len}
use Rattle.std.proofs.lemmas.List.{get_or-map, length-map}
use Rattle.std.proofs.lemmas.List.FromFn.{get_or-map-range_with_len, length-map-range_with_len}
use Rattle.std.proofs.lemmas.Option.{same_Some, slice_get-get_or}
use Rattle.node_file.specs.Opening.{Opening}
use Rattle.object_core.specs.Objects.{ObjectPlan, object_of}
use Rattle.object_core.specs.Shelving.{HaveOwnNumbers, ObjectFixed, fixed_at, fixed_of}
use Rattle.shard_core.specs.Cells.{AllFit, fixed_with, its_plans, new_object, numbers_of as numbers_in}
use Rattle.shard_core.proofs.Opens.{fixed_new}
use Rattle.keyed_seal.specs.Keys.{Entries}
use Rattle.agent_core.specs.Opened.{plan_for}
use Rattle.agent_core.specs.State.{Plan}
use Rattle.agent_core.specs.declared.limits.TheConstants.{MAX_COMMONS}
use Rattle.taos_lanes.specs.Opened.{HasFewCommons, HasFittingList}
use Rattle.taos_lanes.proofs.Numbered.{found_by_number}

pub few_at : (o : Opening) (channels : Entries) (i : ℕ) (d : Plan) → i < o.shards → length o.commons ≤ MAX_COMMONS → HasFewCommons (get_or (its_plans o channels) i d)
few_at o channels i d below few =
    subst HasFewCommons (sym (get_or-map-range_with_len (plan_for (numbers_in channels) o.shards o.anchors o.commons o.keep o.limit) 0 o.shards i i d below (omega arith))) few

-- each shard of an opening has its commons
pub few_planned : (o : Opening) (channels : Entries) → length o.commons ≤ MAX_COMMONS → All HasFewCommons (its_plans o channels)
few_planned o channels few = λ i d below.
    few_at o channels i d (omega (arith, below, length-map-range_with_len (plan_for (numbers_in channels) o.shards o.anchors o.commons o.keep o.limit) 0 o.shards)) few

-- each list at opening is within the limits
pub lists_fit : (limit : ℕ) (objects : List ObjectPlan) (fs : List ObjectFixed) → fs ≡ map fixed_of (map (new_object limit) objects) → HaveOwnNumbers fs → AllFit objects → All HasFittingList fs
lists_fit limit objects fs are own fit = λ i d below.
    let f = get_or fs i d in
    let found : fixed_at fs f.plan.number ≡ Some f = found_by_number fs own i f (slice_get-get_or fs i d below) in
    its_list f (object_of objects f.plan.number) refl (sym (fixed_new limit objects f.plan.number) ∙ ap (λ (l : List ObjectFixed). fixed_at l f.plan.number) (sym are) ∙ found)
  where
    its_list : (f : ObjectFixed) (r : Option ObjectPlan) → object_of objects f.plan.number ≡ r → option_map (fixed_with limit) r ≡ Some f → HasFittingList f
    its_list f None is e = absurd cc
    its_list f (Some p) is e = subst HasFittingList (same_Some (fixed_with limit p) f e) (fit f.plan.number p is).list
