-- as many names as places
use Rattle.std.proofs.Common.{sym, ap, length, List, ◌∙◌, ◌++◌, ◌∷◌, [], arith}
use Rattle.std.proofs.lemmas.List.FromFn.{length-map-range_with_len, map-range_with_len_more}
use Rattle.shard_core.specs.declared.held.name.Name.{Name}
use Rattle.shard_core.specs.declared.held.name.Name.TheVariants.{Common}
use Rattle.shard_core.proofs.shard.names_of.Goals as goal

pub push-requires : goal.push-requires
push-requires c =
    omega (arith, ap (λ (ns : List Name). length ns) c.loop-place.invariant, length-map-range_with_len (λ place. Common place) 0 c.loop-place.place)

pub loop-place-preserved : goal.loop-place-preserved
loop-place-preserved c =
    c.push.ensures.items ∙ ap (λ (ns : List Name). ns ++ Common c.loop-place.place ∷ []) c.loop-place.invariant ∙
    sym (map-range_with_len_more (λ place. Common place) 0 c.loop-place.place c.loop-place.place (omega arith))
